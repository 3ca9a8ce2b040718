-- Packet lengths in a tile-part's header (ITU-T T.800, A.7.3): seven bits in a byte, the highest first, and the top bit set in each
-- byte but a length's last; whole lengths in segments that are filled one after another and numbered from 0.
use Rattle.std.specs.Prelude.{ℕ, zero, suc, ◌+◌, ◌/◌, ◌%◌, ◌^◌, max, nat_le, List, [], ◌∷◌, ◌++◌, length, if◌then◌else◌}
use Rattle.jx_packet_header.specs.Words.{size}
use Rattle.jx_marker.specs.declared.Segment.{Segment}
use Rattle.jx_marker.specs.declared.Segment.TheVariants as segment

-- how many bytes a length takes: one for each seven of its binary digits, at least one
abbrev pub length_size : ℕ → ℕ
length_size n = max 1 ((size n + 6) / 7)

-- its low groups of seven bits, so many; all but the last have the top bit
abbrev pub septets : ℕ → ℕ → List ℕ
septets zero n = []
septets (suc zero) n = (n % 128) ∷ []
septets (suc (suc count)) n = (128 + n / 128 ^ suc count % 128) ∷ septets (suc count) n

abbrev pub length_bytes : ℕ → List ℕ
length_bytes n = septets (length_size n) n

-- how many bytes of lengths a segment may hold: 65,535 less its own length and its number
abbrev pub most_bytes : ℕ
most_bytes = 65532

-- the bytes of the segments, where the first holds some already: each takes whole lengths as long as they fit
abbrev pub filled : List ℕ → List ℕ → List (List ℕ)
filled held [] = held ∷ []
filled held (n ∷ lengths) =
    if nat_le (length held + length (length_bytes n)) most_bytes then filled (held ++ length_bytes n) lengths else held ∷ filled (length_bytes n) lengths

-- numbered from one on
abbrev pub numbered : ℕ → List (List ℕ) → List Segment
numbered number [] = []
numbered number (bytes ∷ more) = segment.Plt (number ∷ bytes) ∷ numbered (number + 1) more

-- the segments of some packets' lengths: none where there are no packets
abbrev pub length_segments : List ℕ → List Segment
length_segments [] = []
length_segments (n ∷ lengths) = numbered 0 (filled [] (n ∷ lengths))
