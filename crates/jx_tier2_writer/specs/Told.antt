-- What PLT segments tell (ITU-T T.800, A.7.3), and which of a header's segments are such.
use Rattle.std.specs.Prelude.{◌≡◌, ◌<◌, ℕ, ◌+◌, ◌-◌, ◌*◌, nat_eq, nat_lt, Bool, true, false, ◌&&◌, List, [], ◌∷◌, length, if◌then◌else◌}
use Rattle.std.specs.List.{flat_map, list_any}
use Rattle.jx_marker.specs.declared.Segment.{Segment}
use Rattle.jx_plan.specs.Asides.{is_plt}

-- the lengths that bytes tell, of which the first so far has a value: seven bits in each byte, and the last byte of each
-- length is below 128
abbrev pub lengths_from : ℕ → List ℕ → List ℕ
lengths_from value [] = []
lengths_from value (byte ∷ bytes) =
    if nat_lt byte 128 then (value * 128 + byte) ∷ lengths_from 0 bytes else lengths_from (value * 128 + (byte - 128)) bytes

-- whether bytes are those of whole lengths, of which none begins with a group of seven zero bits; `fresh` says whether a length begins
-- with the next byte
abbrev pub are_whole : Bool → List ℕ → Bool
are_whole fresh [] = fresh
are_whole fresh (byte ∷ bytes) = if fresh && nat_eq byte 128 then false else are_whole (nat_lt byte 128) bytes

-- what a PLT segment has behind its number: whole lengths, at least one
pub record AreLengths (bytes : List ℕ) : Type 0 where
  pub some : 0 < length bytes
  pub whole : are_whole true bytes ≡ true

-- the bytes of some segments, joined
abbrev pub flat : List (List ℕ) → List ℕ
flat held = flat_map (λ (bytes : List ℕ). bytes) held

-- some of a header's segments is PLT
abbrev pub has_lengths : List Segment → Bool
has_lengths segments = list_any is_plt segments

-- what lengths come to
abbrev pub length_total : List ℕ → ℕ
length_total [] = 0
length_total (n ∷ lengths) = n + length_total lengths
