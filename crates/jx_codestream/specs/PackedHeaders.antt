-- Packet headers that stand apart from their packets (T.800, A.7.4 and A.7.5): where the data of PPM and PPT stand, and which
-- of them each tile-part and each tile has.
use Rattle.std.specs.Prelude.{◌≤◌, ℕ, ◌+◌, ◌-◌, ◌==◌, ◌&&◌, not, nat_lt, nat_le, min, Bool, List, [], ◌∷◌, ◌++◌, length, take, drop, sum_by, Option, None, Some, if◌then◌else◌}
use Rattle.std.specs.List.{All, flat_map, insert, position_or_len}
use Rattle.byteorder.specs.Endian.{big_from}
use Rattle.jx_marker.specs.declared.Segment.{Segment}
use Rattle.jx_marker.specs.declared.Segment.TheVariants as segment
use Rattle.jx_marker.specs.Segments.{spelling}
use Rattle.jx_marker.specs.RuleNumbers.{PACKED_SHARES}
use Rattle.jx_codestream.specs.declared.Body.{Body}
use Rattle.jx_codestream.specs.declared.faults.StreamFault.{StreamFault}
use Rattle.jx_codestream.specs.declared.packed.PackedSegment.{PackedSegment}
use Rattle.jx_codestream.specs.declared.parts.PlacedPart.{PlacedPart}
use Rattle.jx_codestream.specs.Faults.{broken}

-- pieces of the file: a list of places and lengths

-- how many bytes they have together
abbrev pub together : List Body → ℕ
together pieces = sum_by (λ (piece : Body). piece.length) pieces

-- their bytes, joined
abbrev pub window : List ℕ → Body → List ℕ
window b piece = take piece.length (drop piece.at b)

abbrev pub joined_bytes : List ℕ → List Body → List ℕ
joined_bytes b pieces = flat_map (window b) pieces

-- a piece that isn't empty
abbrev pub some_piece : Body → List Body
some_piece piece = if piece.length == 0 then [] else piece ∷ []

-- the first n bytes, without empty pieces
abbrev pub first_bytes : ℕ → List Body → List Body
first_bytes n [] = []
first_bytes n (piece ∷ pieces) = some_piece (record { at = piece.at; length = min n piece.length }) ++ first_bytes (n - piece.length) pieces

-- what follows them
abbrev pub after_bytes : ℕ → List Body → List Body
after_bytes n [] = []
after_bytes n (piece ∷ pieces) =
    if nat_lt n piece.length then record { at = piece.at + n; length = piece.length - n } ∷ pieces
    else after_bytes (n - piece.length) pieces

-- they lie in the file
abbrev pub LieIn : List ℕ → List Body → Type 0
LieIn b pieces = All (λ (piece : Body). piece.at + piece.length ≤ length b) pieces

-- the data of PPM and PPT

-- the PPM and PPT among segments that stand one after another from a place on, with their places
abbrev pub packed_at : ℕ → Segment → List PackedSegment
packed_at at (segment.Ppm index bytes) = record { place = at; index = index; length = length bytes } ∷ []
packed_at at (segment.Ppt index bytes) = record { place = at; index = index; length = length bytes } ∷ []
packed_at at _ = []

abbrev pub packed_from : ℕ → ℕ → List Segment → List PackedSegment
packed_from comps at [] = []
packed_from comps at (s ∷ ss) = packed_at at s ++ packed_from comps (at + length (spelling comps s)) ss

-- one more among others in ascending index, in front of the first higher one
abbrev pub with_packed : List PackedSegment → PackedSegment → List PackedSegment
with_packed sorted p = insert sorted (position_or_len (λ (q : PackedSegment). nat_lt p.index q.index) sorted) p

-- further ones among others in ascending index
abbrev pub ascending : List PackedSegment → List PackedSegment → List PackedSegment
ascending sorted [] = sorted
ascending sorted (p ∷ ps) = ascending (with_packed sorted p) ps

-- the data of one, which stand after its marker, its length and its index
abbrev pub data_of : PackedSegment → Body
data_of p = record { at = p.place + 5; length = p.length }

-- the data of all in ascending index
abbrev pub data_in_order : List PackedSegment → List Body
data_in_order packed = flat_map (λ (p : PackedSegment). some_piece (data_of p)) (ascending [] packed)

-- they lie in the file
abbrev pub PackedLieIn : List ℕ → List PackedSegment → Type 0
PackedLieIn b packed = All (λ (p : PackedSegment). p.place + 5 + p.length ≤ length b) packed

-- the packet headers that some PPT have, or none where there is no PPT
abbrev pub heads_by : List PackedSegment → Option (List Body)
heads_by [] = None
heads_by (p ∷ ps) = Some (data_in_order (p ∷ ps))

-- those of a tile-part's header, whose segments stand from a place on
abbrev pub heads_in : ℕ → ℕ → List Segment → Option (List Body)
heads_in comps at segments = heads_by (packed_from comps at segments)

-- PPM's data by tile-parts (A.7.4)

-- the number of four bytes in front, which says how many bytes the next tile-part has
abbrev pub share_size : List ℕ → List Body → ℕ
share_size b pieces = big_from 0 4 (joined_bytes b (first_bytes 4 pieces))

-- the number and the tile-part's bytes are there
abbrev pub share_fits : List ℕ → List Body → Bool
share_fits b pieces = nat_le (4 + share_size b pieces) (together pieces)

-- the tile-part's bytes
unfoldable pub share_of : List ℕ → List Body → List Body
share_of b pieces = first_bytes (share_size b pieces) (after_bytes 4 pieces)

-- what follows them
unfoldable pub after_share : List ℕ → List Body → List Body
after_share b pieces = after_bytes (share_size b pieces) (after_bytes 4 pieces)

-- the pieces are, for each of these tile-parts, a number of four bytes and so many bytes, with nothing left over
abbrev pub shares_fit : List ℕ → List Body → List PlacedPart → Bool
shares_fit b pieces [] = together pieces == 0
shares_fit b pieces (p ∷ ps) = share_fits b pieces && shares_fit b (after_share b pieces) ps

-- a tile-part whose packet headers stand there
abbrev pub with_heads : PlacedPart → List Body → PlacedPart
with_heads p pieces = record p { heads = Some pieces }

-- the tile-parts, each with its share
abbrev pub shared_out : List ℕ → List Body → List PlacedPart → List PlacedPart
shared_out b pieces [] = []
shared_out b pieces (p ∷ ps) = with_heads p (share_of b pieces) ∷ shared_out b (after_share b pieces) ps

-- the tile-parts with their packet headers, where the main header has these PPM
abbrev pub with_shares : List ℕ → List PackedSegment → List PlacedPart → List PlacedPart
with_shares b [] parts = parts
with_shares b (p ∷ ps) parts = shared_out b (data_in_order (p ∷ ps)) parts

-- rule 37, at the first PPM
abbrev pub shares_fault : List ℕ → List PackedSegment → List PlacedPart → Option StreamFault
shares_fault b [] parts = None
shares_fault b (p ∷ ps) parts = broken PACKED_SHARES p.place (not (shares_fit b (data_in_order (p ∷ ps)) parts))

-- a tile's packet headers

-- those of two tile-parts one after the other, where one of them has some
abbrev pub both_heads : Option (List Body) → Option (List Body) → Option (List Body)
both_heads None second = second
both_heads (Some pieces) None = Some pieces
both_heads (Some pieces) (Some more) = Some (pieces ++ more)

-- those of the tile-parts of a tile, in their order
abbrev pub heads_of : List PlacedPart → Option (List Body)
heads_of [] = None
heads_of (p ∷ ps) = both_heads p.heads (heads_of ps)
