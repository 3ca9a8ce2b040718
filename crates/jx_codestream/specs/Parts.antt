-- Tile-parts: SOT, a header that SOD ends, and data up to the place that Psot names (T.800, A.4.2 and A.4.3).
use Rattle.std.specs.Prelude.{◌≡◌, ◌<◌, ℕ, zero, suc, ◌+◌, ◌-◌, ◌==◌, ◌&&◌, ◌||◌, not, nat_lt, nat_le, Bool, true, false, List, [], ◌∷◌, ◌++◌, length, drop, Option, None, if◌then◌else◌, slice_index}
use Rattle.std.specs.List.{list_any, filter}
use Rattle.std.specs.Option.{option_or, is_some}
use Rattle.jx_marker.specs.Codes.{SOT, EOC}
use Rattle.jx_marker.specs.declared.Sot.{Sot}
use Rattle.jx_marker.specs.Rules.{first_broken}
use Rattle.jx_marker.specs.Segments.{size_at, body_at}
use Rattle.jx_marker.specs.Values.{sot_at}
use Rattle.jx_marker.specs.RuleNumbers.{NO_TILE, PART_END, PART_LENGTH, PART_NUMBER}
use Rattle.jx_codestream.specs.declared.faults.StreamFault.{StreamFault}
use Rattle.jx_codestream.specs.declared.headers.HeaderKind.{HeaderKind}
use Rattle.jx_codestream.specs.declared.headers.HeaderKind.TheVariants.{First, Later, PackedFirst, PackedLater}
use Rattle.jx_codestream.specs.declared.headers.Header.{Header}
use Rattle.jx_codestream.specs.declared.parts.PlacedPart.{PlacedPart}
use Rattle.jx_codestream.specs.declared.Body.{Body}
use Rattle.jx_codestream.specs.Faults.{broken, rule_at}
use Rattle.jx_codestream.specs.Headers.{header_at, header_fault, without_ppt}
use Rattle.jx_codestream.specs.PackedHeaders.{heads_in}

-- the marker of this second byte stands at a place
abbrev pub marker_at : List ℕ → ℕ → ℕ → Bool
marker_at b at code = (slice_index b at == 255) && (slice_index b (at + 1) == code)

-- the SOT at a place, where one stands there
abbrev pub sot_in : List ℕ → ℕ → Sot
sot_in b at = sot_at (body_at (drop at b))

-- where the header after it begins
abbrev pub after_sot : List ℕ → ℕ → ℕ
after_sot b at = at + size_at (drop at b)

-- the first tile-part of a tile is that of number 0; the main header has a PPM or hasn't
abbrev pub kind_of : Bool → Sot → HeaderKind
kind_of false sot = if sot.part == 0 then First else Later
kind_of true sot = if sot.part == 0 then PackedFirst else PackedLater

-- the tile-parts of a tile
abbrev pub parts_of : ℕ → List PlacedPart → List PlacedPart
parts_of tile parts = filter (λ (p : PlacedPart). p.sot.tile == tile) parts

-- one of these told another number of tile-parts
abbrev pub told_other : ℕ → List PlacedPart → Bool
told_other number own = list_any (λ (p : PlacedPart). nat_lt 0 p.sot.parts && not (p.sot.parts == number)) own

-- rule 21, where a tile has had so many tile-parts and another TNsot is told or not: TPsot is another number than
-- that of the tile's tile-parts so far, or TNsot isn't 0 and is at most TPsot, or differs from one told before
abbrev pub is_out_of_turn : Sot → ℕ → Bool → Bool
is_out_of_turn sot count other = not (sot.part == count) || (nat_lt 0 sot.parts && (nat_le sot.parts sot.part || other))

-- the same after these tile-parts
abbrev pub comes_out_of_turn : List PlacedPart → Sot → Bool
comes_out_of_turn parts sot = is_out_of_turn sot (length (parts_of sot.tile parts)) (told_other sot.parts (parts_of sot.tile parts))

-- rule 22 at SOT: Psot is too short for SOT and SOD, or passes the file's end
abbrev pub has_wrong_length : List ℕ → ℕ → Sot → Bool
has_wrong_length b at sot = (nat_lt 0 sot.psot && nat_lt sot.psot 14) || nat_lt (length b) (at + sot.psot)

-- the same by tables of these numbers for each tile
abbrev pub tables_say : List ℕ → List ℕ → Sot → Bool
tables_say counts told sot = is_out_of_turn sot (slice_index counts sot.tile) (nat_lt 0 (slice_index told sot.tile) && not (slice_index told sot.tile == sot.parts))

-- what is violated where a tile-part is due: rule 23, where neither SOT nor EOC stands there, then the rules 1 to 14
unfoldable pub start_fault : ℕ → List ℕ → ℕ → Option StreamFault
start_fault comps b at = option_or (broken PART_END at (not (marker_at b at SOT || marker_at b at EOC))) (rule_at at (first_broken comps (drop at b)))

-- what is violated by a SOT: rule 20, a tile that isn't there, then the rules 21 and 22
unfoldable pub sot_fault : ℕ → List ℕ → ℕ → Sot → Bool → Option StreamFault
sot_fault tiles b at sot out = option_or (option_or (broken NO_TILE at (nat_le tiles sot.tile)) (broken PART_NUMBER at out)) (broken PART_LENGTH at (has_wrong_length b at sot))

-- what is violated at SOD, which stands at this place: with Psot 0 rule 23, where the file doesn't end with EOC or EOC
-- overlaps the header; else rule 22, where SOD ends past the tile-part
unfoldable pub sod_fault : List ℕ → ℕ → Sot → ℕ → Option StreamFault
sod_fault b at sot sod =
    if sot.psot == 0 then broken PART_END (length b - 2) (not (marker_at b (length b - 2) EOC) || nat_lt (length b - 2) (sod + 2))
    else broken PART_LENGTH at (nat_lt (at + sot.psot) (sod + 2))

-- where a tile-part ends: where Psot says, or two bytes before the file's end
abbrev pub end_of : List ℕ → ℕ → Sot → ℕ
end_of b at sot = if sot.psot == 0 then length b - 2 else at + sot.psot

-- the header of the tile-part at a place, and where it stops
abbrev pub part_header : Bool → ℕ → List ℕ → ℕ → Header
part_header packed comps b at = header_at (kind_of packed (sot_in b at)) comps b (after_sot b at)

-- the data of a tile-part at this place, whose SOD stands at that one
abbrev pub body_of : List ℕ → ℕ → Sot → ℕ → Body
body_of b at sot sod = record { at = sod + 2; length = end_of b at sot - (sod + 2) }

-- the tile-part at a place
unfoldable pub part_at : Bool → ℕ → List ℕ → ℕ → PlacedPart
part_at packed comps b at = record {
  place = at;
  sot = sot_in b at;
  header = without_ppt (part_header packed comps b at).segments;
  heads = heads_in comps (after_sot b at) (part_header packed comps b at).segments;
  body = body_of b at (sot_in b at) (part_header packed comps b at).end;
}

-- what is violated first in the tile-part at a place, whose SOT is out of turn or isn't
unfoldable pub part_fault : Bool → ℕ → ℕ → List ℕ → Bool → ℕ → Option StreamFault
part_fault packed comps tiles b out at =
    option_or (start_fault comps b at)
    (option_or (sot_fault tiles b at (sot_in b at) out)
    (option_or (header_fault (kind_of packed (sot_in b at)) comps b (after_sot b at))
    (sod_fault b at (sot_in b at) (part_header packed comps b at).end)))

-- the same after these tile-parts
abbrev pub fault_after : Bool → ℕ → ℕ → List ℕ → List PlacedPart → ℕ → Option StreamFault
fault_after packed comps tiles b parts at = part_fault packed comps tiles b (comes_out_of_turn parts (sot_in b at)) at

-- the first byte after a tile-part
abbrev pub end_of_part : PlacedPart → ℕ
end_of_part p = p.body.at + p.body.length

-- the tile-parts end at this place, with EOC or with a rule that is violated
unfoldable pub parts_stop : Bool → ℕ → ℕ → List ℕ → List PlacedPart → ℕ → Bool
parts_stop packed comps tiles b parts at = marker_at b at EOC || is_some (fault_after packed comps tiles b parts at)

-- tile-parts, and the place after them
pub record Parts : Type 0 where
  pub parts : List PlacedPart
  pub end : ℕ

-- these tile-parts and those that stand after them one after another, n at most, up to a place where they stop
unfoldable pub longest_parts : Bool → ℕ → ℕ → List ℕ → ℕ → List PlacedPart → ℕ → Parts
longest_parts packed comps tiles b zero before at = record { parts = before; end = at }
longest_parts packed comps tiles b (suc n) before at =
    if parts_stop packed comps tiles b before at then record { parts = before; end = at }
    else longest_parts packed comps tiles b n (before ++ part_at packed comps b at ∷ []) (end_of_part (part_at packed comps b at))

-- the tile-parts from a place on
abbrev pub parts_from : Bool → ℕ → ℕ → List ℕ → ℕ → Parts
parts_from packed comps tiles b at = longest_parts packed comps tiles b (length b) [] at

-- what is violated where the tile-parts from a place on stop
abbrev pub parts_fault : Bool → ℕ → ℕ → List ℕ → ℕ → Option StreamFault
parts_fault packed comps tiles b at =
    if marker_at b (parts_from packed comps tiles b at).end EOC then None
    else fault_after packed comps tiles b (parts_from packed comps tiles b at).parts (parts_from packed comps tiles b at).end

-- tables by tiles: how many tile-parts each had, and a TNsot that it told, or 0
pub record Tracks (parts : List PlacedPart) (counts told : List ℕ) : Type 0 where
  pub count : (tile : ℕ) → tile < length counts → slice_index counts tile ≡ length (parts_of tile parts)
  pub others : (tile number : ℕ) → tile < length told → told_other number (parts_of tile parts) ≡ (nat_lt 0 (slice_index told tile) && not (slice_index told tile == number))
