-- The first rule that a file violates or limit that it passes (T.800, Annex A), as a relation on the whole file: the file
-- begins with a front that is spelled and violates nothing, and where this front ends the first of that place's tests that
-- is true is this one. A place is the number of bytes in front of it.
use Rattle.std.specs.Prelude.{◌≡◌, ◌<◌, ℕ, ◌+◌, Bool, false, List, [], ◌∷◌, ◌++◌, length, Option, None, Some, ◌⊎◌}
use Rattle.std.specs.List.{flat_map}
use Rattle.jx_marker.specs.declared.Segment.{Segment}
use Rattle.jx_marker.specs.declared.Segment.TheVariants as segment
use Rattle.jx_marker.specs.declared.Siz.{Siz}
use Rattle.jx_marker.specs.declared.Sot.{Sot}
use Rattle.jx_marker.specs.Segments.{spelling}
use Rattle.jx_marker.specs.Ranges.{SizInRange, SotInRange}
use Rattle.jx_marker.specs.RuleNumbers.{NO_DEFAULTS, NO_PART}
use Rattle.jx_codestream.specs.declared.faults.StreamFault.{StreamFault}
use Rattle.jx_codestream.specs.declared.headers.HeaderKind.TheVariants.{Main}
use Rattle.jx_codestream.specs.declared.parts.PlacedPart.{PlacedPart}
use Rattle.jx_codestream.specs.declared.Stream.{Stream}
use Rattle.jx_codestream.specs.Faults.{broken}
use Rattle.jx_codestream.specs.Headers.{has_packed, segment_fault}
use Rattle.jx_codestream.specs.PackedHeaders.{shares_fault, with_shares}
use Rattle.jx_codestream.specs.Parts.{kind_of, comes_out_of_turn, start_fault, sot_fault, sod_fault}
use Rattle.jx_codestream.specs.Tiles.{tiles_of}
use Rattle.jx_codestream.specs.Params.{entries_fault, planes_fault}
use Rattle.jx_codestream.specs.First.{tile_number, front_fault, tiles_fault, lacks_default, lacks_part}
use Rattle.jx_codestream.specs.Spells.{TilePart, all_bytes, part_bytes, file_bytes, part_of, placed, AreSegments, IsTilePart, AreTileParts, first_sot, main_packed, Spells}

-- the bytes begin with this front
pub record Begins (b front : List ℕ) : Type 0 where
  pub rest : List ℕ
  pub bytes : b ≡ front ++ rest

-- SOC, SIZ and segments of the main header
abbrev pub main_bytes : Siz → List Segment → List ℕ
main_bytes siz main = spelling 1 segment.Soc ++ (spelling 1 (segment.Siz siz) ++ all_bytes (length siz.comps) main)

-- the same, then tile-parts
abbrev pub front_bytes : Siz → List Segment → List TilePart → List ℕ
front_bytes siz main parts = main_bytes siz main ++ flat_map (part_bytes (length siz.comps)) parts

-- the same, then the SOT of one more
abbrev pub sot_bytes : Siz → List Segment → List TilePart → Sot → List ℕ
sot_bytes siz main parts sot = front_bytes siz main parts ++ spelling (length siz.comps) (segment.Sot sot)

-- the same, then segments of its header
abbrev pub header_bytes : Siz → List Segment → List TilePart → Sot → List Segment → List ℕ
header_bytes siz main parts sot before = sot_bytes siz main parts sot ++ all_bytes (length siz.comps) before

-- a SIZ and segments of a main header, by which nothing is violated and no limit passed
pub record IsMain (siz : Siz) (main : List Segment) : Type 0 where
  pub range : SizInRange siz
  -- limit 3
  pub few : tiles_fault siz ≡ None
  pub segments : AreSegments Main (length siz.comps) [] main

-- tile-parts from a place on, after others; each names its length, since after Psot 0 nothing but EOC stands
abbrev pub AreNamed : Bool → ℕ → ℕ → List PlacedPart → ℕ → List TilePart → Type 0
AreNamed packed comps tiles before at [] = Unit {0}
AreNamed packed comps tiles before at (p ∷ ps) = IsTilePart packed comps tiles before p × (p.sot.psot ≡ length (part_bytes comps p))
    × AreNamed packed comps tiles (before ++ part_of comps at p ∷ []) (at + length (part_bytes comps p)) ps

-- a main header and tile-parts, by which nothing is violated
pub record AreParts (siz : Siz) (main : List Segment) (parts : List TilePart) : Type 0 where
  pub front : IsMain siz main
  -- rule 17
  pub defaults : lacks_default main ≡ false
  pub each : AreNamed (has_packed main) (length siz.comps) (tile_number siz) [] (first_sot siz main) parts

-- the first of the rules 20 to 22 that a SOT violates after a main header and tile-parts
abbrev pub sot_first : List ℕ → Siz → List Segment → List TilePart → Sot → Option StreamFault
sot_first b siz main parts sot = sot_fault (tile_number siz) b (length (front_bytes siz main parts)) sot
    (comes_out_of_turn (placed (length siz.comps) (first_sot siz main) parts) sot)

-- a main header, tile-parts, then a SOT and segments of its header, by which nothing is violated
pub record IsHeader (b : List ℕ) (siz : Siz) (main : List Segment) (parts : List TilePart) (sot : Sot) (before : List Segment) : Type 0 where
  pub front : AreParts siz main parts
  pub range : SotInRange sot
  pub clear : sot_first b siz main parts sot ≡ None
  pub segments : AreSegments (kind_of (has_packed main) sot) (length siz.comps) [] before

-- a whole file up to EOC, in which nothing is violated before EOC; `rest` follows EOC
pub record IsWhole (b : List ℕ) (siz : Siz) (main : List Segment) (parts : List TilePart) (rest : List ℕ) : Type 0 where
  pub bytes : b ≡ file_bytes siz main parts rest
  pub front : IsMain siz main
  pub defaults : lacks_default main ≡ false
  pub some : 0 < length parts
  pub each : AreTileParts (has_packed main) (length siz.comps) (tile_number siz) rest [] (first_sot siz main) parts

-- limit 3
pub record IsInSiz (b : List ℕ) (f : StreamFault) : Type 0 where
  pub siz : Siz
  pub range : SizInRange siz
  pub begins : Begins b (main_bytes siz [])
  pub first : tiles_fault siz ≡ Some f

-- rules 1 to 13, 19 and 18, at a segment of the main header
pub record IsInMain (b : List ℕ) (f : StreamFault) : Type 0 where
  pub siz : Siz
  pub before : List Segment
  pub front : IsMain siz before
  pub begins : Begins b (main_bytes siz before)
  pub first : segment_fault Main (length siz.comps) b before (length (main_bytes siz before)) ≡ Some f

-- rule 17, at the first SOT
pub record IsAtFirstSot (b : List ℕ) (f : StreamFault) : Type 0 where
  pub siz : Siz
  pub main : List Segment
  pub sot : Sot
  pub front : IsMain siz main
  pub range : SotInRange sot
  pub begins : Begins b (sot_bytes siz main [] sot)
  pub first : broken NO_DEFAULTS (length (main_bytes siz main)) (lacks_default main) ≡ Some f

-- rule 23, then the rules 1 to 13 of SOT, where another tile-part is due
pub record IsAtPart (b : List ℕ) (f : StreamFault) : Type 0 where
  pub siz : Siz
  pub main : List Segment
  pub parts : List TilePart
  pub front : AreParts siz main parts
  -- before the first SOT the main header goes on
  pub some : 0 < length parts
  pub begins : Begins b (front_bytes siz main parts)
  pub first : start_fault (length siz.comps) b (length (front_bytes siz main parts)) ≡ Some f

-- rules 20, 21 and 22, at a SOT
pub record IsAtSot (b : List ℕ) (f : StreamFault) : Type 0 where
  pub siz : Siz
  pub main : List Segment
  pub parts : List TilePart
  pub sot : Sot
  pub front : AreParts siz main parts
  pub range : SotInRange sot
  pub begins : Begins b (sot_bytes siz main parts sot)
  pub first : sot_first b siz main parts sot ≡ Some f

-- rules 1 to 14, 19 and 18, at a segment of a tile-part's header
pub record IsInHeader (b : List ℕ) (f : StreamFault) : Type 0 where
  pub siz : Siz
  pub main : List Segment
  pub parts : List TilePart
  pub sot : Sot
  pub before : List Segment
  pub front : IsHeader b siz main parts sot before
  pub begins : Begins b (header_bytes siz main parts sot before)
  pub first : segment_fault (kind_of (has_packed main) sot) (length siz.comps) b before (length (header_bytes siz main parts sot before)) ≡ Some f

-- rule 22, or 23 where Psot is 0, at SOD
pub record IsAtSod (b : List ℕ) (f : StreamFault) : Type 0 where
  pub siz : Siz
  pub main : List Segment
  pub parts : List TilePart
  pub sot : Sot
  pub before : List Segment
  pub front : IsHeader b siz main parts sot before
  pub begins : Begins b (header_bytes siz main parts sot before ++ spelling (length siz.comps) segment.Sod)
  pub first : sod_fault b (length (front_bytes siz main parts)) sot (length (header_bytes siz main parts sot before)) ≡ Some f

-- rule 24, at EOC
pub record IsAtEoc (b : List ℕ) (f : StreamFault) : Type 0 where
  pub siz : Siz
  pub main : List Segment
  pub parts : List TilePart
  pub rest : List ℕ
  pub whole : IsWhole b siz main parts rest
  pub first : broken NO_PART (length (front_bytes siz main parts)) (lacks_part (placed (length siz.comps) (first_sot siz main) parts) (tile_number siz)) ≡ Some f

-- rule 37, after EOC
pub record IsUnshared (b : List ℕ) (f : StreamFault) : Type 0 where
  pub siz : Siz
  pub main : List Segment
  pub parts : List TilePart
  pub rest : List ℕ
  pub whole : IsWhole b siz main parts rest
  -- rule 24
  pub each : lacks_part (placed (length siz.comps) (first_sot siz main) parts) (tile_number siz) ≡ false
  pub first : shares_fault b (main_packed siz main) (placed (length siz.comps) (first_sot siz main) parts) ≡ Some f

-- rule 9 for too few entries, after EOC
pub record IsShort (b : List ℕ) (f : StreamFault) : Type 0 where
  pub siz : Siz
  pub main : List Segment
  pub parts : List TilePart
  pub rest : List ℕ
  pub whole : IsWhole b siz main parts rest
  -- rule 24
  pub each : lacks_part (placed (length siz.comps) (first_sot siz main) parts) (tile_number siz) ≡ false
  -- rule 37
  pub packed : shares_fault b (main_packed siz main) (placed (length siz.comps) (first_sot siz main) parts) ≡ None
  pub first : entries_fault main (length siz.comps)
      (tiles_of main (with_shares b (main_packed siz main) (placed (length siz.comps) (first_sot siz main) parts)) (tile_number siz)) ≡ Some f

-- limit 4, where no rule is violated
pub record IsOver (b : List ℕ) (f : StreamFault) : Type 0 where
  pub stream : Stream
  pub spelled : Spells b stream
  -- limit 3
  pub few : tiles_fault stream.siz ≡ None
  pub first : planes_fault stream.main (length stream.siz.comps) stream.tiles ≡ Some f

-- the first rule that the file violates, with its place, or limit that it passes, with what was counted
abbrev pub IsFirst : List ℕ → StreamFault → Type 0
IsFirst b f =
    -- rules 15 and 16, then those of SIZ
    (front_fault b ≡ Some f)
    ⊎ (IsInSiz b f
    ⊎ (IsInMain b f
    ⊎ (IsAtFirstSot b f
    ⊎ (IsAtPart b f
    ⊎ (IsAtSot b f
    ⊎ (IsInHeader b f
    ⊎ (IsAtSod b f
    ⊎ (IsAtEoc b f
    ⊎ (IsUnshared b f
    ⊎ (IsShort b f
    ⊎ IsOver b f))))))))))
