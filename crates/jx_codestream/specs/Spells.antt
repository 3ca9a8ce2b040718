-- Which stream the bytes of a file spell (T.800, A.2 to A.4): SOC, SIZ, the main header's segments, the tile-parts, EOC.
use Rattle.std.specs.Prelude.{◌≡◌, ◌<◌, ℕ, ◌+◌, Bool, true, false, List, [], ◌∷◌, ◌++◌, length, None, find, ◌⊎◌}
use Rattle.std.specs.List.{flat_map}
use Rattle.jx_marker.specs.declared.Segment.{Segment}
use Rattle.jx_marker.specs.declared.Segment.TheVariants as segment
use Rattle.jx_marker.specs.declared.Siz.{Siz}
use Rattle.jx_marker.specs.declared.Sot.{Sot}
use Rattle.jx_marker.specs.Segments.{spelling}
use Rattle.jx_marker.specs.Ranges.{InRange, SizInRange, SotInRange}
use Rattle.jx_codestream.specs.declared.headers.HeaderKind.{HeaderKind}
use Rattle.jx_codestream.specs.declared.headers.HeaderKind.TheVariants.{Main}
use Rattle.jx_codestream.specs.declared.parts.PlacedPart.{PlacedPart}
use Rattle.jx_codestream.specs.declared.Stream.{Stream}
use Rattle.jx_codestream.specs.Headers.{stands_in, ends_header, is_second, is_packed_twice, has_packed, without_ppt}
use Rattle.jx_codestream.specs.declared.packed.PackedSegment.{PackedSegment}
use Rattle.jx_codestream.specs.PackedHeaders.{heads_in, packed_from, shares_fault, with_shares}
use Rattle.jx_codestream.specs.Parts.{kind_of, comes_out_of_turn}
use Rattle.jx_codestream.specs.Tiles.{tiles_of}
use Rattle.jx_codestream.specs.Params.{tile_has_too_few}
use Rattle.jx_codestream.specs.First.{tile_number, lacks_default, lacks_part}

-- a tile-part as it is written: SOT, the header's segments, SOD, data
pub record TilePart : Type 0 where
  pub sot : Sot
  pub header : List Segment
  pub body : List ℕ

-- the bytes of segments, one after another
abbrev pub all_bytes : ℕ → List Segment → List ℕ
all_bytes comps segments = flat_map (spelling comps) segments

-- a tile-part up to its data
abbrev pub head_bytes : ℕ → TilePart → List ℕ
head_bytes comps p = spelling comps (segment.Sot p.sot) ++ (all_bytes comps p.header ++ spelling comps segment.Sod)

abbrev pub part_bytes : ℕ → TilePart → List ℕ
part_bytes comps p = head_bytes comps p ++ p.body

-- a whole file, with what follows EOC
abbrev pub file_bytes : Siz → List Segment → List TilePart → List ℕ → List ℕ
file_bytes siz main parts rest =
    spelling 1 segment.Soc ++ (spelling 1 (segment.Siz siz) ++ (all_bytes (length siz.comps) main ++ (flat_map (part_bytes (length siz.comps)) parts
    ++ (spelling 1 segment.Eoc ++ rest))))

-- a tile-part that begins at a place, as a stream holds it
abbrev pub part_of : ℕ → ℕ → TilePart → PlacedPart
part_of comps at p = record {
  place = at;
  sot = p.sot;
  header = without_ppt p.header;
  heads = heads_in comps (at + length (spelling comps (segment.Sot p.sot))) p.header;
  body = record { at = at + length (head_bytes comps p); length = length p.body };
}

-- tile-parts one after another from a place on
abbrev pub placed : ℕ → ℕ → List TilePart → List PlacedPart
placed comps at [] = []
placed comps at (p ∷ ps) = part_of comps at p ∷ placed comps (at + length (part_bytes comps p)) ps

-- a segment in a header that has these before it
pub record IsSegment (kind : HeaderKind) (comps : ℕ) (before : List Segment) (s : Segment) : Type 0 where
  -- rules 1 to 13
  pub range : InRange comps s
  -- rule 19
  pub stands : stands_in kind s ≡ true
  -- rule 14
  pub once_packed : is_packed_twice kind s ≡ false
  pub inside : ends_header s ≡ false
  -- rule 18
  pub once : is_second before s ≡ false

-- segments of a header that has others before them
abbrev pub AreSegments : HeaderKind → ℕ → List Segment → List Segment → Type 0
AreSegments kind comps before [] = Unit {0}
AreSegments kind comps before (s ∷ ss) = IsSegment kind comps before s × AreSegments kind comps (before ++ s ∷ []) ss

-- Psot is the tile-part's length, or it is 0 in the last tile-part of a file that ends with EOC: rules 22 and 23
abbrev pub HasLength : ℕ → TilePart → List TilePart → List ℕ → Type 0
HasLength comps p later rest = (p.sot.psot ≡ length (part_bytes comps p)) ⊎ ((p.sot.psot ≡ 0) × (later ≡ []) × (rest ≡ []))

-- a tile-part after others, behind a main header that has a PPM or hasn't
pub record IsTilePart (packed : Bool) (comps tiles : ℕ) (before : List PlacedPart) (p : TilePart) : Type 0 where
  pub range : SotInRange p.sot
  pub header : AreSegments (kind_of packed p.sot) comps [] p.header
  -- rule 20
  pub tile : p.sot.tile < tiles
  -- rule 21
  pub turn : comes_out_of_turn before p.sot ≡ false

-- tile-parts from a place on, after others
abbrev pub AreTileParts : Bool → ℕ → ℕ → List ℕ → List PlacedPart → ℕ → List TilePart → Type 0
AreTileParts packed comps tiles rest before at [] = Unit {0}
AreTileParts packed comps tiles rest before at (p ∷ ps) = IsTilePart packed comps tiles before p × HasLength comps p ps rest
    × AreTileParts packed comps tiles rest (before ++ part_of comps at p ∷ []) (at + length (part_bytes comps p)) ps

-- where the main header's segments after SIZ begin
abbrev pub main_start : Siz → ℕ
main_start siz = 2 + length (spelling 1 (segment.Siz siz))

-- the PPM of a main header
abbrev pub main_packed : Siz → List Segment → List PackedSegment
main_packed siz main = packed_from (length siz.comps) (main_start siz) main

-- where the first SOT stands
abbrev pub first_sot : Siz → List Segment → ℕ
first_sot siz main = 2 + length (spelling 1 (segment.Siz siz)) + length (all_bytes (length siz.comps) main)

-- the bytes spell the stream, and none of the rules 1 to 24 and 37 is violated
pub record Spells (b : List ℕ) (s : Stream) : Type 0 where
  pub parts : List TilePart
  pub rest : List ℕ
  pub bytes : b ≡ file_bytes s.siz s.main parts rest
  -- rules 1 to 5
  pub siz : SizInRange s.siz
  pub main : AreSegments Main (length s.siz.comps) [] s.main
  -- rule 17
  pub defaults : lacks_default s.main ≡ false
  -- the first SOT ends the main header
  pub some : 0 < length parts
  pub tile_parts : AreTileParts (has_packed s.main) (length s.siz.comps) (tile_number s.siz) rest [] (first_sot s.siz s.main) parts
  -- rule 24
  pub each : lacks_part (placed (length s.siz.comps) (first_sot s.siz s.main) parts) (tile_number s.siz) ≡ false
  -- rule 37
  pub packed : shares_fault b (main_packed s.siz s.main) (placed (length s.siz.comps) (first_sot s.siz s.main) parts) ≡ None
  pub tiles : s.tiles ≡ tiles_of s.main (with_shares b (main_packed s.siz s.main) (placed (length s.siz.comps) (first_sot s.siz s.main) parts)) (tile_number s.siz)
  -- rule 9
  pub entries : find (tile_has_too_few s.main (length s.siz.comps)) s.tiles ≡ None
