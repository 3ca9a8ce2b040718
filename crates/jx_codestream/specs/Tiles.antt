-- Tiles: what their tile-parts say together (T.800, A.4.2 and B.3).
use Rattle.std.specs.Prelude.{◌≡◌, ℕ, ◌==◌, Bool, true, false, List, [], ◌∷◌, drop, map, Option, Some, find}
use Rattle.std.specs.List.{filter, flat_map, list_any, range_with_len}
use Rattle.jx_marker.specs.declared.Segment.{Segment}
use Rattle.jx_marker.specs.declared.Progression.{Progression}
use Rattle.jx_marker.specs.declared.Cod.{Cod}
use Rattle.jx_codestream.specs.declared.parts.PlacedPart.{PlacedPart}
use Rattle.jx_codestream.specs.declared.Tile.{Tile}
use Rattle.jx_codestream.specs.declared.tiles.Draft.{Draft}
use Rattle.jx_codestream.specs.Headers.{cod_slot, slot_of}
use Rattle.jx_codestream.specs.PackedHeaders.{heads_of}
use Rattle.jx_codestream.specs.Parts.{parts_of}
use Rattle.jx_marker.specs.declared.Segment.TheVariants as segment

-- the segment of a slot in a header
abbrev pub in_slot : ℕ → List Segment → Option Segment
in_slot slot segments = find (λ (s : Segment). slot_of s == slot) segments

-- the entries of a POC segment
abbrev pub entries_of : Segment → List Progression
entries_of (segment.Poc entries) = entries
entries_of _ = []

-- the entries of all POC segments, joined
abbrev pub entries_joined : List Segment → List Progression
entries_joined segments = flat_map entries_of segments

abbrev pub is_com : Segment → Bool
is_com (segment.Com bytes) = true
is_com _ = false

-- packet lengths (A.7.3)
abbrev pub is_plt : Segment → Bool
is_plt (segment.Plt bytes) = true
is_plt _ = false

-- the one entry that a COD stands for: all layers, resolutions and components in its order
abbrev pub entry_of : Cod → Progression
entry_of cod = record { rs = 0; cs = 0; lye = cod.layers; re = 33; ce = 0; order = cod.order }

abbrev pub entry_in : Option Segment → List Progression
entry_in (Some (segment.Cod cod)) = entry_of cod ∷ []
entry_in _ = []

-- all segments of some tile-parts' headers but PPT
abbrev pub headers_of : List PlacedPart → List Segment
headers_of own = flat_map (λ (p : PlacedPart). p.header) own

abbrev pub first_header : List PlacedPart → List Segment
first_header [] = []
first_header (p ∷ later) = p.header

abbrev pub first_place : List PlacedPart → ℕ
first_place [] = 0
first_place (p ∷ later) = p.place

-- the first of two lists, or the second where it is empty
abbrev pub or_list : List Progression → List Progression → List Progression
or_list [] second = second
or_list (entry ∷ entries) second = entry ∷ entries

-- the tile's own entries, entries_joined over its tile-parts, else the main header's, else the one of its COD, else of the main COD
abbrev pub progressions_of : List Segment → List PlacedPart → List Progression
progressions_of main own =
    or_list (entries_joined (headers_of own)) (or_list (entries_joined main) (or_list (entry_in (in_slot cod_slot (first_header own))) (entry_in (in_slot cod_slot main))))

-- the tile of these tile-parts
abbrev pub tile_from : List Segment → List PlacedPart → Tile
tile_from main own = record {
  place = first_place own;
  header = first_header own;
  notes = filter is_com (headers_of (drop 1 own));
  has_plt = list_any is_plt (headers_of own);
  progressions = progressions_of main own;
  heads = heads_of own;
  bodies = map (λ (p : PlacedPart). p.body) own;
}

-- the tile of a number
unfoldable pub tile_of : List Segment → List PlacedPart → ℕ → Tile
tile_of main parts tile = tile_from main (parts_of tile parts)

-- the tiles by their numbers
abbrev pub tiles_of : List Segment → List PlacedPart → ℕ → List Tile
tiles_of main parts tiles = map (tile_of main parts) (range_with_len 0 tiles)

-- a draft has what these tile-parts of its tile say
pub record Collects (own : List PlacedPart) (draft : Draft) : Type 0 where
  pub place : draft.place ≡ first_place own
  pub header : draft.header.items ≡ first_header own
  pub notes : draft.notes.items ≡ filter is_com (headers_of (drop 1 own))
  pub has_plt : draft.has_plt ≡ list_any is_plt (headers_of own)
  pub entries : draft.entries.items ≡ entries_joined (headers_of own)
  pub heads : draft.heads ≡ heads_of own
  pub bodies : draft.bodies.items ≡ map (λ (p : PlacedPart). p.body) own
