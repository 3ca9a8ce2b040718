-- Headers that a file may be written from, and the stream that is read from the file again: the same headers, with the index of the
-- tile-parts where that is asked, and the tile-parts' PLT segments, places and data (ITU-T T.800, A.3, A.4, A.6 and A.7).
use Rattle.std.specs.Prelude.{◌≡◌, ◌<◌, ◌^◌, ℕ, false, List, [], ◌∷◌, length, None, find}
use Rattle.jx_base.specs.Joined.{joined}
use Rattle.jx_marker.specs.declared.Cod.{Cod}
use Rattle.jx_marker.specs.Ranges.{SizInRange}
use Rattle.jx_codestream.specs.Headers.{has_packed}
use Rattle.jx_codestream.specs.declared.headers.HeaderKind.TheVariants.{Main, First}
use Rattle.jx_codestream.specs.declared.Stream.{Stream}
use Rattle.jx_codestream.specs.First.{tile_number, tiles_fault, lacks_default}
use Rattle.jx_codestream.specs.Tiles.{tiles_of}
use Rattle.jx_codestream.specs.Params.{cod_of, cod_or, header_of, planes_fault, tile_has_too_few}
use Rattle.jx_codestream.specs.Shapes.{tile_at}
use Rattle.jx_codestream.specs.Spells.{TilePart, AreSegments, first_sot, placed}
use Rattle.jx_progression.specs.declared.names.PacketName.{PacketName}
use Rattle.jx_plan.specs.Changes.{entries_by, main_order}
use Rattle.jx_tile.specs.Covered.{IsListOf, IsWhole}
use Rattle.jx_tile.specs.Totals.{totals_fault}
use Rattle.jx_tier2_writer.specs.Told.{has_lengths}
use Rattle.jx_options.specs.declared.Marks.{Marks}
use Rattle.jx_tile_parts.specs.Groups.{HasFewEntries, HasFewParts}
use Rattle.jx_tier2_writer.specs.Index.{indexed}

-- what SOP and EPH a tile's COD, or else the main one, announces
abbrev pub cod_at : Stream → ℕ → Cod
cod_at s t = cod_or (cod_of (header_of s t) s.main)

-- a tile's packets can be listed in the order of its entries
abbrev pub HasList : Stream → ℕ → Type 0
HasList s t = (list : List PacketName) × IsListOf s t list

-- one tile's header: no PLT and PPT, and the packets stand in the order that the headers say, which has all of them
pub record IsTileReady (m : Marks) (s : Stream) (t : ℕ) : Type 0 where
  -- rules 1 to 14, 18 and 19
  pub header : AreSegments First (length s.siz.comps) [] (header_of s t)
  pub lengths : has_lengths (header_of s t) ≡ false
  pub in_place : has_packed (header_of s t) ≡ false
  pub progressions : (tile_at s t).progressions ≡ entries_by (main_order s.main) (header_of s t)
  -- rule 25
  pub whole : IsWhole s t
  -- A.8: Scod says what stands in the tile's data
  pub sop : (cod_at s t).sop ≡ m.sop
  pub eph : (cod_at s t).eph ≡ m.eph
  -- A.4.2: TNsot has one byte
  pub few : HasFewParts m.parts s t

-- all headers: no rule that headers can violate is violated, and no limit is passed
pub record AreReady (m : Marks) (s : Stream) : Type 0 where
  -- rules 1 to 5
  pub siz : SizInRange s.siz
  -- rules 1 to 14, 18 and 19
  pub main : AreSegments Main (length s.siz.comps) [] s.main
  -- no PPM
  pub in_place : has_packed s.main ≡ false
  -- rule 17
  pub defaults : lacks_default s.main ≡ false
  -- limit 3
  pub few_tiles : tiles_fault s.siz ≡ None
  pub count : length s.tiles ≡ tile_number s.siz
  pub tiles : (t : ℕ) → t < tile_number s.siz → IsTileReady m s t
  -- rule 9
  pub enough : find (tile_has_too_few s.main (length s.siz.comps)) s.tiles ≡ None
  -- limit 4
  pub planes : planes_fault s.main (length s.siz.comps) s.tiles ≡ None
  -- limits 5 and 6
  pub totals : totals_fault s ≡ None
  -- A.7.1: Ztlm has one byte
  pub index : HasFewEntries m s

-- each tile-part has a length of 32 bits
abbrev pub AreShort : List TilePart → Type 0
AreShort [] = Unit {0}
AreShort (p ∷ ps) = (p.sot.psot < 2 ^ 32) × AreShort ps

abbrev pub AllShort : (ℕ → List TilePart) → ℕ → Type 0
AllShort parts tiles = (t : ℕ) → t < tiles → AreShort (parts t)

-- the stream that is read from a file with the headers of one and these tile-parts
abbrev pub stream_with : Stream → List TilePart → Stream
stream_with s parts = record {
  siz = s.siz;
  main = s.main;
  tiles = tiles_of s.main (placed (length s.siz.comps) (first_sot s.siz s.main) parts) (tile_number s.siz);
}

abbrev pub stream_read : Marks → Stream → (ℕ → List TilePart) → Stream
stream_read m s parts = stream_with (indexed m s (joined parts 0 (tile_number s.siz))) (joined parts 0 (tile_number s.siz))
