-- Headers that stand in some file: they violate none of the rules from 1 to 19 and pass none of the limits 3 and 4 (ITU-T T.800, A.3 to
-- A.9). What is read has such headers, and so has what is written.
use Rattle.std.specs.Prelude.{◌≡◌, ℕ, true, false, [], length, find, None}
use Rattle.std.specs.List.{All}
use Rattle.jx_marker.specs.declared.Segment.{Segment}
use Rattle.jx_marker.specs.declared.Progression.{Progression}
use Rattle.jx_marker.specs.Ranges.{InRange, ProgressionInRange, SizInRange}
use Rattle.jx_marker.specs.Rules.{progression_fits}
use Rattle.jx_codestream.specs.declared.headers.HeaderKind.TheVariants.{Main, First}
use Rattle.jx_codestream.specs.declared.Tile.{Tile}
use Rattle.jx_codestream.specs.declared.Stream.{Stream}
use Rattle.jx_codestream.specs.Tiles.{is_com}
use Rattle.jx_codestream.specs.First.{tile_number, tiles_fault, lacks_default}
use Rattle.jx_codestream.specs.Params.{tile_has_too_few, planes_fault}
use Rattle.jx_codestream.specs.Spells.{AreSegments}

-- a COM segment
pub record IsNote (comps : ℕ) (s : Segment) : Type 0 where
  pub range : InRange comps s
  pub is : is_com s ≡ true

-- an entry that a POC can have
pub record IsEntry (comps : ℕ) (e : Progression) : Type 0 where
  pub fits : progression_fits e ≡ true
  pub range : ProgressionInRange comps e

pub record IsHeaded (comps : ℕ) (t : Tile) : Type 0 where
  pub header : AreSegments First comps [] t.header
  pub notes : All (IsNote comps) t.notes
  pub progressions : All (IsEntry comps) t.progressions

pub record HeadersStand (s : Stream) : Type 0 where
  -- rules 1 to 5
  pub siz : SizInRange s.siz
  -- limit 3
  pub few : tiles_fault s.siz ≡ None
  -- rules 1 to 14, 18 and 19
  pub main : AreSegments Main (length s.siz.comps) [] s.main
  -- rule 17
  pub defaults : lacks_default s.main ≡ false
  pub count : length s.tiles ≡ tile_number s.siz
  pub each : All (IsHeaded (length s.siz.comps)) s.tiles
  -- rule 9
  pub entries : find (tile_has_too_few s.main (length s.siz.comps)) s.tiles ≡ None
  -- limit 4
  pub planes : planes_fault s.main (length s.siz.comps) s.tiles ≡ None
