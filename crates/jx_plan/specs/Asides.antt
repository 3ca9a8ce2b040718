-- Segments that say nothing of how a tile is coded: comments and packet lengths (ITU-T T.800, A.7.3 and A.9.2). And the informational ones,
-- which are kept, and what is left out of the headers that are written.
use Rattle.std.specs.Prelude.{◌≡◌, ◌<◌, ℕ, Bool, true, false, List, ◌++◌, length}
use Rattle.std.specs.List.{All}
use Rattle.jx_marker.specs.declared.Segment.{Segment}
use Rattle.jx_marker.specs.declared.Segment.TheVariants as segment
use Rattle.jx_marker.specs.Ranges.{InRange}
use Rattle.jx_codestream.specs.declared.Tile.{Tile}
use Rattle.jx_codestream.specs.declared.Stream.{Stream}
use Rattle.jx_codestream.specs.Shapes.{tile_at}

abbrev pub is_aside : Segment → Bool
is_aside (segment.Com bytes) = true
is_aside (segment.Plt bytes) = true
is_aside _ = false

abbrev pub is_plt : Segment → Bool
is_plt (segment.Plt bytes) = true
is_plt _ = false

-- the informational segments (A.9): CRG and COM
abbrev pub is_informational : Segment → Bool
is_informational (segment.Crg bytes) = true
is_informational (segment.Com bytes) = true
is_informational _ = false

-- what no written header has: TLM, PLM, PPM, PPT and the markers FF30 to FF3F (A.7.1, A.7.2, A.7.4, A.7.5 and Table A.1)
abbrev pub is_left_out : Segment → Bool
is_left_out (segment.Tlm bytes) = true
is_left_out (segment.Plm bytes) = true
is_left_out (segment.Ppm index bytes) = true
is_left_out (segment.Ppt index bytes) = true
is_left_out (segment.Skipped code) = true
is_left_out _ = false

-- COM or PLT
pub record IsAside (comps : ℕ) (s : Segment) : Type 0 where
  pub range : InRange comps s
  pub is : is_aside s ≡ true

-- a tile with such segments at the end of its header; its place, its notes and its data may be others
pub record IsTileWithMore (comps : ℕ) (t other : Tile) : Type 0 where
  pub more : List Segment
  pub asides : All (IsAside comps) more
  pub header : other.header ≡ t.header ++ more
  pub progressions : other.progressions ≡ t.progressions

-- a stream of such tiles
pub record IsWithMore (s other : Stream) : Type 0 where
  pub siz : other.siz ≡ s.siz
  pub main : other.main ≡ s.main
  pub count : length other.tiles ≡ length s.tiles
  pub each : (t : ℕ) → t < length s.tiles → IsTileWithMore (length s.siz.comps) (tile_at s t) (tile_at other t)
