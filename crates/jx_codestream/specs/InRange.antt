-- What holds of headers that were read: the ranges that geometry and the crates above ask for.
use Rattle.std.specs.Prelude.{◌≡◌, ◌<◌, ◌≤◌, ◌^◌, ℕ, length}
use Rattle.std.specs.List.{All}
use Rattle.jx_base.specs.OrderNumbers.{IsOrderNumber}
use Rattle.jx_base.specs.declared.names.Band.{Band}
use Rattle.jx_geom.specs.Ranges.{CanvasInRange, HasBand}
use Rattle.jx_geom.specs.Geometry.{ShapesInRange, HasResolution}
use Rattle.jx_marker.specs.declared.Progression.{Progression}
use Rattle.jx_codestream.specs.declared.Stream.{Stream}
use Rattle.jx_codestream.specs.TileHeaders.{TileHeaders}
use Rattle.jx_codestream.specs.First.{canvas_of, tile_number}
use Rattle.jx_codestream.specs.Params.{params_in, planes_in, planes_at}
use Rattle.jx_codestream.specs.Shapes.{shapes_in, layers_in, style_in, shapes_of, geometry, layers_of, style_of, tile_at}

-- the headers of a tile: rules 4, 6, 8 and 11, limit 4
pub record HeadersInRange (h : TileHeaders) : Type 0 where
  pub canvas : CanvasInRange (canvas_of h.siz)
  pub some_comps : 1 ≤ length h.siz.comps
  pub few_comps : length h.siz.comps ≤ 16384
  pub shapes : ShapesInRange (shapes_in h)
  pub some_layers : 1 ≤ layers_in h
  pub few_layers : layers_in h < 2 ^ 16
  pub style : (c : ℕ) → style_in h c < 256
  pub planes : (c r : ℕ) (b : Band) → c < length h.siz.comps → r ≤ (params_in h c).levels → HasBand r b → planes_in h c r b ≤ 74

-- all headers: the same, and limit 3
pub record StreamInRange (s : Stream) : Type 0 where
  pub canvas : CanvasInRange (canvas_of s.siz)
  pub some_comps : 1 ≤ length s.siz.comps
  pub few_comps : length s.siz.comps ≤ 16384
  pub few_tiles : tile_number s.siz ≤ 65535
  pub tiles : length s.tiles ≡ tile_number s.siz
  pub shapes : (t : ℕ) → t < tile_number s.siz → ShapesInRange (shapes_of s t)
  pub some_layers : (t : ℕ) → t < tile_number s.siz → 1 ≤ layers_of s t
  pub few_layers : (t : ℕ) → t < tile_number s.siz → layers_of s t < 2 ^ 16
  pub style : (t c : ℕ) → t < tile_number s.siz → style_of s t c < 256
  pub orders : (t : ℕ) → t < tile_number s.siz → All (λ (e : Progression). IsOrderNumber e.order) (tile_at s t).progressions
  pub planes : (t c r : ℕ) (b : Band) → t < tile_number s.siz → HasResolution (geometry s t) c r → HasBand r b → planes_at s t c r b ≤ 74
