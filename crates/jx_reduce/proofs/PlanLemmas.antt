-- What is left of a codestream may be planned again.
use Rattle.std.proofs.Common.{◌≡◌, ◌∙◌, ℕ, ◌-◌, ◌≤◌, ◌<◌, List, length, get_or, sym, ap, subst, arith, None}
use Rattle.std.specs.List.{All}
use Rattle.std.proofs.lemmas.List.{get_or-map, length-map}
use Rattle.std.proofs.lemmas.List.Elements.{All-filter, All-weaker}
use Rattle.jx_base.specs.declared.pieces.Block.{Block}
use Rattle.jx_base.specs.OrderNumbers.{IsOrderNumber}
use Rattle.jx_base.specs.Sound.{IsSound}
use Rattle.jx_marker.specs.declared.Progression.{Progression}
use Rattle.jx_geom.specs.declared.shape.CompShape.{CompShape}
use Rattle.jx_geom.specs.Geometry.{HasResolution, no_shape}
use Rattle.jx_codestream.specs.declared.Tile.{Tile}
use Rattle.jx_codestream.specs.declared.Stream.{Stream}
use Rattle.jx_codestream.specs.First.{tile_number}
use Rattle.jx_codestream.specs.InRange.{StreamInRange}
use Rattle.jx_codestream.specs.Params.{headers_at, params_of}
use Rattle.jx_codestream.specs.Shapes.{geometry, no_tile, shapes_of, tile_at}
use Rattle.jx_codestream.proofs.RangeLemmas.{shapes_at, shapes_length}
use Rattle.jx_plan.specs.Plan.{MayBePlanned}
use Rattle.jx_plan.specs.Standing.{HeadersStand}
use Rattle.jx_reduce.specs.Reduction.{blocks_left, is_left, stream_left, tile_left}
use Rattle.jx_reduce.specs.Unreducible.{first_choice}
use Rattle.jx_reduce.proofs.BlockLemmas.{IsNamed, each_named, left_are}
use Rattle.jx_reduce.proofs.CountLemmas.{totals_left}
use Rattle.jx_reduce.proofs.HeaderLemmas.{IsClear, is_clear}
use Rattle.jx_reduce.proofs.ParameterLemmas.{are_lower, comps_long, layers_same, planes_same, shapes_in_range, style_same}
use Rattle.jx_reduce.proofs.StandLemmas.{left_stands}

module _ (d : ℕ) (s : Stream) (clear : IsClear d s) (stand : HeadersStand s) where
  -- a resolution that is left was there
  pub record WasThere (t c r : ℕ) : Type 0 where
    pub there : HasResolution (geometry s t) c r
    pub low : r ≤ (params_of s t c).levels - d

  pub was_there : (t c r : ℕ) → HasResolution (geometry (stream_left d s) t) c r → WasThere t c r
  was_there t c r has =
      let lower = are_lower s stand d clear t in
      let inside : c < length (shapes_of s t) = omega (arith, has.component, lower.long) in
      let within : c < length s.siz.comps = omega (arith, inside, shapes_length s t) in
      let levels : (get_or (shapes_of s t) c no_shape).levels ≡ (params_of s t c).levels = ap (λ (x : CompShape). x.levels) (shapes_at s t c no_shape within) in
      record {
        there = record { component = inside; level = omega (arith, has.level, (lower.each c inside).levels) };
        low = omega (arith, has.level, (lower.each c inside).levels, levels);
      }

  pub progressions_same : (t : ℕ) → t < length s.tiles → (tile_at (stream_left d s) t).progressions ≡ (tile_at s t).progressions
  unfolding stream_left
  progressions_same t inside = ap (λ (x : Tile). x.progressions) (get_or-map (tile_left d) s.tiles t no_tile no_tile inside)

  pub left_in_range : StreamInRange s → StreamInRange (stream_left d s)
  unfolding stream_left
  left_in_range r =
      let long : length (stream_left d s).siz.comps ≡ length s.siz.comps = comps_long d s in
      record {
        canvas = r.canvas;
        some_comps = omega (arith, long, r.some_comps);
        few_comps = omega (arith, long, r.few_comps);
        few_tiles = r.few_tiles;
        tiles = length-map s.tiles (tile_left d) ∙ r.tiles;
        shapes = λ t inside. shapes_in_range (stream_left d s) (left_stands d s clear stand) t;
        some_layers = λ t inside. omega (arith, layers_same d s t, r.some_layers t inside);
        few_layers = λ t inside. omega (arith, layers_same d s t, r.few_layers t inside);
        style = λ t c inside. omega (arith, style_same d s t c, r.style t c inside);
        orders = λ t inside. subst (λ (xs : List Progression). All (λ (e : Progression). IsOrderNumber e.order) xs) (sym (progressions_same t (omega (arith, inside, r.tiles)))) (r.orders t inside);
        planes = λ t c res band inside there has.
            (let was : WasThere t c res = was_there t c res there in
            omega (arith, planes_same d s t c res band was.low, r.planes t c res band inside was.there has));
      }

-- each code-block lies in a tile of the picture
pub tiles_inside : (s : Stream) (blocks : List Block) → MayBePlanned s blocks → All (λ (b : Block). b.name.tile < tile_number s.siz) blocks
tiles_inside s blocks may =
    All-weaker (IsNamed s) (λ (b : Block). b.name.tile < tile_number s.siz) (λ b named. named.there.0) blocks (each_named s blocks may.blocks_are)

sound_left : (d : ℕ) (s : Stream) (blocks : List Block) → All IsSound blocks → All IsSound (blocks_left d s blocks)
unfolding blocks_left
sound_left d s blocks sound = All-filter (λ (b : Block). is_left (headers_at s b.name.tile) d b) IsSound blocks sound

pub left_may : (d : ℕ) (s : Stream) (blocks : List Block) → MayBePlanned s blocks → first_choice d s ≡ None → MayBePlanned (stream_left d s) (blocks_left d s blocks)
left_may d s blocks may none =
    let clear : IsClear d s = is_clear d s none in
    record {
      headers = left_stands d s clear may.headers;
      range = left_in_range d s clear may.headers may.range;
      totals = totals_left d s clear may.headers may.totals;
      blocks_are = left_are s blocks may.blocks_are d clear may.headers;
      sound = sound_left d s blocks may.sound;
    }

-- the same of a stream and blocks that are equal to these
pub may_of : (d : ℕ) (s o : Stream) (blocks others : List Block) → o ≡ stream_left d s → others ≡ blocks_left d s blocks → MayBePlanned s blocks → first_choice d s ≡ None → MayBePlanned o others
may_of d s o blocks others e h may none = rw (e, h) (left_may d s blocks may none)
