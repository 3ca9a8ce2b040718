-- The code-blocks that are left are those of the stream that is left.
use Rattle.std.proofs.Common.{◌≡◌, ◌∙◌, ℕ, ◌+◌, ◌-◌, ◌≤◌, ◌<◌, Bool, nat_le, List, length, map, refl, sym, ap, subst, arith, Option, None, Some}
use Rattle.std.specs.Prelude.{slice_get}
use Rattle.std.specs.List.{All, filter}
use Rattle.std.specs.Option.{option_map}
use Rattle.std.proofs.lemmas.List.{length-map}
use Rattle.std.proofs.lemmas.List.Elements.{All-filter, All-weaker}
use Rattle.std.proofs.lemmas.Option.{slice_get-map, slice_get_within}
use Rattle.jx_base.specs.declared.names.BlockName.{BlockName}
use Rattle.jx_base.specs.declared.pieces.Block.{Block}
use Rattle.jx_base.specs.Pieces.{PieceValue}
use Rattle.jx_base.proofs.Lists.{all_at, all_from, same_gets}
use Rattle.jx_geom.specs.declared.shape.Canvas.{Canvas}
use Rattle.jx_geom.specs.declared.shape.CompShape.{CompShape}
use Rattle.jx_geom.specs.Geometry.{no_shape, shape_of}
use Rattle.jx_geom.specs.Numbering.{IsBlock, block_number, blocks_of_all}
use Rattle.jx_geom.specs.Rects.{tile_rect}
use Rattle.jx_geom.proofs.NumberLemmas.{block_number_taken}
use Rattle.jx_codestream.specs.declared.Stream.{Stream}
use Rattle.jx_codestream.specs.First.{canvas_of}
use Rattle.jx_codestream.specs.Params.{headers_at, params_of}
use Rattle.jx_codestream.specs.Shapes.{geometry, shapes_of}
use Rattle.jx_codestream.proofs.RangeLemmas.{shapes_at, shapes_length}
use Rattle.jx_tile.specs.Totals.{block_total}
use Rattle.jx_tier2_reader.specs.BlockOf.{AreBlocksOf, IsBlockOf, IsFoundOf}
use Rattle.jx_plan.specs.Standing.{HeadersStand}
use Rattle.jx_plan.proofs.PlanLemmas.{block_at}
use Rattle.jx_reduce.specs.Reduction.{blocks_left, is_left, stream_left}
use Rattle.jx_reduce.proofs.CountLemmas.{all_names_left, blocks_now}
use Rattle.jx_reduce.proofs.HeaderLemmas.{IsClear}
use Rattle.jx_reduce.proofs.LeftNames.{is_low}
use Rattle.jx_reduce.proofs.LevelLemmas.{IsLower, low_rect}
use Rattle.jx_reduce.proofs.ListLemmas.{filter_map_of, filter_same}
use Rattle.jx_reduce.proofs.NameLemmas.{all_long, name_at, names_of_all}
use Rattle.jx_reduce.proofs.ParameterLemmas.{are_lower, layers_same, planes_same, style_same}

abbrev pub name_of : Block → BlockName
name_of b = b.name

-- what is known of each code-block of a stream
pub record IsNamed (s : Stream) (b : Block) : Type 0 where
  pub there : IsBlock (canvas_of s.siz) (shapes_of s) b.name
  pub is : IsBlockOf s b.name b

named_by : (s : Stream) (n : BlockName) (b : Block) → IsBlock (canvas_of s.siz) (shapes_of s) n → IsBlockOf s n b → IsNamed s b
named_by s n b there is = record {
  there = subst (IsBlock (canvas_of s.siz) (shapes_of s)) (sym is.name) there;
  is = subst (λ (m : BlockName). IsBlockOf s m b) (sym is.name) is;
}

found_name : (s : Stream) (n : BlockName) (o : Option Block) → IsFoundOf s n o → option_map name_of o ≡ Some n
found_name s n None is = absurd is
found_name s n (Some b) is = ap Some is.name

module _ (s : Stream) (blocks : List Block) (are : AreBlocksOf s blocks) where
  total_is : block_total s ≡ blocks_of_all (canvas_of s.siz) (shapes_of s)
  unfolding block_total
  total_is = refl

  pub each_named : All (IsNamed s) blocks
  each_named = all_from (IsNamed s) blocks (λ i b at.
      (let found = block_at s blocks i b are at (slice_get_within blocks i b at) in
      named_by s found.0 b found.1.0 found.1.1))

  name_in : (i : ℕ) → i < length blocks → slice_get (map name_of blocks) i ≡ slice_get (names_of_all (canvas_of s.siz) (shapes_of s)) i
  name_in i lt =
      let c : Canvas = canvas_of s.siz in
      let taken = block_number_taken c (shapes_of s) i (omega (arith, lt, are.all, total_is)) in
      let n : BlockName = taken.0 in
      let found : IsFoundOf s n (slice_get blocks i) = subst (λ (k : ℕ). IsFoundOf s n (slice_get blocks k)) taken.1.1 (are.each n taken.1.0) in
      slice_get-map name_of blocks i ∙ found_name s n (slice_get blocks i) found ∙ sym (name_at c (shapes_of s) n taken.1.0)
      ∙ ap (λ (k : ℕ). slice_get (names_of_all c (shapes_of s)) k) taken.1.1

  pub names_are : map name_of blocks ≡ names_of_all (canvas_of s.siz) (shapes_of s)
  names_are =
      let long : length (map name_of blocks) ≡ length blocks = length-map blocks name_of in
      same_gets (map name_of blocks) (names_of_all (canvas_of s.siz) (shapes_of s)) (omega (arith, long, are.all, total_is, all_long (canvas_of s.siz) (shapes_of s)))
      (λ i lt. name_in i (omega (arith, lt, long)))

  module _ (d : ℕ) (clear : IsClear d s) (stand : HeadersStand s) where
    same_test : (b : Block) → IsNamed s b → is_left (headers_at s b.name.tile) d b ≡ is_low (canvas_of s.siz) (shapes_of s) d b.name
    same_test b named =
        let inside : b.name.comp < length s.siz.comps = omega (arith, named.there.1.resolution.component, shapes_length s b.name.tile) in
        ap (λ (n : ℕ). nat_le (b.name.res + d) n) (ap (λ (x : CompShape). x.levels) (sym (shapes_at s b.name.tile b.name.comp no_shape inside)))

    left_is : blocks_left d s blocks ≡ filter (λ (b : Block). is_low (canvas_of s.siz) (shapes_of s) d (name_of b)) blocks
    unfolding blocks_left
    left_is =
        filter_same (λ (b : Block). is_left (headers_at s b.name.tile) d b) (λ (b : Block). is_low (canvas_of s.siz) (shapes_of s) d (name_of b)) blocks
        (All-weaker (IsNamed s) (λ (b : Block). is_left (headers_at s b.name.tile) d b ≡ is_low (canvas_of s.siz) (shapes_of s) d (name_of b)) same_test blocks each_named)

    names_now : map name_of (blocks_left d s blocks) ≡ names_of_all (canvas_of s.siz) (shapes_of (stream_left d s))
    names_now =
        let p : BlockName → Bool = is_low (canvas_of s.siz) (shapes_of s) d in
        ap (λ (l : List Block). map name_of l) left_is ∙ filter_map_of p name_of blocks ∙ ap (λ (l : List BlockName). filter p l) names_are ∙ all_names_left d s clear stand

    pub left_named : All (IsNamed s) (blocks_left d s blocks)
    unfolding blocks_left
    left_named = All-filter (λ (b : Block). is_left (headers_at s b.name.tile) d b) (IsNamed s) blocks each_named

    -- a code-block of a name that is left
    block_now : (n : BlockName) (b : Block) → IsBlock (canvas_of s.siz) (shapes_of (stream_left d s)) n → IsBlockOf s n b → IsBlockOf (stream_left d s) n b
    unfolding stream_left
    block_now n b there is =
        let lower = are_lower s stand d clear n.tile in
        let inside : n.comp < length (shapes_of s n.tile) = omega (arith, there.1.resolution.component, lower.long) in
        let low : IsLower d (shape_of (geometry s n.tile) n.comp) (shape_of (geometry (stream_left d s) n.tile) n.comp) = lower.each n.comp inside in
        let le : n.res ≤ (shape_of (geometry (stream_left d s) n.tile) n.comp).levels = there.1.resolution.level in
        let within : n.comp < length s.siz.comps = omega (arith, inside, shapes_length s n.tile) in
        let levels : (shape_of (geometry s n.tile) n.comp).levels ≡ (params_of s n.tile n.comp).levels = ap (λ (x : CompShape). x.levels) (shapes_at s n.tile n.comp no_shape within) in
        let few : n.res ≤ (params_of s n.tile n.comp).levels - d = omega (arith, le, low.levels, levels) in
        record {
          name = is.name;
          rect = is.rect ∙ sym (low_rect d (tile_rect (canvas_of s.siz) n.tile) (shape_of (geometry s n.tile) n.comp) (shape_of (geometry (stream_left d s) n.tile) n.comp) low n.res n.band n.index le);
          planes = is.planes ∙ sym (planes_same d s n.tile n.comp n.res n.band few);
          style = is.style ∙ sym (style_same d s n.tile n.comp);
          empty = is.empty;
          layers = subst (λ (m : ℕ). All (λ (p : PieceValue). p.layer < m) b.pieces) (sym (layers_same d s n.tile)) is.layers;
          few = is.few;
          cuts = is.cuts;
        }

    found_by : (n : BlockName) (k : ℕ) (o : Option Block) → IsBlock (canvas_of s.siz) (shapes_of (stream_left d s)) n → slice_get (blocks_left d s blocks) k ≡ o → option_map name_of o ≡ Some n
        → IsFoundOf (stream_left d s) n o
    found_by n k None there at e = absurd (cc)
    found_by n k (Some b) there at e =
        let named : IsNamed s b = all_at (IsNamed s) (blocks_left d s blocks) k b left_named at in
        let same : b.name ≡ n = cc in
        block_now n b there (subst (λ (m : BlockName). IsBlockOf s m b) same named.is)

    pub left_are : AreBlocksOf (stream_left d s) (blocks_left d s blocks)
    unfolding stream_left
    left_are =
        let c : Canvas = canvas_of s.siz in
        let ys : ℕ → List CompShape = shapes_of (stream_left d s) in
        let left : List Block = blocks_left d s blocks in
        record {
          all = sym (length-map left name_of) ∙ ap (λ (l : List BlockName). length l) names_now ∙ all_long c ys ∙ sym (blocks_now d s clear stand);
          each = λ n is.
              (let k : ℕ = block_number c ys n in
              found_by n k (slice_get left k) is refl (sym (slice_get-map name_of left k) ∙ ap (λ (l : List BlockName). slice_get l k) names_now ∙ name_at c ys n is));
        }
