-- A stream that has the canvas, planes and styles of another, and shapes that give the same code-blocks, has its code-blocks.
use Rattle.std.proofs.Common.{◌≡◌, ◌∙◌, ◌<◌, ◌≤◌, ℕ, List, refl, sym, ap, subst}
use Rattle.jx_base.specs.declared.names.Band.{Band}
use Rattle.jx_base.specs.declared.names.BlockName.{BlockName}
use Rattle.jx_geom.specs.declared.shape.Canvas.{Canvas}
use Rattle.jx_geom.specs.declared.shape.CompShape.{CompShape}
use Rattle.jx_geom.specs.Rects.{block_rect, tile_rect}
use Rattle.jx_geom.specs.Geometry.{Geometry, shape_of}
use Rattle.jx_geom.specs.Numbering.{IsBlock, block_number, blocks_of_all}
use Rattle.jx_geom.specs.Same.{AllSameBlocks}
use Rattle.jx_geom.proofs.SameLemmas.{same_there, same_places, same_block_number}
use Rattle.jx_codestream.specs.declared.Stream.{Stream}
use Rattle.jx_codestream.specs.First.{canvas_of, tile_number}
use Rattle.jx_codestream.specs.Params.{planes_at}
use Rattle.jx_codestream.specs.Shapes.{shapes_of, geometry, layers_of, style_of}
use Rattle.jx_tile.specs.Totals.{block_total}
use Rattle.jx_tier2_reader.specs.Another.{rect_in, HaveSameBlocks}
use Rattle.jx_plan.proofs.SameLemmas.{same_of_all}

pub blocks_are : (s : Stream) → block_total s ≡ blocks_of_all (canvas_of s.siz) (shapes_of s)
unfolding block_total
blocks_are s = refl

geometry_same : (c d : Canvas) (xs ys : List CompShape) (t : ℕ) → c ≡ d → xs ≡ ys
    → ◌≡◌ {A = Geometry} (record { canvas = c; tile = t; shapes = xs }) (record { canvas = d; tile = t; shapes = ys })
geometry_same c d xs ys t e h = rw (e, h) refl

pub geometries : (s w : Stream) → canvas_of w.siz ≡ canvas_of s.siz → ((t : ℕ) → shapes_of w t ≡ shapes_of s t) → (t : ℕ) → geometry w t ≡ geometry s t
geometries s w canvas shapes t = geometry_same (canvas_of w.siz) (canvas_of s.siz) (shapes_of w t) (shapes_of s t) t canvas (shapes t)

-- shapes have the blocks that they have
own_blocks : (xs : List CompShape) → AllSameBlocks xs xs
own_blocks xs = record { long = refl; each = λ c inside. record { step_across = refl; step_down = refl; levels = refl; across = λ r le. refl; down = λ r le. refl } }

pub same_shapes : (xs ys : List CompShape) → ys ≡ xs → AllSameBlocks xs ys
same_shapes xs ys e = rw e (own_blocks xs)

module _ (s w : Stream) (canvas : canvas_of w.siz ≡ canvas_of s.siz) (same : (t : ℕ) → t < tile_number s.siz → AllSameBlocks (shapes_of s t) (shapes_of w t)) where
  pub there : (n : BlockName) → IsBlock (canvas_of w.siz) (shapes_of w) n → IsBlock (canvas_of s.siz) (shapes_of s) n
  there n is =
      let P : Canvas → Type 0 = λ c. IsBlock c (shapes_of w) n in
      let here : IsBlock (canvas_of s.siz) (shapes_of w) n = subst P canvas is in
      (here.0, (same_there (canvas_of s.siz) n.tile (shapes_of s n.tile) (shapes_of w n.tile) n (same n.tile here.0)).1 here.1)

  pub number_same : (n : BlockName) → IsBlock (canvas_of w.siz) (shapes_of w) n → block_number (canvas_of s.siz) (shapes_of s) n ≡ block_number (canvas_of w.siz) (shapes_of w) n
  number_same n is =
      same_block_number (canvas_of s.siz) (shapes_of s) (shapes_of w) n same (there n is)
      ∙ ap (λ (c : Canvas). block_number c (shapes_of w) n) (sym canvas)

  pub rect_same : (n : BlockName) → IsBlock (canvas_of w.siz) (shapes_of w) n → rect_in s n ≡ rect_in w n
  rect_same n is =
      let here = there n is in
      same_places (canvas_of s.siz) n.tile (shapes_of s n.tile) (shapes_of w n.tile) n (same n.tile here.0) here.1
      ∙ ap (λ (c : Canvas). block_rect (tile_rect c n.tile) (shape_of (geometry w n.tile) n.comp) n.res n.band n.index) (sym canvas)

  pub totals_same : block_total s ≡ block_total w
  totals_same =
      blocks_are s ∙ same_of_all (canvas_of s.siz) (shapes_of s) (shapes_of w) same ∙ ap (λ (c : Canvas). blocks_of_all c (shapes_of w)) (sym canvas) ∙ sym (blocks_are w)

  pub blocks_same : ((t c r : ℕ) (band : Band) → planes_at w t c r band ≡ planes_at s t c r band) → ((t c : ℕ) → style_of w t c ≡ style_of s t c)
      → ((t : ℕ) → t < tile_number s.siz → layers_of s t ≤ layers_of w t) → HaveSameBlocks s w
  blocks_same planes style layers = record {
    all = totals_same;
    each = λ n is. record {
      there = there n is;
      number = number_same n is;
      rect = rect_same n is;
      planes = sym (planes n.tile n.comp n.res n.band);
      style = sym (style n.tile n.comp);
      layers = layers n.tile (there n is).0;
    };
  }
