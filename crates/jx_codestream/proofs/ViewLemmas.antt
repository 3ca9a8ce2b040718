-- The shapes of a tile's components, one by one.
use Rattle.std.proofs.Common.{◌≡◌, ◌∙◌, ◌+◌, ◌++◌, ◌∷◌, [], ap, sym, refl, arith, ℕ, map, List, length}
use Rattle.std.specs.List.{range_with_len}
use Rattle.std.proofs.lemmas.List.FromFn.{map-range_with_len_more}
use Rattle.jx_geom.specs.declared.shape.CompShape.{CompShape}
use Rattle.jx_codestream.specs.TileHeaders.{TileHeaders}
use Rattle.jx_codestream.specs.Shapes.{comp_shape, shapes_in}

pub shape_pushed : (f : ℕ → CompShape) (before after : List CompShape) (n : ℕ) (shape : CompShape) → after ≡ before ++ shape ∷ [] → shape ≡ f n → before ≡ map f (range_with_len 0 n)
    → after ≡ map f (range_with_len 0 (n + 1))
shape_pushed f before after n shape push is so_far =
    push ∙ ap (λ (x : List CompShape). x ++ shape ∷ []) so_far ∙ ap (λ (x : CompShape). map f (range_with_len 0 n) ++ x ∷ []) is
    ∙ sym (map-range_with_len_more f 0 n n (omega arith))

pub shapes_made : (h : TileHeaders) → shapes_in h ≡ map (comp_shape h) (range_with_len 0 (length h.siz.comps))
unfolding shapes_in
shapes_made h = refl
