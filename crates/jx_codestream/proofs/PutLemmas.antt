-- The shapes of a tile's components by a COD or those of the main header, then those that its header names.
use Rattle.std.proofs.Common.{◌≡◌, ◌∙◌, ◌<◌, ◌≤◌, ◌+◌, ℕ, suc, false, arith, add-one, ap, drop, sym, refl, subst, List, [], ◌∷◌, length, map, get_or, Some, None, inl, inr}
use Rattle.std.specs.List.{range_with_len}
use Rattle.std.proofs.Math.ListN.{set}
use Rattle.std.proofs.Math.Seq.{drop-cons}
use Rattle.std.proofs.lemmas.Bool.{cases_eq, ne_eqb}
use Rattle.std.proofs.lemmas.Grind.{get_or-set_at}
use Rattle.std.proofs.lemmas.List.{drop_all, get_or-set_other, length-set}
use Rattle.std.proofs.lemmas.List.FromFn.{fill_by_all, get_or-map-range_with_len, length-map-range_with_len}
use Rattle.jx_marker.specs.declared.Segment.{Segment}
use Rattle.jx_geom.specs.declared.shape.CompShape.{CompShape}
use Rattle.jx_geom.specs.Geometry.{no_shape}
use Rattle.jx_codestream.specs.Headers.{cod_slot}
use Rattle.jx_codestream.specs.Tiles.{in_slot}
use Rattle.jx_codestream.specs.Index.{comp_named, has_named}
use Rattle.jx_codestream.specs.Params.{shape_in, shape_of, shape_or}
use Rattle.jx_codestream.specs.Shapes.{HasShapes, comp_shape, divided, no_size, shapes_in, sized}
use Rattle.jx_codestream.specs.TileHeaders.{MainHeaders, TileHeaders, with_own}
use Rattle.jx_codestream.proofs.NamedLemmas.{no_own}
use Rattle.jx_codestream.proofs.ViewLemmas.{shapes_made}

-- a component of which a tile's header says nothing by itself
uncoded_by : (own main : List Segment) (comp : ℕ) → in_slot cod_slot own ≡ None → has_named comp own ≡ false → shape_of own main comp ≡ shape_of [] main comp
uncoded_by own main comp none unnamed = rw (no_own comp 261 own (omega arith) (omega arith) unnamed, none) refl

coded_by : (own main : List Segment) (comp : ℕ) (s : Segment) → in_slot cod_slot own ≡ Some s → has_named comp own ≡ false → shape_of own main comp ≡ shape_in (Some s)
coded_by own main comp s some unnamed = rw (no_own comp 261 own (omega arith) (omega arith) unnamed, some) refl

-- a list by components, where it is right for those that the header doesn't name
listed_by : (h : TileHeaders) (f : ℕ → CompShape) (list : List CompShape) → list ≡ map f (range_with_len 0 (length h.siz.comps))
    → ((comp : ℕ) → has_named comp h.own ≡ false → f comp ≡ comp_shape h comp) → HasShapes h h.own list
listed_by h f list is right = record {
  size = ap (λ (xs : List CompShape). length xs) is ∙ length-map-range_with_len f 0 (length h.siz.comps);
  each = λ comp inside unnamed. ap (λ (xs : List CompShape). get_or xs comp no_shape) is
      ∙ get_or-map-range_with_len f 0 (length h.siz.comps) comp comp no_shape inside (omega arith) ∙ right comp unnamed;
}

pub by_main : (m : MainHeaders) (own : List Segment) (list : List CompShape) → in_slot cod_slot own ≡ None → list ≡ shapes_in (with_own m []) → HasShapes (with_own m own) own list
by_main m own list none is =
    listed_by (with_own m own) (comp_shape (with_own m [])) list (is ∙ shapes_made (with_own m []))
    (λ comp unnamed. rw (uncoded_by own m.main comp none unnamed) refl)

pub by_cod : (m : MainHeaders) (own : List Segment) (s : Segment) (list : List CompShape) → in_slot cod_slot own ≡ Some s
    → list ≡ map (sized m.siz (divided no_size (shape_or (shape_in (Some s))))) (range_with_len 0 (length m.siz.comps)) → HasShapes (with_own m own) own list
by_cod m own s list some is =
    listed_by (with_own m own) (sized m.siz (divided no_size (shape_or (shape_in (Some s))))) list is
    (λ comp unnamed. rw (coded_by own m.main comp s some unnamed) refl)

-- one segment less that is left
module _ (h : TileHeaders) (s : Segment) (left : List Segment) (list : List CompShape) (has : HasShapes h (s ∷ left) list) where
  pub unnamed_left : comp_named s ≡ None → HasShapes h left list
  unnamed_left none = record { size = has.size; each = λ comp inside unnamed. has.each comp inside (rw none unnamed) }

  pub outside_left : (named : ℕ) → comp_named s ≡ Some named → length list ≤ named → HasShapes h left list
  outside_left named is past = record {
    size = has.size;
    each = λ comp inside unnamed.
        has.each comp inside (rw (is, ne_eqb named comp (λ e. absurd (omega (arith, has.size)))) unnamed);
  }

  pub put_left : (named : ℕ) (shape : CompShape) → comp_named s ≡ Some named → named < length list → shape ≡ comp_shape h named → HasShapes h left (set list named shape)
  put_left named shape is within right = record {
    size = length-set {A = CompShape} list named shape ∙ has.size;
    each = λ comp inside unnamed. elim (cases_eq comp named) [
      | inl same ↦ get_or-set_at list named comp shape no_shape same within ∙ right ∙ ap (comp_shape h) (sym same)
      | inr other ↦ get_or-set_other list named comp shape no_shape other ∙ has.each comp inside (rw (is, ne_eqb named comp (λ e. other (sym e))) unnamed)
    ];
  }

-- the segments one by one
pub left_on : (h : TileHeaders) (segments : List Segment) (i : ℕ) (s : Segment) (list : List CompShape) → i < length segments → s ≡ get_or segments i s
    → HasShapes h (drop i segments) list → HasShapes h (s ∷ drop (i + 1) segments) list
left_on h segments i s list lt is has =
    let split : drop i segments ≡ s ∷ drop (i + 1) segments =
    drop-cons segments i s lt ∙ ap (λ (x : Segment). x ∷ drop (suc i) segments) (sym is) ∙ ap (λ (n : ℕ). s ∷ drop n segments) (sym (add-one i)) in
    subst (λ (ss : List Segment). HasShapes h ss list) split has

pub none_left : (h : TileHeaders) (segments : List Segment) (i : ℕ) (list : List CompShape) → length segments ≤ i → HasShapes h (drop i segments) list → list ≡ shapes_in h
none_left h segments i list past has =
    let all = subst (λ (ss : List Segment). HasShapes h ss list) (drop_all i segments past) has in
    fill_by_all (comp_shape h) list (length h.siz.comps) no_shape has.size (λ comp inside. all.each comp inside refl) ∙ sym (shapes_made h)
