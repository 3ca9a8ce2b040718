-- The precincts of a tile by name: where each stands, and how the list of resolutions has them.
use Rattle.std.proofs.Common.{◌≡◌, ℕ, zero, suc, ◌+◌, ◌<◌, [], length, inl, inr, ◌∙◌, ap, sym, refl, arith, Some}
use Rattle.std.specs.List.{flat_map, slice_get}
use Rattle.std.proofs.lemmas.Bool.{cases_lt}
use Rattle.jx_base.specs.Joined.{joined, sum_below}
use Rattle.jx_base.specs.Places.{size_of}
use Rattle.jx_base.proofs.Joined.{joined_none, joined_length, joined_at}
use Rattle.jx_base.proofs.Sums.{whole_sum}
use Rattle.jx_geom.specs.Counts.{precinct_count, component_precincts, tile_precincts}
use Rattle.jx_geom.specs.Geometry.{Geometry, no_shape, rect_of_tile, shape_of, precincts_in}
use Rattle.jx_geom.specs.Precincts.{HasPrecinct, precinct_number}
use Rattle.jx_geom.specs.Rects.{component_rect}
use Rattle.jx_geom.specs.Resolutions.{resolutions_of}
use Rattle.jx_geom.proofs.EmptyLemmas.{some_precinct}
use Rattle.jx_geom.proofs.PrecinctLemmas.{precinct_number_is, precinct_within}
use Rattle.jx_progression.specs.Steps.{name_of}
use Rattle.jx_tier2_reader.proofs.ListedLemmas.{by_resolution, of_tile}
use Rattle.jx_tier2_writer.specs.Names.{component_names, one_name, resolution_names, tile_names}

-- ---- by resolutions
no_names : (g : Geometry) (c r : ℕ) → size_of (component_rect (rect_of_tile g) (shape_of g c)) ≡ 0 → resolution_names g c r ≡ []
unfolding resolution_names
no_names g c r e = elim (cases_lt 0 (precinct_count (rect_of_tile g) (shape_of g c) r)) [
  | inl some ↦ absurd (omega (arith, e, some_precinct (rect_of_tile g) (shape_of g c) r 0 some))
  | inr none ↦ joined_none (one_name c r) 0 (size_of (precincts_in g c r)) none
]

pub names_listed : (g : Geometry) → flat_map (by_resolution (resolution_names g)) (resolutions_of g) ≡ tile_names g
unfolding tile_names component_names
names_listed g = of_tile (resolution_names g) g (λ c e r. no_names g c r e)

-- ---- where each stands
one_long : (c r n : ℕ) → sum_below (λ i. length (one_name c r i)) n ≡ n
one_long c r zero = refl
one_long c r (suc n) = let before : sum_below (λ i. length (one_name c r i)) n ≡ n = one_long c r n in omega arith

pub resolution_long : (g : Geometry) (c r : ℕ) → length (resolution_names g c r) ≡ precinct_count (rect_of_tile g) (shape_of g c) r
unfolding resolution_names
resolution_long g c r =
    joined_length (one_name c r) (λ i. length (one_name c r i)) (size_of (precincts_in g c r)) (λ i. refl)
    ∙ one_long c r (size_of (precincts_in g c r))

pub component_long : (g : Geometry) (c : ℕ) → length (component_names g c) ≡ component_precincts (rect_of_tile g) (shape_of g c)
unfolding component_names component_precincts
component_long g c =
    joined_length (resolution_names g c) (precinct_count (rect_of_tile g) (shape_of g c)) ((shape_of g c).levels + 1) (resolution_long g c)

pub precincts_long : (g : Geometry) → length (tile_names g) ≡ tile_precincts (rect_of_tile g) g.shapes
unfolding tile_names
precincts_long g =
    joined_length (component_names g) (λ c. component_precincts (rect_of_tile g) (shape_of g c)) (length g.shapes) (component_long g)
    ∙ sym (whole_sum (component_precincts (rect_of_tile g)) g.shapes no_shape)

in_resolution : (g : Geometry) (c r k : ℕ) → k < size_of (precincts_in g c r) → slice_get (resolution_names g c r) k ≡ Some (name_of 0 r c k)
unfolding resolution_names
in_resolution g c r k lt =
    let e : sum_below (λ i. length (one_name c r i)) k + 0 ≡ k = omega (arith, one_long c r k) in
    let at = joined_at (one_name c r) (λ i. length (one_name c r i)) (size_of (precincts_in g c r)) k 0 (λ i. refl) lt (omega arith) in
    ap (λ n. slice_get (joined (one_name c r) 0 (size_of (precincts_in g c r))) n) (sym e) ∙ at

in_component : (g : Geometry) (c r k : ℕ) → HasPrecinct g c r k
    → slice_get (component_names g c) (sum_below (precinct_count (rect_of_tile g) (shape_of g c)) r + k) ≡ Some (name_of 0 r c k)
unfolding component_names
in_component g c r k h =
    joined_at (resolution_names g c) (precinct_count (rect_of_tile g) (shape_of g c)) ((shape_of g c).levels + 1) r k (resolution_long g c)
    (omega (arith, h.resolution.level)) h.precinct
    ∙ in_resolution g c r k h.precinct

pub name_there : (g : Geometry) (c r k : ℕ) → HasPrecinct g c r k
    → slice_get (tile_names g) (precinct_number g c r k) ≡ Some (name_of 0 r c k)
unfolding tile_names
name_there g c r k h =
    let number = precinct_number_is g c r k (omega (arith, h.resolution.component)) in
    ap (λ n. slice_get (joined (component_names g) 0 (length g.shapes)) n) number
    ∙ joined_at (component_names g) (λ c. component_precincts (rect_of_tile g) (shape_of g c)) (length g.shapes) c
    (sum_below (precinct_count (rect_of_tile g) (shape_of g c)) r + k) (component_long g) h.resolution.component (precinct_within g c r k h)
    ∙ in_component g c r k h
