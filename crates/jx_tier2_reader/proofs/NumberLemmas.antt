-- A precinct of which no packet was read stands at its number.
use Rattle.std.proofs.Common.{◌≡◌, ℕ, zero, suc, ◌+◌, ◌<◌, length, Some, ◌∙◌, ap, sym, refl, arith}
use Rattle.std.specs.List.{slice_get}
use Rattle.jx_base.specs.Places.{size_of}
use Rattle.jx_geom.specs.Counts.{precinct_count, component_precincts, tile_precincts}
use Rattle.jx_geom.specs.Geometry.{Geometry, no_shape, shape_of, rect_of_tile, precincts_in}
use Rattle.jx_codestream.specs.declared.Stream.{Stream}
use Rattle.jx_tier2_reader.specs.Fresh.{one_precinct, fresh_precinct, fresh_resolution, fresh_component, fresh_precincts}
use Rattle.jx_geom.specs.Precincts.{HasPrecinct, precinct_number}
use Rattle.jx_geom.proofs.PrecinctLemmas.{precinct_number_is, precinct_within}
use Rattle.jx_base.specs.Joined.{joined, sum_below}
use Rattle.jx_base.proofs.Joined.{joined_length, joined_at}
use Rattle.jx_base.proofs.Sums.{whole_sum}

one_long : (s : Stream) (g : Geometry) (c r n : ℕ) → sum_below (λ i. length (one_precinct s g c r i)) n ≡ n
one_long s g c r zero = refl
one_long s g c r (suc n) = let before : sum_below (λ i. length (one_precinct s g c r i)) n ≡ n = one_long s g c r n in omega arith

pub resolution_long : (s : Stream) (g : Geometry) (c r : ℕ) → length (fresh_resolution s g c r) ≡ precinct_count (rect_of_tile g) (shape_of g c) r
unfolding fresh_resolution
resolution_long s g c r =
    joined_length (one_precinct s g c r) (λ i. length (one_precinct s g c r i)) (size_of (precincts_in g c r)) (λ i. refl)
    ∙ one_long s g c r (size_of (precincts_in g c r))

pub component_long : (s : Stream) (g : Geometry) (c : ℕ) → length (fresh_component s g c) ≡ component_precincts (rect_of_tile g) (shape_of g c)
unfolding fresh_component component_precincts
component_long s g c =
    joined_length (fresh_resolution s g c) (precinct_count (rect_of_tile g) (shape_of g c)) ((shape_of g c).levels + 1) (resolution_long s g c)

pub precincts_long : (s : Stream) (g : Geometry) → length (fresh_precincts s g) ≡ tile_precincts (rect_of_tile g) g.shapes
unfolding fresh_precincts
precincts_long s g =
    joined_length (fresh_component s g) (λ c. component_precincts (rect_of_tile g) (shape_of g c)) (length g.shapes) (component_long s g)
    ∙ sym (whole_sum (component_precincts (rect_of_tile g)) g.shapes no_shape)

in_resolution : (s : Stream) (g : Geometry) (c r k : ℕ) → k < size_of (precincts_in g c r) → slice_get (fresh_resolution s g c r) k ≡ Some (fresh_precinct s g c r k)
unfolding fresh_resolution
in_resolution s g c r k lt =
    let e : sum_below (λ i. length (one_precinct s g c r i)) k + 0 ≡ k = omega (arith, one_long s g c r k) in
    let at = joined_at (one_precinct s g c r) (λ i. length (one_precinct s g c r i)) (size_of (precincts_in g c r)) k 0 (λ i. refl) lt (omega arith) in
    ap (λ n. slice_get (joined (one_precinct s g c r) 0 (size_of (precincts_in g c r))) n) (sym e) ∙ at

in_component : (s : Stream) (g : Geometry) (c r k : ℕ) → HasPrecinct g c r k
    → slice_get (fresh_component s g c) (sum_below (precinct_count (rect_of_tile g) (shape_of g c)) r + k) ≡ Some (fresh_precinct s g c r k)
unfolding fresh_component
in_component s g c r k h =
    joined_at (fresh_resolution s g c) (precinct_count (rect_of_tile g) (shape_of g c)) ((shape_of g c).levels + 1) r k (resolution_long s g c)
    (omega (arith, h.resolution.level)) h.precinct
    ∙ in_resolution s g c r k h.precinct

pub precinct_there : (s : Stream) (g : Geometry) (c r k : ℕ) → HasPrecinct g c r k
    → slice_get (fresh_precincts s g) (precinct_number g c r k) ≡ Some (fresh_precinct s g c r k)
unfolding fresh_precincts
precinct_there s g c r k h =
    let number = precinct_number_is g c r k (omega (arith, h.resolution.component)) in
    ap (λ n. slice_get (joined (fresh_component s g) 0 (length g.shapes)) n) number
    ∙ joined_at (fresh_component s g) (λ c. component_precincts (rect_of_tile g) (shape_of g c)) (length g.shapes) c
    (sum_below (precinct_count (rect_of_tile g) (shape_of g c)) r + k) (component_long s g) h.resolution.component (precinct_within g c r k h)
    ∙ in_component s g c r k h
