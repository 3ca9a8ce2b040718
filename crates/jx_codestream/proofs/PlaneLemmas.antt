-- Lists of lists, and the planes of every band of a stream that was read.
use Rattle.std.proofs.Common.{◌≡◌, ◌∙◌, ◌<◌, ◌≤◌, ℕ, false, arith, List, refl, subst, nat_lt, Option, Some, None}
use Rattle.std.specs.List.{All, flat_map, find, range_with_len}
use Rattle.std.proofs.lemmas.List.FromFn.{get_or-map-range_with_len, length-map-range_with_len, get_or-range_with_len, length-range_with_len}
use Rattle.std.proofs.lemmas.Bool.{ltb-false}
use Rattle.jx_base.specs.declared.names.Band.{Band}
use Rattle.jx_base.specs.declared.names.Band.TheVariants.{LL, HL, LH, HH}
use Rattle.jx_marker.specs.declared.Segment.{Segment}
use Rattle.jx_marker.specs.declared.Shape.{Shape}
use Rattle.jx_marker.specs.declared.Quant.{Quant}
use Rattle.jx_geom.specs.Ranges.{HasBand}
use Rattle.jx_codestream.specs.declared.Tile.{Tile}
use Rattle.jx_codestream.specs.Params.{band_count, number_of, planes_of, quant_of, shape_of, shift_of, band_planes, tile_planes, limit_4_of, planes_fault}
use Rattle.jx_base.proofs.Lists.{find_none, All-flat}

limit_none : (o : Option ℕ) → limit_4_of o ≡ None → o ≡ None
limit_none None h = refl
limit_none (Some n) h = absurd (cc)

-- limit 4: no band of any tile has over 74 planes
pub all_planes : (main : List Segment) (comps : ℕ) (tiles : List Tile) → planes_fault main comps tiles ≡ None → All (λ (n : ℕ). nat_lt 74 n ≡ false) (flat_map (tile_planes main comps) tiles)
all_planes main comps tiles h = find_none (nat_lt 74) (flat_map (tile_planes main comps) tiles) (limit_none (find (nat_lt 74) (flat_map (tile_planes main comps) tiles)) h)

pub tile_fits : (main : List Segment) (comps : ℕ) (tile : Tile) (c : ℕ) → c < comps → All (λ (n : ℕ). nat_lt 74 n ≡ false) (tile_planes main comps tile)
    → All (λ (n : ℕ). nat_lt 74 n ≡ false) (band_planes (quant_of tile.header main c) (shape_of tile.header main c) (shift_of tile.header main c))
unfolding tile_planes
tile_fits main comps tile c inside h =
    let f : ℕ → List ℕ = λ (comp : ℕ). band_planes (quant_of tile.header main comp) (shape_of tile.header main comp) (shift_of tile.header main comp) in
    let P : ℕ → Type 0 = λ (comp : ℕ). All (λ (n : ℕ). nat_lt 74 n ≡ false) (f comp) in
    subst P (get_or-range_with_len 0 comps c 0 inside ∙ omega arith) (All-flat (λ (n : ℕ). nat_lt 74 n ≡ false) f (range_with_len 0 comps) h c 0 (omega (arith, length-range_with_len 0 comps)))

pub band_fits : (quant : Quant) (shape : Shape) (shift number : ℕ) → number < band_count shape.levels → All (λ (n : ℕ). nat_lt 74 n ≡ false) (band_planes (Some quant) (Some shape) shift)
    → planes_of quant shape.levels shift number ≤ 74
band_fits quant shape shift number inside h =
    let f : ℕ → ℕ = planes_of quant shape.levels shift in
    let P : ℕ → Type 0 = λ n. nat_lt 74 n ≡ false in
    ltb-false 74 (f number) (subst P (get_or-map-range_with_len f 0 (band_count shape.levels) number number 0 inside (omega arith))
    (h number 0 (omega (arith, length-map-range_with_len f 0 (band_count shape.levels)))))

pub number_inside : (levels r : ℕ) (b : Band) → r ≤ levels → HasBand r b → number_of r b < band_count levels
number_inside levels r LL le has = omega arith
number_inside levels r HL le has = omega arith
number_inside levels r LH le has = omega arith
number_inside levels r HH le has = omega arith
