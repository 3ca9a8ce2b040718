-- Sums up to a number, and what the limits on a tile bound.
use Rattle.std.proofs.Common.{◌≡◌, ℕ, ◌+◌, ◌≤◌, ◌<◌, ◌^◌, arith}
use Rattle.std.proofs.lemmas.List.Sums.{get_or-le-sum_by}
use Rattle.jx_base.specs.declared.names.Rect.{Rect}
use Rattle.jx_base.specs.declared.names.Band.{Band}
use Rattle.jx_base.specs.declared.names.Band.TheVariants.{LL, HL, LH, HH}
use Rattle.jx_geom.specs.declared.shape.CompShape.{CompShape}
use Rattle.jx_geom.specs.Ranges.{HasBand}
use Rattle.jx_geom.specs.Counts.{precinct_count, block_count, resolution_blocks, blocks_before_band, component_blocks, component_precincts}
use Rattle.jx_geom.specs.Numbering.{band_place}
use Rattle.jx_geom.specs.Geometry.{Geometry, GeometryInRange, HasResolution, no_shape, shape_of, rect_of_tile, precincts_in, blocks_in}
use Rattle.jx_base.specs.Places.{size_of}
use Rattle.std.proofs.lemmas.Bool.Decides.{nat_tests}
use Rattle.jx_base.proofs.Sums.{sum_below_more}
use Rattle.jx_base.specs.Limits.{most_blocks}

pub resolution_low : (tile : Rect) (s : CompShape) (r : ℕ) → r ≡ 0 → resolution_blocks tile s r ≡ block_count tile s r LL
unfolding resolution_blocks
resolution_low tile s r e = grind (arith, nat_tests)

pub resolution_high : (tile : Rect) (s : CompShape) (r : ℕ) → 0 < r → resolution_blocks tile s r ≡ blocks_before_band tile s r HH + block_count tile s r HH
unfolding resolution_blocks
resolution_high tile s r some = grind (arith, nat_tests)

-- the blocks of a band and of those before it are within the resolution's
pub band_within : (tile : Rect) (s : CompShape) (r : ℕ) (b : Band) → HasBand r b
    → blocks_before_band tile s r b + block_count tile s r b ≤ resolution_blocks tile s r
band_within tile s r LL there = omega (arith, resolution_low tile s r there)
band_within tile s r HL there = omega (arith, resolution_high tile s r there)
band_within tile s r LH there = omega (arith, resolution_high tile s r there)
band_within tile s r HH there = omega (arith, resolution_high tile s r there)

-- and those of an earlier band are before a later one
pub band_before : (tile : Rect) (s : CompShape) (r : ℕ) (b c : Band) → HasBand r b → HasBand r c → band_place b < band_place c
    → blocks_before_band tile s r b + block_count tile s r b ≤ blocks_before_band tile s r c
band_before tile s r LL LL there later lt = absurd (omega arith)
band_before tile s r LL HL there later lt = absurd (omega arith)
band_before tile s r LL LH there later lt = absurd (omega arith)
band_before tile s r LL HH there later lt = absurd (omega arith)
band_before tile s r HL LL there later lt = absurd (omega arith)
band_before tile s r HL HL there later lt = absurd (omega arith)
band_before tile s r HL LH there later lt = omega arith
band_before tile s r HL HH there later lt = omega arith
band_before tile s r LH LL there later lt = absurd (omega arith)
band_before tile s r LH HL there later lt = absurd (omega arith)
band_before tile s r LH LH there later lt = absurd (omega arith)
band_before tile s r LH HH there later lt = omega arith
band_before tile s r HH LL there later lt = absurd (omega arith)
band_before tile s r HH HL there later lt = absurd (omega arith)
band_before tile s r HH LH there later lt = absurd (omega arith)
band_before tile s r HH HH there later lt = absurd (omega arith)

-- a resolution's precincts are within the component's
pub precincts_within : (tile : Rect) (s : CompShape) (r : ℕ) → r ≤ s.levels → precinct_count tile s r ≤ component_precincts tile s
unfolding component_precincts
precincts_within tile s r le = omega (arith, sum_below_more (precinct_count tile s) r (s.levels + 1) (omega arith))

pub blocks_within : (tile : Rect) (s : CompShape) (r : ℕ) (b : Band) → r ≤ s.levels → HasBand r b → block_count tile s r b ≤ component_blocks tile s
unfolding component_blocks
blocks_within tile s r b le there =
    omega (arith, sum_below_more (resolution_blocks tile s) r (s.levels + 1) (omega arith), band_within tile s r b there)

-- what limits 5 and 6 say of one resolution and one band
pub precincts_limited : (g : Geometry) (c r : ℕ) → GeometryInRange g → HasResolution g c r → size_of (precincts_in g c r) ≤ 2 ^ 22
precincts_limited g c r h there =
    let inner = precincts_within (rect_of_tile g) (shape_of g c) r there.level in
    let outer = get_or-le-sum_by (component_precincts (rect_of_tile g)) g.shapes c no_shape there.component in
    omega (arith, inner, outer, h.limits.precincts)

pub blocks_limited : (g : Geometry) (c r : ℕ) (b : Band) → GeometryInRange g → HasResolution g c r → HasBand r b → size_of (blocks_in g c r b) ≤ most_blocks
blocks_limited g c r b h there has =
    let inner = blocks_within (rect_of_tile g) (shape_of g c) r b there.level has in
    let outer = get_or-le-sum_by (component_blocks (rect_of_tile g)) g.shapes c no_shape there.component in
    omega (arith, inner, outer, h.limits.blocks)
