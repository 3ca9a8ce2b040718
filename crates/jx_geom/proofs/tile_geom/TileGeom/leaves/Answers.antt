use Rattle.std.proofs.Common.{◌≡◌, ◌+◌, ◌<◌, ℕ, ap, arith, refl, subst}
use Rattle.jx_base.specs.declared.names.Band.TheVariants.{LL, HL, LH, HH}
use Rattle.jx_base.specs.Places.{size_of}
use Rattle.jx_geom.specs.declared.table.Resolution.{Resolution}
use Rattle.jx_geom.specs.Geometry.{blocks_in, rect_of_tile, shape_of}
use Rattle.jx_geom.proofs.EmptyLemmas.{some_precinct}
use Rattle.jx_geom.proofs.NumberedLeaves.{IsBandLeaves, before_of, low_leaves, high_leaves}
use Rattle.jx_geom.proofs.tile_geom.TileGeom.leaves.Goals as goal

pub resolution-before-requires-clause-some : goal.resolution-before-requires-clause-some
resolution-before-requires-clause-some c = some_precinct (rect_of_tile c.args.self.now) (shape_of c.args.self.now c.args.comp) c.args.res c.args.precinct c.requires.precinct

pub returns-then-res-eq0 : goal.returns-then-res-eq0
returns-then-res-eq0 c =
    let e : c.resolution-before.result.blocks_before ≡ before_of c.args.self.now c.args.comp c.args.res =
    ap (λ (r : Resolution). r.blocks_before) c.resolution-before.ensures.value in
    let P : ℕ → Type 0 = λ n. IsBandLeaves c.args.self.now c.args.comp c.args.res c.args.precinct LL n c.part_of.result in
    low_leaves c.args.self.now c.args.comp c.args.res c.args.precinct _ c.resolution-before.ensures.range c.requires c.if-res-eq0.true
    (subst P e (record { count = c.part_of.ensures.count; each = c.part_of.ensures.each })) refl refl

pub returns : goal.returns
returns c =
    let some : 0 < c.args.res = omega (arith, c.if-res-eq0.false) in
    let e : c.resolution-before.result.blocks_before ≡ before_of c.args.self.now c.args.comp c.args.res =
    ap (λ (r : Resolution). r.blocks_before) c.resolution-before.ensures.value in
    let e2 : c.resolution-before.result.blocks_before + c.band_count.result
    ≡ before_of c.args.self.now c.args.comp c.args.res + size_of (blocks_in c.args.self.now c.args.comp c.args.res HL) = omega (arith, e, c.band_count.ensures.value) in
    let e3 : c.resolution-before.result.blocks_before + c.band_count.result + c.band_count-2.result
    ≡ before_of c.args.self.now c.args.comp c.args.res + size_of (blocks_in c.args.self.now c.args.comp c.args.res HL)
    + size_of (blocks_in c.args.self.now c.args.comp c.args.res LH) = omega (arith, e2, c.band_count-2.ensures.value) in
    let P : ℕ → Type 0 = λ n. IsBandLeaves c.args.self.now c.args.comp c.args.res c.args.precinct HL n c.part_of-low.result in
    let Q : ℕ → Type 0 = λ n. IsBandLeaves c.args.self.now c.args.comp c.args.res c.args.precinct LH n c.part_of-middle.result in
    let R : ℕ → Type 0 = λ n. IsBandLeaves c.args.self.now c.args.comp c.args.res c.args.precinct HH n c.part_of-high.result in
    high_leaves c.args.self.now c.args.comp c.args.res c.args.precinct _ c.resolution-before.ensures.range c.requires some (record {
      low = subst P e (record { count = c.part_of-low.ensures.count; each = c.part_of-low.ensures.each });
      middle = subst Q e2 (record { count = c.part_of-middle.ensures.count; each = c.part_of-middle.ensures.each });
      high = subst R e3 (record { count = c.part_of-high.ensures.count; each = c.part_of-high.ensures.each });
    })
