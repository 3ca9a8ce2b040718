use Rattle.std.proofs.Common.{◌≡◌, ◌<◌, ◌≤◌, ◌+◌, ◌-◌, ◌*◌, ◌∙◌, List, map, take, drop, get_or, length, sym, ap, subst, arith}
use Rattle.std.proofs.lemmas.List.{length-map}
use Rattle.jx_packet_header.specs.declared.BandCells.{BandCells}
use Rattle.jx_packet_header.specs.Precinct.{cells_in}
use Rattle.jx_packet_header.specs.Written.{Leafed, Writes}
use Rattle.jx_packet_header.specs.Leafs.{leaf_of}
use Rattle.jx_packet_header.specs.LeavesFit.{fresh_writes}
use Rattle.jx_packet_header.proofs.FreshLemmas.{cells_at, cells_few}
use Rattle.jx_packet_header.proofs.PlanLemmas.{Making, making_end, making_start, making_next, part_leaves}
use Rattle.jx_packet_header.proofs.precinct_out.fresh_bands_out.Goals as goal
use Rattle.jx_base.specs.Limits.{most_blocks}

pub loop-cells-init : goal.loop-cells-init
loop-cells-init c =
    subst (λ (ws : List Writes). Making c.args.layers 0 0 c.args.bands.now (map leaf_of c.args.leaves.now) ws) (sym c.new-made.ensures.items)
    (making_start c.args.layers c.args.bands.now (map leaf_of c.args.leaves.now) (length-map c.args.leaves.now leaf_of ∙ c.requires.all))

pub fresh_band-requires-clause-is : goal.fresh_band-requires-clause-is
fresh_band-requires-clause-is c = cells_at c.args.bands.now c.loop-cells.cells-index (record { wide = 0; high = 0; planes = 0 }) c.requires.bands.each c.loop-cells-test.true

pub loop-cells-preserved : goal.loop-cells-preserved
loop-cells-preserved c =
    let d : BandCells = record { wide = 0; high = 0; planes = 0 } in
    let b = get_or c.args.bands.now c.loop-cells.cells-index d in
    let n = b.wide * b.high in
    let inside : c.loop-cells.cells-index < length c.args.bands.now = c.loop-cells-test.true in
    let le : b.wide * b.high ≤ cells_in c.args.bands.now = cells_few c.args.bands.now c.loop-cells.cells-index d inside in
    let few : b.wide * b.high ≤ most_blocks = omega (arith, le, c.requires.bands.few) in
    let some : 0 < b.wide = omega (arith, c.if-cells-eq0.false) in
    let same : c.loop-cells.base + n - c.loop-cells.base ≡ n = omega arith in
    let y_is : c.in_ok-fresh_band.field-0 ≡ fresh_writes c.args.layers b (take n (drop c.loop-cells.base (map leaf_of c.args.leaves.now))) =
    c.in_ok-fresh_band.ensures ∙ ap (λ (l : List Leafed). fresh_writes c.args.layers b l) (part_leaves c.args.leaves.now c.loop-cells.base n (c.loop-cells.base + n - c.loop-cells.base) same) in
    subst (λ (ws : List Writes). Making c.args.layers (c.loop-cells.cells-index + 1) (c.loop-cells.base + n) c.args.bands.now (map leaf_of c.args.leaves.now) ws) (sym c.in_ok-push.ensures.items)
    (making_next c.args.layers c.loop-cells.cells-index c.loop-cells.base c.args.bands.now (map leaf_of c.args.leaves.now) c.loop-cells.made.items c.in_ok-fresh_band.field-0 d c.loop-cells.invariant inside
    (cells_at c.args.bands.now c.loop-cells.cells-index d c.requires.bands.each inside) some few c.requires.few c.requires.bytes y_is)

pub fresh_band-requires-clause-some : goal.fresh_band-requires-clause-some
fresh_band-requires-clause-some c = omega (arith, c.if-cells-eq0.false)

pub fresh_band-requires-clause-few : goal.fresh_band-requires-clause-few
fresh_band-requires-clause-few c =
    let d : BandCells = record { wide = 0; high = 0; planes = 0 } in
    omega (arith, cells_few c.args.bands.now c.loop-cells.cells-index d c.loop-cells-test.true, c.requires.bands.few)

pub returns : goal.returns
returns c =
    making_end c.args.layers c.loop-cells.cells-index c.loop-cells.base c.args.bands.now (map leaf_of c.args.leaves.now) c.loop-cells.made.items c.loop-cells-test.false c.loop-cells.invariant
