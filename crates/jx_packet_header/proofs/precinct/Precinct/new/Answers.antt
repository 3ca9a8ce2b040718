use Rattle.std.proofs.Common.{◌≡◌, ◌∙◌, ◌++◌, [], List, sym, ap, subst, length, drop, arith, refl}
use Rattle.std.proofs.lemmas.List.{append-nil, drop_all}
use Rattle.jx_packet_header.specs.declared.BandCells.{BandCells}
use Rattle.jx_packet_header.specs.Packet.{Cells, State}
use Rattle.jx_packet_header.specs.Precinct.{fresh_bands, all_blocks, IsState}
use Rattle.jx_packet_header.proofs.FreshLemmas.{cells_at, cells_few, fresh_state_is, fresh_count}
use Rattle.jx_packet_header.proofs.MadeLemmas.{fresh_next, fresh_skip}
use Rattle.jx_packet_header.proofs.precinct.Precinct.new.Goals as goal
use Rattle.jx_packet_header.proofs.precinct.Precinct.new.Goals.{then-cells-gt0+in_ok-fresh_band+in_ok-push, else-cells-gt0}

pub fresh_band-requires-clause-is : goal.fresh_band-requires-clause-is
fresh_band-requires-clause-is c = cells_at c.args.bands.now c.loop-cells.cells-index (record { wide = 0; high = 0; planes = 0 }) c.requires.each c.loop-cells-test.true

pub fresh_band-requires-clause-few : goal.fresh_band-requires-clause-few
fresh_band-requires-clause-few c = omega (arith, cells_few c.args.bands.now c.loop-cells.cells-index (record { wide = 0; high = 0; planes = 0 }) c.loop-cells-test.true, c.requires.few)

pub returns-clause-state : goal.returns-clause-state
returns-clause-state c =
    let none : drop c.loop-cells.cells-index c.args.bands.now ≡ [] = drop_all c.loop-cells.cells-index c.args.bands.now c.loop-cells-test.false in
    let is : fresh_bands c.args.bands.now ≡ c.loop-cells.made.items = sym c.loop-cells.invariant ∙ ap (λ (l : List BandCells). c.loop-cells.made.items ++ fresh_bands l) none ∙ append-nil c.loop-cells.made.items in
    subst (λ (l : List Cells). IsState (record { style = c.args.style.bits; layer = 0; bands = l })) is (fresh_state_is c.args.style.bits c.args.bands.now c.requires)

pub returns-clause-blocks : goal.returns-clause-blocks
returns-clause-blocks c =
    let none : drop c.loop-cells.cells-index c.args.bands.now ≡ [] = drop_all c.loop-cells.cells-index c.args.bands.now c.loop-cells-test.false in
    let is : fresh_bands c.args.bands.now ≡ c.loop-cells.made.items = sym c.loop-cells.invariant ∙ ap (λ (l : List BandCells). c.loop-cells.made.items ++ fresh_bands l) none ∙ append-nil c.loop-cells.made.items in
    ap (λ (l : List Cells). length (all_blocks l)) (sym is) ∙ fresh_count c.args.bands.now c.requires.each

pub returns-clause-fresh : goal.returns-clause-fresh
returns-clause-fresh c =
    let none : drop c.loop-cells.cells-index c.args.bands.now ≡ [] = drop_all c.loop-cells.cells-index c.args.bands.now c.loop-cells-test.false in
    let is : fresh_bands c.args.bands.now ≡ c.loop-cells.made.items = sym c.loop-cells.invariant ∙ ap (λ (l : List BandCells). c.loop-cells.made.items ++ fresh_bands l) none ∙ append-nil c.loop-cells.made.items in
    let of : List Cells → State = λ l. record { style = c.args.style.bits; layer = 0; bands = l } in
    ap of (sym is)

pub loop-cells-preserved : goal.loop-cells-preserved
loop-cells-preserved c = elim c.if-cells-gt0.branch [
  | then-cells-gt0+in_ok-fresh_band+in_ok-push w ↦
      fresh_next c.args.bands.now c.loop-cells.cells-index (record { wide = 0; high = 0; planes = 0 }) c.loop-cells.made.items c.if-cells-gt0.made.items (fresh_bands c.args.bands.now)
      w.in_ok-fresh_band.field-0 c.loop-cells-test.true w.if-cells-gt0.true w.in_ok-fresh_band.ensures (rw w.made-is w.in_ok-push.ensures.items) c.loop-cells.invariant
  | else-cells-gt0 w ↦
      fresh_skip c.args.bands.now c.loop-cells.cells-index (record { wide = 0; high = 0; planes = 0 }) c.loop-cells.made.items c.if-cells-gt0.made.items (fresh_bands c.args.bands.now)
      c.loop-cells-test.true w.if-cells-gt0.false (rw w.made-is refl) c.loop-cells.invariant
]
