use Rattle.std.proofs.Common.{◌≡◌, ◌∙◌, sym, ap, subst, arith, Bool, true, false, ℕ, List, length, drop, refl}
use Rattle.std.specs.Prelude.{slice_index_or}
use Rattle.jx_progression.proofs.CoveredLemmas.{AreCoveredBelow, all_below, more_covered}
use Rattle.jx_progression.proofs.TableLemmas.{order_next, sends_from, table_next}
use Rattle.jx_progression.proofs.RepeatLemmas.{repeat_sent}
use Rattle.jx_progression.proofs.listing.list_all.Goals as goal

pub push_entry-requires-clause-repeat : goal.push_entry-requires-clause-repeat
push_entry-requires-clause-repeat c = λ is.
    repeat_sent c.args.geom.now c.args.layers c.args.entries.now _ c.loop-index.table.sent.items c.loop-index.index (λ q. refl)
    c.loop-index.invariant.covered (c.in_ok-repeats.ensures c.loop-index.index
    (ap (λ (rs : List Bool). slice_index_or rs c.loop-index.index false) (sym c.deref.ensures.value) ∙ sym c.is_repeat-repeat.ensures ∙ is))

pub loop-index-preserved : goal.loop-index-preserved
loop-index-preserved c = record {
  order = order_next c.args.geom.now c.args.layers c.args.entries.now c.loop-index.index c.loop-index.list.items c.push_entry.new.list.items
      c.loop-index.invariant.order c.in_ok-push_entry.ensures.front
      (sends_from c.args.geom.now c.args.layers _ c.loop-index.table.sent.items c.loop-index.list.items
      (drop (length c.loop-index.list.items) c.push_entry.new.list.items) c.loop-index.invariant.table c.in_ok-push_entry.ensures.lists);
  table = table_next c.args.geom.now c.args.layers _ c.loop-index.table.sent.items c.push_entry.new.table.sent.items c.loop-index.list.items
      c.push_entry.new.list.items c.in_ok-push_entry.ensures.front c.loop-index.invariant.table c.in_ok-push_entry.ensures.lists
      c.in_ok-push_entry.ensures.marked;
  ready = c.in_ok-push_entry.ensures.ready;
  covered = more_covered c.args.geom.now c.args.layers c.args.entries.now _ c.loop-index.table.sent.items c.push_entry.new.table.sent.items
      c.loop-index.index (λ q. refl) c.loop-index.invariant.covered c.in_ok-push_entry.ensures.marked;
}

pub returns-clause-covered : goal.returns-clause-covered
returns-clause-covered c =
    let P : ℕ → Type 0 = λ n. AreCoveredBelow c.args.geom.now c.args.layers c.args.entries.now c.loop-index.table.sent.items n in
    let end : c.loop-index.index ≡ length c.args.entries.now = omega (arith, c.loop-index-test.false, c.loop-index.auto.index-end) in
    all_below c.args.geom.now c.args.layers c.args.entries.now c.loop-index.table.sent.items (subst P end c.loop-index.invariant.covered)
