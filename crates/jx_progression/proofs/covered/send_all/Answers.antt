use Rattle.std.proofs.Common.{◌≡◌, ◌∙◌, sym, ap, Bool, true, false, ℕ, List, arith, length, subst}
use Rattle.std.specs.Prelude.{slice_index_or}
use Rattle.jx_progression.proofs.CoveredLemmas.{AreCoveredBelow, all_below, more_covered, unordered_end}
use Rattle.jx_progression.proofs.RepeatLemmas.{repeat_sent}
use Rattle.jx_progression.proofs.covered.send_all.Goals as goal

pub send_heads-requires-clause-repeat : goal.send_heads-requires-clause-repeat
send_heads-requires-clause-repeat c = λ is.
    repeat_sent c.args.geom.now c.args.layers c.args.entries.now c.unordered-entry.result c.loop-index.table.sent.items c.loop-index.index
    (λ q. unordered_end c.args.layers _ c.unordered-entry.result q c.unordered-entry.ensures) c.loop-index.invariant.covered
    (c.in_ok-repeats.ensures c.loop-index.index
    (ap (λ (rs : List Bool). slice_index_or rs c.loop-index.index false) (sym c.deref.ensures.value) ∙ sym c.is_repeat.ensures ∙ is))

pub loop-index-preserved : goal.loop-index-preserved
loop-index-preserved c = record {
  ready = c.in_ok-send_heads.ensures.ready;
  covered = more_covered c.args.geom.now c.args.layers c.args.entries.now c.unordered-entry.result c.loop-index.table.sent.items c.send_heads.new.table.sent.items
      c.loop-index.index (λ q. unordered_end c.args.layers _ c.unordered-entry.result q c.unordered-entry.ensures) c.loop-index.invariant.covered
      c.in_ok-send_heads.ensures.all.2.marked;
}

pub returns : goal.returns
returns c =
    let P : ℕ → Type 0 = λ n. AreCoveredBelow c.args.geom.now c.args.layers c.args.entries.now c.loop-index.table.sent.items n in
    let end : c.loop-index.index ≡ length c.args.entries.now = omega (arith, c.loop-index-test.false, c.loop-index.auto.index-end) in
    all_below c.args.geom.now c.args.layers c.args.entries.now c.loop-index.table.sent.items (subst P end c.loop-index.invariant.covered)
