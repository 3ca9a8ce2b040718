use Rattle.std.proofs.Common.{rules, ◌≡◌, ◌+◌, ◌<◌, ◌≤◌, ◌∙◌, ℕ, true, map, length, refl, ap, sym, subst}
use Rattle.std.proofs.lemmas.Option.{IfSome_then}
use Rattle.jx_store.specs.declared.event.Taped.{Taped}
use Rattle.jx_store.specs.declared.work.Named.{Named}
use Rattle.jx_codeblock.specs.Recoded.{WrittenBlock}
use Rattle.jx_workers.specs.Committed.{IsRightFront}
use Rattle.jx_workers.proofs.FrontLemmas.{front_bad, front_end, front_more, front_none}
use Rattle.jx_workers.proofs.recoder.right_front.Goals as goal

pub loop-entry-init : goal.loop-entry-init
loop-entry-init c = record { front = front_none c.args.entries.now; counted = refl }

pub loop-entry-preserved : goal.loop-entry-preserved
loop-entry-preserved c =
    let there : c.loop-entry.entry-index < length c.args.entries.now = search rules in
    let made : c.is_made.result ≡ true = search rules in
    record {
      front = front_more c.args.entries.now c.loop-entry.entry-index c.loop-entry.invariant.front c.entry-item.result there c.entry-item.is (c.is_made.ensures made);
      counted = ap (λ (n : ℕ). n + 1) c.loop-entry.invariant.counted;
    }

pub returns-then-not-is_made : goal.returns-then-not-is_made
returns-then-not-is_made c =
    let there : c.loop-entry.entry-index < length c.args.entries.now = search rules in
    IfSome_then c.with_bad.result c.with_bad.ensures (λ n is.
    let count : c.loop-entry.entry-index + 1 ≡ n = sym (is.0 ∙ ap (λ (k : ℕ). k + 1) c.loop-entry.invariant.counted) in
    subst (IsRightFront (map (λ (t : Taped (Named WrittenBlock)). t.named) c.args.entries.now)) count
    (front_bad c.args.entries.now c.loop-entry.entry-index c.loop-entry.invariant.front c.entry-item.result there c.entry-item.is is.1))

pub returns : goal.returns
returns c =
    let past : length c.args.entries.now ≤ c.loop-entry.entry-index = search rules in
    subst (IsRightFront (map (λ (t : Taped (Named WrittenBlock)). t.named) c.args.entries.now)) (sym c.loop-entry.invariant.counted)
    (front_end c.args.entries.now c.loop-entry.entry-index c.loop-entry.invariant.front past)
