use Rattle.std.proofs.Common.{◌≡◌, ◌+◌, ℕ, drop, map}
use Rattle.jx_store.specs.declared.event.Taped.{Taped}
use Rattle.jx_store.specs.declared.work.Named.{Named}
use Rattle.jx_codeblock.specs.Recoded.{WrittenBlock}
use Rattle.jx_workers.specs.Committed.{IsRightFront}
use Rattle.jx_workers.proofs.recoder.right_front.Given as goal

-- a front of the rest is one of all
abbrev pub invariant-loop-entry : goal.invariant-loop-entry
invariant-loop-entry l = record {
  front : (n : ℕ) → IsRightFront (map (λ (t : Taped (Named WrittenBlock)). t.named) (drop l.entry-index l.entries)) n → IsRightFront (map (λ (t : Taped (Named WrittenBlock)). t.named) l.entries) (l.entry-index + n);
  counted : l.count ≡ l.entry-index;
}
