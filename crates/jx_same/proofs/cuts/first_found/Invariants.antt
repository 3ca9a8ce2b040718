use Rattle.std.proofs.Common.{◌≡◌, ℕ, List, Bool, None}
use Rattle.std.specs.List.{find}
use Rattle.jx_base.specs.Joined.{joined}
use Rattle.jx_same.specs.declared.answer.Spot.{Spot}
use Rattle.jx_same.specs.Runs.{AreFirsts}
use Rattle.jx_same.proofs.cuts.first_found.Given as goal

abbrev pub invariant-loop-answer : goal.invariant-loop-answer
invariant-loop-answer l = (p : Spot → Bool) → (f : ℕ → List Spot) → AreFirsts p f l.answers → find p (joined f 0 l.answer-index) ≡ None
