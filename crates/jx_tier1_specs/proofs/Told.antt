-- Procedures one after the other.
use Rattle.std.proofs.Common.{◌≡◌, ◌<◌, ◌+◌, ◌-◌, ℕ, suc, Bool, refl, arith}
use Rattle.jx_tier1_specs.specs.declared.question.Plane.{Plane}
use Rattle.jx_tier1_specs.specs.declared.question.Question.{Question}
use Rattle.jx_tier1_specs.specs.Cells.{Cells}
use Rattle.jx_tier1_specs.specs.Asking.{Asking, Told, Ask, and_then, told}
use Rattle.jx_tier1_specs.specs.Pass.{pass_at_nth, scanned}

pub told_then : {S A B : Type 0} (ask : S → Question → Bool × S) (first : Asking A) (more : A → Asking B) (s : S)
    → told ask (and_then first more) s ≡ told ask (more (told ask first s).0) (told ask first s).1
told_then ask (Told a) more s = refl
told_then ask (Ask question next) more s = told_then ask (next (ask s question).0) more (ask s question).1

-- one more place
pub scanned_more : {S : Type 0} (ask : S → Question → Bool × S) (pass : ℕ) (k : Plane) (end n : ℕ) (g : Cells) (s : S) → n < end
    → told ask (scanned pass k (end - n) n g) s
    ≡ told ask (scanned pass k (end - (n + 1)) (n + 1) (told ask (pass_at_nth pass k g n) s).0) (told ask (pass_at_nth pass k g n) s).1
scanned_more ask pass k end n g s h =
    let e : end - n ≡ suc (end - (n + 1)) = omega arith in
    rw e (told_then ask (pass_at_nth pass k g n) (λ h. scanned pass k (end - (n + 1)) (n + 1) h) s)
