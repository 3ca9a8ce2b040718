-- The passes of a segment are of one kind.
use Rattle.std.proofs.Common.{◌≡◌, ◌+◌, ◌%◌, ◌==◌, ℕ, Bool, true, false, ◌&&◌, ◌||◌, not, nat_le, refl, arith}
use Rattle.std.proofs.lemmas.Bool.Decides.{nat_tests}
use Rattle.jx_base.specs.Passes.{bypasses, terminates, raw_pass, end_pass}

plain_kind : (b t : Bool) (pass : ℕ) → (t || b && (pass == 9 || nat_le 10 pass && not (pass % 3 == 1))) ≡ false
    → (b && nat_le 10 (pass + 1) && not ((pass + 1) % 3 == 0)) ≡ (b && nat_le 10 pass && not (pass % 3 == 0))
plain_kind false t pass h = refl
plain_kind true t pass h = grind (arith, nat_tests)

pub same_kind : (style pass : ℕ) → end_pass style pass ≡ false → raw_pass style (pass + 1) ≡ raw_pass style pass
same_kind style pass h = plain_kind (bypasses style) (terminates style) pass h
