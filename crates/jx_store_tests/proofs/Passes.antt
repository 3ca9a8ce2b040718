-- As many passes come back as were handed out.
use Rattle.std.proofs.Common.{◌≡◌, ◌++◌, ℕ, List, length, subst, take}
use Rattle.std.proofs.Math.Seq.{take-append_seam}

pub all_kept : {P : Type 0} (n : ℕ) (new rest : List P) → length new ≡ n → take n (new ++ rest) ≡ new
all_kept n new rest e = subst (λ (m : ℕ). take m (new ++ rest) ≡ new) e (take-append_seam new rest)
