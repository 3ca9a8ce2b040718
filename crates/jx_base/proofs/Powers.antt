-- Quotients by powers of two.
use Rattle.std.proofs.Common.{◌≡◌, ℕ, ◌+◌, ◌-◌, ◌/◌, ◌^◌, ◌≤◌, sym, arith}
use Rattle.std.proofs.lemmas.Nat.{shr-shr}

pub div_longer : (n t s : ℕ) → t ≤ s → n / 2 ^ s ≡ n / 2 ^ t / 2 ^ (s - t)
div_longer n t s le =
    let whole : t + (s - t) ≡ s = omega arith in
    let steps : n / 2 ^ t / 2 ^ (s - t) ≡ n / 2 ^ (t + (s - t)) = shr-shr n t (s - t) in
    sym (rw whole at steps)
