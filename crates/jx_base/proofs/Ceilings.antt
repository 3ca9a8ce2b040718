-- What a quotient rounded up keeps: it is the least, it grows with its dividend, and it nests.
use Rattle.std.proofs.Common.{ℕ, ◌+◌, ◌*◌, ◌≤◌, ◌<◌, arith}
use Rattle.std.proofs.Math.Nat.{mul-le-mul_right}
use Rattle.std.proofs.lemmas.Grind.{div_ceil_times}
use Rattle.jx_base.specs.Numbers.{ceil_of, IsCeiling}

pub ceil_reaches : (a b : ℕ) → 0 < b → a ≤ ceil_of a b * b
unfolding ceil_of
ceil_reaches a b h = (div_ceil_times a b h).0

pub ceil_tight : (a b : ℕ) → 0 < b → ceil_of a b * b < a + b
unfolding ceil_of
ceil_tight a b h = (div_ceil_times a b h).1

-- a number whose multiple reaches a isn't below the quotient rounded up
pub ceil_least : (a b n : ℕ) → 0 < b → a ≤ n * b → ceil_of a b ≤ n
ceil_least a b n h reaches =
    let step : n + 1 ≤ ceil_of a b → (n + 1) * b ≤ ceil_of a b * b = λ k. mul-le-mul_right b k in
    grind (arith, ceil_tight a b h)

pub ceil_of_is_ceiling : (a b : ℕ) → 0 < b → IsCeiling a b (ceil_of a b)
ceil_of_is_ceiling a b h = record { reaches = ceil_reaches a b h; least = λ m. ceil_least a b m h }

-- the other way round: from the quotient on, multiples reach a
pub ceil_from : (a b n : ℕ) → 0 < b → ceil_of a b ≤ n → a ≤ n * b
ceil_from a b n h le =
    let step : ceil_of a b * b ≤ n * b = mul-le-mul_right b le in
    omega (arith, ceil_reaches a b h)

-- and below it, they don't
pub below_ceil : (a b n : ℕ) → 0 < b → n < ceil_of a b → n * b < a
below_ceil a b n h lt =
    let step : a ≤ n * b → ceil_of a b ≤ n = ceil_least a b n h in
    grind arith

pub ceil_above : (a b n : ℕ) → 0 < b → n * b < a → n < ceil_of a b
ceil_above a b n h lt =
    let step : ceil_of a b ≤ n → a ≤ n * b = ceil_from a b n h in
    grind arith

pub ceil_grows : (a c b : ℕ) → 0 < b → a ≤ c → ceil_of a b ≤ ceil_of c b
ceil_grows a c b h le =
    let reaches : c ≤ ceil_of c b * b = ceil_reaches c b h in
    let above : a ≤ ceil_of c b * b = omega arith in
    ceil_least a b (ceil_of c b) h above

pub ceil_le_self : (a b : ℕ) → 0 < b → ceil_of a b ≤ a
ceil_le_self a b h =
    let above : a * 1 ≤ a * b = grind arith in
    let reaches : a ≤ a * b = omega arith in
    ceil_least a b a h reaches

-- two divisions, one after the other, are one
