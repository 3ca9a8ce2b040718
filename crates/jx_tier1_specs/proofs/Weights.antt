-- Bounds of a coefficient's bits.
use Rattle.std.proofs.Common.{◌≡◌, ◌<◌, ◌≤◌, ◌+◌, ◌-◌, ◌*◌, ◌^◌, ℕ, suc, arith, Bool, true, false, lit<, ◌%◌, ◌∙◌}
use Rattle.std.proofs.Math.Nat.{two-pow-succ, mod-eq_of_lt}
use Rattle.std.proofs.Math.Pow.{pow_mono}
use Rattle.jx_tier1_specs.specs.declared.coef.Coef.{Coef}
use Rattle.jx_tier1_specs.specs.declared.question.Plane.{Plane}
use Rattle.jx_tier1_specs.specs.Cells.{IsWithin}
use Rattle.jx_tier1_specs.specs.Pass.{IsScan, shift_of, with_bit, with_sign}

-- the weight of a plane and what is left below it
half : (planes number : ℕ) → number < planes → 2 ^ (planes - 1 - number) + 2 ^ (planes - (number + 1)) ≡ 2 ^ (planes - number)
half planes number h =
    let e : planes - number ≡ suc (planes - 1 - number) = omega arith in
    let f : planes - (number + 1) ≡ planes - 1 - number = omega arith in
    rw (e, f, two-pow-succ)

less : (planes fewer more : ℕ) → fewer ≤ more → 2 ^ (planes - more) ≤ 2 ^ (planes - fewer)
less planes fewer more h = pow_mono (omega arith)

most_of : (planes : ℕ) → planes ≤ 74 → 2 ^ planes ≤ 2 ^ 74
most_of planes h = pow_mono h

-- a coefficient takes a bit of the plane
pub fits_in : (k : Plane) (most : ℕ) (c : Coef) → IsScan k → IsWithin k.planes most c → c.bits + 2 ^ shift_of k < 2 ^ 128
fits_in k most c s w =
    let a = w.bits in
    let b = most_of k.planes s.most in
    let d : 2 ^ (k.planes - 1 - k.number) ≤ 2 ^ k.planes = pow_mono (omega arith) in
    let e : 2 ^ 74 + 2 ^ 74 < 2 ^ 128 = lit< tt in
    omega arith

pub zero_within : (k : Plane) (c : Coef) → IsScan k → IsWithin k.planes (k.number + 1) c → IsWithin k.planes (k.number + 1) (with_bit k false c)
zero_within k c s w =
    let a = w.bits in
    let d = w.decided in
    let b = less k.planes c.planes (k.number + 1) d in
    record { decided = omega arith; bits = omega arith }

pub more_within : (k : Plane) (c : Coef) (bit : Bool) → IsScan k → c.planes ≤ k.number → IsWithin k.planes (k.number + 1) c → IsWithin k.planes (k.number + 1) (with_bit k bit c)
more_within k c false s u w = zero_within k c s w
more_within k c true s u w =
    let a = w.bits in
    let n = s.number in
    let b = less k.planes c.planes k.number u in
    let e = half k.planes k.number n in
    record { decided = omega arith; bits = omega arith }

pub sign_within : (k : Plane) (c : Coef) (negative : Bool) → IsScan k → c.bits ≡ 0 → IsWithin k.planes (k.number + 1) (with_sign k negative c)
sign_within k c negative s z =
    let n = s.number in
    let e = half k.planes k.number n in
    let b : 2 ^ (k.planes - k.number) ≤ 2 ^ k.planes = pow_mono (omega arith) in
    record { decided = omega arith; bits = omega arith }

-- a shift of 1 is a power
pub weight_is : (s : ℕ) → s < 128 → 1 * 2 ^ s % 340282366920938463463374607431768211456 ≡ 2 ^ s
weight_is s h =
    let l : s ≤ 127 = omega arith in
    let b : 2 ^ s ≤ 2 ^ 127 = pow_mono l in
    let e : 2 ^ 127 < 340282366920938463463374607431768211456 = lit< tt in
    let f : 1 * 2 ^ s < 340282366920938463463374607431768211456 = omega arith in
    let g : 1 * 2 ^ s ≡ 2 ^ s = omega arith in
    mod-eq_of_lt f ∙ g
