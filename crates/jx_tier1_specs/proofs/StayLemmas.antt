-- What a grid's answers make of a coefficient may still become the grid's.
use Rattle.std.proofs.Common.{◌≡◌, ◌≢◌, ◌≤◌, ◌+◌, ◌-◌, ◌*◌, ◌/◌, ◌%◌, ◌^◌, ◌==◌, ℕ, suc, Bool, true, false, refl, sym, ap, ◌∙◌, arith, subst}
use Rattle.std.proofs.lemmas.Bool.Decides.{nat_tests}
use Rattle.std.proofs.lemmas.Nat.{pow_pos, div-mul-add}
use Rattle.std.proofs.Math.Nat.{zero-div, two-pow-succ}
use Rattle.jx_tier1_specs.specs.declared.coef.Coef.{Coef}
use Rattle.jx_tier1_specs.specs.declared.question.Plane.{Plane}
use Rattle.jx_tier1_specs.specs.Pass.{IsScan, shift_of, with_bit, with_sign}
use Rattle.jx_tier1_specs.proofs.PowerLemmas.{multiple, twice}
use Rattle.jx_tier1_specs.proofs.FrontLemmas.{IsBefore, bit_in, low_of}
use Rattle.jx_base.proofs.Powers.{div_longer}

half_of : (g s : ℕ) → g / 2 ^ suc s ≡ g / 2 ^ s / 2
half_of g s =
    let e : suc s - s ≡ 1 = omega arith in
    let P : ℕ → Type 0 = λ n. g / 2 ^ suc s ≡ g / 2 ^ s / 2 ^ n in
    subst P e (div_longer g s (suc s) (omega arith))

top_of : (c s : ℕ) → c % 2 ^ suc s ≡ 0 → c / 2 ^ s ≡ c / 2 ^ suc s * 2
top_of c s z =
    let m = multiple c (suc s) z in
    let q : ℕ = c / 2 ^ suc s in
    let d : c ≡ q * 2 * 2 ^ s + 0 = m ∙ (ap (λ (x : ℕ). q * x) (two-pow-succ s) ∙ twice q (2 ^ s)) in
    ap (λ (x : ℕ). x / 2 ^ s) d ∙ div-mul-add (q * 2) (2 ^ s) 0 (pow_pos s)

top_more : (c s : ℕ) → c % 2 ^ suc s ≡ 0 → (c + 2 ^ s) / 2 ^ s ≡ c / 2 ^ suc s * 2 + 1
top_more c s z =
    let m = multiple c (suc s) z in
    let q : ℕ = c / 2 ^ suc s in
    let d : c ≡ q * 2 * 2 ^ s + 0 = m ∙ (ap (λ (x : ℕ). q * x) (two-pow-succ s) ∙ twice q (2 ^ s)) in
    let e : c + 2 ^ s ≡ (q * 2 + 1) * 2 ^ s + 0 = omega arith in
    ap (λ (x : ℕ). x / 2 ^ s) e ∙ div-mul-add (q * 2 + 1) (2 ^ s) 0 (pow_pos s)

odd_is : (n : ℕ) → (n % 2 == 1) ≡ true → n % 2 ≡ 1
odd_is n h = grind (arith, nat_tests)

even_is : (n : ℕ) → (n % 2 == 1) ≡ false → n % 2 ≡ 0
even_is n h = grind (arith, nat_tests)

-- the next bit of a grid that has the same bits above it
next_off : (g c s : ℕ) → c % 2 ^ suc s ≡ 0 → g / 2 ^ suc s ≡ c / 2 ^ suc s → (g / 2 ^ s % 2 == 1) ≡ false → g / 2 ^ s ≡ c / 2 ^ s
next_off g c s z e h =
    let a = half_of g s in
    let b = top_of c s z in
    let d = even_is (g / 2 ^ s) h in
    omega arith

next_on : (g c s : ℕ) → c % 2 ^ suc s ≡ 0 → g / 2 ^ suc s ≡ c / 2 ^ suc s → (g / 2 ^ s % 2 == 1) ≡ true → g / 2 ^ s ≡ (c + 2 ^ s) / 2 ^ s
next_on g c s z e h =
    let a = half_of g s in
    let b = top_more c s z in
    let d = odd_is (g / 2 ^ s) h in
    omega arith

-- a coefficient of which exactly the planes above were decided
pub record IsDue (k : Plane) (c g : Coef) : Type 0 where
  pub planes : c.planes ≡ k.number
  pub low : c.bits % 2 ^ (k.planes - c.planes) ≡ 0
  pub before : IsBefore k.planes c g
  pub more : k.number + 1 ≤ g.planes

due_above : (k : Plane) (c : Coef) → IsScan k → c.planes ≡ k.number → k.planes - c.planes ≡ suc (shift_of k)
due_above k c s e = let n = s.number in omega arith

due_low : (k : Plane) (c g : Coef) → IsScan k → IsDue k c g → c.bits % 2 ^ suc (shift_of k) ≡ 0
due_low k c g s d = subst (λ (n : ℕ). c.bits % 2 ^ n ≡ 0) (due_above k c s d.planes) d.low

due_same : (k : Plane) (c g : Coef) → IsScan k → IsDue k c g → g.bits / 2 ^ suc (shift_of k) ≡ c.bits / 2 ^ suc (shift_of k)
due_same k c g s d = subst (λ (n : ℕ). g.bits / 2 ^ n ≡ c.bits / 2 ^ n) (due_above k c s d.planes) d.before.bits

at_low : (planes number : ℕ) (g c : ℕ) → g / 2 ^ (planes - 1 - number) ≡ c / 2 ^ (planes - 1 - number) → g / 2 ^ (planes - (number + 1)) ≡ c / 2 ^ (planes - (number + 1))
at_low planes number g c h = subst (λ (n : ℕ). g / 2 ^ n ≡ c / 2 ^ n) (sym (low_of planes number)) h

-- an insignificant one with the bit 0
pub zero_stays : (k : Plane) (c g : Coef) → IsScan k → IsDue k c g → c.bits ≡ 0 → bit_in (shift_of k) g ≡ false → IsBefore k.planes (with_bit k false c) g
zero_stays k c g s d z h = record {
  decided = d.more;
  bits = at_low k.planes k.number g.bits c.bits (next_off g.bits c.bits (shift_of k) (due_low k c g s d) (due_same k c g s d) h);
  sign = λ n. absurd (n (ap (λ (x : ℕ). x / 2 ^ (k.planes - (k.number + 1))) z ∙ zero-div (2 ^ (k.planes - (k.number + 1)))));
}

-- one that becomes significant
pub sign_stays : (k : Plane) (c g : Coef) → IsScan k → IsDue k c g → bit_in (shift_of k) g ≡ true → IsBefore k.planes (with_sign k g.negative c) g
sign_stays k c g s d h = record {
  decided = d.more;
  bits = at_low k.planes k.number g.bits (c.bits + 2 ^ shift_of k) (next_on g.bits c.bits (shift_of k) (due_low k c g s d) (due_same k c g s d) h);
  sign = λ n. refl;
}

pub zero_times : (n : ℕ) → 0 * n ≡ 0
zero_times n = omega arith

shows : (k : Plane) (c g : Coef) → IsScan k → IsDue k c g → c.bits ≢ 0 → c.bits / 2 ^ (k.planes - c.planes) ≢ 0
shows k c g s d n e =
    let m = multiple c.bits (k.planes - c.planes) d.low in
    n (m ∙ ap (λ (x : ℕ). x * 2 ^ (k.planes - c.planes)) e ∙ zero_times (2 ^ (k.planes - c.planes)))

-- a significant one
pub more_stays : (k : Plane) (bit : Bool) (c g : Coef) → IsScan k → IsDue k c g → c.bits ≢ 0 → bit_in (shift_of k) g ≡ bit → IsBefore k.planes (with_bit k bit c) g
more_stays k false c g s d n h = record {
  decided = d.more;
  bits = at_low k.planes k.number g.bits c.bits (next_off g.bits c.bits (shift_of k) (due_low k c g s d) (due_same k c g s d) h);
  sign = λ z. d.before.sign (shows k c g s d n);
}
more_stays k true c g s d n h = record {
  decided = d.more;
  bits = at_low k.planes k.number g.bits (c.bits + 2 ^ shift_of k) (next_on g.bits c.bits (shift_of k) (due_low k c g s d) (due_same k c g s d) h);
  sign = λ z. d.before.sign (shows k c g s d n);
}
