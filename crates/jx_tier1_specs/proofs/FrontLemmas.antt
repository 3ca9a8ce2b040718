-- Coefficients that others may become: their decided bits and signs stay.
use Rattle.std.proofs.Common.{◌≡◌, ◌≢◌, ◌≤◌, ◌+◌, ◌-◌, ◌/◌, ◌%◌, ◌^◌, ◌==◌, ℕ, Bool, true, false, refl, sym, ap, ◌∙◌, arith, subst}
use Rattle.std.proofs.Math.Nat.{zero-div}
use Rattle.std.proofs.lemmas.Bool.{true≢false}
use Rattle.jx_tier1_specs.specs.declared.coef.Coef.{Coef}
use Rattle.jx_tier1_specs.specs.declared.question.Plane.{Plane}
use Rattle.jx_tier1_specs.specs.Pass.{IsScan, shift_of, with_bit, with_sign}
use Rattle.jx_tier1_specs.proofs.PowerLemmas.{zeros_less, bit_off, bit_on, above_same, zeros_kept}
use Rattle.jx_base.proofs.Powers.{div_longer}

-- the decided bits of a are those of b, and so is its sign where they show it
pub record IsBefore (planes : ℕ) (a b : Coef) : Type 0 where
  pub decided : a.planes ≤ b.planes
  pub bits : b.bits / 2 ^ (planes - a.planes) ≡ a.bits / 2 ^ (planes - a.planes)
  pub sign : a.bits / 2 ^ (planes - a.planes) ≢ 0 → b.negative ≡ a.negative

-- no more than some planes are decided, and the bits of the others are 0
pub record IsClean (planes most : ℕ) (c : Coef) : Type 0 where
  pub decided : c.planes ≤ most
  pub low : c.bits % 2 ^ (planes - c.planes) ≡ 0

pub before_same : (planes : ℕ) (a : Coef) → IsBefore planes a a
before_same planes a = record { decided = omega arith; bits = refl; sign = λ h. refl }

shown : (n t s : ℕ) → t ≤ s → n / 2 ^ s ≢ 0 → n / 2 ^ t ≢ 0
shown n t s l h e = h (div_longer n t s l ∙ (ap (λ (x : ℕ). x / 2 ^ (s - t)) e ∙ zero-div (2 ^ (s - t))))

pub before_next : (planes : ℕ) (a b c : Coef) → IsBefore planes a b → IsBefore planes b c → IsBefore planes a c
before_next planes a b c p q =
    let s : ℕ = planes - a.planes in
    let t : ℕ = planes - b.planes in
    let d = p.decided in
    let f = q.decided in
    let l : t ≤ s = omega arith in
    let k : c.bits / 2 ^ s ≡ b.bits / 2 ^ s =
    div_longer c.bits t s l ∙ (ap (λ (x : ℕ). x / 2 ^ (s - t)) q.bits ∙ sym (div_longer b.bits t s l)) in
    record {
      decided = omega arith;
      bits = k ∙ p.bits;
      sign = λ h. q.sign (shown b.bits t s l (λ e. h (sym p.bits ∙ e))) ∙ p.sign h;
    }

-- a bit of the plane is decided
pub zero_before : (k : Plane) (c : Coef) → IsClean k.planes (k.number + 1) c → IsBefore k.planes c (with_bit k false c)
zero_before k c h = record { decided = h.decided; bits = refl; sign = λ n. refl }

pub more_before : (k : Plane) (bit : Bool) (c : Coef) → IsScan k → c.planes ≤ k.number → IsClean k.planes (k.number + 1) c
    → IsBefore k.planes c (with_bit k bit c)
more_before k false c s u h = zero_before k c h
more_before k true c s u h =
    let n = s.number in
    record { decided = omega arith; bits = above_same c.bits (shift_of k) (k.planes - c.planes) (omega arith) h.low; sign = λ n. refl }

pub sign_before : (k : Plane) (negative : Bool) (c : Coef) → IsScan k → c.planes ≤ k.number → IsClean k.planes (k.number + 1) c → c.bits ≡ 0
    → IsBefore k.planes c (with_sign k negative c)
sign_before k negative c s u h z =
    let n = s.number in
    record {
      decided = omega arith;
      bits = above_same c.bits (shift_of k) (k.planes - c.planes) (omega arith) h.low;
      sign = λ m. absurd (m (ap (λ (x : ℕ). x / 2 ^ (k.planes - c.planes)) z ∙ zero-div (2 ^ (k.planes - c.planes))));
    }

pub low_of : (planes number : ℕ) → planes - (number + 1) ≡ planes - 1 - number
low_of planes number = omega arith

pub zero_clean : (k : Plane) (c : Coef) → IsClean k.planes (k.number + 1) c → IsClean k.planes (k.number + 1) (with_bit k false c)
zero_clean k c h =
    let d = h.decided in
    record { decided = omega arith; low = zeros_less c.bits (k.planes - (k.number + 1)) (k.planes - c.planes) (omega arith) h.low }

added_clean : (k : Plane) (c : Coef) → IsScan k → c.planes ≤ k.number → IsClean k.planes (k.number + 1) c
    → (c.bits + 2 ^ shift_of k) % 2 ^ (k.planes - (k.number + 1)) ≡ 0
added_clean k c s u h =
    let n = s.number in
    rw (low_of k.planes k.number) (zeros_kept c.bits (shift_of k) (k.planes - c.planes) (omega arith) h.low)

pub more_clean : (k : Plane) (bit : Bool) (c : Coef) → IsScan k → c.planes ≤ k.number → IsClean k.planes (k.number + 1) c
    → IsClean k.planes (k.number + 1) (with_bit k bit c)
more_clean k false c s u h = zero_clean k c h
more_clean k true c s u h = record { decided = omega arith; low = added_clean k c s u h }

pub sign_clean : (k : Plane) (negative : Bool) (c : Coef) → IsScan k → c.planes ≤ k.number → IsClean k.planes (k.number + 1) c
    → IsClean k.planes (k.number + 1) (with_sign k negative c)
sign_clean k negative c s u h = record { decided = omega arith; low = added_clean k c s u h }

-- the bit of the plane, where it was decided
abbrev pub bit_in : ℕ → Coef → Bool
bit_in shift c = c.bits / 2 ^ shift % 2 == 1

bit_seen : (k : Plane) (c b : Coef) (bits : ℕ) → IsBefore k.planes c b → c.planes ≡ k.number + 1 → bit_in (shift_of k) b ≡ bit_in (shift_of k) c
bit_seen k c b bits h e =
    let f : k.planes - c.planes ≡ shift_of k = omega arith in
    ap (λ (x : ℕ). x % 2 == 1) (subst (λ (s : ℕ). b.bits / 2 ^ s ≡ c.bits / 2 ^ s) f h.bits)

pub more_seen : (k : Plane) (bit : Bool) (c b : Coef) → IsScan k → c.planes ≤ k.number → IsClean k.planes (k.number + 1) c
    → IsBefore k.planes (with_bit k bit c) b → bit_in (shift_of k) b ≡ bit
more_seen k false c b s u h p =
    let n = s.number in
    bit_seen k (with_bit k false c) b 0 p refl ∙ bit_off c.bits (shift_of k) (k.planes - c.planes) (omega arith) h.low
more_seen k true c b s u h p =
    let n = s.number in
    bit_seen k (with_bit k true c) b 0 p refl ∙ bit_on c.bits (shift_of k) (k.planes - c.planes) (omega arith) h.low

pub sign_bit_seen : (k : Plane) (negative : Bool) (c b : Coef) → IsScan k → c.planes ≤ k.number → IsClean k.planes (k.number + 1) c
    → IsBefore k.planes (with_sign k negative c) b → bit_in (shift_of k) b ≡ true
sign_bit_seen k negative c b s u h p =
    let n = s.number in
    bit_seen k (with_sign k negative c) b 0 p refl ∙ bit_on c.bits (shift_of k) (k.planes - c.planes) (omega arith) h.low

isnt : (n : ℕ) → (n % 2 == 1) ≡ true → n ≢ 0
isnt n h e = true≢false (sym h ∙ ap (λ (x : ℕ). x % 2 == 1) e)

pub sign_seen : (k : Plane) (negative : Bool) (c b : Coef) → IsScan k → c.planes ≤ k.number → IsClean k.planes (k.number + 1) c
    → IsBefore k.planes (with_sign k negative c) b → b.negative ≡ negative
sign_seen k negative c b s u h p =
    let n = s.number in
    let on = bit_on c.bits (shift_of k) (k.planes - c.planes) (omega arith) h.low in
    let P : ℕ → Type 0 = λ e. (c.bits + 2 ^ shift_of k) / 2 ^ e ≢ 0 in
    p.sign (subst P (sym (low_of k.planes k.number)) (isnt ((c.bits + 2 ^ shift_of k) / 2 ^ shift_of k) on))
