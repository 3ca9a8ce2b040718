-- Which coefficients were refined, as a pass goes on.
use Rattle.std.proofs.Common.{◌≡◌, ◌<◌, ◌≤◌, ◌+◌, ◌-◌, ◌*◌, ◌/◌, ◌%◌, ◌^◌, ◌==◌, ℕ, suc, Bool, true, false, not, refl, sym, ap, ◌∙◌, arith, subst, inl, inr, if◌then◌else◌}
use Rattle.std.proofs.lemmas.Bool.{cases_lt, cases_Bool, lt-ltb, le-leb, true≢false}
use Rattle.std.proofs.lemmas.Nat.{div-mul-add, mod-mul-add, pow_pos, div-add-mod'}
use Rattle.std.proofs.Math.Nat.{zero-div, div-lt_iff_lt-mul, two-pow-succ}
use Rattle.jx_tier1_specs.specs.declared.coef.Coef.{Coef}
use Rattle.jx_tier1_specs.specs.declared.question.Plane.{Plane}
use Rattle.jx_tier1_specs.specs.Cells.{significant}
use Rattle.jx_tier1_specs.specs.Pass.{shift_of, is_decided, with_bit, with_sign}
use Rattle.jx_tier1_specs.proofs.FrontLemmas.{IsClean}
use Rattle.jx_tier1_specs.proofs.StepLemmas.{no_bits}
use Rattle.jx_tier1.specs.BlockPasses.{is_more}
use Rattle.jx_tier1.proofs.WordMoves.{TakesZeros, TakesMore}

-- an insignificant one wasn't
pub none_more : (planes : ℕ) (c : Coef) → c.bits ≡ 0 → is_more planes c ≡ false
none_more planes c z =
    let e : c.bits / 2 ^ (planes - c.planes) ≡ 0 = ap (λ (b : ℕ). b / 2 ^ (planes - c.planes)) z ∙ zero-div (2 ^ (planes - c.planes)) in
    rw e refl

zero_bit : (k : Plane) (c : Coef) → c.bits ≡ 0 → is_more k.planes (with_bit k false c) ≡ false
zero_bit k c z = none_more k.planes (with_bit k false c) z

-- nor was one that becomes significant
one_part : (s : ℕ) → 2 ^ s / 2 ^ s ≡ 1
one_part s =
    let e : 2 ^ s ≡ 1 * 2 ^ s + 0 = omega arith in
    ap (λ (n : ℕ). n / 2 ^ s) e ∙ div-mul-add 1 (2 ^ s) 0 (pow_pos s)

first_bit : (k : Plane) (c : Coef) (negative : Bool) → c.bits ≡ 0 → is_more k.planes (with_sign k negative c) ≡ false
first_bit k c negative z =
    let s : ℕ = shift_of k in
    let d : k.planes - (k.number + 1) ≡ s = omega arith in
    let b : c.bits + 2 ^ s ≡ 2 ^ s = omega arith in
    let e : (c.bits + 2 ^ s) / 2 ^ (k.planes - (k.number + 1)) ≡ 1 = ap (λ (n : ℕ). n / 2 ^ (k.planes - (k.number + 1))) b ∙ (ap (λ (n : ℕ). 2 ^ s / 2 ^ n) d ∙ one_part s) in
    rw e refl

-- significance and cleanup passes refine none
abbrev pub KeepsMore : ℕ → Coef → Coef → Type 0
KeepsMore planes c d = is_more planes d ≡ is_more planes c

pub keeps_more : (k : Plane) → TakesZeros k (KeepsMore k.planes)
keeps_more k = record {
  path = record { same = λ c. refl; next = λ c d e p q. q ∙ p };
  zero = λ c z. zero_bit k c z ∙ sym (none_more k.planes c z);
  sign = λ c n z. first_bit k c n z ∙ sym (none_more k.planes c z);
}

-- one that is refined
less_none : (n d : ℕ) → n < d → n % d ≡ 0 → n ≡ 0
less_none n d l z =
    let e : n ≡ 0 * d + n = omega arith in
    sym (ap (λ (m : ℕ). m % d) e ∙ mod-mul-add 0 d n l) ∙ z

some_more : (n d e : ℕ) → 0 < e → d ≡ e + e → (n ≡ 0 → ⊥) → n % d ≡ 0 → 2 * e ≤ n
some_more n d e p q h z =
    let r : n / d * d + n % d ≡ n = div-add-mod' n d in
    elim (cases_lt n d) [
      | inl l ↦ absurd (h (less_none n d l z))
      | inr l ↦ omega arith
    ]

two_or_more : (n x e : ℕ) → 0 < e → 2 * e ≤ n → 2 ≤ (n + x) / e
two_or_more n x e p l =
    elim (cases_lt ((n + x) / e) 2) [
      | inl m ↦ (let q : n + x < 2 * e = (div-lt_iff_lt-mul p).0 m in absurd (omega arith))
      | inr m ↦ m
    ]

more_bits : (b : Bool) (n w : ℕ) → (m : ℕ) × ((if b then n + w else n) ≡ n + m)
more_bits true n w = (w, refl)
more_bits false n w = (0, omega arith)

some_bits : (n : ℕ) → not (n == 0) ≡ true → n ≡ 0 → ⊥
some_bits n h e = true≢false (sym (rw e at h))

next_bit : (k : Plane) (c : Coef) (bit : Bool) → k.number < k.planes → c.planes ≡ k.number → (c.bits ≡ 0 → ⊥) → c.bits % 2 ^ (k.planes - c.planes) ≡ 0
    → is_more k.planes (with_bit k bit c) ≡ true
next_bit k c bit l e h z =
    let s : ℕ = k.planes - (k.number + 1) in
    let d : k.planes - c.planes ≡ suc s = omega arith in
    let f : 2 ^ (k.planes - c.planes) ≡ 2 ^ s + 2 ^ s = ap (λ (n : ℕ). 2 ^ n) d ∙ two-pow-succ s in
    let m = some_more c.bits (2 ^ (k.planes - c.planes)) (2 ^ s) (pow_pos s) f h z in
    let b = more_bits bit c.bits (2 ^ shift_of k) in
    let g : 2 ≤ (if bit then c.bits + 2 ^ shift_of k else c.bits) / 2 ^ s =
    subst (λ (n : ℕ). 2 ≤ n / 2 ^ s) (sym b.1) (two_or_more c.bits b.0 (2 ^ s) (pow_pos s) m) in
    le-leb 2 ((if bit then c.bits + 2 ^ shift_of k else c.bits) / 2 ^ s) g

-- what a refinement pass does to a coefficient: it stays as significant as it was, and one that is decided was refined or stays
pub record Refines (k : Plane) (c d : Coef) : Type 0 where
  pub marked : significant d ≡ significant c
  pub negative : d.negative ≡ c.negative
  pub none : significant c ≡ false → d ≡ c
  pub done : is_decided k c ≡ true → d ≡ c
  pub more : significant c ≡ true → is_decided k c ≡ false → is_decided k d ≡ true → is_more k.planes d ≡ true

refines_then : (k : Plane) (c d e : Coef) → Refines k c d → Refines k d e → Refines k c e
refines_then k c d e p q = record {
  marked = q.marked ∙ p.marked;
  negative = q.negative ∙ p.negative;
  none = λ s. q.none (p.marked ∙ s) ∙ p.none s;
  done = λ s. (let r = p.done s in q.done (ap (λ (u : Coef). is_decided k u) r ∙ s) ∙ r);
  more = λ s u v. elim (cases_Bool (is_decided k d)) [
    | inl w ↦ (let r = q.done w in ap (λ (z : Coef). is_more k.planes z) r ∙ p.more s u w)
    | inr w ↦ q.more (p.marked ∙ s) w v
  ];
}

more_some : (b : Bool) (n w : ℕ) → (n ≡ 0 → ⊥) → (if b then n + w else n) ≡ 0 → ⊥
more_some true n w h e = h (omega arith)
more_some false n w h e = h e

test_some : (n : ℕ) → (n ≡ 0 → ⊥) → not (n == 0) ≡ true
test_some n h = elim (cases_Bool (not (n == 0))) [ inl e ↦ e | inr e ↦ absurd (h (no_bits n e)) ]

refines_bit : (k : Plane) (c : Coef) (b : Bool) → k.number < k.planes → significant c ≡ true → is_decided k c ≡ false → k.number ≤ c.planes → IsClean k.planes (k.number + 1) c
    → Refines k c (with_bit k b c)
refines_bit k c b l s u least clean =
    let n = some_bits c.bits s in
    let e : c.planes ≡ k.number = elim (cases_lt k.number c.planes) [
      | inl p ↦ absurd (true≢false (sym (lt-ltb k.number c.planes p) ∙ u))
      | inr p ↦ omega arith
    ] in
    record {
      marked = test_some (if b then c.bits + 2 ^ shift_of k else c.bits) (more_some b c.bits (2 ^ shift_of k) n) ∙ sym s;
      negative = refl;
      none = λ z. absurd (true≢false (sym s ∙ z));
      done = λ z. absurd (true≢false (sym z ∙ u));
      more = λ x y z. next_bit k c b l e n clean.low;
    }

pub refines : (k : Plane) → k.number < k.planes → TakesMore k (Refines k)
refines k l = record {
  path = record {
    same = λ c. record {
      marked = refl;
      negative = refl;
      none = λ s. refl;
      done = λ s. refl;
      more = λ s u v. absurd (true≢false (sym v ∙ u));
    };
    next = λ c d e p q. refines_then k c d e p q;
  };
  more = λ c b s u least clean. refines_bit k c b l s u least clean;
}
