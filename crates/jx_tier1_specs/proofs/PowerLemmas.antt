-- Numbers by powers of two.
use Rattle.std.proofs.Common.{◌≡◌, ◌<◌, ◌≤◌, ◌+◌, ◌-◌, ◌*◌, ◌/◌, ◌%◌, ◌^◌, ◌==◌, ℕ, suc, true, false, refl, sym, ap, ◌∙◌, arith, subst}
use Rattle.std.proofs.lemmas.Nat.{pow_pos, pow-add, div-mul-add, div-add-mod'}
use Rattle.std.proofs.Math.Nat.{mul-mod_left, two-pow-succ}
use Rattle.std.proofs.Math.Pow.{pow_mono}

-- a longer power
pub longer : (t s : ℕ) → t ≤ s → 2 ^ s ≡ 2 ^ t * 2 ^ (s - t)
longer t s h = let e : s ≡ t + (s - t) = omega arith in subst (λ (n : ℕ). 2 ^ n ≡ 2 ^ t * 2 ^ (s - t)) (sym e) (pow-add 2 t (s - t))

-- what ends with zeros is a multiple
pub multiple : (n e : ℕ) → n % 2 ^ e ≡ 0 → n ≡ n / 2 ^ e * 2 ^ e
multiple n e h = let d = div-add-mod' n (2 ^ e) in omega arith

regroup : (q a b : ℕ) → q * (a * b) ≡ q * b * a
regroup q a b = omega arith

pub zeros_less : (n t s : ℕ) → t ≤ s → n % 2 ^ s ≡ 0 → n % 2 ^ t ≡ 0
zeros_less n t s l h =
    let m = multiple n s h in
    let p = longer t s l in
    let q : ℕ = n / 2 ^ s in
    let e : n ≡ q * 2 ^ (s - t) * 2 ^ t = m ∙ (ap (λ (x : ℕ). q * x) p ∙ regroup q (2 ^ t) (2 ^ (s - t))) in
    ap (λ (x : ℕ). x % 2 ^ t) e ∙ mul-mod_left (q * 2 ^ (s - t)) (2 ^ t)

-- a bit above zeros
pub twice : (q a : ℕ) → q * (a + a) ≡ q * 2 * a + 0
twice q a = omega arith

even_above : (n s e : ℕ) → s < e → n % 2 ^ e ≡ 0 → n / 2 ^ s % 2 ≡ 0
even_above n s e l h =
    let z = zeros_less n (suc s) e l h in
    let m = multiple n (suc s) z in
    let q : ℕ = n / 2 ^ suc s in
    let d : n ≡ q * 2 * 2 ^ s + 0 = m ∙ (ap (λ (x : ℕ). q * x) (two-pow-succ s) ∙ twice q (2 ^ s)) in
    ap (λ (x : ℕ). x / 2 ^ s % 2) d ∙ (ap (λ (x : ℕ). x % 2) (div-mul-add (q * 2) (2 ^ s) 0 (pow_pos s)) ∙ mul-mod_left q 2)

pub bit_off : (n s e : ℕ) → s < e → n % 2 ^ e ≡ 0 → (n / 2 ^ s % 2 == 1) ≡ false
bit_off n s e l h = rw (even_above n s e l h) refl

pub bit_on : (n s e : ℕ) → s < e → n % 2 ^ e ≡ 0 → ((n + 2 ^ s) / 2 ^ s % 2 == 1) ≡ true
bit_on n s e l h =
    let z = zeros_less n s e (omega arith) h in
    let m = multiple n s z in
    let q : ℕ = n / 2 ^ s in
    let k = even_above n s e l h in
    let d : n + 2 ^ s ≡ (q + 1) * 2 ^ s + 0 = omega arith in
    let f : (n + 2 ^ s) / 2 ^ s ≡ q + 1 = ap (λ (x : ℕ). x / 2 ^ s) d ∙ div-mul-add (q + 1) (2 ^ s) 0 (pow_pos s) in
    let g : (q + 1) % 2 ≡ 1 = omega arith in
    rw (f, g) refl

-- the part above a place doesn't see a bit below it
pub above_same : (n s e : ℕ) → s < e → n % 2 ^ e ≡ 0 → (n + 2 ^ s) / 2 ^ e ≡ n / 2 ^ e
above_same n s e l h =
    let m = multiple n e h in
    let q : ℕ = n / 2 ^ e in
    let k = pow_mono {i = suc s} {j = e} l in
    let t = two-pow-succ s in
    let p = pow_pos s in
    let d : n + 2 ^ s ≡ q * 2 ^ e + 2 ^ s = omega arith in
    ap (λ (x : ℕ). x / 2 ^ e) d ∙ div-mul-add q (2 ^ e) (2 ^ s) (omega arith)

pub zeros_kept : (n s e : ℕ) → s < e → n % 2 ^ e ≡ 0 → (n + 2 ^ s) % 2 ^ s ≡ 0
zeros_kept n s e l h =
    let z = zeros_less n s e (omega arith) h in
    let m = multiple n s z in
    let q : ℕ = n / 2 ^ s in
    let d : n + 2 ^ s ≡ (q + 1) * 2 ^ s = omega arith in
    ap (λ (x : ℕ). x % 2 ^ s) d ∙ mul-mod_left (q + 1) (2 ^ s)
