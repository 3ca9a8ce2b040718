-- The run mode of cleanup passes.
use Rattle.std.proofs.Common.{◌≡◌, ◌<◌, ◌+◌, ◌-◌, ◌%◌, ℕ, zero, suc, refl, arith, true, false, IsTrue, ◌==◌, ◌&&◌, not, nat_le}
use Rattle.std.proofs.lemmas.Bool.Decides.{nat_tests}
use Rattle.std.proofs.lemmas.Bool.{and_parts}
use Rattle.jx_tier1_specs.specs.declared.coef.Coef.{Coef}
use Rattle.jx_tier1_specs.specs.declared.question.Plane.{Plane}
use Rattle.jx_tier1_specs.specs.Cells.{Cells, coef_at, significant}
use Rattle.jx_tier1_specs.specs.Pass.{is_quiet, is_run, is_decided, label_at, zeroed, changed, with_bit}

pub zeroed_more : (k : Plane) (count i : ℕ) (g : Cells) (x y : ℕ) → i < count
    → zeroed k (count - i) g x (y + i) ≡ zeroed k (count - (i + 1)) (changed g x (y + i) (with_bit k false)) x (y + (i + 1))
zeroed_more k count i g x y h =
    let e : count - i ≡ suc (count - (i + 1)) = omega arith in
    let f : y + (i + 1) ≡ y + i + 1 = omega arith in
    rw (e, f) refl

zero_bits : (n : ℕ) → not (not (n == 0)) ≡ true → n ≡ 0
zero_bits n h = grind (arith, nat_tests)

quiet_bits : (k : Plane) (g : Cells) (x y : ℕ) → is_quiet k g x y ≡ true → (coef_at g x y).bits ≡ 0
quiet_bits k g x y h =
    let c : Coef = coef_at g x y in
    let a = not (significant c) in
    let b = not (is_decided k c) in
    let l = label_at k g x y == 0 in
    zero_bits c.bits (and_parts a b (and_parts (a && b) l h).0).0

at_number : (k : Plane) (g : Cells) (x y n : ℕ) → is_quiet k g x y ≡ true → is_quiet k g x (y + 1) ≡ true → is_quiet k g x (y + 2) ≡ true
    → is_quiet k g x (y + 3) ≡ true → n < 4 → (coef_at g x (y + n)).bits ≡ 0
at_number k g x y zero a b c d l = let e : y + 0 ≡ y = omega arith in rw e (quiet_bits k g x y a)
at_number k g x y (suc zero) a b c d l = quiet_bits k g x (y + 1) b
at_number k g x y (suc (suc zero)) a b c d l = quiet_bits k g x (y + 2) c
at_number k g x y (suc (suc (suc zero))) a b c d l = quiet_bits k g x (y + 3) d
at_number k g x y (suc (suc (suc (suc n)))) a b c d l = absurd (omega arith)

-- the four places of a run are insignificant
pub run_quiet : (k : Plane) (g : Cells) (x y n : ℕ) → IsTrue (is_run k g x y) → n < 4 → (coef_at g x (y + n)).bits ≡ 0
run_quiet k g x y n h l =
    let p = y % 4 == 0 && nat_le (y + 4) g.height in
    let a = is_quiet k g x y in
    let b = is_quiet k g x (y + 1) in
    let c = is_quiet k g x (y + 2) in
    let d = is_quiet k g x (y + 3) in
    let abc = (and_parts (p && a && b && c) d h).0 in
    let ab = (and_parts (p && a && b) c abc).0 in
    let pa = (and_parts (p && a) b ab).0 in
    at_number k g x y n ((and_parts p a pa).1) ((and_parts (p && a) b ab).1) ((and_parts (p && a && b) c abc).1) ((and_parts (p && a && b && c) d h).1) l
