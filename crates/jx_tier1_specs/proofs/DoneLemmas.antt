-- What passes have done at a place.
use Rattle.std.proofs.Common.{◌≡◌, ◌≢◌, ◌<◌, ◌≤◌, ◌+◌, ◌-◌, ◌*◌, ◌%◌, ◌^◌, ◌==◌, nat_lt, ℕ, zero, suc, Bool, true, false, not, ◌&&◌, ◌||◌, get_or, refl, sym, ap, ◌∙◌, arith, subst, inl, inr, if◌then◌else◌}
use Rattle.std.proofs.lemmas.Bool.Decides.{nat_tests}
use Rattle.std.proofs.lemmas.Bool.{cases_Bool, cases_lt, not_from_false}
use Rattle.std.proofs.lemmas.Nat.{pow_pos}
use Rattle.jx_tier1_specs.specs.declared.coef.Coef.{Coef}
use Rattle.jx_tier1_specs.specs.declared.question.Plane.{Plane}
use Rattle.jx_tier1_specs.specs.Cells.{Cells, zero_coef, coef_at, with_coef, significant}
use Rattle.jx_tier1_specs.specs.Asking.{Asking, Told}
use Rattle.jx_tier1_specs.specs.Pass.{IsScan, shift_of, is_decided, with_bit, with_sign, changed, label_at, sign_of, bit_of, significance_at, refinement_at, usual_at, is_run, zeroed, number_in_run, place_at, run_at, cleanup_at, pass_at}
use Rattle.jx_tier1_specs.proofs.PowerLemmas.{multiple}
use Rattle.jx_tier1_specs.proofs.FrontLemmas.{IsBefore, IsClean, zero_clean, sign_clean}
use Rattle.jx_tier1_specs.proofs.GridLemmas.{IsFront, AreClean, IsIn, IsWhole, here_with, with_clean, set_at, index_in}
use Rattle.jx_tier1_specs.proofs.LeafLemmas.{AllLeaves}
use Rattle.jx_tier1_specs.proofs.StepLemmas.{no_bits, clean_at}
use Rattle.jx_tier1_specs.proofs.RunBackLemmas.{IsRun, is_one, zero_rows, number_is, named_cells}
use Rattle.jx_tier1_specs.proofs.FollowLemmas.{some_bits}

-- the coefficient of a number was decided in the plane; it was, if it is significant
abbrev pub IsDone : Plane → Cells → ℕ → Type 0
IsDone k m i = k.number + 1 ≤ (get_or m.coefs i zero_coef).planes

abbrev pub IsSettled : Plane → Cells → ℕ → Type 0
IsSettled k m i = (get_or m.coefs i zero_coef).bits ≢ 0 → IsDone k m i

abbrev pub place_of : Cells → ℕ → ℕ → ℕ
place_of m x y = y * m.width + x

pub leaves_if : (b : Bool) (t u : Asking Cells) (P : Cells → Type 0) → (b ≡ true → AllLeaves t P) → (b ≡ false → AllLeaves u P) → AllLeaves (if b then t else u) P
leaves_if true t u P f g = f refl
leaves_if false t u P f g = g refl

done_with : (k : Plane) (m : Cells) (x y : ℕ) (c : Coef) → IsWhole m → IsIn m x y → c.planes ≡ k.number + 1 → IsDone k (with_coef m x y c) (place_of m x y)
done_with k m x y c w i e = subst (λ (d : Coef). k.number + 1 ≤ d.planes) (sym (here_with m x y c w i)) (omega arith)

greater : (a b : ℕ) → nat_lt a b ≡ true → a + 1 ≤ b
greater a b h = grind (arith, nat_tests)

and_false : (a b : Bool) → a && b ≡ false → b ≡ true → a ≡ false
and_false true b h e = absurd (cc)
and_false false b h e = refl

planes_of : (k : Plane) (b : Bool) (c : Coef) → (with_bit k b c).planes ≡ k.number + 1
planes_of k b c = refl

-- after the refinement pass of a place it is settled
pub refinement_settles : (k : Plane) (m : Cells) (x y : ℕ) → IsWhole m → IsIn m x y → AllLeaves (refinement_at k m x y) (λ v. IsSettled k v (place_of m x y))
refinement_settles k m x y w i =
    let c : Coef = coef_at m x y in
    leaves_if (significant c && not (is_decided k c)) _ (Told m) (λ v. IsSettled k v (place_of m x y))
    (λ e. λ b. λ n. done_with k m x y (with_bit k b c) w i (planes_of k b c))
    (λ e. λ n. elim (cases_Bool (is_decided k c)) [
      | inl d ↦ greater k.number c.planes d
      | inr d ↦ absurd (n (no_bits c.bits (and_false (significant c) (not (is_decided k c)) e (not_from_false (is_decided k c) d))))
    ])

bit_done : (k : Plane) (m : Cells) (x y : ℕ) → IsWhole m → IsIn m x y → (b : Bool)
    → AllLeaves (if b then sign_of k m x y else Told (changed m x y (with_bit k false))) (λ v. IsDone k v (place_of m x y))
bit_done k m x y w i true = λ n. done_with k m x y (with_sign k n (coef_at m x y)) w i refl
bit_done k m x y w i false = done_with k m x y (with_bit k false (coef_at m x y)) w i refl

or_cases : (a b : Bool) → a || b ≡ true → b ≡ false → a ≡ true
or_cases true b h e = refl
or_cases false b h e = absurd (cc)

usual_done : (k : Plane) (m : Cells) (x y : ℕ) → IsWhole m → IsIn m x y → IsSettled k m (place_of m x y) → AllLeaves (usual_at k m x y) (λ v. IsDone k v (place_of m x y))
usual_done k m x y w i s =
    let c : Coef = coef_at m x y in
    leaves_if (significant c || is_decided k c) (Told m) (bit_of k m x y) (λ v. IsDone k v (place_of m x y))
    (λ e. elim (cases_Bool (is_decided k c)) [
      | inl d ↦ greater k.number c.planes d
      | inr d ↦ s (some_bits c.bits (or_cases (significant c) (is_decided k c) e d))
    ])
    (λ e. λ b. bit_done k m x y w i b)

-- a column whose first place was decided
pub done_front : (k : Plane) (m v : Cells) (j : ℕ) → IsFront k.planes m v → IsDone k m j → IsDone k v j
done_front k m v j f d = let h = (f.at j).decided in omega arith

rows_done : (k : Plane) (n : ℕ) (m : Cells) (x y : ℕ) → AreClean k.planes (k.number + 1) m → x < m.width → y + suc n ≤ m.height → IsDone k (zeroed k (suc n) m x y) (place_of m x y)
rows_done k n m x y a p q =
    let c : Coef = coef_at m x y in
    let i : IsIn m x y = record { column = p; row = omega arith } in
    let h : Cells = changed m x y (with_bit k false) in
    let z = zero_rows k n h x (y + 1) (with_clean k.planes (k.number + 1) m x y (with_bit k false c) i a (zero_clean k c (clean_at k m x y a))) p (omega arith) in
    done_front k h (zeroed k n h x (y + 1)) (place_of m x y) z.front (done_with k m x y (with_bit k false c) a.whole i refl)

named_done : (k : Plane) (m : Cells) (x y n : ℕ) (negative : Bool) → IsScan k → AreClean k.planes (k.number + 1) m → x < m.width → IsRun k m x y → n < 4
    → IsDone k (named_cells k m x y n negative) (place_of m x y)
named_done k m x y zero negative s a p r l =
    let e : y + 0 ≡ y = omega arith in
    let rows = r.rows in
    let i : IsIn m x y = record { column = p; row = omega arith } in
    let P : ℕ → Type 0 = λ z. IsDone k (changed m x z (with_sign k negative)) (place_of m x y) in
    subst P (sym e) (done_with k m x y (with_sign k negative (coef_at m x y)) a.whole i refl)
named_done k m x y (suc n) negative s a p r l =
    let c : Coef = coef_at m x (y + suc n) in
    let rows = r.rows in
    let i : IsIn m x (y + suc n) = record { column = p; row = omega arith } in
    let t = r.left (suc n) l in
    let q : Cells = changed m x (y + suc n) (with_sign k negative) in
    let b = with_clean k.planes (k.number + 1) m x (y + suc n) (with_sign k negative c) i a (sign_clean k negative c s t.planes (clean_at k m x (y + suc n) a)) in
    rows_done k n q x y b p (omega arith)

run_done_at : (k : Plane) (m : Cells) (x y : ℕ) → IsScan k → AreClean k.planes (k.number + 1) m → x < m.width → IsRun k m x y → (any : Bool)
    → AllLeaves (if any then place_at k m x y else Told (zeroed k 4 m x y)) (λ v. IsDone k v (place_of m x y))
run_done_at k m x y s a p r true = λ h. λ l. λ n. let d = number_is h l in named_done k m x y (number_in_run h l) n s a p r d.few
run_done_at k m x y s a p r false = rows_done k 3 m x y a p r.rows

pub cleanup_done : (k : Plane) (m : Cells) (x y : ℕ) → IsScan k → IsIn m x y → AreClean k.planes (k.number + 1) m → IsSettled k m (place_of m x y)
    → AllLeaves (cleanup_at k m x y) (λ v. IsDone k v (place_of m x y))
cleanup_done k m x y s i a t =
    leaves_if (is_run k m x y) (run_at k m x y) (usual_at k m x y) (λ v. IsDone k v (place_of m x y))
    (λ e. λ b. run_done_at k m x y s a i.column (is_one k m x y e) b)
    (λ e. usual_done k m x y a.whole i t)

-- what was settled stays so
pub settled_coef : (k : Plane) (a b : Coef) → IsBefore k.planes a b → IsClean k.planes (k.number + 1) a → IsClean k.planes (k.number + 1) b → k.number ≤ a.planes
    → (a.bits ≢ 0 → k.number + 1 ≤ a.planes) → b.bits ≢ 0 → k.number + 1 ≤ b.planes
settled_coef k a b f ca cb l h n =
    elim (cases_lt k.number b.planes) [
      | inl p ↦ omega arith
      | inr p ↦ (
          let d = f.decided in
          let e : b.planes ≡ a.planes = omega arith in
          let z : b.bits % 2 ^ (k.planes - a.planes) ≡ 0 = subst (λ (s : ℕ). b.bits % 2 ^ (k.planes - s) ≡ 0) e cb.low in
          let u : b.bits ≡ a.bits =
          multiple b.bits (k.planes - a.planes) z ∙ (ap (λ (q : ℕ). q * 2 ^ (k.planes - a.planes)) f.bits ∙ sym (multiple a.bits (k.planes - a.planes) ca.low)) in
          let t = h (λ w. n (u ∙ w)) in
          omega arith)
    ]

-- a coefficient whose bits are all 0 isn't negative
abbrev pub IsNeatCoef : Coef → Type 0
IsNeatCoef c = c.bits ≡ 0 → c.negative ≡ false

abbrev pub AreNeat : Cells → Type 0
AreNeat m = (i : ℕ) → IsNeatCoef (get_or m.coefs i zero_coef)

neat_with : (m : Cells) (x y : ℕ) (c : Coef) → IsWhole m → IsIn m x y → AreNeat m → IsNeatCoef c → AreNeat (with_coef m x y c)
neat_with m x y c w i n h = set_at IsNeatCoef m.coefs (y * m.width + x) c h n (index_in m x y w i)

neat_more : (k : Plane) (b : Bool) (c : Coef) → IsNeatCoef c → IsNeatCoef (with_bit k b c)
neat_more k true c h = λ z. h (omega arith)
neat_more k false c h = h

neat_sign : (k : Plane) (n : Bool) (c : Coef) → IsNeatCoef (with_sign k n c)
neat_sign k n c = λ z. let p = pow_pos (shift_of k) in absurd (omega arith)

bit_neat : (k : Plane) (m : Cells) (x y : ℕ) → IsWhole m → IsIn m x y → AreNeat m → (b : Bool)
    → AllLeaves (if b then sign_of k m x y else Told (changed m x y (with_bit k false))) AreNeat
bit_neat k m x y w i n true = λ s. neat_with m x y (with_sign k s (coef_at m x y)) w i n (neat_sign k s (coef_at m x y))
bit_neat k m x y w i n false = neat_with m x y (with_bit k false (coef_at m x y)) w i n (neat_more k false (coef_at m x y) (n (y * m.width + x)))

rows_neat : (k : Plane) (count : ℕ) (m : Cells) (x y : ℕ) → AreClean k.planes (k.number + 1) m → x < m.width → y + count ≤ m.height → AreNeat m → AreNeat (zeroed k count m x y)
rows_neat k zero m x y a p q n = n
rows_neat k (suc count) m x y a p q n =
    let c : Coef = coef_at m x y in
    let i : IsIn m x y = record { column = p; row = omega arith } in
    rows_neat k count (changed m x y (with_bit k false)) x (y + 1) (with_clean k.planes (k.number + 1) m x y (with_bit k false c) i a (zero_clean k c (clean_at k m x y a))) p (omega arith)
    (neat_with m x y (with_bit k false c) a.whole i n (neat_more k false c (n (y * m.width + x))))

run_neat_at : (k : Plane) (m : Cells) (x y : ℕ) → IsScan k → AreClean k.planes (k.number + 1) m → x < m.width → IsRun k m x y → AreNeat m → (any : Bool)
    → AllLeaves (if any then place_at k m x y else Told (zeroed k 4 m x y)) AreNeat
run_neat_at k m x y s a p r n true = λ h. λ l. λ v.
    let d = number_is h l in
    let f = d.few in
    let rows = r.rows in
    let j : ℕ = number_in_run h l in
    let c : Coef = coef_at m x (y + j) in
    let i : IsIn m x (y + j) = record { column = p; row = omega arith } in
    let t = r.left j f in
    rows_neat k j (changed m x (y + j) (with_sign k v)) x y
    (with_clean k.planes (k.number + 1) m x (y + j) (with_sign k v c) i a (sign_clean k v c s t.planes (clean_at k m x (y + j) a))) p (omega arith)
    (neat_with m x (y + j) (with_sign k v c) a.whole i n (neat_sign k v c))
run_neat_at k m x y s a p r n false = rows_neat k 4 m x y a p r.rows n

pub place_neat : (pass : ℕ) (k : Plane) (m : Cells) (x y : ℕ) → IsScan k → IsIn m x y → AreClean k.planes (k.number + 1) m → AreNeat m → AllLeaves (pass_at pass k m x y) AreNeat
place_neat pass k m x y s i a n =
    let c : Coef = coef_at m x y in
    leaves_if (pass % 3 == 1) (significance_at k m x y) (if pass % 3 == 2 then refinement_at k m x y else cleanup_at k m x y) AreNeat
    (λ e. leaves_if (significant c || is_decided k c || label_at k m x y == 0) (Told m) (bit_of k m x y) AreNeat (λ f. n) (λ f. λ b. bit_neat k m x y a.whole i n b))
    (λ e. leaves_if (pass % 3 == 2) (refinement_at k m x y) (cleanup_at k m x y) AreNeat
    (λ f. leaves_if (significant c && not (is_decided k c)) _ (Told m) AreNeat
    (λ g. λ b. neat_with m x y (with_bit k b c) a.whole i n (neat_more k b c (n (y * m.width + x)))) (λ g. n))
    (λ f. leaves_if (is_run k m x y) (run_at k m x y) (usual_at k m x y) AreNeat
    (λ g. λ b. run_neat_at k m x y s a i.column (is_one k m x y g) n b)
    (λ g. leaves_if (significant c || is_decided k c) (Told m) (bit_of k m x y) AreNeat (λ h. n) (λ h. λ b. bit_neat k m x y a.whole i n b))))
