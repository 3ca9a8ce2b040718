-- How many decisions the passes of a block ask for.
use Rattle.std.proofs.Common.{◌≡◌, ℕ, zero, suc, ◌+◌, ◌-◌, ◌*◌, ◌%◌, ◌≤◌, ◌==◌, ◌||◌, ◌&&◌, not, Bool, true, false, List, [], ◌∷◌, ◌++◌, inl, inr, ◌∙◌, subst, refl, arith, length, length-append, if◌then◌else◌}
use Rattle.std.proofs.lemmas.Bool.{cases_Bool}
use Rattle.jx_coder_specs.specs.MqWriting.{MqGiven}
use Rattle.jx_base.specs.Passes.{is_causal, raw_pass, resets}
use Rattle.jx_tier1_specs.specs.declared.question.Plane.{Plane}
use Rattle.jx_tier1_specs.specs.declared.question.About.TheVariants.{Bit}
use Rattle.jx_tier1_specs.specs.Asking.{Asking, Told, Ask, and_then}
use Rattle.jx_tier1_specs.specs.Cells.{Cells, coef_at, significant}
use Rattle.jx_tier1_specs.specs.Needs.{answer_of, called_for, followed, followed_pass, needs_from, pass_needs, renewal, symbol_needs}
use Rattle.jx_tier1_specs.specs.Pass.{bit_of, changed, cleanup_at, is_decided, is_run, label_at, named_at, number_in_run, pass_at, pass_at_nth, pass_of, place_at, plane_of, question, refinement_at, refinement_label_at, run_at, scan_column, scan_row, scanned, sign_of, significance_at, usual_at, with_bit, with_sign, zeroed}
use Rattle.jx_tier1_specs.specs.Reading.{Coding, ends_by_symbol}
use Rattle.jx_tier1_specs.specs.Symbol.{symbol_asked}

-- a procedure asks for at most so many decisions, and ends in values of which this holds
abbrev pub Few : {A : Type 0} → ℕ → (A → Type 0) → Asking A → Type 0
Few n P (Told a) = P a
Few n P (Ask q k) = (m : ℕ) × (n ≡ suc m) × ((b : Bool) → Few m P (k b))

few_more : {A : Type 0} (n m : ℕ) (P Q : A → Type 0) (t : Asking A) → n ≤ m → ((a : A) → P a → Q a) → Few n P t → Few m Q t
few_more n m P Q (Told a) le f h = f a h
few_more n m P Q (Ask q k) le f h =
    let e : n ≡ suc h.0 = h.1 in
    (m - 1, omega arith, λ (b : Bool). few_more h.0 (m - 1) P Q (k b) (omega arith) f (h.2 b))

few_then : {A B : Type 0} (n m : ℕ) (P : A → Type 0) (Q : B → Type 0) (t : Asking A) (f : A → Asking B) → Few n P t → ((a : A) → P a → Few m Q (f a)) → Few (n + m) Q (and_then t f)
few_then n m P Q (Told a) f h step = few_more m (n + m) Q Q (f a) (omega arith) (λ v p. p) (step a h)
few_then n m P Q (Ask q k) f h step =
    let e : n ≡ suc h.0 = h.1 in
    (h.0 + m, omega arith, λ (b : Bool). few_then h.0 m P Q (k b) f (h.2 b) step)

few_if : {A : Type 0} (n : ℕ) (P : A → Type 0) (b : Bool) (t u : Asking A) → Few n P t → Few n P u → Few n P (if b then t else u)
few_if n P true t u h k = h
few_if n P false t u h k = k

-- what a grid answers
called_few : {A : Type 0} (raw : Bool) (g : Cells) (n : ℕ) (P : A → Type 0) (t : Asking A) → Few n P t → length (called_for raw g t) ≤ n
called_few raw g n P (Told a) h = omega arith
called_few raw g n P (Ask q k) h =
    let e : n ≡ suc h.0 = h.1 in
    let r = called_few raw g h.0 P (k (answer_of g q)) (h.2 (answer_of g q)) in
    omega arith

followed_few : {A : Type 0} (g : Cells) (n : ℕ) (P : A → Type 0) (t : Asking A) → Few n P t → P (followed g t)
followed_few g n P (Told a) h = h
followed_few g n P (Ask q k) h = followed_few g h.0 P (k (answer_of g q)) (h.2 (answer_of g q))

-- ---- one place
abbrev pub SameSize : Cells → Cells → Type 0
SameSize g v = (v.width ≡ g.width) × (v.height ≡ g.height)

zeroed_size : (k : Plane) (n : ℕ) (g : Cells) (x y : ℕ) → SameSize g (zeroed k n g x y)
zeroed_size k zero g x y = (refl, refl)
zeroed_size k (suc n) g x y = zeroed_size k n (changed g x y (with_bit k false)) x (y + 1)

sign_few : (k : Plane) (g : Cells) (x y n : ℕ) → Few (suc n) (SameSize g) (sign_of k g x y)
sign_few k g x y n = (n, refl, λ (negative : Bool). (refl, refl))

bit_few : (k : Plane) (g : Cells) (x y : ℕ) → Few 4 (SameSize g) (bit_of k g x y)
bit_few k g x y =
    (3, omega arith, λ (b : Bool). few_if 3 (SameSize g) b (sign_of k g x y) (Told (changed g x y (with_bit k false))) (few_more 1 3 (SameSize g) (SameSize g) (sign_of k g x y) (omega arith) (λ v p. p) (sign_few k g x y 0)) (refl, refl))

significance_few : (k : Plane) (g : Cells) (x y : ℕ) → Few 4 (SameSize g) (significance_at k g x y)
significance_few k g x y =
    few_if 4 (SameSize g) (significant (coef_at g x y) || is_decided k (coef_at g x y) || label_at k g x y == 0) (Told g) (bit_of k g x y) (refl, refl) (bit_few k g x y)

refinement_few : (k : Plane) (g : Cells) (x y : ℕ) → Few 4 (SameSize g) (refinement_at k g x y)
refinement_few k g x y = by (significant (coef_at g x y) && not (is_decided k (coef_at g x y)))
  where
    by : (b : Bool) → Few 4 (SameSize g) (if b then Ask (question k (refinement_label_at k g x y) false (Bit x y)) (λ (bit : Bool). Told (changed g x y (with_bit k bit))) else Told g)
    by true = (3, omega arith, λ (bit : Bool). (refl, refl))
    by false = (refl, refl)

usual_few : (k : Plane) (g : Cells) (x y : ℕ) → Few 4 (SameSize g) (usual_at k g x y)
usual_few k g x y = few_if 4 (SameSize g) (significant (coef_at g x y) || is_decided k (coef_at g x y)) (Told g) (bit_of k g x y) (refl, refl) (bit_few k g x y)

named_few : (k : Plane) (g : Cells) (x y n : ℕ) → Few 1 (SameSize g) (named_at k g x y n)
named_few k g x y n = (0, omega arith, λ (negative : Bool). zeroed_size k n (changed g x (y + n) (with_sign k negative)) x y)

run_few : (k : Plane) (g : Cells) (x y : ℕ) → Few 4 (SameSize g) (run_at k g x y)
run_few k g x y = (
  3,
  omega arith,
  λ (any : Bool). few_if 3 (SameSize g) any (place_at k g x y) (Told (zeroed k 4 g x y))
      (2, omega arith, λ (high : Bool). (1, omega arith, λ (low : Bool). named_few k g x y (number_in_run high low)))
      (zeroed_size k 4 g x y),
)

place_few : (pass : ℕ) (k : Plane) (g : Cells) (x y : ℕ) → Few 4 (SameSize g) (pass_at pass k g x y)
place_few pass k g x y =
    few_if 4 (SameSize g) (pass % 3 == 1) (significance_at k g x y) (if pass % 3 == 2 then refinement_at k g x y else cleanup_at k g x y) (significance_few k g x y)
    (few_if 4 (SameSize g) (pass % 3 == 2) (refinement_at k g x y) (cleanup_at k g x y) (refinement_few k g x y)
    (few_if 4 (SameSize g) (is_run k g x y) (run_at k g x y) (usual_at k g x y) (run_few k g x y) (usual_few k g x y)))

-- ---- a pass
scanned_few : (pass : ℕ) (k : Plane) (count n : ℕ) (g : Cells) → Few (count * 4) (SameSize g) (scanned pass k count n g)
scanned_few pass k zero n g = (refl, refl)
scanned_few pass k (suc count) n g =
    let all : 4 + count * 4 ≡ suc count * 4 = omega arith in
    subst (λ (m : ℕ). Few m (SameSize g) (scanned pass k (suc count) n g)) all
    (few_then 4 (count * 4) (SameSize g) (SameSize g) (pass_at_nth pass k g n) (λ h. scanned pass k count (n + 1) h)
    (place_few pass k g (scan_column g.width g.height n) (scan_row g.width g.height n))
    (λ (v : Cells) p. few_more (count * 4) (count * 4) (SameSize v) (SameSize g) (scanned pass k count (n + 1) v) (omega arith) (λ (u : Cells) q. (q.0 ∙ p.0, q.1 ∙ p.1))
    (scanned_few pass k count (n + 1) v)))

pass_few : (c : Coding) (pass : ℕ) (g : Cells) → g.width * g.height ≤ 4096 → Few 16384 (SameSize g) (pass_of c.band (is_causal c.style) c.planes pass g)
unfolding pass_of
pass_few c pass g le =
    few_more (g.width * g.height * 4) 16384 (SameSize g) (SameSize g) (scanned pass (plane_of c.band (is_causal c.style) c.planes pass) (g.width * g.height) 0 g) (omega arith) (λ v p. p)
    (scanned_few pass (plane_of c.band (is_causal c.style) c.planes pass) (g.width * g.height) 0 g)

symbol_few : Few 4 (λ (right : Bool). Unit {0}) symbol_asked
unfolding symbol_asked
symbol_few = (3, omega arith, λ (a : Bool). (2, omega arith, λ (b : Bool). (1, omega arith, λ (c : Bool). (0, omega arith, λ (d : Bool). tt))))

renewal_few : (c : Coding) → length (renewal c) ≤ 1
renewal_few c = elim (cases_Bool (resets c.style)) [
  | inl t ↦ rw t (omega arith)
  | inr f ↦ rw f (omega arith)
]

symbol_needs_few : (c : Coding) (g : Cells) (pass : ℕ) → length (symbol_needs c g pass) ≤ 4
symbol_needs_few c g pass = elim (cases_Bool (ends_by_symbol c.style pass)) [
  | inl t ↦ rw t (called_few (raw_pass c.style pass) g 4 (λ (right : Bool). Unit {0}) symbol_asked symbol_few)
  | inr f ↦ rw f (omega arith)
]

pass_needs_few : (c : Coding) (g : Cells) (pass : ℕ) (now : Cells) → now.width * now.height ≤ 4096 → length (pass_needs c g pass now) ≤ 16389
pass_needs_few c g pass now le =
    let a = renewal_few c in
    let b = called_few (raw_pass c.style pass) g 16384 (SameSize now) (pass_of c.band (is_causal c.style) c.planes pass now) (pass_few c pass now le) in
    let d = symbol_needs_few c g pass in
    omega (
      arith,
      length-append (renewal c) (called_for (raw_pass c.style pass) g (pass_of c.band (is_causal c.style) c.planes pass now) ++ symbol_needs c g pass),
      length-append (called_for (raw_pass c.style pass) g (pass_of c.band (is_causal c.style) c.planes pass now)) (symbol_needs c g pass),
    )

-- ---- all passes
abbrev pub AllFew : List (List MqGiven) → Type 0
AllFew [] = Unit {0}
AllFew (given ∷ more) = (length given ≤ 16389) × AllFew more

pub needs_few : (c : Coding) (g : Cells) (count pass : ℕ) (now : Cells) → now.width * now.height ≤ 4096 → AllFew (needs_from c g count pass now)
unfolding needs_from
needs_few c g zero pass now le = tt
needs_few c g (suc count) pass now le =
    let next : Cells = followed_pass c g pass now in
    let size : SameSize now next = followed_few g 16384 (SameSize now) (pass_of c.band (is_causal c.style) c.planes pass now) (pass_few c pass now le) in
    let same : next.width * next.height ≡ now.width * now.height = rw (size.0, size.1) refl in
    (pass_needs_few c g pass now le, needs_few c g count (pass + 1) next (omega arith))
