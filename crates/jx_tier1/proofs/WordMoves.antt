-- What a pass over a word does to the coefficients.
use Rattle.std.proofs.Common.{◌≡◌, ◌≢◌, ◌<◌, ◌≤◌, ◌+◌, ◌*◌, ◌/◌, ◌%◌, ◌==◌, ◌||◌, ◌&&◌, not, ℕ, zero, suc, Bool, true, false, refl, sym, ap, ◌∙◌, arith, subst, inl, inr, length, List, get_or, set, if◌then◌else◌}
use Rattle.std.proofs.lemmas.Bool.{cases_Bool, cases_eq, true≢false, eqb-true}
use Rattle.std.proofs.lemmas.List.{get_or-set_same, get_or-set_other, length-set}
use Rattle.jx_tier1_specs.specs.declared.coef.Coef.{Coef}
use Rattle.jx_tier1_specs.specs.declared.question.Plane.{Plane}
use Rattle.jx_tier1_specs.specs.declared.question.Question.{Question}
use Rattle.jx_tier1_specs.specs.Cells.{Cells, zero_coef, coef_at, with_coef, significant}
use Rattle.jx_tier1_specs.specs.Asking.{Asking, Told, told}
use Rattle.jx_tier1_specs.specs.Pass.{is_decided, with_bit, with_sign, changed, label_at, sign_of, bit_of, significance_at, refinement_at, usual_at, is_quiet, is_run, zeroed, number_in_run, place_at, run_at, cleanup_at, pass_at}
use Rattle.jx_tier1_specs.proofs.DoneLemmas.{leaves_if}
use Rattle.jx_tier1_specs.proofs.FrontLemmas.{IsClean}
use Rattle.jx_tier1_specs.proofs.GridLemmas.{IsIn, IsWhole, index_in, below_with}
use Rattle.jx_tier1_specs.proofs.LeafLemmas.{AllLeaves, leaves_told}
use Rattle.jx_tier1_specs.proofs.RunBackLemmas.{IsRun, is_one, number_is}
use Rattle.jx_tier1_specs.proofs.StepLemmas.{no_bits}
use Rattle.jx_tier1_specs.proofs.Told.{told_then}
use Rattle.jx_tier1.specs.Walking.{IsNow}
use Rattle.jx_tier1.specs.WordScan.{has_place, pass_at_bit, bits_scanned, word_pass}
use Rattle.jx_tier1.proofs.MarkLemmas.{same_place}
use Rattle.jx_tier1.proofs.DueWords.{IsPlaceOf, place_of, some_place}
use Rattle.jx_tier1.proofs.PaceLemmas.{place_after}
use Rattle.jx_tier1.proofs.WordScanLemmas.{at_place, at_no_place}

-- all coefficients but those of a word stay, by its group and stripe, and a relation holds of each one and what becomes of it
pub record Moves (R : Coef → Coef → Type 0) (t s : ℕ) (g v : Cells) : Type 0 where
  pub width : v.width ≡ g.width
  pub height : v.height ≡ g.height
  pub size : length v.coefs ≡ length g.coefs
  pub stays : (c r : ℕ) → c < g.width → (c / 8 ≡ t → r / 4 ≡ s → ⊥) → coef_at v c r ≡ coef_at g c r
  pub each : (i : ℕ) → R (get_or g.coefs i zero_coef) (get_or v.coefs i zero_coef)

-- a relation that holds of what stays, and of two steps where it holds of each
pub record IsPath (R : Coef → Coef → Type 0) : Type 0 where
  pub same : (c : Coef) → R c c
  pub next : (c d e : Coef) → R c d → R d e → R c e

pub moves_same : (R : Coef → Coef → Type 0) (t s : ℕ) (g : Cells) → IsPath R → Moves R t s g g
moves_same R t s g p = record {
  width = refl;
  height = refl;
  size = refl;
  stays = λ c r l n. refl;
  each = λ i. p.same (get_or g.coefs i zero_coef);
}

pub moves_next : (R : Coef → Coef → Type 0) (t s : ℕ) (g v w : Cells) → IsPath R → Moves R t s g v → Moves R t s v w → Moves R t s g w
moves_next R t s g v w p a b = record {
  width = b.width ∙ a.width;
  height = b.height ∙ a.height;
  size = b.size ∙ a.size;
  stays = λ c r l n. b.stays c r (let e = a.width in omega arith) n ∙ a.stays c r l n;
  each = λ i. p.next (get_or g.coefs i zero_coef) (get_or v.coefs i zero_coef) (get_or w.coefs i zero_coef) (a.each i) (b.each i);
}

each_set : (R : Coef → Coef → Type 0) (xs : List Coef) (i : ℕ) (c : Coef) → IsPath R → R (get_or xs i zero_coef) c → i < length xs
    → (j : ℕ) → R (get_or xs j zero_coef) (get_or (set xs i c) j zero_coef)
each_set R xs i c p h l j =
    let P : ℕ → Type 0 = λ n. R (get_or xs n zero_coef) (get_or (set xs i c) n zero_coef) in
    let Q : Coef → Type 0 = λ d. R (get_or xs i zero_coef) d in
    let S : Coef → Type 0 = λ d. R (get_or xs j zero_coef) d in
    elim (cases_eq j i) [
      | inl e ↦ subst P (sym e) (subst Q (sym (get_or-set_same xs i c zero_coef l)) h)
      | inr e ↦ subst S (sym (get_or-set_other xs i j c zero_coef e)) (p.same (get_or xs j zero_coef))
    ]

-- a place of a word in a block with all its rows
pub record IsAmong (g : Cells) (t s x y : ℕ) : Type 0 where
  pub whole : IsWhole g
  pub inside : IsIn g x y
  pub group : x / 8 ≡ t
  pub stripe : y / 4 ≡ s

moves_with : (R : Coef → Coef → Type 0) (t s : ℕ) (g : Cells) (x y : ℕ) (c : Coef) → IsPath R → IsAmong g t s x y → R (coef_at g x y) c
    → Moves R t s g (with_coef g x y c)
moves_with R t s g x y c p a h = record {
  width = refl;
  height = refl;
  size = length-set g.coefs (y * g.width + x) c;
  stays = λ d r l n. get_or-set_other g.coefs (y * g.width + x) (r * g.width + d) c zero_coef
      (λ e. let z = same_place g.width d r x y l a.inside.column e in n (ap (λ (m : ℕ). m / 8) z.0 ∙ a.group) (ap (λ (m : ℕ). m / 4) z.1 ∙ a.stripe));
  each = each_set R g.coefs (y * g.width + x) c p h (index_in g x y a.whole a.inside);
}

whole_with : (g : Cells) (x y : ℕ) (c : Coef) → IsWhole g → IsWhole (with_coef g x y c)
whole_with g x y c w = record { size = length-set g.coefs (y * g.width + x) c ∙ w.size }

-- what a pass of the plane does to an insignificant coefficient
pub record TakesZeros (k : Plane) (R : Coef → Coef → Type 0) : Type 0 where
  pub path : IsPath R
  pub zero : (c : Coef) → c.bits ≡ 0 → R c (with_bit k false c)
  pub sign : (c : Coef) (n : Bool) → c.bits ≡ 0 → R c (with_sign k n c)

bit_moves : (k : Plane) (R : Coef → Coef → Type 0) (t s : ℕ) (g : Cells) (x y : ℕ) → TakesZeros k R → IsAmong g t s x y → (coef_at g x y).bits ≡ 0 → (b : Bool)
    → AllLeaves (if b then sign_of k g x y else Told (changed g x y (with_bit k false))) (Moves R t s g)
bit_moves k R t s g x y z a e true = λ n. moves_with R t s g x y (with_sign k n (coef_at g x y)) z.path a (z.sign (coef_at g x y) n e)
bit_moves k R t s g x y z a e false = moves_with R t s g x y (with_bit k false (coef_at g x y)) z.path a (z.zero (coef_at g x y) e)

first_of_three : (a b c : Bool) → (a || b || c) ≡ false → a ≡ false
first_of_three true b c e = absurd (true≢false e)
first_of_three false b c e = refl

first_of_two : (a b : Bool) → (a || b) ≡ false → a ≡ false
first_of_two true b e = absurd (true≢false e)
first_of_two false b e = refl

pub significance_moves : (k : Plane) (R : Coef → Coef → Type 0) (t s : ℕ) (g : Cells) (x y : ℕ) → TakesZeros k R → IsAmong g t s x y
    → AllLeaves (significance_at k g x y) (Moves R t s g)
significance_moves k R t s g x y z a =
    let c : Coef = coef_at g x y in
    leaves_if (significant c || is_decided k c || label_at k g x y == 0) (Told g) (bit_of k g x y) (Moves R t s g)
    (λ e. moves_same R t s g z.path)
    (λ e. λ b. bit_moves k R t s g x y z a (no_bits c.bits (first_of_three (significant c) (is_decided k c) (label_at k g x y == 0) e)) b)

-- rows of a column that are 0
abbrev AreNone : ℕ → Cells → ℕ → ℕ → Type 0
AreNone count g x y = (n : ℕ) → n < count → (coef_at g x (y + n)).bits ≡ 0

rows_move : (k : Plane) (R : Coef → Coef → Type 0) (t s count : ℕ) (g : Cells) (x y : ℕ) → TakesZeros k R → IsWhole g → x < g.width → y + count ≤ g.height
    → x / 8 ≡ t → 4 * s ≤ y → y + count ≤ 4 * s + 4 → AreNone count g x y → Moves R t s g (zeroed k count g x y)
rows_move k R t s zero g x y z w l m e f h n = moves_same R t s g z.path
rows_move k R t s (suc count) g x y z w l m e f h n =
    let o : y + 0 ≡ y = omega arith in
    let c : Coef = coef_at g x y in
    let d : Coef = with_bit k false c in
    let v : Cells = with_coef g x y d in
    let none : c.bits ≡ 0 = subst (λ (r : ℕ). (coef_at g x r).bits ≡ 0) o (n 0 (omega arith)) in
    let a : IsAmong g t s x y = record { whole = w; inside = record { column = l; row = omega arith }; group = e; stripe = omega arith } in
    let rest : AreNone count v x (y + 1) = λ j q.
    (let i : y + 1 + j ≡ y + suc j = omega arith in
    ap (λ (u : Coef). u.bits) (below_with g x y (y + 1 + j) d (omega arith) (omega arith)) ∙ (ap (λ (r : ℕ). (coef_at g x r).bits) i ∙ n (suc j) (omega arith))) in
    moves_next R t s g v (zeroed k count v x (y + 1)) z.path (moves_with R t s g x y d z.path a (z.zero c none))
    (rows_move k R t s count v x (y + 1) z (whole_with g x y d w) l (omega arith) e (omega arith) (omega arith) rest)

above_is : (g : Cells) (x r q : ℕ) (c : Coef) → x < g.width → (q ≢ r) → coef_at (with_coef g x r c) x q ≡ coef_at g x q
above_is g x r q c l n =
    get_or-set_other g.coefs (r * g.width + x) (q * g.width + x) c zero_coef (λ e. let z = same_place g.width x q x r l l e in n z.1)

named_moves : (k : Plane) (R : Coef → Coef → Type 0) (t s n : ℕ) (g : Cells) (x y : ℕ) (negative : Bool) → TakesZeros k R → IsAmong g t s x y → y % 4 ≡ 0 → n < 4
    → y + 4 ≤ g.height → AreNone 4 g x y → Moves R t s g (zeroed k n (changed g x (y + n) (with_sign k negative)) x y)
named_moves k R t s n g x y negative z a f l h none =
    let i = a.inside in
    let column = i.column in
    let q = a.stripe in
    let c : Coef = coef_at g x (y + n) in
    let d : Coef = with_sign k negative c in
    let v : Cells = with_coef g x (y + n) d in
    let b : IsAmong g t s x (y + n) = record { whole = a.whole; inside = record { column = column; row = omega arith }; group = a.group; stripe = omega arith } in
    moves_next R t s g v (zeroed k n v x y) z.path (moves_with R t s g x (y + n) d z.path b (z.sign c negative (none n l)))
    (rows_move k R t s n v x y z (whole_with g x (y + n) d a.whole) column (omega arith) a.group (omega arith) (omega arith)
    (λ j m. ap (λ (u : Coef). u.bits) (above_is g x (y + n) (y + j) d column (λ e. absurd (omega arith))) ∙ none j (omega arith)))

run_moves : (k : Plane) (R : Coef → Coef → Type 0) (t s : ℕ) (g : Cells) (x y : ℕ) → TakesZeros k R → IsAmong g t s x y → y % 4 ≡ 0 → IsRun k g x y → (any : Bool)
    → AllLeaves (if any then place_at k g x y else Told (zeroed k 4 g x y)) (Moves R t s g)
run_moves k R t s g x y z a f r true = λ h. λ l. λ n.
    named_moves k R t s (number_in_run h l) g x y n z a f (number_is h l).few r.rows (λ j m. (r.left j m).bits)
run_moves k R t s g x y z a f r false =
    let q = a.stripe in
    rows_move k R t s 4 g x y z a.whole a.inside.column r.rows a.group (omega arith) (omega arith) (λ j m. (r.left j m).bits)

first_test : (a b c d e f : Bool) → (a && b && c && d && e && f) ≡ true → a ≡ true
first_test true b c d e f h = refl
first_test false b c d e f h = absurd (true≢false (sym h))

pub cleanup_moves : (k : Plane) (R : Coef → Coef → Type 0) (t s : ℕ) (g : Cells) (x y : ℕ) → TakesZeros k R → IsAmong g t s x y
    → AllLeaves (cleanup_at k g x y) (Moves R t s g)
cleanup_moves k R t s g x y z a =
    let c : Coef = coef_at g x y in
    leaves_if (is_run k g x y) (run_at k g x y) (usual_at k g x y) (Moves R t s g)
    (λ e. λ b.
    let f = first_test (y % 4 == 0) _ (is_quiet k g x y) (is_quiet k g x (y + 1)) (is_quiet k g x (y + 2)) (is_quiet k g x (y + 3)) e in
    run_moves k R t s g x y z a (eqb-true (y % 4) 0 f) (is_one k g x y e) b)
    (λ e. leaves_if (significant c || is_decided k c) (Told g) (bit_of k g x y) (Moves R t s g)
    (λ f. moves_same R t s g z.path)
    (λ f. λ b. bit_moves k R t s g x y z a (no_bits c.bits (first_of_two (significant c) (is_decided k c) f)) b))

-- what a refinement pass does to a significant coefficient that isn't decided
pub record TakesMore (k : Plane) (R : Coef → Coef → Type 0) : Type 0 where
  pub path : IsPath R
  pub more : (c : Coef) (b : Bool) → significant c ≡ true → is_decided k c ≡ false → k.number ≤ c.planes → IsClean k.planes (k.number + 1) c → R c (with_bit k b c)

both_of : (a b : Bool) → (a && not b) ≡ true → (a ≡ true) × (b ≡ false)
both_of true true e = absurd (true≢false (sym e))
both_of true false e = (refl, refl)
both_of false b e = absurd (true≢false (sym e))

pub refinement_moves : (k : Plane) (R : Coef → Coef → Type 0) (t s : ℕ) (g : Cells) (x y : ℕ) → TakesMore k R → IsAmong g t s x y → IsNow k g
    → AllLeaves (refinement_at k g x y) (Moves R t s g)
refinement_moves k R t s g x y z a w =
    let c : Coef = coef_at g x y in
    leaves_if (significant c && not (is_decided k c)) _ (Told g) (Moves R t s g)
    (λ e. λ b.
    let d = both_of (significant c) (is_decided k c) e in
    let i = index_in g x y a.whole a.inside in
    moves_with R t s g x y (with_bit k b c) z.path a (z.more c b d.0 d.1 (w.at.least (y * g.width + x) i) (w.at.clean.at (y * g.width + x))))
    (λ e. moves_same R t s g z.path)

-- the bits of a word
pub record StepsTo (R : Coef → Coef → Type 0) (t s : ℕ) (k : Plane) (g v : Cells) : Type 0 where
  pub moves : Moves R t s g v
  pub now : IsNow k v

abbrev pub IsStep : ℕ → Plane → (Coef → Coef → Type 0) → ℕ → ℕ → Type 0
IsStep pass k R t s = (g : Cells) (x y : ℕ) → IsNow k g → IsAmong g t s x y → AllLeaves (pass_at pass k g x y) (Moves R t s g)

pub among_bit : (k : Plane) (g : Cells) (t s p : ℕ) → IsNow k g → p < 48 → IsPlaceOf g (8 * t) (4 * s) p → IsAmong g t s (8 * t + p / 6) (4 * s + p % 6)
among_bit k g t s p w l i =
    let gap = i.gap in
    record { whole = w.at.clean.whole; inside = record { column = i.column; row = i.row }; group = omega arith; stripe = omega arith }

pub placed : (g : Cells) (x y p : ℕ) → p < 48 → has_place g x y p ≡ true → IsPlaceOf g x y p
placed g x y p l e = place_of g x y p (some_place g x y p l ∙ e)

pub bit_step : {S : Type 0} (ask : S → Question → Bool × S) (pass : ℕ) (k : Plane) (R : Coef → Coef → Type 0) (t s p : ℕ) (g : Cells) (u : S) → IsPath R → IsStep pass k R t s
    → IsNow k g → p < 48 → StepsTo R t s k g (told ask (pass_at_bit pass k g (8 * t) (4 * s) p) u).0
bit_step {S = S} ask pass k R t s p g u path step w l =
    let P : Asking Cells → Type 0 = λ a. StepsTo R t s k g (told ask a u).0 in
    elim (cases_Bool (has_place g (8 * t) (4 * s) p)) [
      | inl e ↦
          (let i = placed g (8 * t) (4 * s) p l e in
          let a = among_bit k g t s p w l i in
          let tree : Asking Cells = pass_at pass k g (8 * t + p / 6) (4 * s + p % 6) in
          let m = leaves_told ask tree (Moves R t s g) u (step g (8 * t + p / 6) (4 * s + p % 6) w a) in
          let n = place_after ask pass k g (8 * t + p / 6) (4 * s + p % 6) u w a.inside in
          subst P (sym (at_place pass k g (8 * t) (4 * s) p e)) (record { moves = m; now = n.now }))
      | inr e ↦ subst P (sym (at_no_place pass k g (8 * t) (4 * s) p e)) (record { moves = moves_same R t s g path; now = w })
    ]

pub bits_move : {S : Type 0} (ask : S → Question → Bool × S) (pass : ℕ) (k : Plane) (R : Coef → Coef → Type 0) (t s count p : ℕ) (g : Cells) (u : S) → IsPath R
    → IsStep pass k R t s → IsNow k g → p + count ≤ 48 → StepsTo R t s k g (told ask (bits_scanned pass k (8 * t) (4 * s) count p g) u).0
bits_move ask pass k R t s zero p g u path step w l = record { moves = moves_same R t s g path; now = w }
bits_move {S = S} ask pass k R t s (suc count) p g u path step w l =
    let first : Asking Cells = pass_at_bit pass k g (8 * t) (4 * s) p in
    let v : Cells = (told ask first u).0 in
    let q : S = (told ask first u).1 in
    let more : Cells → Asking Cells = λ m. bits_scanned pass k (8 * t) (4 * s) count (p + 1) m in
    let a = bit_step ask pass k R t s p g u path step w (omega arith) in
    let b = bits_move ask pass k R t s count (p + 1) v q path step a.now (omega arith) in
    let P : Cells × S → Type 0 = λ z. StepsTo R t s k g z.0 in
    subst P (sym (told_then ask first more u)) (record { moves = moves_next R t s g v (told ask (more v) q).0 path a.moves b.moves; now = b.now })

pub word_moves : {S : Type 0} (ask : S → Question → Bool × S) (pass : ℕ) (k : Plane) (R : Coef → Coef → Type 0) (t s : ℕ) (g : Cells) (u : S) → IsPath R
    → IsStep pass k R t s → IsNow k g → Moves R t s g (told ask (word_pass pass k (8 * t) (4 * s) g) u).0
unfolding word_pass
word_moves ask pass k R t s g u path step w = (bits_move ask pass k R t s 48 0 g u path step w (omega arith)).moves
