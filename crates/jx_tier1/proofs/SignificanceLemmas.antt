-- Where a significance pass asks for a bit.
use Rattle.std.proofs.Common.{◌≡◌, ◌==◌, ◌||◌, ℕ, Bool, true, false, refl, sym, if◌then◌else◌}
use Rattle.std.proofs.lemmas.Bool.{eq-eqb, ne_eqb, true≢false}
use Rattle.jx_tier1_specs.specs.declared.question.Plane.{Plane}
use Rattle.jx_tier1_specs.specs.Cells.{Cells, coef_at, significant}
use Rattle.jx_tier1_specs.specs.Asking.{Told}
use Rattle.jx_tier1_specs.specs.Pass.{is_decided, label_at, bit_of, significance_at}

not_false : {A : Type 0} → false ≡ true → A
not_false e = absurd (true≢false (sym e))

by_first : {A : Type 0} (a d l : Bool) (t u : A) → a ≡ true → (if a || d || l then t else u) ≡ t
by_first true d l t u e = refl
by_first false d l t u e = not_false e

by_second : {A : Type 0} (a d l : Bool) (t u : A) → d ≡ true → (if a || d || l then t else u) ≡ t
by_second true d l t u e = refl
by_second false true l t u e = refl
by_second false false l t u e = not_false e

by_third : {A : Type 0} (a d l : Bool) (t u : A) → l ≡ true → (if a || d || l then t else u) ≡ t
by_third true d l t u e = refl
by_third false true l t u e = refl
by_third false false true t u e = refl
by_third false false false t u e = not_false e

by_none : {A : Type 0} (a d l : Bool) (t u : A) → a ≡ false → d ≡ false → l ≡ false → (if a || d || l then t else u) ≡ u
by_none true d l t u e f h = not_false (sym e)
by_none false true l t u e f h = not_false (sym f)
by_none false false true t u e f h = not_false (sym h)
by_none false false false t u e f h = refl

-- no bit that is 0 by what was decided
pub significance_marked : (k : Plane) (g : Cells) (x y : ℕ) → significant (coef_at g x y) ≡ true → significance_at k g x y ≡ Told g
significance_marked k g x y e =
    by_first (significant (coef_at g x y)) (is_decided k (coef_at g x y)) (label_at k g x y == 0) (Told g) (bit_of k g x y) e

pub significance_done : (k : Plane) (g : Cells) (x y : ℕ) → is_decided k (coef_at g x y) ≡ true → significance_at k g x y ≡ Told g
significance_done k g x y e =
    by_second (significant (coef_at g x y)) (is_decided k (coef_at g x y)) (label_at k g x y == 0) (Told g) (bit_of k g x y) e

pub significance_none : (k : Plane) (g : Cells) (x y : ℕ) → label_at k g x y ≡ 0 → significance_at k g x y ≡ Told g
significance_none k g x y e =
    by_third (significant (coef_at g x y)) (is_decided k (coef_at g x y)) (label_at k g x y == 0) (Told g) (bit_of k g x y) (eq-eqb (label_at k g x y) 0 e)

pub significance_asked : (k : Plane) (g : Cells) (x y : ℕ) → significant (coef_at g x y) ≡ false → is_decided k (coef_at g x y) ≡ false
    → (label_at k g x y ≡ 0 → ⊥) → significance_at k g x y ≡ bit_of k g x y
significance_asked k g x y s d l =
    by_none (significant (coef_at g x y)) (is_decided k (coef_at g x y)) (label_at k g x y == 0) (Told g) (bit_of k g x y) s d (ne_eqb (label_at k g x y) 0 l)
