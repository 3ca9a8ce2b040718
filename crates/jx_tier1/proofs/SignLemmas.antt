-- The signs of neighbours, by what a window shows of them.
use Rattle.std.proofs.Common.{◌≡◌, ◌+◌, ◌-◌, ◌%◌, ◌==◌, ◌&&◌, ◌||◌, ℕ, Bool, true, false, not, refl, sym, if◌then◌else◌}
use Rattle.std.proofs.lemmas.Bool.{true≢false}
use Rattle.jx_tier1_specs.specs.declared.coef.Coef.{Coef}
use Rattle.jx_tier1_specs.specs.Cells.{Cells, zero_coef, coef_at, significant}
use Rattle.jx_tier1_specs.specs.Near.{coef_near, across_of, down_of, leaning}
use Rattle.jx_tier1.specs.Marks.{is_outside}
use Rattle.jx_tier1.specs.Signs.{leaned}
use Rattle.jx_tier1.proofs.MarkLemmas.{IsInside, not_inside}

-- what is seen to be significant stands in the block
inside_seen : (hidden outside : Bool) (c : Coef) → significant (if outside || hidden then zero_coef else c) ≡ true → outside ≡ false
inside_seen hidden true c e = absurd (true≢false (sym e))
inside_seen hidden false c e = refl

is_itself : (hidden outside : Bool) (c : Coef) → significant (if outside || hidden then zero_coef else c) ≡ true → (if outside || hidden then zero_coef else c) ≡ c
is_itself true true c e = absurd (true≢false (sym e))
is_itself true false c e = absurd (true≢false (sym e))
is_itself false true c e = absurd (true≢false (sym e))
is_itself false false c e = refl

pub near_inside : (g : Cells) (causal : Bool) (y c r : ℕ) → significant (coef_near g causal y c r) ≡ true → IsInside g c r
unfolding coef_near
near_inside g causal y c r e =
    not_inside g c r (inside_seen (causal && y % 4 == 3 && r == y + 2) (is_outside g c r) (coef_at g (c - 1) (r - 1)) e)

pub near_itself : (g : Cells) (causal : Bool) (y c r : ℕ) → significant (coef_near g causal y c r) ≡ true → coef_near g causal y c r ≡ coef_at g (c - 1) (r - 1)
unfolding coef_near
near_itself g causal y c r e =
    is_itself (causal && y % 4 == 3 && r == y + 2) (is_outside g c r) (coef_at g (c - 1) (r - 1)) e

-- the sums of two signs
pub across_is : (g : Cells) (causal : Bool) (x y : ℕ) (p n q m : Bool)
    → p ≡ (significant (coef_near g causal y x (y + 1)) && not (coef_near g causal y x (y + 1)).negative)
    → n ≡ (significant (coef_near g causal y x (y + 1)) && (coef_near g causal y x (y + 1)).negative)
    → q ≡ (significant (coef_near g causal y (x + 2) (y + 1)) && not (coef_near g causal y (x + 2) (y + 1)).negative)
    → m ≡ (significant (coef_near g causal y (x + 2) (y + 1)) && (coef_near g causal y (x + 2) (y + 1)).negative)
    → leaned p n q m ≡ across_of g causal x y
unfolding across_of leaning
across_is g causal x y p n q m a b c d = rw (a, b, c, d) refl

pub down_from : (g : Cells) (causal : Bool) (x y : ℕ) (p n q m : Bool)
    → p ≡ (significant (coef_near g causal y (x + 1) y) && not (coef_near g causal y (x + 1) y).negative)
    → n ≡ (significant (coef_near g causal y (x + 1) y) && (coef_near g causal y (x + 1) y).negative)
    → q ≡ (significant (coef_near g causal y (x + 1) (y + 2)) && not (coef_near g causal y (x + 1) (y + 2)).negative)
    → m ≡ (significant (coef_near g causal y (x + 1) (y + 2)) && (coef_near g causal y (x + 1) (y + 2)).negative)
    → leaned p n q m ≡ down_of g causal x y
unfolding down_of leaning
down_from g causal x y p n q m a b c d = rw (a, b, c, d) refl
