-- What is seen of a place from another one.
use Rattle.std.proofs.Common.{◌≡◌, ◌≤◌, ◌+◌, ◌-◌, ◌%◌, ◌==◌, ◌||◌, ◌&&◌, ℕ, Bool, true, false, refl, if◌then◌else◌}
use Rattle.jx_tier1_specs.specs.declared.coef.Coef.{Coef}
use Rattle.jx_tier1_specs.specs.Cells.{Cells, zero_coef, coef_at, significant}
use Rattle.jx_tier1_specs.specs.Near.{one_if, one_at, coef_near}
use Rattle.jx_tier1.specs.Marks.{mark, is_outside}
use Rattle.jx_tier1.proofs.MarkLemmas.{one_le}

-- a place is seen as it is, but for the row below the stripe with causal contexts
one_of : (hidden outside : Bool) (c : Coef) → hidden ≡ false
    → one_if (significant (if outside || hidden then zero_coef else c)) ≡ (if outside then 0 else one_if (significant c))
one_of hidden true c e = refl
one_of hidden false c e = rw e refl

none_of : (hidden outside : Bool) (c : Coef) → hidden ≡ true → one_if (significant (if outside || hidden then zero_coef else c)) ≡ 0
none_of hidden true c e = refl
none_of hidden false c e = rw e refl

pub seen : (g : Cells) (causal : Bool) (y c r : ℕ) → (causal && y % 4 == 3 && r == y + 2) ≡ false → one_at g causal y c r ≡ mark g c r
unfolding coef_near mark
seen g causal y c r e = one_of (causal && y % 4 == 3 && r == y + 2) (is_outside g c r) (coef_at g (c - 1) (r - 1)) e

pub hidden : (g : Cells) (causal : Bool) (y c r : ℕ) → (causal && y % 4 == 3 && r == y + 2) ≡ true → one_at g causal y c r ≡ 0
unfolding coef_near
hidden g causal y c r e = none_of (causal && y % 4 == 3 && r == y + 2) (is_outside g c r) (coef_at g (c - 1) (r - 1)) e

pub one_le_one : (g : Cells) (causal : Bool) (y c r : ℕ) → one_at g causal y c r ≤ 1
one_le_one g causal y c r = one_le (significant (coef_near g causal y c r))

-- a test of a bit
pub one_tested : (b : Bool) → (one_if b == 1) ≡ b
one_tested true = refl
one_tested false = refl
