use Rattle.std.proofs.Common.{◌≡◌, ◌==◌, ◌||◌, ◌%◌, ℕ, true, ◌⊎◌, refl, inl, inr}
use Rattle.jx_codestream.proofs.checks.comp_has_too_few.Goals as goal

one_of : (q : ℕ) → (q ≡ 0) ⊎ ((q ≡ 0 → ⊥) × (q ≡ 2)) → ((q == 0) || (q == 2)) ≡ true
one_of q (inl e) = rw e refl
one_of q (inr e) = rw e.1 refl

pub returns-then-style-eq2 : goal.returns-then-style-eq2
returns-then-style-eq2 c =
    rw (c.in-Some.ensures, c.in-Some-shape_of.ensures, one_of (c.in-Some.quant.now.sqcd % 32) c.if-style-eq2.either, c.as_slice.ensures, c.from.ensures) refl

pub returns-in_default-shape_of : goal.returns-in_default-shape_of
returns-in_default-shape_of c = rw (c.in-Some.ensures, c.in_default-shape_of.ensures) refl

pub returns-in_default : goal.returns-in_default
returns-in_default c = rw c.in_default.ensures refl
