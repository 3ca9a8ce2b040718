-- How often a planner of layers is asked for a plan, by how that ends.
use Rattle.std.specs.Prelude.{◌≡◌, ◌⊎◌, ◌<◌, ◌≤◌, ℕ, zero, suc, Bool, true, false, List, [], ◌∷◌, MatchBool, length}
use Rattle.jx_base.specs.declared.pieces.Block.{Block}
use Rattle.jx_plan.specs.Layers.{asked_before}
use Rattle.jx_plan.specs.declared.faults.PlanFault.{PlanFault}
use Rattle.jx_plan.specs.declared.faults.PlanFault.TheVariants as fault

-- one question for each coding pass
abbrev pub questions : List Block → ℕ
questions blocks = asked_before blocks (length blocks)

-- where nothing is planned, of all questions: after choices 1, 3 and 2 none was asked, and the planner hasn't begun; after choice 6 it has
-- begun, and none was asked since; after limit 7 and the choices 4, 5, 10 and 11 all were; after want of memory the first of them at most
abbrev pub IsAskedAfter : (before all : ℕ) → PlanFault → (now : ℕ) → Type 0
IsAskedAfter before all (fault.Choice number place) now = ((number < 4) × (now ≡ before)) ⊎ ((4 ≤ number) × (number ≡ 6 → ⊥) × (now ≡ all)) ⊎ ((number ≡ 6) × (now ≡ 0))
IsAskedAfter before all (fault.Limit number found) now = now ≡ all
IsAskedAfter before all fault.NoMemory now = (now ≡ before) ⊎ (now ≤ all)

-- the place of the first item that passes, and that none does
abbrev pub IsFirstOf : {X : Type 0} → (X → Bool) → List X → ℕ → Type 0
IsFirstOf p [] i = ⊥
IsFirstOf p (x ∷ xs) zero = p x ≡ true
IsFirstOf p (x ∷ xs) (suc i) = (p x ≡ false) × IsFirstOf p xs i

abbrev pub HasNone : {X : Type 0} → (X → Bool) → List X → Type 0
HasNone p [] = Unit {0}
HasNone p (x ∷ xs) = (p x ≡ false) × HasNone p xs

-- of two lists' items at one place this holds where the first of them is the first that passes; all others are the same
abbrev pub AtFirst : {X : Type 0} → (X → Bool) → (X → X → Type 0) → List X → List X → Type 0
AtFirst p holds [] ys = ys ≡ []
AtFirst p holds (x ∷ xs) [] = ⊥
AtFirst p holds (x ∷ xs) (y ∷ ys) = MatchBool (p x) (holds x y × (ys ≡ xs)) ((y ≡ x) × AtFirst p holds xs ys)
