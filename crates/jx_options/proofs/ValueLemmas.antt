-- What stands beside a text in a list.
use Rattle.std.proofs.Common.{◌≡◌, subst, sym, ℕ, List, [], ◌∷◌, Option, None, Some, IfSome, inl, inr}
use Rattle.std.specs.Str.{bytes_eq}
use Rattle.std.specs.List.{Contains}
use Rattle.std.proofs.lemmas.Bool.{cases_Bool}
use Rattle.std.proofs.lemmas.Slice.Eq.{bytes_eq-Decides}
use Rattle.jx_base.proofs.Lists.{contains_head, contains_tail}
use Rattle.jx_options.specs.Values.{value_in}

-- what is said of each value in a list is said of the one that is found
abbrev pub AllValues : {X : Type 0} → (X → Type 0) → List (List ℕ × X) → Type 0
AllValues P [] = Unit {0}
AllValues P (p ∷ list) = P p.1 × AllValues P list

pub found : {X : Type 0} (P : X → Type 0) (list : List (List ℕ × X)) (text : List ℕ) → AllValues P list → IfSome (value_in list text) P
found P [] text all = tt
found P (p ∷ list) text all = elim (cases_Bool (bytes_eq text p.0)) [
  | inl t ↦ rw t all.0
  | inr t ↦ rw t (found P list text all.1)
]

-- it is a pair of the list
pub found_at : {X : Type 0} (list : List (List ℕ × X)) (text : List ℕ) → IfSome (value_in list text) (λ v. Contains list (text, v))
found_at [] text = tt
found_at {X} (p ∷ list) text = elim (cases_Bool (bytes_eq text p.0)) [
  | inl t ↦
      let same : p.0 ≡ text = sym ((bytes_eq-Decides text p.0).0 t) in
      rw t (subst (λ (t : List ℕ). Contains (p ∷ list) (t, p.1)) same (contains_head p list))
  | inr t ↦ rw t (later (value_in list text) (found_at list text))
]
  where
    later : (o : Option X) → IfSome o (λ v. Contains list (text, v)) → IfSome o (λ v. Contains (p ∷ list) (text, v))
    later None at = tt
    later (Some v) at = contains_tail p list (text, v) at
