-- Where the last COD or COC of some segments stands, and entries that are compared one by one.
use Rattle.std.proofs.Common.{◌≡◌, ◌∙◌, ◌<◌, ◌+◌, ◌||◌, ℕ, suc, Bool, true, false, arith, add-one, List, [], ◌∷◌, ◌++◌, length, take, get_or, refl, sym, ap, inl, inr, cond}
use Rattle.std.proofs.Math.Seq.{take-suc}
use Rattle.std.specs.List.{list_any}
use Rattle.std.proofs.lemmas.Bool.{cases_Bool}
use Rattle.std.proofs.lemmas.List.{length-take-le}
use Rattle.std.proofs.lemmas.List.Folds.{list_any-append}
use Rattle.jx_marker.specs.declared.Progression.{Progression}
use Rattle.jx_marker.specs.declared.Segment.{Segment}
use Rattle.jx_plan.specs.Changes.{coding_end, is_coding, same_entries, same_entry}

any_last : (xs : List Segment) (s : Segment) (b : Bool) → is_coding s ≡ b → list_any is_coding (xs ++ s ∷ []) ≡ (list_any is_coding xs || b)
any_last xs s b e = list_any-append is_coding xs (s ∷ []) ∙ rw e (by b)
  where
    or_false : (a b : Bool) → (a || (b || false)) ≡ (a || b)
    or_false true b = refl
    or_false false true = refl
    or_false false false = refl

    by : (b : Bool) → (list_any is_coding xs || (b || false)) ≡ (list_any is_coding xs || b)
    by b = or_false (list_any is_coding xs) b

or_true : (a : Bool) → (a || true) ≡ true
or_true true = refl
or_true false = refl

or_no : (a : Bool) → (a || false) ≡ a
or_no true = refl
or_no false = refl

-- one segment more is the last COD or COC, or isn't
pub end_coding : (xs : List Segment) (s : Segment) → is_coding s ≡ true → coding_end (xs ++ s ∷ []) ≡ length xs + 1
end_coding [] s e = rw e refl
end_coding (x ∷ xs) s e =
    let any : list_any is_coding (x ∷ (xs ++ s ∷ [])) ≡ true = any_last (x ∷ xs) s true e ∙ or_true (list_any is_coding (x ∷ xs)) in
    let count : suc (length xs + 1) ≡ suc (length xs) + 1 = omega arith in
    rw any (ap suc (end_coding xs s e) ∙ count)

pub end_other : (xs : List Segment) (s : Segment) → is_coding s ≡ false → coding_end (xs ++ s ∷ []) ≡ coding_end xs
end_other [] s e = rw e refl
end_other (x ∷ xs) s e =
    let any : list_any is_coding (x ∷ (xs ++ s ∷ [])) ≡ list_any is_coding (x ∷ xs) = any_last (x ∷ xs) s false e ∙ or_no (list_any is_coding (x ∷ xs)) in
    rw any (ap (λ n. cond (list_any is_coding (x ∷ xs)) (suc n) 0) (end_other xs s e))

-- and so of the segments below a place
module _ (xs : List Segment) (i : ℕ) (s : Segment) (inside : i < length xs) (at : s ≡ get_or xs i s) where
  grown : take (i + 1) xs ≡ take i xs ++ s ∷ []
  grown = rw add-one (take-suc xs i s inside ∙ ap (λ (x : Segment). take i xs ++ x ∷ []) (sym at))

  pub next_coding : is_coding s ≡ true → coding_end (take (i + 1) xs) ≡ i + 1
  next_coding e =
      let all : length (take i xs) ≡ i = length-take-le i xs (omega (arith, inside)) in
      ap coding_end grown ∙ end_coding (take i xs) s e ∙ ap (λ (n : ℕ). n + 1) all

  pub next_other : is_coding s ≡ false → coding_end (take (i + 1) xs) ≡ coding_end (take i xs)
  next_other e = ap coding_end grown ∙ end_other (take i xs) s e

-- ---- lists of entries
pub same_none : (es fs : List Progression) → (length es ≡ length fs → ⊥) → same_entries es fs ≡ false
same_none [] [] other = absurd (other refl)
same_none [] (f ∷ fs) other = refl
same_none (e ∷ es) [] other = refl
same_none (e ∷ es) (f ∷ fs) other = elim (cases_Bool (same_entry e f)) [
  | inl t ↦ rw t (same_none es fs (λ same. other (ap suc same)))
  | inr n ↦ rw n refl
]
