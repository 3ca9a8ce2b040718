-- Values that are put one behind another.
use Rattle.std.proofs.Common.{◌≡◌, ◌≤◌, ◌∙◌, sym, ap, refl, arith, ℕ, suc, eqb, List, [], ◌∷◌, ◌++◌, length, Option, None, Some, append-nil}
use Rattle.std.specs.Option.{option_map}
use Rattle.std.proofs.lemmas.List.{append_assoc}
use Rattle.std.proofs.lemmas.List.Splits.{length-slice_split}
use Rattle.jx_options.specs.Parts.{goes_on}
use Rattle.jx_options.specs.Values.{all_in, parts_of}

module _ {X : Type 0} (f : List ℕ → Option X) where
  none_before : (o : Option (List X)) → option_map (λ more. [] ++ more) o ≡ o
  none_before None = refl
  none_before (Some more) = refl

  -- no value so far
  pub begins : (done : List X) (room : ℕ) (texts : List (List ℕ)) → done ≡ [] → goes_on f done room texts ≡ all_in f room texts
  begins done room texts is = ap (λ d. goes_on f d room texts) is ∙ none_before (all_in f room texts)

  -- a text that has none
  pub refused : (done : List X) (part : List ℕ) (parts more : List (List ℕ)) (room k : ℕ) (all : Option (List X)) → room ≡ suc k → None ≡ f part → parts ≡ part ∷ more
      → goes_on f done room parts ≡ all → None ≡ all
  unfolding all_in
  refused done part parts more room k all left none is so_far =
      let front : goes_on f done (suc k) (part ∷ more) ≡ None = rw (← none) refl in
      sym front ∙ ap (goes_on f done (suc k)) (sym is) ∙ ap (λ n. goes_on f done n parts) (sym left) ∙ so_far

  both_fronts : (done next : List X) (x : X) (o : Option (List X)) → next ≡ done ++ x ∷ [] → option_map (λ more. next ++ more) o ≡ option_map (λ more. done ++ more) (option_map (λ more. x ∷ more) o)
  both_fronts done next x None is = refl
  both_fronts done next x (Some more) is = ap Some (ap (λ d. d ++ more) is ∙ append_assoc done (x ∷ []) more)

  -- one that has a value
  pub put_on : (done next : List X) (part : List ℕ) (x : X) (parts more : List (List ℕ)) (room k : ℕ) (all : Option (List X)) → room ≡ suc k → Some x ≡ f part → next ≡ done ++ x ∷ []
      → parts ≡ part ∷ more → goes_on f done room parts ≡ all → goes_on f next k more ≡ all
  unfolding all_in
  put_on done next part x parts more room k all left some next_is is so_far =
      let front : goes_on f done (suc k) (part ∷ more) ≡ option_map (λ tail. done ++ tail) (option_map (λ tail. x ∷ tail) (all_in f k more)) = rw (← some) refl in
      both_fronts done next x (all_in f k more) next_is ∙ sym front ∙ ap (goes_on f done (suc k)) (sym is) ∙ ap (λ n. goes_on f done n parts) (sym left) ∙ so_far

  -- the last
  pub ends : (done : List X) (k : ℕ) (all : Option (List X)) → goes_on f done k [] ≡ all → Some done ≡ all
  unfolding all_in
  ends done k all so_far = ap Some (sym (append-nil done)) ∙ so_far

  -- no room for more
  full : (done : List X) (parts : List (List ℕ)) (all : Option (List X)) → 1 ≤ length parts → goes_on f done 0 parts ≡ all → None ≡ all
  unfolding all_in
  full done [] all some so_far = absurd (omega arith)
  full done (part ∷ parts) all some so_far = so_far

pub some_part : (c : ℕ) (text : List ℕ) → 1 ≤ length (parts_of c text)
unfolding parts_of
some_part c text = omega (arith, length-slice_split (λ b. eqb b c) text)

pub too_many : {X : Type 0} (f : List ℕ → Option X) (c : ℕ) (done : List X) (text : List ℕ) (room : ℕ) (all : Option (List X)) → room ≡ 0 → goes_on f done room (parts_of c text) ≡ all → None ≡ all
too_many f c done text room all none so_far = full f done (parts_of c text) all (some_part c text) (ap (λ n. goes_on f done n (parts_of c text)) (sym none) ∙ so_far)
