-- Cuts that are put one behind another.
use Rattle.std.proofs.Common.{◌≡◌, ◌∙◌, sym, ap, ℕ, List, [], ◌∷◌, Option, None, Some, Bor, append-nil}
use Rattle.jx_layers.specs.declared.texts.Cuts.{Cuts}
use Rattle.jx_layers.specs.Cuts.{list_of, goes_on, more_parts, AreRefused, GoOn}

-- a text that isn't the next
pub refused : (c : Cuts) (part : List ℕ) (parts more : List (List ℕ)) (all : Option (List ℕ)) → AreRefused c part → parts ≡ part ∷ more → goes_on c parts ≡ all → None ≡ all
refused c part parts more all out is so_far = sym (out more) ∙ ap (goes_on c) (sym is) ∙ so_far

-- one that is
pub put_on : (c next : Cuts) (part : List ℕ) (parts : List (List ℕ)) (left : Option (Bor (List ℕ))) (more : List (List ℕ)) (all : Option (List ℕ)) → GoOn c part next → parts ≡ part ∷ more_parts left → more_parts left ≡ more
    → goes_on c parts ≡ all → goes_on next more ≡ all
put_on c next part parts left more all goes is left_is so_far = ap (goes_on next) (sym left_is) ∙ sym (goes.same (more_parts left)) ∙ ap (goes_on c) (sym is) ∙ so_far

-- the last
pub put_last : (c : Cuts) (all : Option (List ℕ)) → goes_on c [] ≡ all → Some (list_of c) ≡ all
put_last c all so_far = ap Some (sym (append-nil (list_of c))) ∙ so_far
