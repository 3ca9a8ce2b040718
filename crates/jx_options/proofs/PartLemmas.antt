-- Texts that are cut at separators.
use Rattle.std.proofs.Common.{◌≡◌, ◌<◌, ◌≤◌, ◌+◌, ℕ, List, [], ◌∷◌, arith, length, take, drop, eqb, subst, drop-drop, take_all}
use Rattle.std.specs.List.{position_or_len}
use Rattle.std.proofs.lemmas.List.Splits.{slice_split_first, slice_split_none}
use Rattle.std.proofs.lemmas.List.Sums.{fails_before_first}
use Rattle.std.proofs.lemmas.Grind.{common_steps}
use Rattle.jx_options.specs.Values.{parts_of}

-- a text is cut at its first separator
pub part_first : (c : ℕ) (text front back rest : List ℕ) (place : ℕ) → place ≡ position_or_len (λ b. eqb b c) text → front ≡ take place text → back ≡ drop place text → 1 ≤ length back
    → rest ≡ drop 1 back → parts_of c text ≡ front ∷ parts_of c rest
unfolding parts_of
part_first c text front back rest place is front_is back_is some rest_is =
    let far : place < length text = grind (arith, common_steps) in
    let rest_at : rest ≡ drop (place + 1) text = rw (rest_is, back_is) (drop-drop 1 place text) in
    rw (front_is, rest_at, is) (slice_split_first (λ b. eqb b c) text 0 (subst (λ k. k < length text) is far))

-- a text without one is one part
pub part_last : (c : ℕ) (text front back : List ℕ) (place : ℕ) → place ≡ position_or_len (λ b. eqb b c) text → front ≡ take place text → back ≡ drop place text → length back ≡ 0
    → parts_of c text ≡ front ∷ []
unfolding parts_of
part_last c text front back place is front_is back_is none =
    let far : length text ≤ place = grind (arith, common_steps) in
    let whole : front ≡ text = rw front_is (take_all place text far) in
    rw whole (slice_split_none (λ b. eqb b c) text (λ k d l. fails_before_first (λ b. eqb b c) text k d (subst (λ n. k < n) is (omega arith))))
