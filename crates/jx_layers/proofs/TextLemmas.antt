-- Decimal numbers of one to three digits, and texts that are cut at commas.
use Rattle.std.proofs.Common.{◌≡◌, ◌<◌, ◌≤◌, ◌+◌, ◌/◌, ◌%◌, ℕ, List, [], ◌∷◌, refl, arith, length, take, drop, eqb, subst, drop-drop, take_all}
use Rattle.std.specs.List.{position_or_len}
use Rattle.std.proofs.lemmas.List.Splits.{slice_split_first, slice_split_none}
use Rattle.std.proofs.lemmas.List.Sums.{fails_before_first}
use Rattle.jx_layers.specs.Texts.{parts_of}
use Rattle.std.specs.Fmt.{decimal}
use Rattle.std.proofs.lemmas.Grind.{common_steps}
use Rattle.std.proofs.lemmas.Fmt.{decimal_digit, decimal_step}

pub two_digits : (n : ℕ) → 10 ≤ n → n < 100 → (48 + n / 10) ∷ (48 + n % 10) ∷ [] ≡ decimal n
two_digits n large small = rw (decimal_step n large (omega arith), decimal_digit (n / 10) (omega arith)) refl

pub three_digits : (n : ℕ) → 100 ≤ n → n < 1000 → (48 + n / 100) ∷ (48 + n / 10 % 10) ∷ (48 + n % 10) ∷ [] ≡ decimal n
three_digits n large small =
    let e : n / 10 / 10 ≡ n / 100 = omega arith in
    rw (decimal_step n (omega arith) (omega arith), ← two_digits (n / 10) (omega arith) (omega arith), e) refl

-- a text is cut at its first comma
pub part_first : (text front back rest : List ℕ) (place : ℕ) → place ≡ position_or_len (λ b. eqb b 44) text → front ≡ take place text → back ≡ drop place text → 1 ≤ length back
    → rest ≡ drop 1 back → parts_of text ≡ front ∷ parts_of rest
unfolding parts_of
part_first text front back rest place is front_is back_is some rest_is =
    let far : place < length text = grind (arith, common_steps) in
    let rest_at : rest ≡ drop (place + 1) text = rw (rest_is, back_is) (drop-drop 1 place text) in
    rw (front_is, rest_at, is) (slice_split_first (λ b. eqb b 44) text 0 (subst (λ k. k < length text) is far))

-- a text without one is one part
pub part_last : (text front back : List ℕ) (place : ℕ) → place ≡ position_or_len (λ b. eqb b 44) text → front ≡ take place text → back ≡ drop place text → length back ≡ 0
    → parts_of text ≡ front ∷ []
unfolding parts_of
part_last text front back place is front_is back_is none =
    let far : length text ≤ place = grind (arith, common_steps) in
    let whole : front ≡ text = rw front_is (take_all place text far) in
    rw whole (slice_split_none (λ b. eqb b 44) text (λ k d l. fails_before_first (λ b. eqb b 44) text k d (subst (λ n. k < n) is (omega arith))))
