-- Which texts say numbers, and which numbers.
use Rattle.std.proofs.Common.{◌≡◌, ◌<◌, ◌≤◌, ◌^◌, ◌∙◌, ap, sym, subst, refl, arith, ℕ, true, List, None, Some, Result, Ok, Err, inl, inr, get_or}
use Rattle.std.specs.Str.{all_ascii_digits, bytes_eq}
use Rattle.std.specs.Str.Parse.{ParsesUnsigned, digits_value}
use Rattle.std.specs.Fmt.{decimal}
use Rattle.std.proofs.lemmas.Bool.{cases_lt}
use Rattle.std.proofs.lemmas.Fmt.{decimal-digits_value, decimal_digit, decimal_injective, decimal_is_IsNumeral, first_decimal, parse-decimal}
use Rattle.std.proofs.lemmas.Slice.Eq.{bytes_eq-Decides}
use Rattle.std.proofs.lemmas.Str.Parse.{IsNumeralModel, digit_at, numerals_by_value, parse_plain, tells_all_ascii_digits}
use Rattle.jx_options.proofs.FindLemmas.{find_none}
use Rattle.jx_base.proofs.Lists.{find_first}
use Rattle.jx_base.specs.Texts.{number_in}

-- ---- a number and its digits
pub number_spelled : (most n : ℕ) → most < 2 ^ 64 → 1 ≤ n → n ≤ most → number_in most (decimal n) ≡ Some n
unfolding number_in
number_spelled most n small some within =
    find_first (λ m. bytes_eq (decimal m) (decimal n)) 1 most n some (omega arith) ((bytes_eq-Decides (decimal n) (decimal n)).1 refl)
    (λ m lt test. let same = decimal_injective m n (omega arith) (omega arith) ((bytes_eq-Decides (decimal m) (decimal n)).0 test) in omega (arith, same))

no_number : (most : ℕ) (text : List ℕ) → ((n : ℕ) → 1 ≤ n → n ≤ most → text ≡ decimal n → ⊥) → None ≡ number_in most text
unfolding number_in
no_number most text never =
    sym (find_none (λ n. bytes_eq (decimal n) text) 1 most (λ n from below test. never n from (omega arith) (sym ((bytes_eq-Decides (decimal n) text).0 test))))

-- ---- what is read of digits
digits : IsNumeralModel (λ text. all_ascii_digits text ≡ true) (digits_value 10)
digits = numerals_by_value (λ text. all_ascii_digits text ≡ true) tells_all_ascii_digits

-- the first digit isn't 0
abbrev pub BeginsWell : List ℕ → Type 0
BeginsWell text = (49 ≤ get_or text 0 0) × (get_or text 0 0 ≤ 57)

pub first_digit : (n : ℕ) → 1 ≤ n → n < 2 ^ 64 → BeginsWell (decimal n)
first_digit n some small =
    let is = decimal_is_IsNumeral n small in
    let first = first_decimal n some small in
    (first, (digit_at (decimal n) 0 is.0.1 is.0.0).1)

pub badly_begun : (most : ℕ) (text : List ℕ) → most < 2 ^ 64 → (BeginsWell text → ⊥) → None ≡ number_in most text
badly_begun most text small other = no_number most text (λ n some within is. other (subst BeginsWell (sym is) (first_digit n some (omega arith))))

some_number : (n : ℕ) → 49 ≤ get_or (decimal n) 0 0 → 1 ≤ n
some_number n above = elim (cases_lt 0 n) [
  | inl some ↦ some
  | inr none ↦
      let is : n ≡ 0 = omega arith in
      let first : get_or (decimal n) 0 0 ≡ 48 = ap (λ m. get_or (decimal m) 0 0) is ∙ ap (λ (t : List ℕ). get_or t 0 0) (decimal_digit 0 (omega arith)) in
      absurd (omega (arith, first, above))
]

number_parsed : (n : ℕ) (text : List ℕ) → BeginsWell text → ParsesUnsigned {E = Unit {0}} 64 10 text (Ok n) → (1 ≤ n) × (text ≡ decimal n)
number_parsed n text well parses =
    let told = parse_plain digits {E = Unit {0}} 64 text (Ok n) parses (λ e. omega (arith, e, well.0)) in
    let small : digits_value 10 text < 2 ^ 64 = omega (arith, told.0.2) in
    let spelled : text ≡ decimal n = sym (decimal-digits_value digits text told.0.0 told.0.1 (λ e. absurd (omega (arith, e, well.0))) small) ∙ ap decimal (sym told.1) in
    let first : get_or (decimal n) 0 0 ≡ get_or text 0 0 = ap (λ t. get_or t 0 0) (sym spelled) in
    (some_number n (omega (arith, first, well.0)), spelled)

pub number_said : (most n : ℕ) (text : List ℕ) → most < 2 ^ 64 → BeginsWell text → ParsesUnsigned {E = Unit {0}} 64 10 text (Ok n) → n ≤ most → Some n ≡ number_in most text
number_said most n text small well parses within =
    let is = number_parsed n text well parses in
    sym (ap (number_in most) is.1 ∙ number_spelled most n (omega arith) is.0 within)

pub too_large : (most n : ℕ) (text : List ℕ) → most < 2 ^ 64 → n < 2 ^ 64 → BeginsWell text → ParsesUnsigned {E = Unit {0}} 64 10 text (Ok n) → most < n → None ≡ number_in most text
too_large most n text small below well parses above =
    let is = number_parsed n text well parses in
    no_number most text (λ m some within same. let one = decimal_injective n m (omega arith) (omega arith) (sym is.1 ∙ same) in omega (arith, one))

pub not_parsed : (most : ℕ) (text : List ℕ) → most < 2 ^ 64 → ParsesUnsigned {E = Unit {0}} 64 10 text (Err tt) → None ≡ number_in most text
not_parsed most text small parses =
    no_number most text (λ m some within same. not_ok m (parse-decimal 64 m text (Err tt) (omega arith) (omega arith) same parses))
  where
    not_ok : (n : ℕ) → ◌≡◌ {A = Result ℕ (Unit {0})} (Err tt) (Ok n) → ⊥
    not_ok n same = cc
