-- What stands after the beginning of a text, and decimal numbers of one or two digits.
use Rattle.std.proofs.Common.{◌≡◌, ◌<◌, ◌≤◌, ◌+◌, ◌/◌, ◌%◌, ◌∙◌, ◌&&◌, ap, sym, refl, arith, ℕ, eqb, Bool, false, List, [], ◌∷◌, ◌++◌, None, Some, inl, inr, length, append-nil}
use Rattle.std.specs.Str.{bytes_eq}
use Rattle.std.specs.Fmt.{decimal}
use Rattle.std.proofs.lemmas.Bool.{cases_Bool, eq-eqb, ne_eqb}
use Rattle.std.proofs.lemmas.Fmt.{decimal_digit, decimal_step}
use Rattle.std.proofs.lemmas.Slice.Eq.{bytes_eq-Decides}
use Rattle.std.proofs.lemmas.Option.{none-some}
use Rattle.jx_base.specs.Texts.{after}
use Rattle.jx_base.proofs.Texts.{after_read, after_spelled}

pub two_digits : (n : ℕ) → 10 ≤ n → n < 16 → 49 ∷ (38 + n) ∷ [] ≡ decimal n
two_digits n large small =
    let tens : n / 10 ≡ 1 = omega arith in
    let ones : 48 + n % 10 ≡ 38 + n = omega arith in
    rw (decimal_step n large (omega arith), tens, decimal_digit 1 (omega arith), ones) refl

-- a text without a beginning isn't spelled with it
pub not_after : (start text more : List ℕ) → None ≡ after start text → false ≡ bytes_eq text (start ++ more)
not_after start text more e = elim (cases_Bool (bytes_eq text (start ++ more))) [
  | inl t ↦
      let is : text ≡ start ++ more = (bytes_eq-Decides text (start ++ more)).0 t in
      absurd (none-some more (e ∙ ap (after start) is ∙ after_spelled start more))
  | inr t ↦ sym t
]

same_front : (start rest more : List ℕ) → bytes_eq (start ++ rest) (start ++ more) ≡ bytes_eq rest more
same_front [] rest more = refl
same_front (x ∷ start) rest more = ap (λ b. b && bytes_eq (start ++ rest) (start ++ more)) (eq-eqb x x refl) ∙ same_front start rest more

-- one with it is compared by what stands after it
pub by_rest : (start text rest more : List ℕ) → Some rest ≡ after start text → bytes_eq rest more ≡ bytes_eq text (start ++ more)
by_rest start text rest more e = sym (ap (λ t. bytes_eq t (start ++ more)) (after_read start text rest (sym e)) ∙ same_front start rest more)

-- a text that ends with it
pub not_whole : (start text : List ℕ) → None ≡ after start text → false ≡ bytes_eq text start
not_whole start text e = not_after start text [] e ∙ ap (bytes_eq text) (append-nil start)

no_more : (rest : List ℕ) → eqb (length rest) 0 ≡ bytes_eq rest []
no_more [] = refl
no_more (x ∷ rest) = ne_eqb (length (x ∷ rest)) 0 (λ e. omega (arith, e))

pub whole : (start text rest : List ℕ) (is : Bool) → Some rest ≡ after start text → is ≡ eqb (length rest) 0 → is ≡ bytes_eq text start
whole start text rest is e none = none ∙ no_more rest ∙ by_rest start text rest [] e ∙ ap (bytes_eq text) (append-nil start)
