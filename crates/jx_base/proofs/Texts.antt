-- What stands after a text's beginning, and the number that a text spells.
use Rattle.std.proofs.Common.{◌≡◌, ◌≤◌, ◌∙◌, ap, sym, arith, ℕ, eqb, true, List, ◌++◌, None, Some, inl, inr, length, drop, take, take-append-drop}
use Rattle.std.specs.Str.{bytes_eq}
use Rattle.std.specs.List.{starts_with}
use Rattle.std.specs.Fmt.{decimal}
use Rattle.std.proofs.Math.Seq.{drop-append_seam, take-append_seam}
use Rattle.std.proofs.lemmas.Bool.{cases_Bool}
use Rattle.std.proofs.lemmas.Option.{none-some, same_Some}
use Rattle.std.proofs.lemmas.Slice.Eq.{bytes_eq-Decides}
use Rattle.jx_base.specs.Texts.{after, number_in}
use Rattle.jx_base.proofs.Lists.{find_in}

pub after_spelled : (start rest : List ℕ) → after start (start ++ rest) ≡ Some rest
after_spelled start rest =
    let front : starts_with eqb (start ++ rest) start ≡ true = (bytes_eq-Decides start (take (length start) (start ++ rest))).1 (sym (take-append_seam start rest)) in
    rw front (ap Some (drop-append_seam start rest))

pub after_read : (start text rest : List ℕ) → after start text ≡ Some rest → text ≡ start ++ rest
after_read start text rest e = elim (cases_Bool (starts_with eqb text start)) [
  | inl t ↦
      let is : drop (length start) text ≡ rest = same_Some _ rest (rw t at e) in
      let front : start ≡ take (length start) text = (bytes_eq-Decides start (take (length start) text)).0 t in
      sym (take-append-drop (length start) text) ∙ ap (λ xs. xs ++ drop (length start) text) (sym front) ∙ ap (λ ys. start ++ ys) is
  | inr t ↦ let g : None ≡ Some rest = rw t at e in absurd (none-some rest g)
]

pub number_read : (most n : ℕ) (text : List ℕ) → number_in most text ≡ Some n → (1 ≤ n) × (n ≤ most) × (text ≡ decimal n)
unfolding number_in
number_read most n text e =
    let at = find_in (λ m. bytes_eq (decimal m) text) 1 most n e in
    (at.0, omega (arith, at.1), sym ((bytes_eq-Decides (decimal n) text).0 at.2))
