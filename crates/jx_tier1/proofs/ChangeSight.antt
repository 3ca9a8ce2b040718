-- Windows after a change of one place.
use Rattle.std.proofs.Common.{◌≡◌, ◌≢◌, ◌<◌, ◌+◌, ◌*◌, ◌/◌, ℕ, Bool, true, refl, sym, ap, ◌∙◌, arith, subst, inl, inr}
use Rattle.std.specs.Int.{bit_at}
use Rattle.std.proofs.lemmas.Bool.{cases_eq, cases_Bool}
use Rattle.std.proofs.lemmas.List.{get_or-set_same}
use Rattle.jx_tier1_specs.specs.declared.coef.Coef.{Coef}
use Rattle.jx_tier1_specs.specs.Cells.{Cells, zero_coef, coef_at, with_coef, significant}
use Rattle.jx_tier1_specs.specs.Near.{one_if}
use Rattle.jx_tier1.specs.Blocks.{seen_if, Sees}
use Rattle.jx_tier1.specs.Marks.{mark, minus, is_outside}
use Rattle.jx_tier1.proofs.BitLemmas.{bit_shr}
use Rattle.jx_tier1.proofs.MarkLemmas.{IsInside, IsWholeAt, not_inside, elsewhere, back, index_below, mark_other, mark_here}
use Rattle.jx_tier1.proofs.SightLemmas.{shown, not_five}
use Rattle.jx_tier1.proofs.SignSight.{minus_in}

minus_out : (g : Cells) (c r : ℕ) → is_outside g c r ≡ true → minus g c r ≡ 0
unfolding minus
minus_out g c r e = rw e refl

pub minus_other : (g : Cells) (x y : ℕ) (coef : Coef) (c r : ℕ) → x < g.width → ((c ≡ x + 1) → (r ≡ y + 1) → ⊥)
    → minus (with_coef g x y coef) c r ≡ minus g c r
minus_other g x y coef c r l n =
    elim (cases_Bool (is_outside g c r)) [
      | inl e ↦ minus_out (with_coef g x y coef) c r e ∙ sym (minus_out g c r e)
      | inr e ↦
          (let i = not_inside g c r e in
          let j : IsInside (with_coef g x y coef) c r = record { left = i.left; top = i.top; right = i.right; bottom = i.bottom } in
          minus_in (with_coef g x y coef) c r j ∙ (ap (λ (d : Coef). one_if d.negative) (elsewhere g x y coef c r l i n) ∙ sym (minus_in g c r i)))
    ]

pub minus_here : (g : Cells) (x y : ℕ) (coef : Coef) → IsWholeAt g x y → minus (with_coef g x y coef) (x + 1) (y + 1) ≡ one_if coef.negative
minus_here g x y coef s =
    let a = s.column in
    let b = s.row in
    minus_in (with_coef g x y coef) (x + 1) (y + 1) (record { left = omega arith; top = omega arith; right = omega arith; bottom = omega arith })
    ∙ ap (λ (d : Coef). one_if d.negative) (back (with_coef g x y coef) x y ∙ get_or-set_same g.coefs (y * g.width + x) coef zero_coef (index_below g x y s))

pub minus_there : (g : Cells) (x y : ℕ) → x < g.width → y < g.height → minus g (x + 1) (y + 1) ≡ one_if (coef_at g x y).negative
minus_there g x y a b =
    minus_in g (x + 1) (y + 1) (record { left = omega arith; top = omega arith; right = omega arith; bottom = omega arith })
    ∙ ap (λ (d : Coef). one_if d.negative) (back g x y)

-- a coefficient that keeps its sign
pub minus_kept : (g : Cells) (x y : ℕ) (coef : Coef) (c r : ℕ) → IsWholeAt g x y → coef.negative ≡ (coef_at g x y).negative
    → minus (with_coef g x y coef) c r ≡ minus g c r
minus_kept g x y coef c r s e =
    let here = minus_here g x y coef s ∙ (ap one_if e ∙ sym (minus_there g x y s.column s.row)) in
    elim (cases_eq c (x + 1)) [
      | inl p ↦ elim (cases_eq r (y + 1)) [
        | inl q ↦ subst (λ (m : ℕ). minus (with_coef g x y coef) m r ≡ minus g m r) (sym p)
            (subst (λ (m : ℕ). minus (with_coef g x y coef) (x + 1) m ≡ minus g (x + 1) m) (sym q) here)
        | inr q ↦ minus_other g x y coef c r s.column (λ _. q)
      ]
      | inr p ↦ minus_other g x y coef c r s.column (λ d _. p d)
    ]

-- a window of a value that changes at one place, which has the bit behind six of a column and one
pub sees_changed : (causal : Bool) (F G : ℕ → ℕ → ℕ) (x y w v c r : ℕ) → Sees causal F x y w → c < 8 → r < 4
    → ((column row : ℕ) → (column ≡ x + c + 1 → row ≡ y + r + 1 → ⊥) → G column row ≡ F column row)
    → bit_at v (6 * c + r + 7) ≡ G (x + c + 1) (y + r + 1) → ((i : ℕ) → i ≢ 6 * c + r + 7 → bit_at v i ≡ bit_at w i) → Sees causal G x y v
sees_changed causal F G x y w v c r s p q other here rest = record {
  at = λ column row l m.
      elim (cases_eq (6 * column + row) (6 * c + r + 7)) [
        | inl e ↦
            (let d : column ≡ c + 1 = omega arith in
            let f : row ≡ r + 1 = omega arith in
            let a : x + c + 1 ≡ x + column = omega arith in
            let b : y + r + 1 ≡ y + row = omega arith in
            ap (λ (n : ℕ). bit_at v n) e
            ∙ (here
            ∙ (ap (λ (n : ℕ). G n (y + r + 1)) a
            ∙ (ap (λ (n : ℕ). G (x + column) n) b
            ∙ sym (shown causal row (G (x + column) (y + row)) (not_five causal row (λ z. omega arith)))))))
        | inr e ↦
            (rest (6 * column + row) e
            ∙ (s.at column row l m
            ∙ ap (λ (n : ℕ). seen_if causal row n) (sym (other (x + column) (y + row) (λ a b. e (omega arith))))))
      ];
}

-- a place becomes significant
pub sees_raised : (causal : Bool) (g : Cells) (coef : Coef) (x y w v c r : ℕ) → Sees causal (mark g) x y w → c < 8 → r < 4 → IsWholeAt g (x + c) (y + r)
    → significant coef ≡ true → bit_at v (6 * c + r + 7) ≡ 1 → ((i : ℕ) → i ≢ 6 * c + r + 7 → bit_at v i ≡ bit_at w i)
    → Sees causal (mark (with_coef g (x + c) (y + r) coef)) x y v
sees_raised causal g coef x y w v c r s p q i e here rest =
    sees_changed causal (mark g) (mark (with_coef g (x + c) (y + r) coef)) x y w v c r s p q
    (λ column row n. mark_other g (x + c) (y + r) coef column row i.column n)
    (here ∙ sym (mark_here g (x + c) (y + r) coef i ∙ ap one_if e))
    rest

-- its sign is known, which was 0 before; the signs stand one bit higher
pub sees_signed : (causal : Bool) (g : Cells) (coef : Coef) (x y w v c r : ℕ) → Sees causal (minus g) x y (w / 2) → c < 8 → r < 4 → IsWholeAt g (x + c) (y + r)
    → bit_at v (6 * c + r + 8) ≡ one_if coef.negative → ((i : ℕ) → i ≢ 6 * c + r + 8 → bit_at v i ≡ bit_at w i)
    → Sees causal (minus (with_coef g (x + c) (y + r) coef)) x y (v / 2)
sees_signed causal g coef x y w v c r s p q i here rest =
    let a : 6 * c + r + 7 + 1 ≡ 6 * c + r + 8 = omega arith in
    sees_changed causal (minus g) (minus (with_coef g (x + c) (y + r) coef)) x y (w / 2) (v / 2) c r s p q
    (λ column row n. minus_other g (x + c) (y + r) coef column row i.column n)
    (bit_shr v 1 (6 * c + r + 7) ∙ (ap (λ (n : ℕ). bit_at v n) a ∙ (here ∙ sym (minus_here g (x + c) (y + r) coef i))))
    (λ j n. bit_shr v 1 j ∙ (rest (j + 1) (λ e. n (omega arith)) ∙ sym (bit_shr w 1 j)))

-- a coefficient is as significant as it was, and has its sign
pub sees_kept : (causal : Bool) (F G : ℕ → ℕ → ℕ) (x y w : ℕ) → Sees causal F x y w → ((column row : ℕ) → G column row ≡ F column row) → Sees causal G x y w
sees_kept causal F G x y w s e = record {
  at = λ column row l m. s.at column row l m ∙ ap (λ (n : ℕ). seen_if causal row n) (sym (e (x + column) (y + row)));
}
