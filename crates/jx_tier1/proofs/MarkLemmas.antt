-- Marks of single places.
use Rattle.std.proofs.Common.{◌≡◌, ◌<◌, ◌≤◌, ◌+◌, ◌-◌, ◌*◌, ◌==◌, ◌||◌, ℕ, Bool, true, false, refl, sym, ap, ◌∙◌, arith, subst, inl, inr, length, if◌then◌else◌}
use Rattle.std.specs.Prelude.{nat_lt}
use Rattle.std.proofs.lemmas.Bool.{cases_eq, cases_Bool}
use Rattle.std.proofs.lemmas.Bool.Decides.{nat_tests}
use Rattle.std.proofs.lemmas.List.{get_or-set_same, get_or-set_other}
use Rattle.std.proofs.lemmas.Nat.{same_from_place}
use Rattle.std.proofs.Math.Nat.{mul-le-mul_right}
use Rattle.jx_tier1_specs.specs.declared.coef.Coef.{Coef}
use Rattle.jx_tier1_specs.specs.Cells.{Cells, zero_coef, coef_at, with_coef, significant}
use Rattle.jx_tier1_specs.specs.Near.{one_if}
use Rattle.jx_tier1.specs.Marks.{mark, is_outside}

pub one_le : (b : Bool) → one_if b ≤ 1
one_le true = omega arith
one_le false = omega arith

choice_le : (b : Bool) (n : ℕ) → n ≤ 1 → (if b then 0 else n) ≤ 1
choice_le true n h = omega arith
choice_le false n h = h

pub mark_le : (g : Cells) (c r : ℕ) → mark g c r ≤ 1
unfolding mark
mark_le g c r = choice_le (is_outside g c r) (one_if (significant (coef_at g (c - 1) (r - 1)))) (one_le (significant (coef_at g (c - 1) (r - 1))))

-- a place of the block, counted from 1 on
pub record IsInside (g : Cells) (c r : ℕ) : Type 0 where
  pub left : 0 < c
  pub top : 0 < r
  pub right : c ≤ g.width
  pub bottom : r ≤ g.height

inside_false : (w h c r : ℕ) → 0 < c → 0 < r → c ≤ w → r ≤ h → (c == 0 || r == 0 || nat_lt w c || nat_lt h r) ≡ false
inside_false w h c r p q s t = grind (arith, nat_tests)

false_left : (w h c r : ℕ) → (c == 0 || r == 0 || nat_lt w c || nat_lt h r) ≡ false → (0 < c) × (0 < r) × (c ≤ w) × (r ≤ h)
false_left w h c r e = grind (arith, nat_tests)

pub inside_not : (g : Cells) (c r : ℕ) → IsInside g c r → is_outside g c r ≡ false
inside_not g c r i = inside_false g.width g.height c r i.left i.top i.right i.bottom

pub mark_in : (g : Cells) (c r : ℕ) → IsInside g c r → mark g c r ≡ one_if (significant (coef_at g (c - 1) (r - 1)))
unfolding mark
mark_in g c r i = rw (inside_not g c r i) refl

pub not_inside : (g : Cells) (c r : ℕ) → is_outside g c r ≡ false → IsInside g c r
not_inside g c r e =
    let f = false_left g.width g.height c r e in
    record { left = f.0; top = f.1; right = f.2; bottom = f.3 }

pub mark_out : (g : Cells) (c r : ℕ) → is_outside g c r ≡ true → mark g c r ≡ 0
unfolding mark
mark_out g c r e = rw e refl

-- places stand apart in the list of rows
pub same_place : (w a b c d : ℕ) → a < w → c < w → b * w + a ≡ d * w + c → (a ≡ c) × (b ≡ d)
same_place w a b c d p q e = let r = same_from_place b a d c w p q e in (r.1, r.0)

-- another place
pub elsewhere : (g : Cells) (x y : ℕ) (coef : Coef) (c r : ℕ) → x < g.width → IsInside g c r → ((c ≡ x + 1) → (r ≡ y + 1) → ⊥)
    → coef_at (with_coef g x y coef) (c - 1) (r - 1) ≡ coef_at g (c - 1) (r - 1)
elsewhere g x y coef c r l i n =
    let a = i.left in
    let b = i.top in
    let d = i.right in
    get_or-set_other g.coefs (y * g.width + x) ((r - 1) * g.width + (c - 1)) coef zero_coef
    (λ e. let s = same_place g.width (c - 1) (r - 1) x y (omega arith) l e in
    let u = s.0 in
    let v = s.1 in
    n (omega arith) (omega arith))

pub mark_other : (g : Cells) (x y : ℕ) (coef : Coef) (c r : ℕ) → x < g.width → ((c ≡ x + 1) → (r ≡ y + 1) → ⊥)
    → mark (with_coef g x y coef) c r ≡ mark g c r
mark_other g x y coef c r l n =
    elim (cases_Bool (is_outside g c r)) [
      | inl e ↦ mark_out (with_coef g x y coef) c r e ∙ sym (mark_out g c r e)
      | inr e ↦
          let i = not_inside g c r e in
          let j : IsInside (with_coef g x y coef) c r = record { left = i.left; top = i.top; right = i.right; bottom = i.bottom } in
          mark_in (with_coef g x y coef) c r j
          ∙ (ap (λ (d : Coef). one_if (significant d)) (elsewhere g x y coef c r l i n) ∙ sym (mark_in g c r i))
    ]

-- a place of a grid with all its rows
pub record IsWholeAt (g : Cells) (x y : ℕ) : Type 0 where
  pub column : x < g.width
  pub row : y < g.height
  pub whole : length g.coefs ≡ g.height * g.width

pub index_below : (g : Cells) (x y : ℕ) → IsWholeAt g x y → y * g.width + x < length g.coefs
index_below g x y s =
    let a = s.column in
    let b = s.row in
    let e = s.whole in
    let m = mul-le-mul_right {m = y + 1} {n = g.height} g.width (omega arith) in
    omega arith

pub back : (g : Cells) (x y : ℕ) → coef_at g (x + 1 - 1) (y + 1 - 1) ≡ coef_at g x y
back g x y =
    let e : x + 1 - 1 ≡ x = omega arith in
    let f : y + 1 - 1 ≡ y = omega arith in
    rw (e, f) refl

pub mark_here : (g : Cells) (x y : ℕ) (coef : Coef) → IsWholeAt g x y → mark (with_coef g x y coef) (x + 1) (y + 1) ≡ one_if (significant coef)
mark_here g x y coef s =
    let a = s.column in
    let b = s.row in
    mark_in (with_coef g x y coef) (x + 1) (y + 1) (record { left = omega arith; top = omega arith; right = omega arith; bottom = omega arith })
    ∙ ap (λ (d : Coef). one_if (significant d)) (back (with_coef g x y coef) x y ∙ get_or-set_same g.coefs (y * g.width + x) coef zero_coef (index_below g x y s))

pub mark_there : (g : Cells) (x y : ℕ) → x < g.width → y < g.height → mark g (x + 1) (y + 1) ≡ one_if (significant (coef_at g x y))
mark_there g x y a b =
    mark_in g (x + 1) (y + 1) (record { left = omega arith; top = omega arith; right = omega arith; bottom = omega arith })
    ∙ ap (λ (d : Coef). one_if (significant d)) (back g x y)

-- a coefficient that stays as significant as it was
pub mark_kept : (g : Cells) (x y : ℕ) (coef : Coef) (c r : ℕ) → IsWholeAt g x y → significant coef ≡ significant (coef_at g x y)
    → mark (with_coef g x y coef) c r ≡ mark g c r
mark_kept g x y coef c r s e =
    let here = mark_here g x y coef s ∙ (ap one_if e ∙ sym (mark_there g x y s.column s.row)) in
    elim (cases_eq c (x + 1)) [
      | inl p ↦ elim (cases_eq r (y + 1)) [
        | inl q ↦ subst (λ (m : ℕ). mark (with_coef g x y coef) m r ≡ mark g m r) (sym p)
            (subst (λ (m : ℕ). mark (with_coef g x y coef) (x + 1) m ≡ mark g (x + 1) m) (sym q) here)
        | inr q ↦ mark_other g x y coef c r s.column (λ _. q)
      ]
      | inr p ↦ mark_other g x y coef c r s.column (λ d _. p d)
    ]
