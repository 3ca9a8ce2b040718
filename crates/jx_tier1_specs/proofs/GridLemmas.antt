-- Grids that others may become.
use Rattle.std.proofs.Common.{◌≡◌, ◌≢◌, ◌<◌, ◌+◌, ◌*◌, ℕ, List, length, get_or, set, refl, sym, ap, ◌∙◌, arith, subst, inl, inr}
use Rattle.std.proofs.lemmas.Bool.{cases_eq}
use Rattle.std.proofs.lemmas.List.{get_or-set_same, get_or-set_other, length-set}
use Rattle.std.proofs.Math.Nat.{mul-le-mul_right}
use Rattle.jx_tier1_specs.specs.declared.coef.Coef.{Coef}
use Rattle.jx_tier1_specs.specs.Cells.{Cells, zero_coef, coef_at, with_coef}
use Rattle.jx_tier1_specs.proofs.FrontLemmas.{IsBefore, IsClean, before_same, before_next}

-- a grid with all its rows
pub record IsWhole (g : Cells) : Type 0 where
  pub size : length g.coefs ≡ g.height * g.width

-- each coefficient of m may become that of g
pub record IsFront (planes : ℕ) (m g : Cells) : Type 0 where
  pub width : g.width ≡ m.width
  pub height : g.height ≡ m.height
  pub at : (i : ℕ) → IsBefore planes (get_or m.coefs i zero_coef) (get_or g.coefs i zero_coef)

pub record AreClean (planes most : ℕ) (g : Cells) : Type 0 where
  pub whole : IsWhole g
  pub at : (i : ℕ) → IsClean planes most (get_or g.coefs i zero_coef)

pub front_same : (planes : ℕ) (m : Cells) → IsFront planes m m
front_same planes m = record { width = refl; height = refl; at = λ i. before_same planes (get_or m.coefs i zero_coef) }

pub front_next : (planes : ℕ) (a b c : Cells) → IsFront planes a b → IsFront planes b c → IsFront planes a c
front_next planes a b c p q = record {
  width = q.width ∙ p.width;
  height = q.height ∙ p.height;
  at = λ i. before_next planes (get_or a.coefs i zero_coef) (get_or b.coefs i zero_coef) (get_or c.coefs i zero_coef) (p.at i) (q.at i);
}

-- a place of the grid
pub record IsIn (g : Cells) (x y : ℕ) : Type 0 where
  pub column : x < g.width
  pub row : y < g.height

pub index_in : (g : Cells) (x y : ℕ) → IsWhole g → IsIn g x y → y * g.width + x < length g.coefs
index_in g x y s i =
    let a = i.column in
    let b = i.row in
    let e = s.size in
    let m = mul-le-mul_right {m = y + 1} {n = g.height} g.width (omega arith) in
    omega arith

-- a change of one place
pub set_at : (P : Coef → Type 0) (xs : List Coef) (i : ℕ) (c : Coef) → P c → ((j : ℕ) → P (get_or xs j zero_coef)) → i < length xs
    → (j : ℕ) → P (get_or (set xs i c) j zero_coef)
set_at P xs i c here others l j =
    elim (cases_eq j i) [
      | inl e ↦ subst P (sym (ap (λ (n : ℕ). get_or (set xs i c) n zero_coef) e ∙ get_or-set_same xs i c zero_coef l)) here
      | inr e ↦ subst P (sym (get_or-set_other xs i j c zero_coef e)) (others j)
    ]

set_front : (planes : ℕ) (xs : List Coef) (i : ℕ) (c : Coef) → IsBefore planes (get_or xs i zero_coef) c → i < length xs
    → (j : ℕ) → IsBefore planes (get_or xs j zero_coef) (get_or (set xs i c) j zero_coef)
set_front planes xs i c h l j =
    let P : ℕ → Type 0 = λ n. IsBefore planes (get_or xs n zero_coef) (get_or (set xs i c) n zero_coef) in
    let Q : Coef → Type 0 = λ d. IsBefore planes (get_or xs i zero_coef) d in
    let R : Coef → Type 0 = λ d. IsBefore planes (get_or xs j zero_coef) d in
    elim (cases_eq j i) [
      | inl e ↦ subst P (sym e) (subst Q (sym (get_or-set_same xs i c zero_coef l)) h)
      | inr e ↦ subst R (sym (get_or-set_other xs i j c zero_coef e)) (before_same planes (get_or xs j zero_coef))
    ]

pub with_front : (planes : ℕ) (g : Cells) (x y : ℕ) (c : Coef) → IsWhole g → IsIn g x y → IsBefore planes (coef_at g x y) c
    → IsFront planes g (with_coef g x y c)
with_front planes g x y c s i h =
    record { width = refl; height = refl; at = set_front planes g.coefs (y * g.width + x) c h (index_in g x y s i) }

pub with_clean : (planes most : ℕ) (g : Cells) (x y : ℕ) (c : Coef) → IsIn g x y → AreClean planes most g → IsClean planes most c
    → AreClean planes most (with_coef g x y c)
with_clean planes most g x y c i a h = record {
  whole = record { size = length-set g.coefs (y * g.width + x) c ∙ a.whole.size };
  at = set_at (λ (d : Coef). IsClean planes most d) g.coefs (y * g.width + x) c h a.at (index_in g x y a.whole i);
}

pub here_with : (g : Cells) (x y : ℕ) (c : Coef) → IsWhole g → IsIn g x y → coef_at (with_coef g x y c) x y ≡ c
here_with g x y c s i = get_or-set_same g.coefs (y * g.width + x) c zero_coef (index_in g x y s i)

other_index : (w x r q : ℕ) → 0 < w → r < q → q * w + x ≢ r * w + x
other_index w x r q p l e = let m = mul-le-mul_right {m = r + 1} {n = q} w (omega arith) in omega arith

-- another row of a column
pub below_with : (g : Cells) (x r q : ℕ) (c : Coef) → 0 < g.width → r < q → coef_at (with_coef g x r c) x q ≡ coef_at g x q
below_with g x r q c p l = get_or-set_other g.coefs (r * g.width + x) (q * g.width + x) c zero_coef (other_index g.width x r q p l)

pub above_with : (g : Cells) (x r q : ℕ) (c : Coef) → 0 < g.width → q < r → coef_at (with_coef g x r c) x q ≡ coef_at g x q
above_with g x r q c p l =
    get_or-set_other g.coefs (r * g.width + x) (q * g.width + x) c zero_coef (λ e. other_index g.width x q r p l (sym e))

-- what a grid shows of a place that was changed
pub seen_at : (planes : ℕ) (g : Cells) (x y : ℕ) (c : Coef) (h : Cells) → IsWhole g → IsIn g x y → IsFront planes (with_coef g x y c) h
    → IsBefore planes c (coef_at h x y)
seen_at planes g x y c h s i f =
    let P : Coef → Type 0 = λ d. IsBefore planes d (get_or h.coefs (y * g.width + x) zero_coef) in
    let Q : ℕ → Type 0 = λ w. IsBefore planes c (get_or h.coefs (y * w + x) zero_coef) in
    subst Q (sym f.width) (subst P (here_with g x y c s i) (f.at (y * g.width + x)))
