-- Quantized coefficients of a code-block, row by row (ITU-T T.800, D.1 and D.2).
use Rattle.std.specs.Prelude.{ℕ, ◌+◌, ◌-◌, ◌*◌, ◌^◌, ◌≤◌, ◌<◌, ◌≡◌, ◌==◌, Bool, false, not, List, All, slice_index_or, slice_set}
use Rattle.jx_tier1_specs.specs.declared.coef.Coef.{Coef}

pub record Cells : Type 0 where
  pub width : ℕ
  pub height : ℕ
  pub coefs : List Coef

abbrev pub zero_coef : Coef
zero_coef = record { negative = false; bits = 0; planes = 0 }

-- the coefficient in column x and row y
abbrev pub coef_at : Cells → ℕ → ℕ → Coef
coef_at g x y = slice_index_or g.coefs (y * g.width + x) zero_coef

abbrev pub with_coef : Cells → ℕ → ℕ → Coef → Cells
with_coef g x y coef = record g { coefs = slice_set g.coefs (y * g.width + x) coef }

-- a coefficient is significant from its first bit 1 on
abbrev pub significant : Coef → Bool
significant c = not (c.bits == 0)

-- what a code-block may measure (A.6.1)
pub record HasSize (g : Cells) : Type 0 where
  pub wide : g.width ≤ 1024
  pub high : g.height ≤ 1024

-- a place of a block
pub record IsPlace (g : Cells) (x y : ℕ) : Type 0 where
  pub column : x < g.width
  pub row : y < g.height
  pub wide : g.width ≤ 1024
  pub high : g.height ≤ 1024

-- of so many coded planes no more than some were decided, and the bits of the others are 0
pub record IsWithin (planes most : ℕ) (c : Coef) : Type 0 where
  pub decided : c.planes ≤ most
  pub bits : c.bits + 2 ^ (planes - c.planes) ≤ 2 ^ planes

abbrev pub AreWithin : ℕ → ℕ → Cells → Type 0
AreWithin planes most g = All (IsWithin planes most) g.coefs

-- the size stays, and so do these bounds
pub record IsKept (planes most : ℕ) (before after : Cells) : Type 0 where
  pub width : after.width ≡ before.width
  pub height : after.height ≡ before.height
  pub within : AreWithin planes most after
