-- The words of a block as coding passes go through them (ITU-T T.800, D.3).
use Rattle.std.specs.Prelude.{ℕ, zero, suc, ◌≡◌, ◌+◌, ◌-◌, ◌/◌, ◌%◌, ◌^◌, ◌<◌, ◌≤◌, ◌==◌, nat_lt, nat_le, Bool, ◌&&◌, ◌||◌, if◌then◌else◌}
use Rattle.jx_tier1_specs.specs.declared.coef.Coef.{Coef}
use Rattle.jx_tier1_specs.specs.declared.question.Plane.{Plane}
use Rattle.jx_tier1_specs.specs.Cells.{Cells, coef_at}
use Rattle.jx_tier1_specs.specs.Near.{one_if}
use Rattle.jx_tier1.specs.Blocks.{BlockWords, Draws, bit_in, wide_for}
use Rattle.jx_tier1.specs.Marks.{mark, minus}

-- whether the decided bits, of so many coded planes, show more than the first 1
abbrev pub is_more : ℕ → Coef → Bool
is_more planes c = nat_le 2 (c.bits / 2 ^ (planes - c.planes))

-- the words show what is significant, what of it is negative, and what was refined
pub record IsDrawn (planes : ℕ) (g : Cells) (b : BlockWords) : Type 0 where
  pub width : b.width ≡ g.width
  pub height : b.height ≡ g.height
  pub significant : Draws (wide_for b.width) (mark g) b.significant
  pub negative : Draws (wide_for b.width) (minus g) b.negative
  pub refined : (x y : ℕ) → x < g.width → y < g.height → bit_in (wide_for b.width) b.refined (x + 1) (y + 1) ≡ one_if (is_more planes (coef_at g x y))

-- what a coefficient's bit of what was visited says after none, one, two and three passes of a plane: nothing, but the coefficient
-- isn't decided in the plane; whether it is; whether it is, of an insignificant one; nothing
abbrev pub IsVisited : ℕ → ℕ → Coef → ℕ → Type 0
IsVisited zero number c bit = c.planes ≤ number
IsVisited (suc zero) number c bit = bit ≡ one_if (nat_lt number c.planes)
IsVisited (suc (suc zero)) number c bit = c.bits ≡ 0 → bit ≡ one_if (nat_lt number c.planes)
IsVisited (suc (suc (suc n))) number c bit = Unit {0}

-- whether a place stands before a word in the order of the scan, by the word's stripe and group
abbrev pub is_before : ℕ → ℕ → ℕ → ℕ → Bool
is_before s t x y = nat_lt (y / 4) s || (y / 4 == s && nat_lt (x / 8) t)

-- how many passes of the plane went over a place, where one more came to the word
abbrev pub passes_at : ℕ → ℕ → ℕ → ℕ → ℕ → ℕ
passes_at n s t x y = if is_before s t x y then suc n else n

pub record AreVisited (n number s t : ℕ) (g : Cells) (b : BlockWords) : Type 0 where
  pub at : (x y : ℕ) → x < g.width → y < g.height
      → IsVisited (passes_at n s t x y) number (coef_at g x y) (bit_in (wide_for b.width) b.visited (x + 1) (y + 1))

-- the words of a block before a pass
pub record Shows (planes pass : ℕ) (g : Cells) (b : BlockWords) : Type 0 where
  pub drawn : IsDrawn planes g b
  pub visited : AreVisited ((pass + 2) % 3) ((pass + 2) / 3) 0 0 g b

-- they and whoever answers are, before a pass, as a procedure leaves the coefficients and whoever answers it
pub record Ends {S : Type 0} (planes pass : ℕ) (told : Cells × S) (b : BlockWords) (after : S) : Type 0 where
  pub block : Shows planes pass told.0 b
  pub source : after ≡ told.1

-- the words of a block as a pass comes to one of them, so many passes of the plane being done
pub record IsMidway (n s t : ℕ) (k : Plane) (g : Cells) (b : BlockWords) : Type 0 where
  pub drawn : IsDrawn k.planes g b
  pub visited : AreVisited n k.number s t g b

pub record ComesTo {S : Type 0} (n s t : ℕ) (k : Plane) (told : Cells × S) (b : BlockWords) (after : S) : Type 0 where
  pub block : IsMidway n s t k told.0 b
  pub source : after ≡ told.1

pub record HasSizeOf (a b : BlockWords) : Type 0 where
  pub width : b.width ≡ a.width
  pub height : b.height ≡ a.height
