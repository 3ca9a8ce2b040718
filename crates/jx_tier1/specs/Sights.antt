-- A pass within a word: what it has in hand of the word, and what it leaves.
use Rattle.std.specs.Prelude.{ℕ, ◌≡◌, ◌*◌, ◌/◌, ◌%◌, ◌<◌, Bool, length}
use Rattle.jx_tier1_specs.specs.Cells.{Cells}
use Rattle.jx_tier1.specs.Blocks.{Sees}
use Rattle.jx_tier1.specs.Marks.{mark, minus}

-- the windows of what is significant and of what is negative; the signs stand one bit higher
pub record IsSight (causal : Bool) (g : Cells) (x y w v : ℕ) : Type 0 where
  pub window : Sees causal (mark g) x y w
  pub signs : Sees causal (minus g) x y (v / 2)

-- both, and whoever answers, are as a procedure leaves the coefficients and whoever answers it
pub record EndsIn {S : Type 0} (causal : Bool) (x y : ℕ) (told : Cells × S) (w v : ℕ) (after : S) : Type 0 where
  pub sight : IsSight causal told.0 x y w v
  pub source : after ≡ told.1

-- a place of a block that has all its coefficients
pub record IsPlaceIn (g : Cells) (x y : ℕ) : Type 0 where
  pub column : x < g.width
  pub row : y < g.height
  pub whole : length g.coefs ≡ g.height * g.width

-- a place of a word, by its bit
pub record IsBit (p : ℕ) : Type 0 where
  pub column : p < 48
  pub row : p % 6 < 4
