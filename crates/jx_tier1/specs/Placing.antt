-- A recoding and an encoding whose coefficients stand apart, as words of a block.
use Rattle.std.specs.Prelude.{ℕ, ◌≡◌}
use Rattle.jx_tier1_specs.specs.Cells.{Cells}
use Rattle.jx_tier1_specs.specs.Encoding.{Encoding}
use Rattle.jx_tier1.specs.InStep.{Recoding, no_grid}
use Rattle.jx_tier1.specs.Blocks.{BlockWords}
use Rattle.jx_tier1.specs.BlockPasses.{Shows}

abbrev pub placed : Cells → Recoding → Recoding
placed g r = record r { cells = g }

-- the words of a block show its coefficients, and the rest is as it is
pub record Goes (planes pass : ℕ) (r : Recoding) (m : BlockWords) (now : Recoding) : Type 0 where
  pub block : Shows planes pass r.cells m
  pub recoding : placed no_grid now ≡ placed no_grid r

abbrev pub coded_in : Cells → Encoding → Encoding
coded_in g e = record e { cells = g }

pub record Comes (planes pass : ℕ) (e : Encoding) (m : BlockWords) (now : Encoding) : Type 0 where
  pub block : Shows planes pass e.cells m
  pub encoding : coded_in no_grid now ≡ coded_in no_grid e
