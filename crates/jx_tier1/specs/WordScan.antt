-- A pass over a word, bit by bit: bits ascend as the scan goes (ITU-T T.800, D.1).
use Rattle.std.specs.Prelude.{ℕ, zero, suc, ◌+◌, ◌/◌, ◌%◌, nat_lt, Bool, ◌&&◌, if◌then◌else◌}
use Rattle.jx_tier1_specs.specs.declared.question.Plane.{Plane}
use Rattle.jx_tier1_specs.specs.Cells.{Cells}
use Rattle.jx_tier1_specs.specs.Asking.{Asking, Told, and_then}
use Rattle.jx_tier1_specs.specs.Pass.{pass_at}

-- whether a bit of the word is that of a place of the block, where the word begins with a column and a row
abbrev pub has_place : Cells → ℕ → ℕ → ℕ → Bool
has_place g x y p = nat_lt (p % 6) 4 && (nat_lt (x + p / 6) g.width && nat_lt (y + p % 6) g.height)

-- the pass at a bit; at one of no place it asks nothing
abbrev pub pass_at_bit : ℕ → Plane → Cells → ℕ → ℕ → ℕ → Asking Cells
pass_at_bit pass k g x y p = if has_place g x y p then pass_at pass k g (x + p / 6) (y + p % 6) else Told g

-- the pass at so many bits from one on
abbrev pub bits_scanned : ℕ → Plane → ℕ → ℕ → ℕ → ℕ → Cells → Asking Cells
bits_scanned pass k x y zero p g = Told g
bits_scanned pass k x y (suc count) p g = and_then (pass_at_bit pass k g x y p) (λ h. bits_scanned pass k x y count (p + 1) h)

-- the pass over a word, at all its bits
unfoldable pub word_pass : ℕ → Plane → ℕ → ℕ → Cells → Asking Cells
word_pass pass k x y g = bits_scanned pass k x y 48 0 g
