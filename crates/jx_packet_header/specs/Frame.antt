-- What reading bits leaves alone.
use Rattle.std.specs.Prelude.{ℕ, ◌+◌, List, length, Option}
use Rattle.jx_tagtree.specs.declared.BitFault.{BitFault}
use Rattle.jx_tagtree.specs.Header.{Reading, to_come}

-- the bytes, a fault that was answered, and how many bits there are
pub record Frame : Type 0 where
  pub bytes : List ℕ
  pub refused : Option BitFault
  pub total : ℕ

unfoldable pub frame : Reading → Frame
frame r = record { bytes = r.bytes; refused = r.refused; total = r.taken + length (to_come r) }
