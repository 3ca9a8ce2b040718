-- What the value under the lock shows.
use Rattle.jx_store_plain.specs.Shown.{Shown}
use Rattle.jx_store_plain.specs.Notes.{Notes}

pub record LockView (V : Type 0) : Type 0 where
  pub core : Shown V
  pub notes : Notes
