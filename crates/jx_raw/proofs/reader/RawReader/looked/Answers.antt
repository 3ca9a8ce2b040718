use Rattle.jx_raw.proofs.Reading.{looked_at}
use Rattle.std.proofs.Common.{sym}
use Rattle.jx_raw.proofs.reader.RawReader.looked.Goals as goal

pub returns : goal.returns
returns c = rw (← c.self.view_is) (sym (looked_at _ _ _ _ c.self.invariant.here))
