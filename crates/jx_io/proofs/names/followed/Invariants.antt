use Rattle.std.specs.Path.{path_buf_bytes}
use Rattle.jx_io.specs.Drafts.{IsLed}
use Rattle.jx_io.proofs.names.followed.Given as goal

abbrev pub invariant-loop : goal.invariant-loop
invariant-loop g l = IsLed l.name (path_buf_bytes l.path)
