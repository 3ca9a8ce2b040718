use Rattle.std.proofs.Common.{◌≡◌, ◌≤◌, ◌+◌, ◌*◌, drop}
use Rattle.std.specs.List.{sum}
use Rattle.jx_transcode.proofs.commands.make.sum_of.Given as goal

abbrev pub invariant-loop-byte : goal.invariant-loop-byte
invariant-loop-byte l = (l.total ≤ l.byte-index * 256) × (l.total + sum (drop l.byte-index l.bytes) ≡ sum l.bytes)
