use Rattle.std.proofs.Common.{◌≡◌, ◌++◌, [], drop}
use Rattle.std.specs.List.{concat}
use Rattle.std.specs.Prelude.{slice_index_or}
use Rattle.jx_tier2_writer.proofs.whole.whole_part.Given as goal

abbrev pub invariant-loop-piece : goal.invariant-loop-piece
invariant-loop-piece l = l.bytes.items ++ concat (drop l.piece (slice_index_or l.out l.part [])) ≡ concat (slice_index_or l.out l.part [])
