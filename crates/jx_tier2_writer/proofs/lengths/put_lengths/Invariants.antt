use Rattle.std.proofs.Common.{◌≡◌, ◌≤◌, ◌+◌, ◌*◌, [], ◌++◌, drop, length}
use Rattle.jx_codestream.specs.Spells.{all_bytes}
use Rattle.jx_tier2_writer.specs.Lengths.{filled, numbered}
use Rattle.jx_tier2_writer.proofs.LengthLemmas.{weight}
use Rattle.jx_tier2_writer.proofs.lengths.put_lengths.Given as goal

abbrev pub invariant-loop-length : goal.invariant-loop-length
invariant-loop-length l =
    (l.out.items ++ all_bytes l.comps (numbered l.number (filled l.held.items (drop l.length-index l.lengths)))
    ≡ l.initial.out.items ++ all_bytes l.comps (numbered 0 (filled [] l.lengths)))
    × (length l.held.items ≤ 65532)
    × (l.number * 65528 + length l.held.items + weight (drop l.length-index l.lengths) ≤ weight l.lengths)
