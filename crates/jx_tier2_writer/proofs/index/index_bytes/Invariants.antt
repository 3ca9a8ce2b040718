use Rattle.std.proofs.Common.{◌≡◌, map}
use Rattle.std.specs.List.{range_with_len}
use Rattle.jx_codestream.specs.Spells.{all_bytes}
use Rattle.jx_tier2_writer.specs.Index.{index_segment}
use Rattle.jx_tier2_writer.proofs.index.index_bytes.Given as goal

abbrev pub invariant-loop-number : goal.invariant-loop-number
invariant-loop-number l = l.out.items ≡ all_bytes 1 (map (index_segment l.lengths) (range_with_len 0 l.number))
