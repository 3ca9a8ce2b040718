use Rattle.std.proofs.Common.{◌≡◌, ◌++◌, drop}
use Rattle.jx_codestream.specs.Params.{headers_at}
use Rattle.jx_reduce.specs.Reduction.{blocks_left}
use Rattle.jx_reduce.proofs.blocks.left_by.Given as goal

abbrev pub invariant-loop-block : goal.invariant-loop-block
invariant-loop-block l = record {
  view : l.view ≡ headers_at l.stream l.tile;
  done : l.left.items ++ blocks_left l.d l.stream (drop l.block-index l.blocks) ≡ blocks_left l.d l.stream l.blocks;
}
