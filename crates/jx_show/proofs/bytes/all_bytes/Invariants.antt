use Rattle.std.proofs.Common.{◌≡◌, ◌≤◌, ◌*◌, take, sum_by}
use Rattle.jx_show.specs.Facts.{block_bytes}
use Rattle.jx_show.proofs.bytes.all_bytes.Given as goal
use Rattle.jx_base.specs.Limits.{most_bytes}

abbrev pub invariant-loop-block : goal.invariant-loop-block
invariant-loop-block l = record {
  bytes : l.bytes ≡ sum_by block_bytes (take l.block-index l.blocks);
  most : l.bytes ≤ l.block-index * most_bytes;
}
