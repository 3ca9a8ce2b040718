use Rattle.std.proofs.Common.{◌≡◌, drop}
use Rattle.std.specs.List.{find}
use Rattle.jx_same.specs.Items.{place_of}
use Rattle.jx_plan.specs.Meaning.{lies_in}
use Rattle.jx_same.proofs.values.block_at.Given as goal

abbrev pub invariant-loop-block : goal.invariant-loop-block
invariant-loop-block l = find (lies_in (place_of l.spot)) l.blocks ≡ find (lies_in (place_of l.spot)) (drop l.block-index l.blocks)
