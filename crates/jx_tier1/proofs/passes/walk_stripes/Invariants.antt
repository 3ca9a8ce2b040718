use Rattle.std.proofs.Common.{◌+◌, ◌%◌}
use Rattle.jx_tier1_specs.specs.Cells.{Cells}
use Rattle.jx_tier1_specs.specs.Asking.{told}
use Rattle.jx_tier1_specs.specs.Pass.{scanned}
use Rattle.jx_tier1.specs.BlockPasses.{IsMidway, ComesTo, HasSizeOf}
use Rattle.jx_tier1.specs.Walking.{IsNow}
use Rattle.jx_tier1.proofs.GroupPace.{stripes_in}
use Rattle.jx_tier1.proofs.passes.walk_stripes.Given as goal

abbrev pub invariant-loop-stripe : goal.invariant-loop-stripe
invariant-loop-stripe g l = record {
  size : HasSizeOf l.initial.block l.block;
  walk : (v : Cells) → IsNow l.plane v → IsMidway ((l.kind + 2) % 3) 0 0 l.plane v l.initial.block
      → ComesTo ((l.kind + 2) % 3) l.stripe 0 l.plane (told g.S.Source.ask (scanned l.kind l.plane (stripes_in v l.stripe) 0 v) l.initial.source) l.block l.source;
}
