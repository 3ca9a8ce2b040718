use Rattle.std.proofs.Common.{◌≡◌, ◌++◌, []}
use Rattle.jx_tier2_reader.specs.Blocks.{one_block}
use Rattle.jx_tier2_reader.proofs.fresh.push_band.Given as goal
use Rattle.jx_base.specs.Joined.{joined}

abbrev pub invariant-loop-index : goal.invariant-loop-index
invariant-loop-index l = l.list.items ≡ l.initial.list.items ++ joined (one_block l.stream l.geom [] l.comp l.res l.band) 0 l.index
