use Rattle.std.proofs.Common.{◌-◌, string_bytes}
use Rattle.jx_jp2.specs.Trees.{below}
use Rattle.jx_jp2.proofs.TreeLemmas.{IsWalked}
use Rattle.jx_jp2.proofs.listing.+list_level.Given as goal

abbrev pub decreases-list_level : goal.decreases-list_level
decreases-list_level l = below l.level

abbrev pub invariant-loop-at : goal.invariant-loop-at
invariant-loop-at l = IsWalked l.bytes l.level l.depth l.fn.from l.stop l.at (string_bytes l.initial.text) (string_bytes l.text)

abbrev pub decreases-loop-at : goal.decreases-loop-at
decreases-loop-at l = l.stop - l.at
