use Rattle.std.proofs.Common.{◌≡◌, ◌++◌, map, drop}
use Rattle.jx_reduce.specs.Reduction.{size_left}
use Rattle.jx_reduce.proofs.headers.sizes_left.Given as goal

abbrev pub invariant-loop-size : goal.invariant-loop-size
invariant-loop-size l = l.left.items ++ map (size_left l.d) (drop l.size-index l.sizes) ≡ map (size_left l.d) l.sizes
