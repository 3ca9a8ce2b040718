use Rattle.std.proofs.Common.{◌≡◌, map}
use Rattle.std.specs.List.{range_with_len}
use Rattle.jx_codestream.specs.Shapes.{sized}
use Rattle.jx_codestream.proofs.shapes.sized_shapes.Given as goal

abbrev pub invariant-loop-comp : goal.invariant-loop-comp
invariant-loop-comp l = l.shapes.items ≡ map (sized l.siz l.shape) (range_with_len 0 l.comp)
