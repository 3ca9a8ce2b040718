use Rattle.std.proofs.Common.{◌≡◌, map}
use Rattle.std.specs.List.{range_with_len}
use Rattle.jx_codestream.specs.Shapes.{comp_shape}
use Rattle.jx_codestream.proofs.shapes.shapes_of.Given as goal

abbrev pub invariant-loop-comp : goal.invariant-loop-comp
invariant-loop-comp l = l.shapes.items ≡ map (comp_shape (record { siz = l.siz; main = l.main.segments.now; own = l.own.segments.now })) (range_with_len 0 l.comp)
