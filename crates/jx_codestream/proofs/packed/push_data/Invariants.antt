use Rattle.std.proofs.Common.{◌≡◌, ◌++◌, take}
use Rattle.std.specs.List.{flat_map}
use Rattle.jx_codestream.specs.declared.packed.PackedSegment.{PackedSegment}
use Rattle.jx_codestream.specs.PackedHeaders.{data_of, some_piece}
use Rattle.jx_codestream.proofs.packed.push_data.Given as goal

abbrev pub invariant-loop-one : goal.invariant-loop-one
invariant-loop-one l = l.pieces.items ≡ l.fn.pieces.items ++ flat_map (λ (p : PackedSegment). some_piece (data_of p)) (take l.one-index l.packed)
