use Rattle.std.proofs.Common.{◌≡◌, ◌++◌, take}
use Rattle.std.specs.List.{flat_map}
use Rattle.jx_marker.specs.Values.{comp_size_bytes}
use Rattle.jx_marker.proofs.put.put_comp_sizes.Given as goal

abbrev pub invariant-loop-comp : goal.invariant-loop-comp
invariant-loop-comp l = l.out.items ≡ l.initial.out.items ++ flat_map comp_size_bytes (take l.comp-index l.comps)
