use Rattle.std.proofs.Common.{◌≡◌, ◌++◌, take, string_bytes}
use Rattle.std.specs.List.{flat_map}
use Rattle.jx_jp2.specs.Names.{next_name}
use Rattle.jx_jp2.proofs.naming.push_others.Given as goal

abbrev pub invariant-loop-kind : goal.invariant-loop-kind
invariant-loop-kind l = string_bytes l.text ≡ string_bytes l.initial.text ++ flat_map next_name (take l.kind-index l.kinds)
