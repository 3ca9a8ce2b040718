use Rattle.std.proofs.Common.{◌≡◌, ◌++◌, map, drop}
use Rattle.std.specs.List.{concat}
use Rattle.jx_codeblock.proofs.anew.all_bytes.Given as goal

abbrev pub invariant-loop-list : goal.invariant-loop-list
invariant-loop-list l =
    l.bytes.items ++ concat (map (λ v. v.items) (drop l.list-index l.lists)) ≡ concat (map (λ v. v.items) l.lists)
