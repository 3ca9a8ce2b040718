use Rattle.std.proofs.Common.{◌≡◌, drop, get_or, false}
use Rattle.std.specs.List.{list_all}
use Rattle.jx_codeblock.proofs.own.all_noted.Given as goal

abbrev pub invariant-loop-end : goal.invariant-loop-end
invariant-loop-end l = list_all (λ e. get_or l.own e.passes false) (drop l.end-index l.ends) ≡ list_all (λ e. get_or l.own e.passes false) l.ends
