use Rattle.std.proofs.Common.{◌≡◌}
use Rattle.jx_codestream.specs.Headers.{without_ppt}
use Rattle.jx_codestream.proofs.packed.without_ppt.Given as goal

abbrev pub invariant-loop-segment : goal.invariant-loop-segment
invariant-loop-segment l = l.rest.items ≡ without_ppt l.yielded
