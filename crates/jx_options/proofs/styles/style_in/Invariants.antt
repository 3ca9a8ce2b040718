use Rattle.std.proofs.Common.{◌≡◌}
use Rattle.jx_options.specs.Parts.{left_of, more_parts, with_names}
use Rattle.jx_options.specs.Values.{parts_of}
use Rattle.jx_options.proofs.styles.style_in.Given as goal

abbrev pub invariant-loop-left : goal.invariant-loop-left
invariant-loop-left l = with_names (more_parts 43 l.left) l.bits ≡ with_names (parts_of 43 l.text) 0

abbrev pub decreases-loop-left : goal.decreases-loop-left
decreases-loop-left l = left_of l.left
