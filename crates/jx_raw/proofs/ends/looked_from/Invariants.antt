use Rattle.std.proofs.Common.{◌≡◌, ◌≤◌, ◌∷◌, length, slice_index_or}
use Rattle.jx_coder_specs.specs.RawBits.{looked_from}
use Rattle.jx_raw.proofs.ends.looked_from.Given as goal

abbrev pub invariant-loop-left : goal.invariant-loop-left
invariant-loop-left l = record {
  same : looked_from l.segment l.place l.left ≡ looked_from l.fn.segment l.fn.given l.fn.places;
  before : l.place ≤ length l.segment → l.before ≡ slice_index_or (0 ∷ l.segment) l.place 0;
}

-- proposed from the loop's first test
abbrev pub decreases-loop-left : goal.decreases-loop-left
decreases-loop-left l = l.left
