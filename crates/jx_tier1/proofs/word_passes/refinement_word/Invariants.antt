use Rattle.std.proofs.Common.{◌<◌, ◌-◌, ◌^◌, w64}
use Rattle.std.specs.Int.{trailing_zeros}
use Rattle.jx_tier1_specs.specs.Cells.{Cells}
use Rattle.jx_tier1.specs.WordPasses.{BeforeRefinement}
use Rattle.jx_tier1.proofs.RefinementWord.{Refined}
use Rattle.jx_tier1.proofs.word_passes.refinement_word.Given as goal

abbrev pub invariant-loop-due : goal.invariant-loop-due
invariant-loop-due g l = record {
  fits : l.due < 2 ^ 64;
  walk : (v : Cells) → BeforeRefinement l.plane v l.corner.x l.corner.y l.window l.places l.refined
      → Refined g.S.Source.ask l.plane v l.corner.x l.corner.y l.initial.source l.window l.due l.refined l.source;
}

abbrev pub decreases-loop-due : goal.decreases-loop-due
decreases-loop-due g l = 64 - trailing_zeros w64 l.due
