use Rattle.std.proofs.Common.{ap, below_more, List, Some}
use Rattle.std.specs.List.{list_any}
use Rattle.jx_marker.specs.declared.Segment.{Segment}
use Rattle.jx_plan.specs.Fits.{KeepsBlocks}
use Rattle.jx_plan.specs.Changes.{is_coding}
use Rattle.jx_plan.proofs.FitLemmas.{known_next}
use Rattle.jx_plan.proofs.fitting.first_changed.Goals as goal

pub loop-tile-preserved : goal.loop-tile-preserved
loop-tile-preserved c =
    let precincts = Some c.args.items.now in
    let s = c.args.stream.now in
    let t = c.loop-tile.tile in
    let keeps : KeepsBlocks precincts s t = c.in_ok-known_keeps.ensures.0 c.if-not-branch.false in
    record {
      known = known_next precincts s t c.loop-tile.known c.is_known-known.result (list_any is_coding c.header.result.now) c.is_known-known.ensures
          (ap (λ (xs : List Segment). list_any is_coding xs) c.header.ensures) keeps c.loop-tile.invariant.known;
      below = below_more (KeepsBlocks precincts s) t c.loop-tile.invariant.below keeps;
    }
