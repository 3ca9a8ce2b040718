use Rattle.std.proofs.Common.{ℕ, List, ◌∷◌, ◌++◌, ◌∙◌, ap, arith}
use Rattle.jx_marker.specs.declared.Segment.TheVariants as segment
use Rattle.jx_marker.specs.Segments.{spelling}
use Rattle.jx_tier2_writer.specs.Lengths.{septets}
use Rattle.jx_tier2_writer.proofs.LengthLemmas.{flushed}
use Rattle.jx_tier2_writer.proofs.lengths.put_next.Goals as goal

pub returns-clause-walk : goal.returns-clause-walk
returns-clause-walk c rest =
    flushed c.args.comps c.args.number c.args.long c.args.out.now.items c.put_lengths_segment.new.out.items c.args.held.now.items c.put_septets-2.new.out.items rest
    (omega arith)
    (c.in_ok-put_lengths_segment.ensures ∙ ap (λ (xs : List ℕ). c.args.out.now.items ++ spelling c.args.comps (segment.Plt (c.args.number ∷ xs))) c.deref.ensures.value)
    (c.in_ok-put_septets-2.ensures ∙ ap (λ (xs : List ℕ). xs ++ septets c.length_size-size.result c.args.long) c.clear.ensures.items ∙ ap (λ (k : ℕ). septets k c.args.long) c.length_size-size.ensures.value)
