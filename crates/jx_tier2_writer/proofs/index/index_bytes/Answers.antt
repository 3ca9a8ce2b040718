use Rattle.std.proofs.Common.{◌≡◌, ◌∙◌, ◌∷◌, ◌++◌, ℕ, List, arith, length, map, sym, ap}
use Rattle.std.specs.List.{flat_map, range_with_len}
use Rattle.jx_marker.specs.declared.Segment.TheVariants as segment
use Rattle.jx_marker.specs.Segments.{spelling}
use Rattle.jx_codestream.specs.Spells.{all_bytes}
use Rattle.jx_tier2_writer.specs.declared.index.PartLength.{PartLength}
use Rattle.jx_tier2_writer.specs.Index.{entry_bytes, index_count, index_segment}
use Rattle.jx_tier2_writer.proofs.IndexLemmas.{segment_next, spelled_in}
use Rattle.jx_tier2_writer.proofs.index.index_bytes.Goals as goal

pub loop-number-preserved : goal.loop-number-preserved
loop-number-preserved c =
    let entries : List PartLength = c.args.lengths.now in
    let n : ℕ = c.loop-number.number in
    c.in_ok-put_segment_of.ensures
    ∙ ap (λ (z : List PartLength). c.loop-number.out.items ++ spelling 1 (segment.Tlm (n ∷ 96 ∷ flat_map entry_bytes z))) c.run_in.ensures.value
    ∙ ap (λ (z : List ℕ). z ++ spelling 1 (index_segment entries n)) c.loop-number.invariant
    ∙ sym (segment_next entries n)

pub returns : goal.returns
returns c comps =
    let entries : List PartLength = c.args.lengths.now in
    let all : c.loop-number.number ≡ index_count (length entries) = omega arith in
    c.loop-number.invariant
    ∙ ap (λ (n : ℕ). all_bytes 1 (map (index_segment entries) (range_with_len 0 n))) all
    ∙ spelled_in comps entries (range_with_len 0 (index_count (length entries)))
