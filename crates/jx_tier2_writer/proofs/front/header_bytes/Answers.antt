use Rattle.std.proofs.Common.{ℕ, List, [], length, subst, sym, All}
use Rattle.jx_marker.specs.declared.Segment.{Segment}
use Rattle.jx_marker.specs.Ranges.{InRange}
use Rattle.jx_codestream.specs.declared.headers.HeaderKind.TheVariants.{Main}
use Rattle.jx_codestream.proofs.SegmentLemmas.{segments_fit as all_in_range}
use Rattle.jx_tier2_writer.proofs.front.header_bytes.Goals as goal

pub put_segments-requires : goal.put_segments-requires
put_segments-requires c =
    let P : ℕ → Type 0 = λ n. All (InRange n) c.args.stream.now.main in
    let Q : List Segment → Type 0 = λ xs. All (InRange c.comps_of-comps.result) xs in
    subst Q (sym c.as_slice.ensures) (subst P (sym c.comps_of-comps.ensures) (all_in_range Main (length c.args.stream.now.siz.comps) [] c.args.stream.now.main c.requires.main))
