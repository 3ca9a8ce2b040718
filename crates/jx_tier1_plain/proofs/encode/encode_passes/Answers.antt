use Rattle.std.proofs.Common.{[], ◌∙◌, ap, sym}
use Rattle.jx_coder_specs.specs.MqTable.{mq_fresh}
use Rattle.jx_tier1_specs.specs.Reading.{coding_of}
use Rattle.jx_tier1_specs.specs.Needs.{needs}
use Rattle.jx_tier1_specs.specs.Encoding.{Encoding}
use Rattle.jx_tier1_specs.proofs.SegmentLemmas.{segments_finished}
use Rattle.jx_tier1_plain.proofs.encode.encode_passes.Goals as goal

pub returns : goal.returns
returns c =
    let co = coding_of c.args.band c.args.style.bits c.args.planes in
    ap (λ (e : Encoding). e.done) c.encoder.view_is
    ∙ (c.in_ok-run.ensures
    ∙ rw (c.new-3.ensures.items, c.new-2.ensures, c.is_raw.ensures, c.in_ok-new.ensures, c.width.ensures, c.height.ensures)
    (sym (segments_finished c.args.style.bits c.args.grid.now (needs co c.args.grid.now c.args.passes) 0 mq_fresh [])))
