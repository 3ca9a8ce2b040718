use Rattle.std.proofs.Common.{[], ◌∙◌, sym, refl}
use Rattle.jx_coder_specs.specs.MqTable.{mq_fresh}
use Rattle.jx_tier1_specs.specs.Reading.{Coding, coding_of}
use Rattle.jx_tier1_specs.specs.Needs.{needs}
use Rattle.jx_tier1_specs.proofs.SegmentLemmas.{segments_finished}
use Rattle.jx_tier1.proofs.encode.encode_flags.Goals as goal

pub run_block-result-requires : goal.run_block-result-requires
run_block-result-requires c =
    let e = c.in_ok-encoder.ensures in
    record {
      some = c.requires.some;
      planes = c.requires.planes;
      passes = c.requires.passes;
      wide = rw c.width.ensures c.requires.size.wide;
      high = rw c.height.ensures c.requires.size.high;
      kind = rw e refl;
    }

pub returns : goal.returns
returns c =
    let co : Coding = coding_of c.args.band c.args.style.bits c.args.planes in
    c.end-segments.ensures
    ∙ (c.in_ok-result.ensures
    ∙ rw (c.in_ok-encoder.ensures, c.width.ensures, c.height.ensures)
    (sym (segments_finished c.args.style.bits c.args.grid.now (needs co c.args.grid.now c.args.passes) 0 mq_fresh [])))
