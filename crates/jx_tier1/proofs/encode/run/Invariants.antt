use Rattle.jx_tier1_specs.specs.Reading.{coding_of}
use Rattle.jx_tier1.specs.BlockPasses.{HasSizeOf}
use Rattle.jx_tier1.proofs.ComingLemmas.{IsComing}
use Rattle.jx_tier1.proofs.encode.run.Given as goal

abbrev pub invariant-loop-pass : goal.invariant-loop-pass
invariant-loop-pass l = record {
  size : HasSizeOf l.initial.block l.block;
  way : IsComing (coding_of l.band l.style.bits l.planes) l.initial.block.width l.initial.block.height l.passes l.pass l.block l.encoder l.initial.encoder;
}
