use Rattle.jx_tier1_specs.specs.Reading.{coding_of}
use Rattle.jx_tier1.specs.BlockPasses.{HasSizeOf}
use Rattle.jx_tier1.proofs.BesideRuns.{AreOnWay}
use Rattle.jx_tier1.proofs.same.run.Given as goal

abbrev pub invariant-loop-pass : goal.invariant-loop-pass
invariant-loop-pass l = record {
  size : HasSizeOf l.initial.block l.block;
  way : AreOnWay (coding_of l.coded.band l.coded.style.bits l.coded.planes) (coding_of l.coded.band l.style.bits l.coded.planes)
      l.initial.block.width l.initial.block.height l.pass-end l.pass l.block l.comparer l.initial.comparer.one.rest l.initial.comparer.two.rest;
}
