use Rattle.jx_tier1_specs.specs.Reading.{coding_of, zeros}
use Rattle.jx_tier1_specs.specs.Short.{AreShort}
use Rattle.jx_tier1.specs.BlockPasses.{HasSizeOf}
use Rattle.jx_tier1.specs.Placing.{placed}
use Rattle.jx_tier1.proofs.PlacingLemmas.{IsOnWay}
use Rattle.jx_tier1.proofs.recode.run.Given as goal

abbrev pub invariant-loop-pass : goal.invariant-loop-pass
invariant-loop-pass l = record {
  size : HasSizeOf l.initial.block l.block;
  way : IsOnWay (coding_of l.coded.band l.coded.style.bits l.coded.planes) (coding_of l.coded.band l.style.bits l.coded.planes)
      l.initial.block.width l.initial.block.height l.pass-end l.pass l.block l.recoder (placed (zeros l.initial.block.width l.initial.block.height) l.initial.recoder);
  rest : AreShort l.recoder.rest;
}
