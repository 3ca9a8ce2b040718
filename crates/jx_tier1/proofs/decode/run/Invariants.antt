use Rattle.std.proofs.Common.{◌≤◌}
use Rattle.jx_tier1_specs.specs.Reading.{coding_of}
use Rattle.jx_tier1_specs.specs.Short.{AreShort}
use Rattle.jx_tier1.specs.BlockPasses.{HasSizeOf}
use Rattle.jx_tier1.proofs.ReadingLemmas.{IsReading}
use Rattle.jx_tier1.proofs.decode.run.Given as goal

abbrev pub invariant-loop-pass : goal.invariant-loop-pass
invariant-loop-pass l = record {
  size : HasSizeOf l.initial.block l.block;
  way : IsReading (coding_of l.coded.band l.coded.style.bits l.coded.planes) l.initial.block.width l.initial.block.height l.pass-end l.pass l.block l.decoder l.initial.decoder;
  most : l.pass ≤ l.pass-end;
  rest : AreShort l.decoder.rest;
}
