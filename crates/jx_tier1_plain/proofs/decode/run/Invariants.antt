use Rattle.std.proofs.Common.{◌≡◌, ◌-◌, ◌+◌, ◌/◌}
use Rattle.jx_tier1_specs.specs.Cells.{HasSize, AreWithin}
use Rattle.jx_tier1_specs.specs.Reading.{coding_of, read_from}
use Rattle.jx_tier1_specs.specs.Short.{AreShort}
use Rattle.jx_tier1_plain.proofs.decode.run.Given as goal

abbrev pub invariant-loop-pass : goal.invariant-loop-pass
invariant-loop-pass l = record {
  so_far : read_from (coding_of l.coded.band l.coded.style.bits l.coded.planes) (l.pass-end - l.pass) l.pass l.decoder
      ≡ read_from (coding_of l.coded.band l.coded.style.bits l.coded.planes) l.pass-end 0 l.initial.decoder;
  size : HasSize l.decoder.cells;
  within : AreWithin l.coded.planes ((l.pass + 1) / 3 + 1) l.decoder.cells;
  rest : AreShort l.decoder.rest;
}
