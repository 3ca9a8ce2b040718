use Rattle.std.proofs.Common.{◌≡◌, length, IsTrue}
use Rattle.jx_rounds.specs.FileBytes.{bytes_of, told_beside}
use Rattle.jx_rounds.specs.Taken.{HasTaken}
use Rattle.jx_rounds.proofs.file_writer.write_all.Given as goal

abbrev pub invariant-loop-rest : goal.invariant-loop-rest
invariant-loop-rest g l = record {
  so_far : HasTaken (bytes_of (g.F.Files.meaning l.initial.files)) (bytes_of (g.F.Files.meaning l.files)) l.bytes l.rest;
  told : told_beside (g.F.Files.meaning l.files) ≡ told_beside (g.F.Files.meaning l.initial.files);
  making : IsTrue (g.F.Files.meaning l.files).making;
  same : g.F.Files.write_faults l.files ≡ g.F.Files.write_faults l.initial.files;
  other : g.F.Files.read_faults l.files ≡ g.F.Files.read_faults l.initial.files;
}

abbrev pub decreases-loop-rest : goal.decreases-loop-rest
decreases-loop-rest g l = length l.rest
