use Rattle.std.proofs.Common.{◌≡◌, length}
use Rattle.jx_io_tests.proofs.real_tests.write_all.Given as goal

-- whether a file is made or read stays so
abbrev pub invariant-loop-rest : goal.invariant-loop-rest
invariant-loop-rest g l = record {
  making : (g.F.Files.meaning l.files).making ≡ (g.F.Files.meaning l.initial.files).making;
  reading : (g.F.Files.meaning l.files).reading ≡ (g.F.Files.meaning l.initial.files).reading;
}

abbrev pub decreases-loop-rest : goal.decreases-loop-rest
decreases-loop-rest g l = length l.rest
