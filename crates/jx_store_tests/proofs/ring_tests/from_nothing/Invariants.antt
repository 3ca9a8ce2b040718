use Rattle.std.specs.Prelude.{[], ◌∷◌}
use Rattle.jx_store_tests.proofs.ring_tests.from_nothing.Given as goal

abbrev pub ghosts-narrow : goal.ghosts-narrow
ghosts-narrow g a = record { setup = record { first = 0; sizes = 0 ∷ 0 ∷ 0 ∷ []; window = 2; most = 1 }; workers = 3; jobs = a.jobs.now }

abbrev pub ghosts-short : goal.ghosts-short
ghosts-short g a = record { setup = record { first = 0; sizes = 0 ∷ 0 ∷ 0 ∷ []; window = 3; most = 1 }; workers = 3; jobs = a.jobs.now }
