use Rattle.std.specs.Prelude.{[], ◌∷◌}
use Rattle.jx_store_tests.proofs.ring_byte_tests.by_bytes.Given as goal

abbrev pub ghosts-even : goal.ghosts-even
ghosts-even g a = record { setup = record { first = 0; sizes = 5 ∷ 5 ∷ 5 ∷ []; window = 3; most = 10 }; workers = 3; jobs = a.jobs.now }

abbrev pub ghosts-large : goal.ghosts-large
ghosts-large g a = record { setup = record { first = 0; sizes = 20 ∷ 5 ∷ []; window = 2; most = 10 }; workers = 3; jobs = a.jobs.now }
