use Rattle.std.specs.Prelude.{[], ◌∷◌}
use Rattle.jx_store_tests.proofs.ring_tests.from_seven.Given as goal

abbrev pub ghosts-heavy : goal.ghosts-heavy
ghosts-heavy g a = record { setup = record { first = 7; sizes = 5 ∷ 5 ∷ 6 ∷ []; window = 2; most = 10 }; workers = 3; jobs = a.jobs.now }

abbrev pub ghosts-single : goal.ghosts-single
ghosts-single g a = record { setup = record { first = 7; sizes = 9 ∷ 0 ∷ 9 ∷ []; window = 1; most = 1 }; workers = 3; jobs = a.jobs.now }
