use Rattle.std.specs.Prelude.{[], ◌∷◌}
use Rattle.jx_store_tests.proofs.pass_tests.counted_runs.Given as goal

abbrev pub ghosts-narrow-N-Bounds : goal.ghosts-narrow-N-Bounds
ghosts-narrow-N-Bounds g a = record { setup = record { first = 0; sizes = 0 ∷ 0 ∷ 0 ∷ []; window = 2; most = 1 }; workers = 3; jobs = a.jobs.now }

abbrev pub ghosts-narrow-A-Ledger : goal.ghosts-narrow-A-Ledger
ghosts-narrow-A-Ledger g a = record { name = a.blanks.claimed.name; parts = 3 }

abbrev pub ghosts-narrow-B-Ledger : goal.ghosts-narrow-B-Ledger
ghosts-narrow-B-Ledger g a = record { name = a.blanks.full.name; parts = 3 }

abbrev pub ghosts-narrow-C-Ledger : goal.ghosts-narrow-C-Ledger
ghosts-narrow-C-Ledger g a = record { name = a.blanks.all_claimed.name; parts = 3 }

abbrev pub ghosts-narrow-D-Ledger : goal.ghosts-narrow-D-Ledger
ghosts-narrow-D-Ledger g a = record { name = a.blanks.committed.name; parts = 3 }

abbrev pub ghosts-narrow-E-Ledger : goal.ghosts-narrow-E-Ledger
ghosts-narrow-E-Ledger g a = record { name = a.blanks.made.name; parts = 3 }

abbrev pub ghosts-short-N-Bounds : goal.ghosts-short-N-Bounds
ghosts-short-N-Bounds g a = record { setup = record { first = 0; sizes = 0 ∷ 0 ∷ 0 ∷ []; window = 3; most = 1 }; workers = 3; jobs = a.jobs.now }

abbrev pub ghosts-short-A-Ledger : goal.ghosts-short-A-Ledger
ghosts-short-A-Ledger g a = record { name = a.blanks.claimed.name; parts = 3 }

abbrev pub ghosts-short-B-Ledger : goal.ghosts-short-B-Ledger
ghosts-short-B-Ledger g a = record { name = a.blanks.full.name; parts = 3 }

abbrev pub ghosts-short-C-Ledger : goal.ghosts-short-C-Ledger
ghosts-short-C-Ledger g a = record { name = a.blanks.all_claimed.name; parts = 3 }

abbrev pub ghosts-short-D-Ledger : goal.ghosts-short-D-Ledger
ghosts-short-D-Ledger g a = record { name = a.blanks.committed.name; parts = 3 }

abbrev pub ghosts-short-E-Ledger : goal.ghosts-short-E-Ledger
ghosts-short-E-Ledger g a = record { name = a.blanks.made.name; parts = 3 }
