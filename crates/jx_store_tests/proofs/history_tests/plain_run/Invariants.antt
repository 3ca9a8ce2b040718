use Rattle.std.specs.Prelude.{[], ◌∷◌}
use Rattle.jx_store_tests.proofs.history_tests.plain_run.Given as goal

abbrev pub ghosts-two-N-Bounds : goal.ghosts-two-N-Bounds
ghosts-two-N-Bounds g a = record { setup = record { first = 0; sizes = 0 ∷ 0 ∷ 0 ∷ []; window = 2; most = 1 }; workers = 2; jobs = a.jobs.now }

abbrev pub ghosts-two-A-Ledger : goal.ghosts-two-A-Ledger
ghosts-two-A-Ledger g a = record { name = a.blanks.claimed.name; parts = 2 }

abbrev pub ghosts-two-B-Ledger : goal.ghosts-two-B-Ledger
ghosts-two-B-Ledger g a = record { name = a.blanks.full.name; parts = 2 }

abbrev pub ghosts-two-C-Ledger : goal.ghosts-two-C-Ledger
ghosts-two-C-Ledger g a = record { name = a.blanks.all_claimed.name; parts = 2 }

abbrev pub ghosts-two-D-Ledger : goal.ghosts-two-D-Ledger
ghosts-two-D-Ledger g a = record { name = a.blanks.committed.name; parts = 2 }

abbrev pub ghosts-two-E-Ledger : goal.ghosts-two-E-Ledger
ghosts-two-E-Ledger g a = record { name = a.blanks.made.name; parts = 2 }
