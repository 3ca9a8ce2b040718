use Rattle.jx_store_tests.proofs.lock_thread_tests.by_threads.Given as goal

abbrev pub ghosts-shared-N-Bounds : goal.ghosts-shared-N-Bounds
ghosts-shared-N-Bounds g a = record { setup = record { first = a.limits.first; sizes = a.sizes.now; window = a.limits.window; most = a.limits.most }; workers = a.limits.workers; jobs = a.jobs.now }

abbrev pub ghosts-shared-A-Ledger : goal.ghosts-shared-A-Ledger
ghosts-shared-A-Ledger g a = record { name = a.blanks.claimed.name; parts = a.limits.workers }

abbrev pub ghosts-shared-B-Ledger : goal.ghosts-shared-B-Ledger
ghosts-shared-B-Ledger g a = record { name = a.blanks.full.name; parts = a.limits.workers }

abbrev pub ghosts-shared-C-Ledger : goal.ghosts-shared-C-Ledger
ghosts-shared-C-Ledger g a = record { name = a.blanks.all_claimed.name; parts = a.limits.workers }

abbrev pub ghosts-shared-D-Ledger : goal.ghosts-shared-D-Ledger
ghosts-shared-D-Ledger g a = record { name = a.blanks.committed.name; parts = a.limits.workers }

abbrev pub ghosts-shared-E-Ledger : goal.ghosts-shared-E-Ledger
ghosts-shared-E-Ledger g a = record { name = a.blanks.made.name; parts = a.limits.workers }
