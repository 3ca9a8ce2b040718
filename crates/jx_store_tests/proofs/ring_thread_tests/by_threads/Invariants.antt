use Rattle.jx_store_tests.proofs.ring_thread_tests.by_threads.Given as goal

abbrev pub ghosts-shared : goal.ghosts-shared
ghosts-shared g a = record { setup = record { first = a.limits.first; sizes = a.sizes.now; window = a.limits.window; most = a.limits.most }; workers = a.limits.workers; jobs = a.jobs.now }
