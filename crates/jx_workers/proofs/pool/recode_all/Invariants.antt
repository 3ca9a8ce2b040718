use Rattle.jx_workers.specs.Tapes.{bounds}
use Rattle.jx_workers.proofs.pool.recode_all.Given as goal

abbrev pub ghosts-tape_of : goal.ghosts-tape_of
ghosts-tape_of g a = record { setup = bounds a.limits.first a.limits.window a.limits.most a.jobs.now; workers = a.limits.threads; jobs = a.jobs.now }
