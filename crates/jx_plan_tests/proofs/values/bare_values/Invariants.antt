use Rattle.std.proofs.Common.{◌≡◌, ◌++◌, All, map, drop}
use Rattle.jx_base.specs.Sound.{IsSound}
use Rattle.jx_tier2_writer.specs.Tile.{AreMade, block_written, made_in}
use Rattle.jx_plan_tests.proofs.OneTile.{IsBare, job_of}
use Rattle.jx_plan_tests.proofs.values.bare_values.Given as goal

abbrev pub invariant-loop-job : goal.invariant-loop-job
invariant-loop-job l =
    AreMade l.list.items
    × (map job_of (made_in l.list.items) ++ drop l.job-index l.jobs ≡ l.jobs)
    × All IsSound (map block_written (made_in l.list.items))
    × All IsBare (map block_written (made_in l.list.items))
