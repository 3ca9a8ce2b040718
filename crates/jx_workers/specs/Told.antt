-- What a gate is told of jobs.
use Rattle.std.specs.Prelude.{ℕ, Bool, List, is_some}
use Rattle.std.specs.List.{count_by}
use Rattle.jx_codeblock.specs.declared.job.Job.{Job}

-- the block is coded anew
abbrev pub is_anew : Job → Bool
is_anew j = is_some j.style

-- how many blocks are
abbrev pub anew_in : List Job → ℕ
anew_in jobs = count_by is_anew jobs
