use Rattle.std.proofs.Common.{◌≡◌, ◌+◌, ◌≤◌, drop}
use Rattle.std.specs.List.{count_by}
use Rattle.jx_workers.specs.Told.{is_anew}
use Rattle.jx_transcode.proofs.rewrite.anew_in.Given as goal

abbrev pub invariant-loop-job : goal.invariant-loop-job
invariant-loop-job l = record {
  counted : l.count + count_by is_anew (drop l.job-index l.jobs) ≡ count_by is_anew l.jobs;
  few : l.count ≤ l.job-index;
}
