use Rattle.std.proofs.Common.{◌≡◌, ◌-◌, ◌+◌}
use Rattle.jx_tier1_specs.specs.Cells.{IsKept}
use Rattle.jx_tier1_specs.specs.Asking.{told}
use Rattle.jx_tier1_specs.specs.Pass.{scanned}
use Rattle.jx_tier1_plain.proofs.scan.run_pass.Given as goal

abbrev pub invariant-loop-n : goal.invariant-loop-n
invariant-loop-n g l = record {
  so_far : told g.S.Source.ask (scanned l.pass l.plane (l.places - l.n) l.n l.grid) l.source
      ≡ told g.S.Source.ask (scanned l.pass l.plane l.places 0 l.initial.grid) l.initial.source;
  kept : IsKept l.plane.planes (l.plane.number + 1) l.initial.grid l.grid;
}
