use Rattle.jx_progression.specs.Tables.{IsReady}
use Rattle.jx_progression.proofs.CoveredLemmas.{AreCoveredBelow}
use Rattle.jx_progression.proofs.covered.send_all.Given as goal

abbrev pub invariant-loop-index : goal.invariant-loop-index
invariant-loop-index l = record {
  ready : IsReady l.geom l.table;
  covered : AreCoveredBelow l.geom l.layers l.entries l.table.sent.items l.index;
}
