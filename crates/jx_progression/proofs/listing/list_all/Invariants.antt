use Rattle.jx_progression.specs.Packets.{IsOrder}
use Rattle.jx_progression.specs.Steps.{IsTable}
use Rattle.jx_progression.specs.Tables.{IsReady}
use Rattle.jx_progression.proofs.CoveredLemmas.{AreCoveredBelow}
use Rattle.jx_progression.proofs.listing.list_all.Given as goal

abbrev pub invariant-loop-index : goal.invariant-loop-index
invariant-loop-index l = record {
  order : IsOrder l.geom l.layers l.entries l.index l.list.items;
  table : IsTable l.geom l.layers l.list.items l.table.sent.items;
  ready : IsReady l.geom l.table;
  covered : AreCoveredBelow l.geom l.layers l.entries l.table.sent.items l.index;
}
