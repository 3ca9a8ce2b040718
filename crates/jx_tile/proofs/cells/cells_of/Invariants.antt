use Rattle.std.proofs.Common.{◌≡◌, map, take}
use Rattle.jx_base.specs.declared.names.Band.{Band}
use Rattle.jx_geom.specs.Precincts.{cells_at}
use Rattle.jx_codestream.specs.Params.{planes_in}
use Rattle.jx_tile.specs.Cells.{sizes_of}
use Rattle.jx_tile.proofs.cells.cells_of.Given as goal

abbrev pub invariant-loop-band : goal.invariant-loop-band
invariant-loop-band l = l.bands.items ≡ map (λ (b : Band). sizes_of (cells_at l.geom l.comp l.res l.precinct b) (planes_in l.view l.comp l.res b)) (take l.band-index l.kinds)
