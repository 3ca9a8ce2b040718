use Rattle.std.proofs.Common.{◌≡◌, map, take}
use Rattle.jx_base.specs.declared.names.Band.{Band}
use Rattle.jx_geom.specs.Precincts.{cells_at}
use Rattle.jx_tile.specs.Cells.{sizes_of}
use Rattle.jx_generate.specs.Headers.{geometry_made}
use Rattle.jx_generate.proofs.picture.Picture.bands.Given as goal

abbrev pub invariant-loop-band : goal.invariant-loop-band
invariant-loop-band l = l.bands.items ≡ map (λ (b : Band). sizes_of (cells_at (geometry_made l.self.width l.self.height) l.comp l.res 0 b) 13) (take l.band-index l.kinds)
