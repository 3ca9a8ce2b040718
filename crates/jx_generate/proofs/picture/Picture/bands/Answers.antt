use Rattle.std.proofs.Common.{refl, arith}
use Rattle.jx_base.specs.declared.names.Band.{Band}
use Rattle.jx_base.specs.declared.names.Band.TheVariants.{LL}
use Rattle.jx_geom.specs.Precincts.{cells_at}
use Rattle.jx_packet_header.specs.declared.BandCells.{BandCells}
use Rattle.jx_tile.specs.Cells.{sizes_of}
use Rattle.jx_tile.proofs.BandLemmas.{band_there, bands_all, bands_next}
use Rattle.jx_generate.specs.Headers.{geometry_made}
use Rattle.jx_generate.specs.Made.{bands_made}
use Rattle.jx_generate.proofs.picture.Picture.bands.Goals as goal

pub push_band-requires-clause-band : goal.push_band-requires-clause-band
push_band-requires-clause-band c = band_there c.args.res c.of_resolution-kinds.result.now c.loop-band.band-index LL c.of_resolution-kinds.ensures c.loop-band-test.true

pub loop-band-preserved : goal.loop-band-preserved
loop-band-preserved c =
    let own : Band → BandCells = λ b. sizes_of (cells_at (geometry_made c.args.self.now.width c.args.self.now.height) c.args.comp c.args.res 0 b) 13 in
    bands_next own c.of_resolution-kinds.result.now c.loop-band.band-index LL _ c.loop-band.bands.items c.push_band.new.bands.items c.loop-band-test.true c.loop-band.invariant refl c.in_ok-push_band.ensures

pub returns : goal.returns
unfolding bands_made
returns c =
    let own : Band → BandCells = λ b. sizes_of (cells_at (geometry_made c.args.self.now.width c.args.self.now.height) c.args.comp c.args.res 0 b) 13 in
    bands_all own c.args.res c.of_resolution-kinds.result.now c.loop-band.band-index c.loop-band.bands.items (omega arith) c.of_resolution-kinds.ensures c.loop-band.invariant
