use Rattle.jx_base.specs.declared.names.Band.TheVariants.{LL}
use Rattle.jx_tile.proofs.BandLemmas.{band_there}
use Rattle.jx_tier2_reader.proofs.fresh.blocks_up_to.Goals as goal

pub block_grid-requires-clause-band : goal.block_grid-requires-clause-band
block_grid-requires-clause-band c = band_there c.args.res c.of_resolution-bands.result.now c.loop-band.band-index LL c.of_resolution-bands.ensures c.loop-band-test.true
