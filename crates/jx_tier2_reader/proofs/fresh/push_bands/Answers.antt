use Rattle.std.proofs.Common.{arith, []}
use Rattle.jx_base.specs.declared.names.Band.TheVariants.{LL}
use Rattle.jx_tile.proofs.BandLemmas.{band_there}
use Rattle.jx_tier2_reader.specs.Blocks.{blocks_of_band}
use Rattle.jx_tier2_reader.proofs.ListLemmas.{bands_first, bands_next, bands_last}
use Rattle.jx_tier2_reader.proofs.fresh.push_bands.Goals as goal

pub push_band-requires-clause-band : goal.push_band-requires-clause-band
push_band-requires-clause-band c = band_there c.args.res c.of_resolution-bands.result.now c.loop-band.band-index LL c.of_resolution-bands.ensures c.loop-band-test.true

pub loop-band-init : goal.loop-band-init
loop-band-init c = bands_first (blocks_of_band c.args.stream.now c.args.geom.now [] c.args.comp c.args.res) c.args.list.now.items

pub loop-band-preserved : goal.loop-band-preserved
loop-band-preserved c =
    bands_next (blocks_of_band c.args.stream.now c.args.geom.now [] c.args.comp c.args.res) c.of_resolution-bands.result.now c.loop-band.band-index LL c.args.list.now.items c.loop-band.list.items
    c.push_band.new.list.items c.loop-band-test.true c.loop-band.invariant c.in_ok-push_band.ensures

pub returns : goal.returns
returns c =
    bands_last c.args.stream.now c.args.geom.now c.args.comp c.args.res c.of_resolution-bands.result.now c.loop-band.band-index c.args.list.now.items c.loop-band.list.items (omega arith)
    c.of_resolution-bands.ensures c.loop-band.invariant
