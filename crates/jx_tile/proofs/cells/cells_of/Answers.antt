use Rattle.std.proofs.Common.{◌∙◌, ℕ, get_or, ap, arith}
use Rattle.jx_base.specs.declared.names.Band.{Band}
use Rattle.jx_base.specs.declared.names.Band.TheVariants.{LL}
use Rattle.jx_base.specs.declared.names.Rect.{Rect}
use Rattle.jx_geom.specs.Precincts.{cells_at}
use Rattle.jx_packet_header.specs.declared.BandCells.{BandCells}
use Rattle.jx_codestream.specs.Params.{planes_in}
use Rattle.jx_tile.specs.Cells.{sizes_of}
use Rattle.jx_tile.proofs.BandLemmas.{band_there, bands_all, bands_next}
use Rattle.jx_tile.proofs.cells.cells_of.Goals as goal

pub planes-planes-requires : goal.planes-planes-requires
planes-planes-requires c = band_there c.args.res c.of_resolution-kinds.result.now c.loop-band.band-index LL c.of_resolution-kinds.ensures c.loop-band-test.true

pub blocks-cells-requires-clause-band : goal.blocks-cells-requires-clause-band
blocks-cells-requires-clause-band c = band_there c.args.res c.of_resolution-kinds.result.now c.loop-band.band-index LL c.of_resolution-kinds.ensures c.loop-band-test.true

pub loop-band-preserved : goal.loop-band-preserved
loop-band-preserved c =
    let cells : Band → Rect = λ b. cells_at c.args.geom.now c.args.comp c.args.res c.args.precinct b in
    let planes : Band → ℕ = λ b. planes_in c.args.view.now c.args.comp c.args.res b in
    let own : Band → BandCells = λ b. sizes_of (cells b) (planes b) in
    let here : Band = get_or c.of_resolution-kinds.result.now c.loop-band.band-index LL in
    bands_next own c.of_resolution-kinds.result.now c.loop-band.band-index LL c.sizes_of.result c.loop-band.bands.items c.push.new.self.items c.loop-band-test.true c.loop-band.invariant
    (c.sizes_of.ensures ∙ ap (λ (x : Rect). sizes_of x c.planes-planes.result) c.blocks-cells.ensures.value ∙ ap (λ (n : ℕ). sizes_of (cells here) n) c.planes-planes.ensures.value) c.in_ok-push.ensures.items

pub returns : goal.returns
returns c =
    let own : Band → BandCells = λ b. sizes_of (cells_at c.args.geom.now c.args.comp c.args.res c.args.precinct b) (planes_in c.args.view.now c.args.comp c.args.res b) in
    bands_all own c.args.res c.of_resolution-kinds.result.now c.loop-band.band-index c.loop-band.bands.items (omega arith) c.of_resolution-kinds.ensures c.loop-band.invariant
