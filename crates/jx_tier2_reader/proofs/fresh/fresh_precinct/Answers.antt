use Rattle.std.proofs.Common.{◌≡◌, ◌∙◌, List, ap, subst, sym}
use Rattle.std.proofs.lemmas.Result.{IfOk-weaker}
use Rattle.jx_packet_header.specs.declared.BandCells.{BandCells}
use Rattle.jx_packet_header.specs.Precinct.{CellsInRange, fresh_state}
use Rattle.jx_codestream.specs.Shapes.{style_in}
use Rattle.jx_codestream.specs.TileHeaders.{TileHeaders}
use Rattle.jx_tile.proofs.BandLemmas.{bands_are}
use Rattle.jx_tier2_reader.specs.Fresh.{fresh_precinct}
use Rattle.jx_tier2_reader.proofs.ListLemmas.{fresh_from}
use Rattle.jx_tier2_reader.proofs.FreshLemmas.{fresh_in_range}
use Rattle.jx_tier2_reader.proofs.fresh.fresh_precinct.Goals as goal

pub new-requires : goal.new-requires
new-requires c =
    let s = c.args.stream.now in
    let g = c.args.geom.now in
    let bands = c.deref.ensures.value ∙ c.in_ok-bands.ensures ∙ bands_are s c.args.view.now g c.args.comp c.args.res c.args.precinct c.requires.tile.view in
    let P : List BandCells → Type 0 = λ x. CellsInRange x in
    subst P (sym bands) (fresh_in_range s g c.args.comp c.args.res c.args.precinct c.requires.tile.range c.requires.tile.limits c.requires.tile.tile c.requires.tile.geometry c.requires.precinct)

pub returns : goal.returns
returns c =
    let s = c.args.stream.now in
    let g = c.args.geom.now in
    let bands = c.deref.ensures.value ∙ c.in_ok-bands.ensures ∙ bands_are s c.args.view.now g c.args.comp c.args.res c.args.precinct c.requires.tile.view in
    let style = c.style-style.ensures ∙ ap (λ (h : TileHeaders). style_in h c.args.comp) c.requires.tile.view in
    IfOk-weaker c.new.result (λ p. p ≡ fresh_state c.style-style.result.bits c.deref.result.now) (λ p. p ≡ fresh_precinct s g c.args.comp c.args.res c.args.precinct)
    (λ p h. h ∙ fresh_from s g c.args.comp c.args.res c.args.precinct c.style-style.result.bits c.deref.result.now style bands) c.new.ensures.fresh
