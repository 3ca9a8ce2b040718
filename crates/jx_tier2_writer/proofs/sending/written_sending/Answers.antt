use Rattle.std.proofs.Common.{◌≡◌, ◌<◌, ◌∙◌, ℕ, List, map, ap, sym, subst}
use Rattle.std.proofs.lemmas.List.{length-map}
use Rattle.jx_base.specs.declared.pieces.Block.{Block}
use Rattle.jx_packet_header.specs.declared.BandCells.{BandCells}
use Rattle.jx_packet_header.specs.LeavesFit.{LeavesInRange}
use Rattle.jx_packet_header.specs.Leafs.{leaf_of}
use Rattle.jx_packet_header.specs.Precinct.{CellsInRange}
use Rattle.jx_packet_header.specs.Written.{Leafed}
use Rattle.jx_codestream.specs.Shapes.{layers_in, layers_of, style_in, style_of}
use Rattle.jx_codestream.specs.TileHeaders.{TileHeaders}
use Rattle.jx_tile.specs.Cells.{precinct_bands}
use Rattle.jx_tier2_reader.proofs.FreshLemmas.{fresh_in_range}
use Rattle.jx_geom.proofs.LeafLemmas.{leaves_limited}
use Rattle.jx_geom.specs.Precincts.{leaf_number}
use Rattle.std.specs.Global.{Vec}
use Rattle.jx_tile.proofs.BandLemmas.{bands_are}
use Rattle.jx_tier2_writer.specs.BlockParts.{rows_of}
use Rattle.jx_tier2_writer.specs.Own.{IsSending}
use Rattle.jx_tier2_writer.specs.declared.block_parts.BlockPart.{BlockPart}
use Rattle.jx_tier2_writer.proofs.OwnLemmas.{headers_are, own_has, own_in_range, sent_are}
use Rattle.jx_tier2_writer.proofs.sending.written_sending.Goals as goal

pub leaves_of-requires-clause-few : goal.leaves_of-requires-clause-few
leaves_of-requires-clause-few g c = leaves_limited c.args.geom.now c.args.comp c.args.res c.args.precinct c.requires.tile.limits c.requires.precinct

pub leaves_of-requires-clause-all : goal.leaves_of-requires-clause-all
leaves_of-requires-clause-all g c j lt =
    let layers : c.layers-layers.result ≡ layers_of c.args.stream.now c.args.geom.now.tile = c.layers-layers.ensures.value ∙ ap (λ (h : TileHeaders). layers_in h) c.requires.tile.view in
    let own : List Block = map g.B.Coded.block c.args.values.now in
    let has = own_has c.args.stream.now c.args.geom.now own c.layers-layers.result c.args.comp c.args.res c.args.precinct layers c.requires.tile.limits c.requires.precinct c.requires.own in
    let P : ℕ → Type 0 = λ n. leaf_number c.args.geom.now c.args.comp c.args.res c.args.precinct j < n in
    subst P (length-map c.args.values.now g.B.Coded.block) (has.there j lt)

pub new-requires-clause-bands : goal.new-requires-clause-bands
new-requires-clause-bands g c =
    let P : List BandCells → Type 0 = λ x. CellsInRange x in
    subst P (sym (c.deref.ensures.value ∙ (c.in_ok-cells.ensures ∙ bands_are c.args.stream.now c.args.view.now c.args.geom.now c.args.comp c.args.res c.args.precinct c.requires.tile.view)))
    (fresh_in_range c.args.stream.now c.args.geom.now c.args.comp c.args.res c.args.precinct c.requires.tile.range c.requires.tile.limits c.requires.tile.tile c.requires.tile.geometry c.requires.precinct)

pub new-requires-clause-leaves : goal.new-requires-clause-leaves
new-requires-clause-leaves g c =
    let own : List Block = map g.B.Coded.block c.args.values.now in
    let s = c.args.stream.now in
    let P : List BandCells → Type 0 = λ x. LeavesInRange x (map leaf_of c.in_ok-leaves.leaves.items) in
    let Q : List Leafed → Type 0 = λ x. LeavesInRange (precinct_bands s c.args.geom.now c.args.comp c.args.res c.args.precinct) x in
    subst P (sym (c.deref.ensures.value ∙ (c.in_ok-cells.ensures ∙ bands_are c.args.stream.now c.args.view.now c.args.geom.now c.args.comp c.args.res c.args.precinct c.requires.tile.view))) (subst Q (sym c.in_ok-leaves.ensures) (own_in_range s c.args.geom.now own c.args.comp c.args.res c.args.precinct c.requires.own))

pub parts_of-requires : goal.parts_of-requires
parts_of-requires g c =
    let layers : c.layers-layers.result ≡ layers_of c.args.stream.now c.args.geom.now.tile = c.layers-layers.ensures.value ∙ ap (λ (h : TileHeaders). layers_in h) c.requires.tile.view in
    own_has c.args.stream.now c.args.geom.now (map g.B.Coded.block c.args.values.now) c.layers-layers.result c.args.comp c.args.res c.args.precinct layers c.requires.tile.limits c.requires.precinct c.requires.own

pub returns : goal.returns
returns g c =
    let own : List Block = map g.B.Coded.block c.args.values.now in
    let s = c.args.stream.now in
    let layers : c.layers-layers.result ≡ layers_of s c.args.geom.now.tile = c.layers-layers.ensures.value ∙ ap (λ (h : TileHeaders). layers_in h) c.requires.tile.view in
    let style : c.style-style.result.bits ≡ style_of s c.args.geom.now.tile c.args.comp = c.style-style.ensures ∙ ap (λ (h : TileHeaders). style_in h c.args.comp) c.requires.tile.view in
    subst (IsSending s c.args.geom.now own (map g.B.Coded.bytes c.args.values.now) c.args.comp c.args.res c.args.precinct) (sym c.in_ok-sending.ensures)
    (sent_are s c.args.geom.now own (map g.B.Coded.bytes c.args.values.now) c.args.comp c.args.res c.args.precinct c.layers-layers.result c.in_ok-headers.headers c.in_ok-rows.rows.items c.in_ok-sent.sent layers
    (headers_are s c.args.geom.now own c.args.comp c.args.res c.args.precinct c.layers-layers.result c.style-style.result.bits c.deref.result.now (map leaf_of c.in_ok-leaves.leaves.items) c.in_ok-out.out
    c.in_ok-headers.headers layers style (c.deref.ensures.value ∙ (c.in_ok-cells.ensures ∙ bands_are c.args.stream.now c.args.view.now c.args.geom.now c.args.comp c.args.res c.args.precinct c.requires.tile.view)) c.in_ok-leaves.ensures c.in_ok-out.ensures c.in_ok-headers.ensures)
    (c.in_ok-sent.ensures ∙ ap (λ (xs : List (Vec BlockPart)). rows_of xs) c.deref-2.ensures.value) c.in_ok-rows.ensures.long c.in_ok-rows.ensures.bytes c.in_ok-rows.ensures.sent)
