use Rattle.std.proofs.Common.{◌≡◌, ◌<◌, ◌∙◌, ℕ, List, length, map, ap, refl, sym, subst}
use Rattle.std.proofs.lemmas.List.{length-map}
use Rattle.jx_base.specs.declared.pieces.Block.{Block}
use Rattle.jx_geom.proofs.LeafLemmas.{leaves_limited}
use Rattle.jx_geom.specs.Precincts.{leaf_number}
use Rattle.jx_codestream.specs.Shapes.{layers_in, layers_of}
use Rattle.jx_codestream.specs.TileHeaders.{TileHeaders}
use Rattle.jx_tier2_writer.specs.BlockParts.{row_at}
use Rattle.jx_tier2_writer.specs.declared.block_parts.BlockPart.{BlockPart}
use Rattle.jx_tier2_writer.proofs.OwnLemmas.{own_has}
use Rattle.jx_tier2_writer.proofs.SendingLemmas.{silent_long, silent_parts}
use Rattle.jx_tier2_writer.proofs.SilentLemmas.{silent_is_sending}
use Rattle.jx_tier2_writer.proofs.sending.sending_of.Goals as goal

pub are_silent-requires-clause-few : goal.are_silent-requires-clause-few
are_silent-requires-clause-few g c = leaves_limited c.args.geom.now c.args.comp c.args.res c.args.precinct c.requires.tile.limits c.requires.precinct

pub are_silent-requires-clause-all : goal.are_silent-requires-clause-all
are_silent-requires-clause-all g c j lt =
    let own : List Block = map g.B.Coded.block c.args.values.now in
    let has = own_has c.args.stream.now c.args.geom.now own _ c.args.comp c.args.res c.args.precinct refl c.requires.tile.limits c.requires.precinct c.requires.own in
    let P : ℕ → Type 0 = λ n. leaf_number c.args.geom.now c.args.comp c.args.res c.args.precinct j < n in
    subst P (length-map c.args.values.now g.B.Coded.block) (has.there j lt)

pub returns-then-are_silent : goal.returns-then-are_silent
returns-then-are_silent g c =
    let layers : c.layers-layers.result ≡ layers_of c.args.stream.now c.args.geom.now.tile = c.layers-layers.ensures.value ∙ ap (λ (h : TileHeaders). layers_in h) c.requires.tile.view in
    let n : ℕ = c.layers-layers.result in
    silent_is_sending c.args.stream.now c.args.geom.now (map g.B.Coded.block c.args.values.now) (map g.B.Coded.bytes c.args.values.now) c.args.comp c.args.res c.args.precinct n
    c.silent-sending.result layers (c.are_silent.ensures c.if-are_silent.true) c.silent-sending.ensures.headers
    (ap (λ (rows : List (List BlockPart)). length rows) c.silent-sending.ensures.sent ∙ silent_long n)
    (λ l. ap (λ (rows : List (List BlockPart)). row_at rows l) c.silent-sending.ensures.sent ∙ sym (silent_parts n l))
