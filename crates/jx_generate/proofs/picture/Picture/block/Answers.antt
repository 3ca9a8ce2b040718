use Rattle.std.proofs.Common.{◌∙◌, ◌<◌, ℕ, sym, ap, subst, arith}
use Rattle.jx_generate.specs.Drawn.{block_drawn}
use Rattle.jx_generate.specs.Making.{Making, count_drawn}
use Rattle.jx_generate.proofs.PictureLemmas.{block_is, block_short, blocks_long}
use Rattle.jx_generate.proofs.picture.Picture.block.Goals as goal

pub index-requires : goal.index-requires
index-requires c =
    let count : ℕ = count_drawn c.self.inside.width c.self.inside.height in
    let inside : c.args.number < count = subst (λ (m : Making). c.args.number < count_drawn m.width m.height) (sym c.self.view_is) c.requires in
    omega (arith, blocks_long c.self.inside.seed count c.self.inside.blocks.items c.self.invariant.blocks_are, c.self.inside.blocks.ok.0)

pub returns-clause-block : goal.returns-clause-block
returns-clause-block c =
    let count : ℕ = count_drawn c.self.inside.width c.self.inside.height in
    let inside : c.args.number < count = subst (λ (m : Making). c.args.number < count_drawn m.width m.height) (sym c.self.view_is) c.requires in
    block_is c.self.inside.seed count c.args.number c.self.inside.blocks.items c.index.result.now c.self.invariant.blocks_are inside c.index.ensures
    ∙ ap (λ (m : Making). block_drawn m.seed c.args.number) c.self.view_is

pub returns-clause-short : goal.returns-clause-short
returns-clause-short c =
    let count : ℕ = count_drawn c.self.inside.width c.self.inside.height in
    let inside : c.args.number < count = subst (λ (m : Making). c.args.number < count_drawn m.width m.height) (sym c.self.view_is) c.requires in
    block_short c.self.inside.seed c.args.number c.index.result.now
    (block_is c.self.inside.seed count c.args.number c.self.inside.blocks.items c.index.result.now c.self.invariant.blocks_are inside c.index.ensures)
