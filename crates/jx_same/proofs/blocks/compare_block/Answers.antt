use Rattle.std.proofs.Common.{◌∙◌, ap, sym}
use Rattle.std.specs.List.{find}
use Rattle.jx_base.specs.declared.names.Rect.{Rect}
use Rattle.jx_base.specs.declared.pieces.Block.{Block}
use Rattle.jx_same.specs.Items.{coef_items, differs}
use Rattle.jx_same.specs.Sides.{meaning_at}
use Rattle.jx_same.proofs.BlockLemmas.{aligned_has, alike_none, first_place, place_in_band, place_over}
use Rattle.jx_same.proofs.VoidLemmas.{void_none}
use Rattle.jx_same.proofs.blocks.compare_block.Goals as goal

pub block_over-twin-requires-clause-band : goal.block_over-twin-requires-clause-band
block_over-twin-requires-clause-band c = aligned_has c.args.a.now c.args.b.now c.args.name c.requires.aligned c.requires.band

pub block_over-twin-requires-clause-place : goal.block_over-twin-requires-clause-place
block_over-twin-requires-clause-place c =
    let block = c.block-block.result.now in
    place_over c.args.a.now c.args.b.now c.args.name c.requires.aligned c.requires.band block.rect.x.low block.rect.y.low
    (place_in_band c.args.a.now c.args.name c.args.index block.rect c.block-block.ensures.rect block.rect.x.low block.rect.y.low (first_place block c.block-block.ensures.covers.sound))

pub returns-then-branch-clause-first : goal.returns-then-branch-clause-first
returns-then-branch-clause-first c =
    let a = c.args.a.now in
    let b = c.args.b.now in
    let n = c.args.name in
    let p = differs (meaning_at a) (meaning_at b) in
    let none = alike_none a b n c.block-block.result.now c.block_over-twin.result.now c.requires.aligned.beside.tile c.block-block.ensures.covers c.block_over-twin.ensures.covers (c.in_ok-are_alike.ensures c.if-branch.true) in
    sym (ap (λ (r : Rect). find p (coef_items a.tile n.comp n.res n.band r)) (sym c.block-block.ensures.rect) ∙ none)

pub compare_places-requires-clause-inside : goal.compare_places-requires-clause-inside
compare_places-requires-clause-inside c =
    λ x y h. place_in_band c.args.a.now c.args.name c.args.index c.in_ok-block.block.rect (ap (λ (z : Block). z.rect) c.in_ok-block.ensures ∙ c.block-block.ensures.rect) x y h

pub returns-then-are_void-clause-first : goal.returns-then-are_void-clause-first
returns-then-are_void-clause-first c =
    let a = c.args.a.now in
    let b = c.args.b.now in
    let n = c.args.name in
    let p = differs (meaning_at a) (meaning_at b) in
    let none = void_none a b n c.block-block.result.now c.block_over-twin.result.now c.requires.aligned.beside.tile c.block-block.ensures.covers c.block_over-twin.ensures.covers (c.are_void.ensures c.if-are_void.true) in
    sym (ap (λ (r : Rect). find p (coef_items a.tile n.comp n.res n.band r)) (sym c.block-block.ensures.rect) ∙ none)
