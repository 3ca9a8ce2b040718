use Rattle.std.proofs.Common.{sym, subst, List, Option}
use Rattle.jx_base.specs.declared.pieces.Block.{Block}
use Rattle.jx_base.specs.Places.{InRect}
use Rattle.jx_same.specs.Sides.{AreOnShelf, Covers}
use Rattle.jx_same.proofs.BlockLemmas.{agree_here}
use Rattle.jx_same.proofs.ShelfLemmas.{shelf_found, shelf_put}
use Rattle.jx_same.proofs.shelf.Shelf.agrees.Goals as goal

pub returns-in-Some-clause-agrees : goal.returns-in-Some-clause-agrees
returns-in-Some-clause-agrees c =
    let v = c.args.side.now in
    let n = c.args.name in
    agree_here v n c.args.block.now c.in-Some.hand.now c.args.x c.args.y c.agrees.result
    (shelf_found v n c.args.self.now c.self.inside.slots.items c.deref.result.now c.slot-at.result c.in-Some.hand.now c.requires.shelf c.self.view_is c.deref.ensures.value c.in-Some.ensures.there)
    c.in-Some.ensures.has c.agrees.ensures

pub returns-clause-shelf : goal.returns-clause-shelf
returns-clause-shelf c =
    let v = c.args.side.now in
    let n = c.args.name in
    let covers = subst (λ (b : Block). Covers v n b) (sym c.in_ok-hand.ensures) c.block_over.ensures.covers in
    shelf_put v n c.self.inside.slots.items c.put.new.slots.items c.in_ok-hand.hand (subst (λ (s : List (Option Block)). AreOnShelf v n s) (sym c.self.view_is) c.requires.shelf) covers c.in_ok-put.ensures

pub returns-clause-agrees : goal.returns-clause-agrees
returns-clause-agrees c =
    let v = c.args.side.now in
    let n = c.args.name in
    let covers = subst (λ (b : Block). Covers v n b) (sym c.in_ok-hand.ensures) c.block_over.ensures.covers in
    let has = subst (λ (b : Block). InRect b.rect c.args.x c.args.y) (sym c.in_ok-hand.ensures) c.block_over.ensures.has in
    agree_here v n c.args.block.now c.in_ok-hand.hand c.args.x c.args.y c.agrees-same.result covers has c.agrees-same.ensures
