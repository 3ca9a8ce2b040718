use Rattle.std.proofs.Common.{◌≡◌, ◌∙◌, ◌<◌, ℕ, map, sym, subst, arith}
use Rattle.jx_geom.specs.Precincts.{leaf_number, leaves}
use Rattle.jx_packet_header.specs.Leafs.{leaf_of}
use Rattle.jx_generate.specs.Headers.{geometry_made}
use Rattle.jx_generate.specs.Making.{count_drawn}
use Rattle.jx_generate.proofs.PictureLemmas.{leaf_next, leaves_all}
use Rattle.jx_generate.proofs.picture.Picture.leaves.Goals as goal

pub overflow_cast-leaf-end : goal.overflow_cast-leaf-end
overflow_cast-leaf-end c = omega (arith, c.count-leaf-end.ensures, c.numbers-numbers.ensures.numbers.count, c.numbers-numbers.ensures.few)

pub block-block-requires : goal.block-block-requires
block-block-requires c =
    let inside : c.loop-leaf.leaf < leaves (geometry_made c.args.self.now.width c.args.self.now.height) c.args.comp c.args.res 0 =
    omega (arith, c.loop-leaf-test.true, c.count-leaf-end.ensures, c.numbers-numbers.ensures.numbers.count) in
    let number : c.number.result ≡ leaf_number (geometry_made c.args.self.now.width c.args.self.now.height) c.args.comp c.args.res 0 c.loop-leaf.leaf =
    c.number.ensures ∙ c.numbers-numbers.ensures.numbers.each c.loop-leaf.leaf inside in
    subst (λ (n : ℕ). n < count_drawn c.args.self.now.width c.args.self.now.height) (sym number) (c.numbers-numbers.ensures.each c.loop-leaf.leaf inside)

pub loop-leaf-preserved : goal.loop-leaf-preserved
loop-leaf-preserved c =
    let inside : c.loop-leaf.leaf < leaves (geometry_made c.args.self.now.width c.args.self.now.height) c.args.comp c.args.res 0 =
    omega (arith, c.loop-leaf-test.true, c.count-leaf-end.ensures, c.numbers-numbers.ensures.numbers.count) in
    leaf_next c.args.self.now.seed c.args.self.now.width c.args.self.now.height c.args.comp c.args.res c.loop-leaf.leaf c.number.result c.loop-leaf.made.items c.push.new.self.items
    c.in_ok-leaf_from.field-0 c.block-block.result.now (c.number.ensures ∙ c.numbers-numbers.ensures.numbers.each c.loop-leaf.leaf inside) c.block-block.ensures.block
    c.in_ok-leaf_from.ensures c.in_ok-push.ensures.items c.loop-leaf.invariant

pub returns : goal.returns
returns c =
    leaves_all c.args.self.now.seed c.args.self.now.width c.args.self.now.height c.args.comp c.args.res c.loop-leaf.leaf (map leaf_of c.loop-leaf.made.items)
    (omega (arith, c.loop-leaf-test.false, c.loop-leaf.auto.leaf-end, c.count-leaf-end.ensures, c.numbers-numbers.ensures.numbers.count)) c.loop-leaf.invariant
