use Rattle.std.proofs.Common.{◌≡◌, ◌∙◌, ◌<◌, ℕ, sym, subst, arith}
use Rattle.jx_base.proofs.Joined.{appends_none}
use Rattle.jx_geom.specs.Precincts.{leaf_number, leaves}
use Rattle.jx_generate.specs.Headers.{geometry_made}
use Rattle.jx_generate.specs.Made.{drawn_leaf_bytes}
use Rattle.jx_generate.specs.Making.{count_drawn}
use Rattle.jx_generate.proofs.PictureLemmas.{data_all, data_next}
use Rattle.jx_generate.proofs.picture.Picture.put_data.Goals as goal

pub overflow_cast-leaf-end : goal.overflow_cast-leaf-end
overflow_cast-leaf-end c = omega (arith, c.count-leaf-end.ensures, c.numbers-numbers.ensures.numbers.count, c.numbers-numbers.ensures.few)

pub loop-leaf-init : goal.loop-leaf-init
loop-leaf-init c = appends_none c.args.out.now.items (drawn_leaf_bytes c.args.self.now.seed c.args.self.now.width c.args.self.now.height c.args.comp c.args.res c.args.layer) 0 0 (omega arith)

pub block-requires : goal.block-requires
block-requires c =
    let inside : c.loop-leaf.leaf < leaves (geometry_made c.args.self.now.width c.args.self.now.height) c.args.comp c.args.res 0 =
    omega (arith, c.loop-leaf-test.true, c.count-leaf-end.ensures, c.numbers-numbers.ensures.numbers.count) in
    let number : c.number.result ≡ leaf_number (geometry_made c.args.self.now.width c.args.self.now.height) c.args.comp c.args.res 0 c.loop-leaf.leaf =
    c.number.ensures ∙ c.numbers-numbers.ensures.numbers.each c.loop-leaf.leaf inside in
    subst (λ (n : ℕ). n < count_drawn c.args.self.now.width c.args.self.now.height) (sym number) (c.numbers-numbers.ensures.each c.loop-leaf.leaf inside)

pub loop-leaf-preserved : goal.loop-leaf-preserved
loop-leaf-preserved c =
    let inside : c.loop-leaf.leaf < leaves (geometry_made c.args.self.now.width c.args.self.now.height) c.args.comp c.args.res 0 =
    omega (arith, c.loop-leaf-test.true, c.count-leaf-end.ensures, c.numbers-numbers.ensures.numbers.count) in
    data_next c.args.self.now.seed c.args.self.now.width c.args.self.now.height c.args.comp c.args.res c.args.layer c.loop-leaf.leaf c.number.result c.args.out.now.items c.loop-leaf.out.items
    c.put_layer.new.out.items c.block.result.now (c.number.ensures ∙ c.numbers-numbers.ensures.numbers.each c.loop-leaf.leaf inside) c.block.ensures.block c.in_ok-put_layer.ensures c.loop-leaf.invariant

pub returns : goal.returns
returns c =
    data_all c.args.self.now.seed c.args.self.now.width c.args.self.now.height c.args.comp c.args.res c.args.layer c.loop-leaf.leaf c.args.out.now.items c.loop-leaf.out.items
    (omega (arith, c.loop-leaf-test.false, c.loop-leaf.auto.leaf-end, c.count-leaf-end.ensures, c.numbers-numbers.ensures.numbers.count)) c.loop-leaf.invariant
