use Rattle.std.proofs.Common.{◌≡◌, ◌∙◌, ◌-◌, ◌<◌, ◌≤◌, ap, sym, refl, arith, max, nat_lt, length, get_or, set, length-set}
use Rattle.std.proofs.lemmas.Bool.{not-false, not-true}
use Rattle.jx_tagtree.specs.declared.node.Node.{Node}
use Rattle.jx_tagtree.specs.TagTree.{node_at}
use Rattle.jx_tagtree.specs.Header.{to_come, fault_of}
use Rattle.jx_tagtree.proofs.ScanLemmas.{Took-then, way_more, way_none}
use Rattle.jx_tagtree.proofs.TagLemmas.{at_same, way_range, way_whole, way_stopped}
use Rattle.jx_tagtree.proofs.reading.read_way.Goals as goal

pub index-requires : goal.index-requires
index-requires c =
    let within : c.loop-place.place ≤ length c.args.way.now = c.loop-place.invariant.within in
    let some : 0 < c.loop-place.place = omega arith in
    let inside : c.loop-place.place - 1 < length c.args.way.now = omega arith in
    let below : get_or c.args.way.now (c.loop-place.place - 1) 0 < length c.args.nodes.now.items = way_range c.args.nodes.now.items c.args.leaf c.args.way.now c.requires (c.loop-place.place - 1) inside in
    let long : length c.loop-place.nodes.items ≡ length c.args.nodes.now.items = c.loop-place.invariant.long in
    let at_is : c.at-at.result ≡ get_or c.args.way.now (c.loop-place.place - 1) 0 = c.at-at.ensures in
    omega (arith, c.loop-place.nodes.ok.0)

pub index_mut-requires : goal.index_mut-requires
index_mut-requires c =
    let within : c.loop-place.place ≤ length c.args.way.now = c.loop-place.invariant.within in
    let some : 0 < c.loop-place.place = omega arith in
    let inside : c.loop-place.place - 1 < length c.args.way.now = omega arith in
    let below : get_or c.args.way.now (c.loop-place.place - 1) 0 < length c.args.nodes.now.items = way_range c.args.nodes.now.items c.args.leaf c.args.way.now c.requires (c.loop-place.place - 1) inside in
    let long : length c.loop-place.nodes.items ≡ length c.args.nodes.now.items = c.loop-place.invariant.long in
    let at_is : c.at-at.result ≡ get_or c.args.way.now (c.loop-place.place - 1) 0 = c.at-at.ensures in
    omega (arith, c.loop-place.nodes.ok.0)

pub loop-place-preserved : goal.loop-place-preserved
loop-place-preserved c =
    let within : c.loop-place.place ≤ length c.args.way.now = c.loop-place.invariant.within in
    let some : 0 < c.loop-place.place = omega arith in
    let inside : c.loop-place.place - 1 < length c.args.way.now = omega arith in
    let below : get_or c.args.way.now (c.loop-place.place - 1) 0 < length c.args.nodes.now.items = way_range c.args.nodes.now.items c.args.leaf c.args.way.now c.requires (c.loop-place.place - 1) inside in
    let long : length c.loop-place.nodes.items ≡ length c.args.nodes.now.items = c.loop-place.invariant.long in
    let at_is : c.at-at.result ≡ get_or c.args.way.now (c.loop-place.place - 1) 0 = c.at-at.ensures in
    let written : node_at (set c.loop-place.nodes.items c.at-at.result c.in-Ok.node) (get_or c.args.way.now (c.loop-place.place - 1) 0) ≡ c.in-Ok.node =
    ap (node_at (set c.loop-place.nodes.items c.at-at.result c.in-Ok.node)) (sym at_is) ∙ at_same c.loop-place.nodes.items c.at-at.result c.in-Ok.node (omega arith) in
    record {
      within = omega arith;
      long = length-set c.loop-place.nodes.items c.at-at.result c.in-Ok.node ∙ long;
      took = Took-then c.args.bits.now c.loop-place.bits c.read_node.new.bits c.loop-place.invariant.took c.in-Ok.ensures.took;
      read = rw c.max-above.ensures (way_more c.args.threshold c.args.nodes.now.items c.args.way.now c.loop-place.place c.at-at.result (to_come c.args.bits.now) c.loop-place.nodes.items
          c.loop-place.above (to_come c.loop-place.bits) c.index.result.now c.in-Ok.node (to_come c.read_node.new.bits)
          within some at_is (omega arith) c.index.ensures c.loop-place.invariant.read c.in-Ok.ensures.ok);
      settled = λ lt. ap (λ (y : Node). y.settled) written ∙ not-false c.in-Ok.node.settled c.if-not-node.false;
    }

pub returns-then-not-node-clause-ok : goal.returns-then-not-node-clause-ok
returns-then-not-node-clause-ok c =
    let within : c.loop-place.place ≤ length c.args.way.now = c.loop-place.invariant.within in
    let some : 0 < c.loop-place.place = omega arith in
    let inside : c.loop-place.place - 1 < length c.args.way.now = omega arith in
    let below : get_or c.args.way.now (c.loop-place.place - 1) 0 < length c.args.nodes.now.items = way_range c.args.nodes.now.items c.args.leaf c.args.way.now c.requires (c.loop-place.place - 1) inside in
    let long : length c.loop-place.nodes.items ≡ length c.args.nodes.now.items = c.loop-place.invariant.long in
    let at_is : c.at-at.result ≡ get_or c.args.way.now (c.loop-place.place - 1) 0 = c.at-at.ensures in
    let written : node_at (set c.loop-place.nodes.items c.at-at.result c.in-Ok.node) (get_or c.args.way.now (c.loop-place.place - 1) 0) ≡ c.in-Ok.node =
    ap (node_at (set c.loop-place.nodes.items c.at-at.result c.in-Ok.node)) (sym at_is) ∙ at_same c.loop-place.nodes.items c.at-at.result c.in-Ok.node (omega arith) in
    way_stopped c.args.nodes.now.items c.args.leaf c.args.way.now c.requires c.args.threshold (to_come c.args.bits.now) (set c.loop-place.nodes.items c.at-at.result c.in-Ok.node)
    (max c.loop-place.above c.in-Ok.node.known) (c.loop-place.place - 1) (to_come c.read_node.new.bits) inside
    (way_more c.args.threshold c.args.nodes.now.items c.args.way.now c.loop-place.place c.at-at.result (to_come c.args.bits.now) c.loop-place.nodes.items
    c.loop-place.above (to_come c.loop-place.bits) c.index.result.now c.in-Ok.node (to_come c.read_node.new.bits)
    within some at_is (omega arith) c.index.ensures c.loop-place.invariant.read c.in-Ok.ensures.ok)
    (ap (λ (y : Node). y.settled) written ∙ not-true c.in-Ok.node.settled c.if-not-node.true)

pub returns-then-not-node-clause-took : goal.returns-then-not-node-clause-took
returns-then-not-node-clause-took c = Took-then c.args.bits.now c.loop-place.bits c.read_node.new.bits c.loop-place.invariant.took c.in-Ok.ensures.took

pub returns-clause-ok : goal.returns-clause-ok
returns-clause-ok c =
    let none : c.loop-place.place ≡ 0 = (let le : c.loop-place.place ≤ 0 = c.loop-place-test.false in omega arith) in
    way_whole c.args.nodes.now.items c.args.leaf c.args.way.now c.requires c.args.threshold (to_come c.args.bits.now) c.loop-place.nodes.items c.loop-place.above c.loop-place.place
    (to_come c.loop-place.bits) none c.loop-place.invariant.read c.loop-place.invariant.settled (nat_lt c.loop-place.above c.args.threshold) refl

pub returns-in-Err-clause-err : goal.returns-in-Err-clause-err
returns-in-Err-clause-err c =
    let within : c.loop-place.place ≤ length c.args.way.now = c.loop-place.invariant.within in
    let some : 0 < c.loop-place.place = omega arith in
    let inside : c.loop-place.place - 1 < length c.args.way.now = omega arith in
    let below : get_or c.args.way.now (c.loop-place.place - 1) 0 < length c.args.nodes.now.items = way_range c.args.nodes.now.items c.args.leaf c.args.way.now c.requires (c.loop-place.place - 1) inside in
    let long : length c.loop-place.nodes.items ≡ length c.args.nodes.now.items = c.loop-place.invariant.long in
    let at_is : c.at-at.result ≡ get_or c.args.way.now (c.loop-place.place - 1) 0 = c.at-at.ensures in (
      way_none c.args.threshold c.args.nodes.now.items c.args.way.now c.loop-place.place c.at-at.result (to_come c.args.bits.now) c.loop-place.nodes.items
          c.loop-place.above (to_come c.loop-place.bits) c.index.result.now
          within some at_is (omega arith) c.index.ensures c.loop-place.invariant.read c.in-Err.ensures.err.0,
      c.in-Err.ensures.err.1 ∙ ap fault_of c.loop-place.invariant.took.2,
    )

pub returns-in-Err-clause-part : goal.returns-in-Err-clause-part
returns-in-Err-clause-part c = record { place = c.loop-place.place; known = c.loop-place.above; rest = to_come c.loop-place.bits; read = c.loop-place.invariant.read }
