use Rattle.std.proofs.Common.{◌≡◌, ◌∙◌, ◌-◌, ◌<◌, ◌≤◌, ◌++◌, ap, sym, refl, arith, ℕ, length, get_or, drop, max, List, Bool, length-set, append_assoc}
use Rattle.jx_tagtree.specs.TagTree.{Walk, walk, node_bits}
use Rattle.jx_tagtree.proofs.LeafLemmas.{told_more}
use Rattle.jx_tagtree.proofs.writing.write_way.Goals as goal

pub loop-place-preserved : goal.loop-place-preserved
loop-place-preserved c =
    let values : ℕ → ℕ = λ n. get_or c.args.values.now n 0 in
    let within : c.loop-place.place ≤ length c.args.way.now = c.loop-place.invariant.within in
    let some : 0 < c.loop-place.place = omega arith in
    let inside : c.loop-place.place - 1 < length c.args.way.now = omega arith in
    let below : get_or c.args.way.now (c.loop-place.place - 1) 0 < length c.args.nodes.now.items = c.requires.nodes (c.loop-place.place - 1) inside in
    let below_values : get_or c.args.way.now (c.loop-place.place - 1) 0 < length c.args.values.now = c.requires.values (c.loop-place.place - 1) inside in
    let long : length c.loop-place.nodes.items ≡ length c.args.nodes.now.items = c.loop-place.invariant.long in
    let at_is : c.at-at.result ≡ get_or c.args.way.now (c.loop-place.place - 1) 0 = c.at-at.ensures in
    let before : Walk = walk values c.args.threshold c.args.nodes.now.items (drop c.loop-place.place c.args.way.now) in
    let value : ℕ = get_or c.args.values.now c.at-at.result 0 in
    let own : List Bool = node_bits c.index.result.now (max c.index.result.now.known c.loop-place.above) value c.args.threshold in
    let more = told_more values c.args.threshold c.args.nodes.now.items c.args.way.now c.loop-place.place c.at-at.result c.loop-place.nodes.items
    c.loop-place.above c.index.result.now c.in_ok-node.node value within some at_is (omega arith) c.index.ensures refl c.loop-place.invariant.nodes c.loop-place.invariant.known c.in_ok-node.ensures.after in
    record {
      within = omega arith;
      long = length-set c.loop-place.nodes.items c.at-at.result c.in_ok-node.node ∙ long;
      nodes = ap (λ (w : Walk). w.nodes) (sym more);
      known = rw c.max-above.ensures (ap (λ (w : Walk). w.known) (sym more));
      bits = c.in_ok-node.ensures.bits ∙ ap (λ (l : List Bool). l ++ own) c.loop-place.invariant.bits ∙ append_assoc c.args.bits.now before.bits own
          ∙ ap (λ (w : Walk). c.args.bits.now ++ w.bits) (sym more);
    }
