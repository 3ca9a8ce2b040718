use Rattle.std.proofs.Common.{◌≡◌, ◌∙◌, ◌<◌, ap, false, get_or, length, map, replicate, sym, subst}
use Rattle.std.proofs.lemmas.List.{length-replicate}
use Rattle.jx_packet_header.specs.Leafs.{leaf_of}
use Rattle.jx_packet_header.specs.Written.{some_in}
use Rattle.jx_packet_header.proofs.NotedLemmas.{noted_all, noted_next, noted_none}
use Rattle.jx_packet_header.proofs.precinct_out.contributing.Goals as goal

pub loop-leaf-init : goal.loop-leaf-init
loop-leaf-init c =
    let items : c.in_ok-some.some.items ≡ replicate c.args.layers false =
    c.in_ok-some.ensures.items_if_clones_equal (λ y e. e) ∙ ap (λ n. replicate n false) c.from.ensures in
    record {
      long = ap length items ∙ length-replicate c.args.layers false;
      each = λ layer lt. noted_none c.args.layers layer c.in_ok-some.some.items (some_in layer (map leaf_of c.args.leaves.now)) items lt;
    }

pub loop-leaf-preserved : goal.loop-leaf-preserved
loop-leaf-preserved c = record {
  long = c.note_layers.ensures.long ∙ c.loop-leaf.invariant.long;
  each = λ layer lt. noted_next layer c.loop-leaf.leaf-index c.args.leaves.now c.leaf-item.result c.deref.result.now
      (get_or c.loop-leaf.some.items layer false) (get_or c.note_layers.new.some.items layer false) (some_in layer (map leaf_of c.args.leaves.now))
      c.loop-leaf-test.true c.leaf-item.is c.deref.ensures.value
      (c.note_layers.ensures.each layer (subst (λ n. layer < n) (sym c.loop-leaf.invariant.long) lt)) (c.loop-leaf.invariant.each layer lt);
}

pub returns-clause-each : goal.returns-clause-each
returns-clause-each c =
    λ layer lt. noted_all layer c.loop-leaf.leaf-index c.args.leaves.now (get_or c.loop-leaf.some.items layer false) (some_in layer (map leaf_of c.args.leaves.now))
    c.loop-leaf-test.false (c.loop-leaf.invariant.each layer lt)

pub returns-clause-long : goal.returns-clause-long
returns-clause-long c = c.loop-leaf.invariant.long
