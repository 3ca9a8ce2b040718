use Rattle.std.proofs.Common.{◌∙◌, ap, arith, length, replicate, List, ℕ}
use Rattle.std.proofs.lemmas.List.{length-replicate}
use Rattle.jx_tagtree.specs.TagTree.{unknown}
use Rattle.jx_tagtree.proofs.LeafLemmas.{made_keeps, leaves_first, written_of}
use Rattle.jx_tagtree.proofs.tag_writer.TagWriter.new.Goals as goal

pub invariant_of-result : goal.invariant_of-result
invariant_of-result c = record {
  tree = made_keeps c.args.wide c.args.high c.args.leaves.now c.in_ok-values.values.items c.in_ok-nodes.nodes.items c.requires.shape c.requires.leaves
      (λ i. omega (arith, c.type_inv.leaves i)) c.in_ok-values.ensures (ap length c.in_ok-nodes.ensures ∙ length-replicate c.count_nodes.result unknown ∙ c.count_nodes.ensures);
  levels_are = c.in_ok-levels.ensures;
}

pub returns : goal.returns
returns c =
    ap (λ (l : List ℕ). written_of c.args.wide c.args.high l c.in_ok-nodes.nodes.items)
    (leaves_first c.args.wide c.args.high c.args.leaves.now c.in_ok-values.values.items c.requires.shape c.requires.leaves (λ i. omega (arith, c.type_inv.leaves i)) c.in_ok-values.ensures)
    ∙ ap (written_of c.args.wide c.args.high c.args.leaves.now) c.in_ok-nodes.ensures
    ∙ ap (λ (n : ℕ). written_of c.args.wide c.args.high c.args.leaves.now (replicate n unknown)) c.count_nodes.ensures
