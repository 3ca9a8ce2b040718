use Rattle.std.proofs.Common.{◌≡◌, ◌∙◌, ◌*◌, ◌<◌, ap, sym, subst, length, get_or, ℕ, List}
use Rattle.std.specs.Prelude.{IfSome}
use Rattle.jx_tagtree.specs.Shape.{way}
use Rattle.jx_tagtree.specs.TagTree.{Tree}
use Rattle.jx_tagtree.specs.Past.{Stops, IsPast, AreUnder}
use Rattle.jx_tagtree.specs.declared.node.Node.{Node}
use Rattle.jx_tagtree.proofs.PastLemmas.{way_inside, stop_low, stop_under}
use Rattle.jx_tagtree.proofs.read_tree.ReadTree.past.Goals as goal

pub stop_of-requires : goal.stop_of-requires
stop_of-requires c =
    let lt : c.args.leaf < c.self.inside.wide * c.self.inside.high = subst (λ (t : Tree). c.args.leaf < t.wide * t.high) (sym c.self.view_is) c.requires in
    let inside : (ways : List ℕ) → ways ≡ way c.self.inside.wide c.self.inside.high c.args.leaf → (k : ℕ) → k < length ways → get_or ways k 0 < length c.self.inside.nodes.items =
    λ ways e k k_lt. subst (λ (w : List ℕ). get_or w k 0 < length c.self.inside.nodes.items) (sym e) (way_inside c.self.inside.wide c.self.inside.high c.args.leaf k c.self.inside.nodes.items
    c.self.invariant.tree.shape lt c.self.invariant.tree.long (subst (λ (w : List ℕ). k < length w) e k_lt)) in
    subst (λ (nodes : List Node). (k : ℕ) → k < length c.new-way.result → get_or c.new-way.result k 0 < length nodes) (sym c.deref-2.ensures.value)
    (inside c.new-way.result c.new-way.ensures)

pub returns-clause-low : goal.returns-clause-low
returns-clause-low c =
    let lt : c.args.leaf < c.self.inside.wide * c.self.inside.high = subst (λ (t : Tree). c.args.leaf < t.wide * t.high) (sym c.self.view_is) c.requires in
    stop_low c.self.inside.wide c.self.inside.high c.args.leaf c.deref-2.result.now c.args.threshold c.stop_of.result c.self.invariant.tree.shape lt
    (subst (λ (w : List ℕ). IfSome c.stop_of.result (λ p. Stops c.deref-2.result.now w p c.args.threshold)) c.new-way.ensures c.stop_of.ensures)

pub returns-clause-under : goal.returns-clause-under
returns-clause-under c =
    let lt : c.args.leaf < c.self.inside.wide * c.self.inside.high = subst (λ (t : Tree). c.args.leaf < t.wide * t.high) (sym c.self.view_is) c.requires in
    let view : record { wide = c.self.inside.wide; high = c.self.inside.high; nodes = c.deref-2.result.now } ≡ c.args.self.now =
    ap (λ (l : List Node). let t : Tree = record { wide = c.self.inside.wide; high = c.self.inside.high; nodes = l } in t) c.deref-2.ensures.value ∙ c.self.view_is in
    subst (λ (t : Tree). IfSome c.stop_of.result (λ p. (other : ℕ) → other < t.wide * t.high → AreUnder t.wide p c.args.leaf other → IsPast t other c.args.threshold)) view
    (stop_under c.self.inside.wide c.self.inside.high c.args.leaf c.deref-2.result.now c.args.threshold c.stop_of.result c.self.invariant.tree.shape lt
    (subst (λ (w : List ℕ). IfSome c.stop_of.result (λ p. Stops c.deref-2.result.now w p c.args.threshold)) c.new-way.ensures c.stop_of.ensures))
