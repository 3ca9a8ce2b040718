use Rattle.std.proofs.Common.{ℕ, List, length, subst, sym}
use Rattle.jx_progression.specs.Groups.{AreCoveredTo}
use Rattle.jx_progression.proofs.CoveredLemmas.{some_uncovered, whole_when}
use Rattle.jx_progression.proofs.OrderLemmas.{order_once, order_to}
use Rattle.jx_progression.proofs.TableLemmas.{all_there}
use Rattle.jx_progression.proofs.listing.packets.Goals as goal

pub returns-then-are_all_sent-clause-whole : goal.returns-then-are_all_sent-clause-whole
returns-then-are_all_sent-clause-whole c =
    whole_when c.args.geom.now c.args.layers c.args.entries.now c.deref.result.now c.are_all_sent.result (subst (λ (ss : List ℕ). AreCoveredTo c.args.geom.now c.args.layers c.args.entries.now ss) (sym c.deref.ensures.value)
    c.in_ok-list.ensures.covered)
    c.are_all_sent.ensures.whole c.if-are_all_sent.true

pub returns-then-are_all_sent-clause-every : goal.returns-then-are_all_sent-clause-every
returns-then-are_all_sent-clause-every c = λ p. (
  λ contains. (order_to c.args.geom.now c.args.layers c.args.entries.now (length c.args.entries.now) c.in_ok-list.list.items c.in_ok-list.ensures.order p
      contains).packet,
  λ packet. all_there c.args.geom.now c.args.layers c.args.entries.now c.in_ok-list.list.items c.in_ok-list.ensures.order
      (whole_when c.args.geom.now c.args.layers c.args.entries.now c.deref.result.now c.are_all_sent.result
      (subst (λ (ss : List ℕ). AreCoveredTo c.args.geom.now c.args.layers c.args.entries.now ss) (sym c.deref.ensures.value)
      c.in_ok-list.ensures.covered) c.are_all_sent.ensures.whole c.if-are_all_sent.true) p packet,
)

pub returns-then-are_all_sent-clause-once : goal.returns-then-are_all_sent-clause-once
returns-then-are_all_sent-clause-once c =
    order_once c.args.geom.now c.args.layers c.args.entries.now (length c.args.entries.now) c.in_ok-list.list.items c.in_ok-list.ensures.order

pub returns-clause-uncovered : goal.returns-clause-uncovered
returns-clause-uncovered c = λ e.
    some_uncovered c.args.geom.now c.args.layers c.args.entries.now c.deref.result.now (subst (λ (ss : List ℕ). AreCoveredTo c.args.geom.now c.args.layers c.args.entries.now ss) (sym c.deref.ensures.value)
    c.in_ok-list.ensures.covered)
    (c.are_all_sent.ensures.lacks c.if-are_all_sent.false)
