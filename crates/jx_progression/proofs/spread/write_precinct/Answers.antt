use Rattle.std.proofs.Common.{◌+◌, ◌-◌, arith, ap, refl, set}
use Rattle.jx_progression.specs.Steps.{name_of, one_layer}
use Rattle.jx_progression.proofs.SpreadLemmas.{written_all, written_next, written_none}
use Rattle.jx_progression.proofs.spread.write_precinct.Goals as goal

pub loop-layer-init : goal.loop-layer-init
loop-layer-init c = record {
  items = written_none c.args.list.now c.args.at (c.args.at + (c.args.head.layer - c.args.head.layer)) c.args.head.layer c.args.head.layer (one_layer c.args.head) (omega arith) (omega arith);
  from = omega arith;
  until = omega arith;
}

pub loop-layer-preserved : goal.loop-layer-preserved
loop-layer-preserved c = record {
  items = written_next c.args.list.now c.loop-layer.list _ c.args.at (c.args.at + (c.loop-layer.layer - c.args.head.layer)) (c.args.at + (c.loop-layer.layer + 1 - c.args.head.layer))
      c.args.head.layer c.loop-layer.layer (one_layer c.args.head) (name_of c.loop-layer.layer c.args.head.res c.args.head.comp c.args.head.precinct)
      (λ i. refl) (omega arith) (omega arith) (omega arith) (omega arith) refl c.loop-layer.invariant.items
      (ap (λ i. set c.loop-layer.list (c.args.at + i) (name_of c.loop-layer.layer c.args.head.res c.args.head.comp c.args.head.precinct)) c.from.ensures);
  from = omega arith;
  until = omega arith;
}

pub returns : goal.returns
returns c =
    written_all c.args.list.now c.loop-layer.list c.args.at c.args.head.layer c.args.end c.loop-layer.layer (one_layer c.args.head)
    (omega arith) (omega arith) (omega arith) c.loop-layer.invariant.items
