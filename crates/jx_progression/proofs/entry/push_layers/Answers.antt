use Rattle.std.proofs.Common.{◌≡◌, ◌++◌, arith}
use Rattle.std.proofs.lemmas.Grind.{common_steps}
use Rattle.jx_progression.specs.Steps.{one_layer_head}
use Rattle.jx_base.proofs.Joined.{appends_none, appends_next, appends_all}
use Rattle.jx_progression.proofs.entry.push_layers.Goals as goal

pub loop-layer-init : goal.loop-layer-init
loop-layer-init c = record { items = appends_none c.args.list.now.items (one_layer_head c.args.row) c.args.from c.args.from (omega arith); until = omega arith }

pub loop-layer-preserved : goal.loop-layer-preserved
loop-layer-preserved c =
    let step : c.push.new.self.items ≡ c.loop-layer.list.items ++ one_layer_head c.args.row c.loop-layer.layer = grind (arith, common_steps) in
    record {
      items = appends_next c.args.list.now.items c.loop-layer.list.items c.push.new.self.items (one_layer_head c.args.row) c.args.from c.loop-layer.layer (omega arith) c.loop-layer.invariant.items step;
      until = omega arith;
    }

pub returns : goal.returns
returns c =
    appends_all c.args.list.now.items c.loop-layer.list.items (one_layer_head c.args.row) c.args.from c.args.to c.loop-layer.layer (omega arith) (omega arith) (omega arith) c.loop-layer.invariant.items
