use Rattle.std.proofs.Common.{◌∙◌, sym, arith}
use Rattle.jx_base.proofs.Joined.{joined_none, makes_next}
use Rattle.jx_generate.specs.Made.{layer_made}
use Rattle.jx_generate.proofs.picture.Picture.body.Goals as goal

pub loop-layer-init : goal.loop-layer-init
loop-layer-init c = (c.new-bytes.ensures.items ∙ sym (joined_none (layer_made c.args.self.now.seed c.args.self.now.width c.args.self.now.height) 0 0 (omega arith)), c.in_ok-writers.ensures)

pub loop-layer-preserved : goal.loop-layer-preserved
loop-layer-preserved c = (
  makes_next c.loop-layer.bytes.items c.put_layer.new.out.items (layer_made c.args.self.now.seed c.args.self.now.width c.args.self.now.height) 0 c.loop-layer.layer (omega arith) c.loop-layer.invariant.0 c.in_ok-put_layer.ensures.out,
  c.in_ok-put_layer.ensures.writers,
)
