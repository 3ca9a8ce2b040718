use Rattle.std.proofs.Common.{◌≡◌, ◌∙◌, ◌++◌, ℕ, ap, arith}
use Rattle.jx_base.specs.Joined.{joined}
use Rattle.jx_base.proofs.Joined.{appends_next, appends_none}
use Rattle.jx_generate.specs.Made.{layer_made, resolution_made}
use Rattle.jx_generate.proofs.WriterLemmas.{moved}
use Rattle.jx_generate.proofs.picture.Picture.put_layer.Goals as goal

pub loop-res-init : goal.loop-res-init
loop-res-init c = (appends_none c.args.out.now.items (resolution_made c.args.self.now.seed c.args.self.now.width c.args.self.now.height c.args.layer) 0 0 (omega arith), c.requires.writers)

pub loop-res-preserved : goal.loop-res-preserved
loop-res-preserved c = (
  appends_next c.args.out.now.items c.loop-res.out.items c.put_resolution.new.out.items (resolution_made c.args.self.now.seed c.args.self.now.width c.args.self.now.height c.args.layer) 0 c.loop-res.res (omega arith)
      c.loop-res.invariant.0 c.in_ok-put_resolution.ensures.out,
  moved c.args.self.now c.args.layer c.loop-res.res c.from.result c.loop-res.writers.items c.put_resolution.new.three c.loop-res-test.true c.from.ensures c.loop-res.invariant.1
      c.in_ok-put_resolution.ensures.three,
)

pub returns-clause-out : goal.returns-clause-out
unfolding layer_made
returns-clause-out c =
    let all : c.loop-res.res ≡ 6 = omega (arith, c.loop-res-test.false, c.loop-res.auto.res-end) in
    c.loop-res.invariant.0 ∙ ap (λ (n : ℕ). c.args.out.now.items ++ joined (resolution_made c.args.self.now.seed c.args.self.now.width c.args.self.now.height c.args.layer) 0 n) all
