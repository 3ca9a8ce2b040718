use Rattle.std.proofs.Common.{◌≡◌, ◌-◌, ◌+◌, ◌++◌, ◌∙◌, ℕ, List, sym, ap, replicate, arith, suc}
use Rattle.jx_base.proofs.Lists.{push_on}
use Rattle.jx_codeblock.proofs.sent.repeat.Goals as goal

pub loop-preserved : goal.loop-preserved
loop-preserved c =
    let left : c.args.count - c.loop.counter ≡ suc (c.args.count - (c.loop.counter + 1)) = omega arith in
    ap (λ (l : List ℕ). l ++ replicate (c.args.count - (c.loop.counter + 1)) c.args.number) c.in_ok-push.ensures.items
    ∙ push_on c.loop.table.items (replicate (c.args.count - (c.loop.counter + 1)) c.args.number) c.args.number
    ∙ ap (λ (n : ℕ). c.loop.table.items ++ replicate n c.args.number) (sym left) ∙ c.loop.invariant
