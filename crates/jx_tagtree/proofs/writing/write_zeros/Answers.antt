use Rattle.std.proofs.Common.{◌≡◌, ◌∙◌, ◌-◌, ◌≤◌, ◌++◌, max, ap, arith, ℕ, replicate, false}
use Rattle.jx_tagtree.proofs.writing.write_zeros.Goals as goal

pub returns : goal.returns
returns c =
    let within : c.loop.counter ≤ max c.args.start c.args.end = c.loop.invariant.within in
    let all : c.loop.counter - c.args.start ≡ c.args.end - c.args.start = omega arith in
    c.loop.invariant.zeros ∙ ap (λ (n : ℕ). c.args.bits.now ++ replicate n false) all
