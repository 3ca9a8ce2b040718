use Rattle.std.proofs.Common.{ℕ, ◌+◌, ◌-◌, ◌*◌, arith}
use Rattle.jx_tier1.proofs.DrawLemmas.{columns_as, window_shown}
use Rattle.jx_tier1.proofs.block.window_at.Goals as goal

pub window-requires : goal.window-requires
window-requires c = record {
  left = c.columns_at-left.ensures.behind;
  before = c.columns_at-own.ensures.before;
  behind = c.columns_at-own.ensures.behind;
  right = c.columns_at-right.ensures.before;
}

pub returns : goal.returns
returns c = λ s t e column row l m.
    let words = c.args.words.now in
    let wide : ℕ = c.args.wide in
    let a =
    columns_as c.args.causal words (c.args.at - 1) (c.args.at - 1 - wide) (c.args.at - 1 + wide) ((s + 1) * wide + t) (s * wide + t) ((s + 2) * wide + t)
    c.columns_at-left.result c.columns_at-left.ensures (omega arith) (omega arith) (omega arith) in
    let b =
    columns_as c.args.causal words c.args.at (c.args.at - wide) (c.args.at + wide) ((s + 1) * wide + (t + 1)) (s * wide + (t + 1)) ((s + 2) * wide + (t + 1))
    c.columns_at-own.result c.columns_at-own.ensures (omega arith) (omega arith) (omega arith) in
    let d =
    columns_as c.args.causal words (c.args.at + 1) (c.args.at + 1 - wide) (c.args.at + 1 + wide) ((s + 1) * wide + (t + 2)) (s * wide + (t + 2)) ((s + 2) * wide + (t + 2))
    c.columns_at-right.result c.columns_at-right.ensures (omega arith) (omega arith) (omega arith) in
    window_shown c.args.causal wide words s t c.columns_at-left.result c.columns_at-own.result c.columns_at-right.result c.window.result column row a b d
    (c.window.ensures column row l m) l m
