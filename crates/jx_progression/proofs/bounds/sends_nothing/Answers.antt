use Rattle.std.proofs.Common.{arith}
use Rattle.jx_progression.proofs.BoundsLemmas.{skips_high, skips_layers, skips_low, skips_res_high, skips_res_low}
use Rattle.jx_progression.proofs.bounds.sends_nothing.Goals as goal

pub returns-then-min-bounds : goal.returns-then-min-bounds
returns-then-min-bounds c = λ f q n h. skips_layers c.args.layers c.args.entry c.args.bounds q n (omega (arith, c.min.ensures, c.if-min-bounds.true)) h

pub returns-then-bounds-entry : goal.returns-then-bounds-entry
returns-then-bounds-entry c = λ f q n h. skips_low c.args.layers c.args.entry c.args.bounds q n c.if-bounds-entry.true h

pub returns-then-entry-bounds : goal.returns-then-entry-bounds
returns-then-entry-bounds c = λ f q n h. skips_high c.args.layers c.args.entry c.args.bounds q n c.if-entry-ne0.true c.if-entry-bounds.true h

pub returns-then-bounds-entry-2 : goal.returns-then-bounds-entry-2
returns-then-bounds-entry-2 c = λ f q n h. skips_res_low c.args.layers c.args.entry c.args.bounds q n c.if-bounds-entry-2.true h

pub returns-then-entry-bounds-2 : goal.returns-then-entry-bounds-2
returns-then-entry-bounds-2 c = λ f q n h. skips_res_high c.args.layers c.args.entry c.args.bounds q n c.if-entry-bounds-2.true h
