use Rattle.std.proofs.Common.{ℕ, List, ◌+◌, ◌*◌, ◌≡◌, ◌∙◌, ap, sym, arith, rules}
use Rattle.jx_tier1.specs.Blocks.{wide_for, place_in, seen_if, bit_in}
use Rattle.jx_tier1.proofs.DrawLemmas.{sees}
use Rattle.jx_tier1.proofs.block.BlockState.window.Goals as goal

pub returns : goal.returns
returns c = λ F s t e l d.
    let wide : ℕ = wide_for c.args.self.now.width in
    let v : c.deref.result.now ≡ c.args.self.now.significant = first_of (cc, search rules, grind arith) in
    let f = e ∙ ap (λ (n : ℕ). place_in n s t) (sym c.wide.ensures) in
    sees c.args.causal wide F c.args.self.now.significant s t c.window_at.result d l (λ column row p q.
    c.window_at.ensures s t f column row p q
    ∙ (ap (λ (n : ℕ). seen_if c.args.causal row (bit_in n c.deref.result.now (8 * t + column) (4 * s + row))) c.wide.ensures
    ∙ ap (λ (z : List ℕ). seen_if c.args.causal row (bit_in wide z (8 * t + column) (4 * s + row))) v))
