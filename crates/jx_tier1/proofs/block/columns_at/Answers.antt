use Rattle.std.proofs.Common.{ℕ, subst, sym, get_or, if◌then◌else◌, ◌+◌, ◌-◌}
use Rattle.jx_tier1.specs.Places.{IsWord, AreColumns}
use Rattle.jx_tier1.proofs.block.columns_at.Goals as goal

pub columns-requires : goal.columns-requires
columns-requires c = subst (λ (w : ℕ). IsWord w) (sym c.word_at-own.ensures) (c.requires.words c.args.at)

pub returns : goal.returns
returns c =
    let words = c.args.words.now in
    let at : ℕ = c.args.at in
    subst (λ (w : ℕ). AreColumns w (get_or words (at - c.args.wide) 0) (if c.args.causal then 0 else get_or words (at + c.args.wide) 0) c.columns.result) c.word_at-own.ensures
    (subst (λ (w : ℕ). AreColumns c.word_at-own.result w (if c.args.causal then 0 else get_or words (at + c.args.wide) 0) c.columns.result) c.word_at-above.ensures
    (subst (λ (w : ℕ). AreColumns c.word_at-own.result c.word_at-above.result w c.columns.result) c.below_at-below.ensures c.columns.ensures))
