use Rattle.std.proofs.Common.{◌∙◌, ap, [], arith, ◌+◌}
use Rattle.jx_layers.specs.Cuts.{more_parts}
use Rattle.jx_layers.specs.Texts.{cuts_after}
use Rattle.jx_layers.proofs.CutLemmas.{refused, put_on, put_last}
use Rattle.jx_layers.proofs.texts.cuts_after.Goals as goal

pub returns-in-None-clause-value : goal.returns-in-None-clause-value
unfolding cuts_after
returns-in-None-clause-value c = refused _ _ _ _ _ c.in-None.ensures c.first_part.ensures c.loop-turn.invariant.so_far

pub returns-in-None-more-clause-value : goal.returns-in-None-more-clause-value
unfolding cuts_after
returns-in-None-more-clause-value c = put_last c.in-Some.next _ (put_on _ _ _ _ _ [] _ c.in-Some.ensures c.first_part.ensures (ap more_parts c.in-None-more.is) c.loop-turn.invariant.so_far)

pub loop-turn-preserved : goal.loop-turn-preserved
loop-turn-preserved c = record {
  count = c.in-Some.ensures.count ∙ ap (λ n. n + 1) c.loop-turn.invariant.count;
  few = c.in-Some.ensures.few;
  so_far = put_on _ _ _ _ _ _ _ c.in-Some.ensures c.first_part.ensures (ap more_parts c.in-Some-more.is) c.loop-turn.invariant.so_far;
}

pub returns : goal.returns
returns c = absurd (omega (arith, c.loop-turn.invariant.count, c.loop-turn.invariant.few))
