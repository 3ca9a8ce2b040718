use Rattle.std.proofs.Common.{◌∙◌, refl}
use Rattle.jx_codeblock.proofs.AnewLemmas.{bad_found}
use Rattle.jx_codeblock.proofs.step.lists_in_step.Goals as goal

pub returns-then-is_some-clause-bad : goal.returns-then-is_some-clause-bad
returns-then-is_some-clause-bad c =
    (refl, bad_found c.args.job.now (λ none. let e = c.in_ok-recoded.ensures.wrong ∙ none in let t = c.if-is_some.true in let v = c.is_some.ensures in let r = rw e at v in cc) c.requires.anew)
