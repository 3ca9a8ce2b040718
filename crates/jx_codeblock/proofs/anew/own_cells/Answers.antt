use Rattle.std.proofs.Common.{◌∙◌, refl}
use Rattle.jx_codeblock.proofs.AnewLemmas.{bad_found}
use Rattle.jx_codeblock.proofs.CoefLemmas.{own_size}
use Rattle.jx_codeblock.proofs.anew.own_cells.Goals as goal

pub returns-then-is_err-clause-bad : goal.returns-then-is_err-clause-bad
returns-then-is_err-clause-bad c =
    (refl, bad_found c.args.job.now (λ none. let e = rw (c.in_ok-decoded.ensures.wrong ∙ none) at c.sound_flags.ensures in let t = c.if-is_err.true in let v = c.is_err.ensures.value in let r = rw e at v in cc) c.requires.anew)

pub returns-clause-size : goal.returns-clause-size
returns-clause-size c = own_size c.args.job.now.block.now _ c.requires.sound c.requires.some c.in_ok-decoded.ensures.grid
