use Rattle.std.proofs.Common.{◌∙◌, ◌≤◌, ap, sym, subst, length, map, List, ℕ}
use Rattle.std.specs.List.{concat}
use Rattle.jx_codeblock.proofs.LengthLemmas.{anew_few}
use Rattle.jx_codeblock.proofs.MadeJobs.{anew_made}
use Rattle.jx_codeblock.proofs.recoded.code_anew.Goals as goal
use Rattle.jx_base.specs.Limits.{most_bytes}

pub parts_of-requires-clause-few : goal.parts_of-requires-clause-few
parts_of-requires-clause-few c =
    let b = c.args.job.now.block.now in
    let is = c.in_ok-new.ensures.lists in
    subst (λ (ss : List (List ℕ)). length (concat ss) ≤ most_bytes) (sym is) (anew_few b c.args.style c.requires.asked.sound)

pub invariant_of-result : goal.invariant_of-result
invariant_of-result c =
    let is = c.in_ok-new.ensures.lists in
    let was = ap (map (λ l. l.items)) c.deref.ensures.value ∙ c.in_ok-new.ensures.lists in
    anew_made c.args.job.now c.args.style c.as_slice.result.now _ _ _ _ _ c.requires.asked c.requires.style c.in_ok-new.ensures.right
    c.as_slice.ensures was is (c.in_ok-made.ensures.bytes ∙ c.in_ok-bytes.ensures) c.in_ok-made.ensures.starts (c.in_ok-made.ensures.parts ∙ c.in_ok-parts.ensures)

pub returns-clause-recoding : goal.returns-clause-recoding
returns-clause-recoding c =
    let is = c.in_ok-new.ensures.lists in
    let was = ap (map (λ l. l.items)) c.deref.ensures.value ∙ c.in_ok-new.ensures.lists in
    (anew_made c.args.job.now c.args.style c.as_slice.result.now _ _ _ _ _ c.requires.asked c.requires.style c.in_ok-new.ensures.right
    c.as_slice.ensures was is (c.in_ok-made.ensures.bytes ∙ c.in_ok-bytes.ensures) c.in_ok-made.ensures.starts (c.in_ok-made.ensures.parts ∙ c.in_ok-parts.ensures)).is
