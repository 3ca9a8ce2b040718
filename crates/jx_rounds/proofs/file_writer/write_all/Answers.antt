use Rattle.std.proofs.Common.{◌∙◌, ap, arith, refl, take}
use Rattle.std.proofs.lemmas.Grind.{common_steps}
use Rattle.jx_rounds.specs.FileBytes.{bytes_of, told_beside}
use Rattle.jx_rounds.proofs.FileLemmas.{beside_after, bytes_after}
use Rattle.jx_rounds.proofs.TakenLemmas.{has_taken_more, has_taken_none}
use Rattle.jx_rounds.proofs.file_writer.write_all.Goals as goal

pub loop-rest-init : goal.loop-rest-init
loop-rest-init g c = record { so_far = has_taken_none _ _; told = refl; making = c.requires; same = refl; other = refl }

pub loop-rest-preserved : goal.loop-rest-preserved
loop-rest-preserved g c = record {
  so_far = has_taken_more _ _ _ _ _ (take c.in_ok-count.count c.loop-rest.rest.now) _ c.loop-rest.invariant.so_far (grind (arith, common_steps)) (ap bytes_of c.in_ok-count.ensures.ok ∙ bytes_after (g.F.Files.meaning c.loop-rest.files) _);
  told = ap told_beside c.in_ok-count.ensures.ok ∙ (beside_after (g.F.Files.meaning c.loop-rest.files) _ ∙ c.loop-rest.invariant.told);
  making = rw c.in_ok-count.ensures.ok c.loop-rest.invariant.making;
  same = grind (arith, common_steps);
  other = cc;
}
