use Rattle.std.proofs.Common.{◌∙◌, ◌∷◌, ap}
use Rattle.jx_options.proofs.ListLemmas.{some_part}
use Rattle.jx_options.proofs.VolumeTexts.{seven}
use Rattle.jx_options.proofs.volumes.fields_of.Goals as goal

pub returns-in-Some-at_comma-5 : goal.returns-in-Some-at_comma-5
returns-in-Some-at_comma-5 c =
    seven _ _ _ _ _ _ _ _ (some_part 44 c.in-Some-at_comma-5.field-0.1.now)
    (c.in-Some.ensures ∙ ap (λ p. c.in-Some.rs.now ∷ p) (c.in-Some-at_comma.ensures ∙ ap (λ p. c.in-Some-at_comma.cs.now ∷ p)
    (c.in-Some-at_comma-2.ensures ∙ ap (λ p. c.in-Some-at_comma-2.lye.now ∷ p) (c.in-Some-at_comma-3.ensures ∙ ap (λ p. c.in-Some-at_comma-3.re.now ∷ p)
    (c.in-Some-at_comma-4.ensures ∙ ap (λ p. c.in-Some-at_comma-4.ce.now ∷ p) c.in-Some-at_comma-5.ensures)))))
