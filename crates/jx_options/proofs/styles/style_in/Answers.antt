use Rattle.std.proofs.Common.{◌∙◌, ap}
use Rattle.jx_options.specs.Parts.{more_parts}
use Rattle.jx_options.proofs.StyleLemmas.{ended, next_name, refused_name}
use Rattle.jx_options.proofs.styles.style_in.Goals as goal

pub returns : goal.returns
returns c = ended _ _ _ (ap (more_parts 43) c.in_default.is) c.loop-left.invariant

pub returns-in-None : goal.returns-in-None
returns-in-None c = refused_name _ _ _ _ _ (ap (more_parts 43) c.in-Some.is ∙ c.first_part.ensures.parts) c.in-None.ensures c.loop-left.invariant

pub loop-left-preserved : goal.loop-left-preserved
loop-left-preserved c = next_name _ _ _ _ _ _ (ap (more_parts 43) c.in-Some.is ∙ c.first_part.ensures.parts) c.in-Some-with_name.ensures c.loop-left.invariant
