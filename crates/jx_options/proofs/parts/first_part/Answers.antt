use Rattle.std.proofs.Common.{rules}
use Rattle.jx_options.proofs.PartLemmas.{part_first, part_last}
use Rattle.jx_options.proofs.parts.first_part.Goals as goal

pub returns-then-is_empty-clause-parts : goal.returns-then-is_empty-clause-parts
returns-then-is_empty-clause-parts c = part_last _ _ _ _ _ c.first_place.ensures.value c.split_at.ensures.front c.split_at.ensures.back (search rules)

pub returns-clause-parts : goal.returns-clause-parts
returns-clause-parts c = part_first _ _ _ _ _ _ c.first_place.ensures.value c.split_at.ensures.front c.split_at.ensures.back (search rules) c.split_at-2.ensures.back
