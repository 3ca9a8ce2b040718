use Rattle.std.proofs.Common.{rules}
use Rattle.jx_layers.proofs.TextLemmas.{part_first, part_last}
use Rattle.jx_layers.proofs.texts.first_part.Goals as goal

pub returns-then-is_empty : goal.returns-then-is_empty
returns-then-is_empty c = part_last _ _ _ _ c.comma.ensures.value c.split_at.ensures.front c.split_at.ensures.back (search rules)

pub returns : goal.returns
returns c = part_first _ _ _ _ _ c.comma.ensures.value c.split_at.ensures.front c.split_at.ensures.back (search rules) c.split_at-2.ensures.back
