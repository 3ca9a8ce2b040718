use Rattle.jx_codestream.proofs.ShapeLemmas.{siz_is}
use Rattle.jx_codestream.proofs.laws.siz_is_in_range.Goals as goal

pub returns : goal.returns
returns c = λ siz fits. (siz_is siz fits).canvas
