use Rattle.jx_codestream.proofs.WholeLemmas.{whole_spelled}
use Rattle.jx_codestream.proofs.laws.reading_is_spelled.Goals as goal

pub returns : goal.returns
returns c = whole_spelled
