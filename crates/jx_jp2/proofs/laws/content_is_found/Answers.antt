use Rattle.jx_jp2.proofs.WrapLemmas.{content_found}
use Rattle.jx_jp2.proofs.laws.content_is_found.Goals as goal

pub returns : goal.returns
returns c = content_found
