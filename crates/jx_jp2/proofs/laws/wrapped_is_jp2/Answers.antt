use Rattle.jx_jp2.proofs.WrapLemmas.{wrapped_jp2}
use Rattle.jx_jp2.proofs.laws.wrapped_is_jp2.Goals as goal

pub returns : goal.returns
returns c = wrapped_jp2
