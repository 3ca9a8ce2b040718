use Rattle.jx_codeblock.proofs.LengthLemmas.{anew_bytes}
use Rattle.jx_codeblock.proofs.laws.new_bytes_are_few.Goals as goal

pub returns : goal.returns
returns c b style ends r asked e = anew_bytes b style ends r asked e
