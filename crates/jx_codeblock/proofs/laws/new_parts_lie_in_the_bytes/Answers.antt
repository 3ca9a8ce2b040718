use Rattle.jx_codeblock.proofs.AnewParts.{anew_within}
use Rattle.jx_codeblock.proofs.laws.new_parts_lie_in_the_bytes.Goals as goal

pub returns : goal.returns
returns c b style ends r asked e = anew_within b style ends r asked e
