use Rattle.jx_codeblock.proofs.MadeBlocks.{bypass_short}
use Rattle.jx_codeblock.proofs.laws.new_bytes_with_bypass.Goals as goal

pub returns : goal.returns
returns c b style ends r asked e bypass few = bypass_short b style ends r asked e bypass few
