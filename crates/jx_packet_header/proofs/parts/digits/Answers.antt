use Rattle.std.proofs.Common.{arith}
use Rattle.jx_packet_header.proofs.PutLemmas.{size_is}
use Rattle.jx_packet_header.proofs.parts.digits.Goals as goal

pub returns-clause-value : goal.returns-clause-value
returns-clause-value c = size_is c.args.number (omega arith)
