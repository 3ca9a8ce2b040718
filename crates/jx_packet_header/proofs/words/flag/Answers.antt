use Rattle.jx_packet_header.proofs.AskLemmas.{bit_frame}
use Rattle.jx_packet_header.proofs.words.flag.Goals as goal

pub returns-in-Ok-clause-frame : goal.returns-in-Ok-clause-frame
returns-in-Ok-clause-frame c = bit_frame c.args.bits.now c.bit.new.self c.in-Ok.bit c.in-Ok.ensures.bit c.in-Ok.ensures.step
