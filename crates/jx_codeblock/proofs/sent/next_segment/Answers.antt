use Rattle.std.proofs.Common.{arith}
use Rattle.jx_codeblock.proofs.RoomLemmas.{next_most}
use Rattle.jx_codeblock.proofs.sent.next_segment.Goals as goal

pub overflow_add-result : goal.overflow_add-result
overflow_add-result c = omega (arith, next_most c.args.style.bits c.args.pass c.args.at c.requires.at, c.ranges.pass.fits)
