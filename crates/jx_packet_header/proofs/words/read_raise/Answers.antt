use Rattle.std.proofs.Common.{◌≡◌, ◌<◌, ◌≤◌, ◌+◌, ◌^◌, length, arith}
use Rattle.jx_tagtree.specs.Header.{to_come}
use Rattle.jx_packet_header.specs.Frame.{frame}
use Rattle.jx_packet_header.proofs.AskLemmas.{few_left}
use Rattle.jx_packet_header.proofs.words.read_raise.Goals as goal

pub overflow_add-raise : goal.overflow_add-raise
overflow_add-raise c =
    let le : length (to_come c.args.bits.now) ≤ (frame c.args.bits.now).total = few_left c.args.bits.now in
    let total : (frame c.args.bits.now).total < 2 ^ 67 = c.requires in
    let sum : c.loop-raise.raise + length (to_come c.loop-raise.bits) ≡ length (to_come c.args.bits.now) = c.loop-raise.invariant.1 in
    omega arith

pub returns-clause-few : goal.returns-clause-few
returns-clause-few c =
    let le : length (to_come c.args.bits.now) ≤ (frame c.args.bits.now).total = few_left c.args.bits.now in
    let total : (frame c.args.bits.now).total < 2 ^ 67 = c.requires in
    let sum : c.loop-raise.raise + length (to_come c.loop-raise.bits) ≡ length (to_come c.args.bits.now) = c.loop-raise.invariant.1 in
    omega arith
