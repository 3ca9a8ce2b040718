use Rattle.std.proofs.Common.{ℕ, arith}
use Rattle.jx_same.proofs.SegmentLemmas.{put_past, put_there}
use Rattle.jx_same.proofs.segments.put_bytes.Goals as goal

pub returns-then-from-len-clause-each : goal.returns-then-from-len-clause-each
returns-then-from-len-clause-each c =
    λ (i : ℕ) inside. put_past c.args.lists.now.items c.args.number i c.args.bytes.now (omega (arith, c.if-from-len.true, c.len.ensures, c.from.ensures)) inside

pub returns-clause-each : goal.returns-clause-each
returns-clause-each c =
    λ (i : ℕ) inside. put_there c.args.lists.now.items c.args.number c.from-2.result i c.extend_from_slice.new.self c.index_mut.result.now c.args.bytes.now c.from-2.ensures
    (omega (arith, c.if-from-len.false, c.len.ensures, c.from.ensures, c.from-2.ensures)) c.index_mut.ensures.value c.in_ok-extend_from_slice.ensures.items
