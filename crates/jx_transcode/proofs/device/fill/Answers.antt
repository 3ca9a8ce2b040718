use Rattle.std.proofs.Common.{rules, ◌+◌, ℕ, arith, take}
use Rattle.std.proofs.lemmas.List.{length-take-le}
use Rattle.jx_transcode.proofs.ReadLemmas.{has_read_end, has_read_full}
use Rattle.jx_transcode.proofs.device.fill.Goals as goal

pub returns-then-count-eq0-clause-bytes : goal.returns-then-count-eq0-clause-bytes
returns-then-count-eq0-clause-bytes g c =
    let n : ℕ = c.loop-filled.filled + c.in_ok-count.count in
    let bytes = c.read_more.new.bytes.items in
    has_read_end _ _ (take n bytes) (c.args.limit + 1) (c.in_ok-count.ensures.read _ c.loop-filled.invariant.so_far)
    (omega (arith, length-take-le n bytes (omega (arith, c.in_ok-count.ensures.within)), c.read_more.ensures.few)) (c.in_ok-count.ensures.end (search rules))

pub returns-clause-bytes : goal.returns-clause-bytes
returns-clause-bytes g c =
    let n : ℕ = c.loop-filled.filled in
    let bytes = c.loop-filled.bytes.items in
    has_read_full _ _ (take n bytes) (c.args.limit + 1) c.loop-filled.invariant.so_far
    (omega (arith, length-take-le n bytes (omega (arith, c.loop-filled.invariant.within)), c.loop-filled.invariant.within, c.loop-filled.invariant.fits, c.loop-filled-test.false))
