use Rattle.std.proofs.Common.{◌+◌, ◌<◌, ◌≤◌, length, get_or, arith}
use Rattle.jx_packet_header.proofs.CursorLemmas.{no_part, cursor_more, cursor_le, cursor_next, none_from}
use Rattle.jx_packet_header.proofs.band_out.run_end.Goals as goal

pub returns-then-not-rising-clause-ordered : goal.returns-then-not-rising-clause-ordered
returns-then-not-rising-clause-ordered c = cursor_le c.args.layer c.args.start c.args.parts.now c.requires.cursor

pub loop-end-init : goal.loop-end-init
loop-end-init c = (omega arith, cursor_le c.args.layer c.args.start c.args.parts.now c.requires.cursor, cursor_more c.args.layer c.args.start c.args.parts.now c.requires.cursor)

pub loop-end-preserved : goal.loop-end-preserved
loop-end-preserved c =
    let begun : c.args.start ≤ c.loop-end.end = c.loop-end.invariant.0 in
    let lt : c.loop-end.end < length c.args.parts.now = c.loop-end-test.true in
    let le : (get_or c.args.parts.now c.loop-end.end no_part).layer ≤ c.args.layer = c.if-parts-end.true in
    (omega arith, omega arith, cursor_next (c.args.layer + 1) c.loop-end.end c.args.parts.now c.loop-end.invariant.2 lt (omega arith))

pub returns-else-parts-end-clause-none : goal.returns-else-parts-end-clause-none
returns-else-parts-end-clause-none c =
    let lt : c.loop-end.end < length c.args.parts.now = c.loop-end-test.true in
    none_from c.args.layer c.loop-end.end c.args.parts.now (c.requires.rising c.if-not-rising.false) lt (omega (arith, c.if-parts-end.false))
