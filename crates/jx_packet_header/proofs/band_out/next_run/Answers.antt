use Rattle.std.proofs.Common.{List, ℕ, get_or, ap, sym}
use Rattle.std.proofs.lemmas.List.{set-get_or}
use Rattle.jx_packet_header.specs.Written.{Writes}
use Rattle.jx_packet_header.proofs.CursorLemmas.{cursor_here, cursor_more, run_in}
use Rattle.jx_packet_header.proofs.WriteLemmas.{with_cursors}
use Rattle.jx_packet_header.proofs.band_out.next_run.Goals as goal

pub run_end-end-requires-clause-cursor : goal.run_end-end-requires-clause-cursor
run_end-end-requires-clause-cursor c = cursor_here c.args.layer c.args.leaf c.index-start.result.now c.band.inside.cursors.items c.args.band.now.cursors c.args.parts.now (ap (λ (x : Writes). x.cursors) c.band.view_is)
    c.requires.inside c.index-start.ensures c.requires.cursor

pub returns-then-rising-clause-run : goal.returns-then-rising-clause-run
returns-then-rising-clause-run c = run_in c.args.layer c.index-start.result.now c.run_end-end.result c.args.parts.now
    (cursor_here c.args.layer c.args.leaf c.index-start.result.now c.band.inside.cursors.items c.args.band.now.cursors c.args.parts.now (ap (λ (x : Writes). x.cursors) c.band.view_is)
    c.requires.inside c.index-start.ensures c.requires.cursor)
    c.run_end-end.ensures.ordered c.run_end-end.ensures.none

pub returns-else-rising-clause-run : goal.returns-else-rising-clause-run
returns-else-rising-clause-run c = run_in c.args.layer c.index-start.result.now c.run_end-end.result c.args.parts.now
    (cursor_here c.args.layer c.args.leaf c.index-start.result.now c.band.inside.cursors.items c.args.band.now.cursors c.args.parts.now (ap (λ (x : Writes). x.cursors) c.band.view_is)
    c.requires.inside c.index-start.ensures c.requires.cursor)
    c.run_end-end.ensures.ordered c.run_end-end.ensures.none

pub returns-else-rising-clause-moved : goal.returns-else-rising-clause-moved
returns-else-rising-clause-moved c = (
  get_or c.args.band.now.cursors c.args.leaf 0,
  cursor_more c.args.layer (get_or c.args.band.now.cursors c.args.leaf 0) c.args.parts.now c.requires.cursor,
  ap (λ (l : List ℕ). with_cursors c.args.band.now l) (sym (set-get_or c.args.band.now.cursors c.args.leaf 0)),
)
