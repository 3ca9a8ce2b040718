use Rattle.std.proofs.Common.{◌<◌, length}
use Rattle.jx_progression.proofs.SomeLemmas.{row_sends, row_sent, row_there, sends_none, set_sent}
use Rattle.jx_progression.proofs.sending.send_row.Goals as goal

pub returns-then-to-from-clause-some : goal.returns-then-to-from-clause-some
returns-then-to-from-clause-some c = sends_none c.args.geom.now c.args.layers c.args.entry c.args.sent.now c.args.list.now.items

pub mark-requires : goal.mark-requires
mark-requires c =
    row_there c.args.geom.now c.args.layers c.args.entry c.resolutions.result.now c.row_at-row.result c.args.sent.now c.args.place c.sent_at-from.result
    c.row_end-to.result c.resolutions.ensures c.row_at-row.ensures c.row_end-to.ensures c.if-to-from.false c.requires.places

pub returns-clause-some : goal.returns-clause-some
returns-clause-some c =
    let there : c.args.place < length c.args.sent.now =
    row_there c.args.geom.now c.args.layers c.args.entry c.resolutions.result.now c.row_at-row.result c.args.sent.now c.args.place c.sent_at-from.result
    c.row_end-to.result c.resolutions.ensures c.row_at-row.ensures c.row_end-to.ensures c.if-to-from.false c.requires.places in
    row_sends c.args.geom.now c.args.layers c.args.entry c.order_from.result c.resolutions.result.now c.row_at-row.result c.args.sent.now c.mark.new.sent
    c.args.place c.sent_at-from.result c.row_end-to.result c.args.list.now.items c.push_row.new.list.items c.resolutions.ensures c.order_from.ensures
    c.row_at-row.ensures c.sent_at-from.ensures c.row_end-to.ensures c.if-to-from.false there c.mark.ensures c.in_ok-push_row.ensures

pub returns-clause-sent : goal.returns-clause-sent
returns-clause-sent c =
    let there : c.args.place < length c.args.sent.now =
    row_there c.args.geom.now c.args.layers c.args.entry c.resolutions.result.now c.row_at-row.result c.args.sent.now c.args.place c.sent_at-from.result
    c.row_end-to.result c.resolutions.ensures c.row_at-row.ensures c.row_end-to.ensures c.if-to-from.false c.requires.places in
    row_sent c.args.geom.now c.args.layers c.args.entry c.resolutions.result.now c.row_at-row.result c.mark.new.sent c.args.place c.row_end-to.result
    c.resolutions.ensures c.row_at-row.ensures c.row_end-to.ensures (set_sent c.args.sent.now c.mark.new.sent c.args.place c.row_end-to.result there c.mark.ensures)
