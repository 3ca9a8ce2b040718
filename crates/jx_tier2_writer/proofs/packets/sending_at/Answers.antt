use Rattle.std.proofs.Common.{ℕ, map, sym, subst}
use Rattle.std.specs.List.{slice_get}
use Rattle.jx_tier2_writer.proofs.PacketLemmas.{there_below, there_is}
use Rattle.jx_tier2_writer.proofs.SendingsLemmas.{IsSendingOf, sending_there}
use Rattle.jx_tier2_writer.proofs.packets.sending_at.Goals as goal

pub bounds-list-number : goal.bounds-list-number
bounds-list-number g c =
    let own = map g.B.Coded.block c.args.values.now in
    let datas = map g.B.Coded.bytes c.args.values.now in
    let P : ℕ → Type 0 = λ n. IsSendingOf c.args.stream.now c.args.geom.now own datas c.args.name.comp c.args.name.res c.args.name.precinct (slice_get c.args.list.now n) in
    there_below c.args.stream.now c.args.geom.now own datas c.args.name.comp c.args.name.res c.args.name.precinct c.args.list.now c.precinct_number-number.result
    (subst P (sym c.precinct_number-number.ensures.value)
    (sending_there c.args.stream.now c.args.geom.now own datas c.args.list.now c.args.name.comp c.args.name.res c.args.name.precinct c.requires.list c.requires.there))

pub returns : goal.returns
returns g c =
    let own = map g.B.Coded.block c.args.values.now in
    let datas = map g.B.Coded.bytes c.args.values.now in
    let P : ℕ → Type 0 = λ n. IsSendingOf c.args.stream.now c.args.geom.now own datas c.args.name.comp c.args.name.res c.args.name.precinct (slice_get c.args.list.now n) in
    there_is c.args.stream.now c.args.geom.now own datas c.args.name.comp c.args.name.res c.args.name.precinct c.args.list.now c.precinct_number-number.result c.index-list-number.result
    (subst P (sym c.precinct_number-number.ensures.value)
    (sending_there c.args.stream.now c.args.geom.now own datas c.args.list.now c.args.name.comp c.args.name.res c.args.name.precinct c.requires.list c.requires.there))
    c.index-list-number.is
