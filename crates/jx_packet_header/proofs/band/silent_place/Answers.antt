use Rattle.std.proofs.Common.{◌+◌, ◌*◌, ◌<◌, ap, subst, ℕ}
use Rattle.jx_tagtree.specs.Past.{IsPast, AreUnder}
use Rattle.jx_packet_header.specs.Packet.{Cells}
use Rattle.jx_packet_header.proofs.RowLemmas.{silent_under}
use Rattle.jx_packet_header.proofs.band.silent_place.Goals as goal

pub returns-in-Some-clause-silent : goal.returns-in-Some-clause-silent
returns-in-Some-clause-silent c =
    silent_under c.args.band.now c.band.inside.first c.args.layer c.args.leaf c.in-Some.place (ap (λ (x : Cells). x.first) c.band.view_is) c.requires.band
    (subst (λ (n : ℕ). (other : ℕ) → other < c.band.inside.first.wide * c.band.inside.first.high → AreUnder c.band.inside.first.wide c.in-Some.place c.args.leaf other → IsPast c.band.inside.first other (n + 1))
    c.from.ensures c.in-Some.ensures.under)
