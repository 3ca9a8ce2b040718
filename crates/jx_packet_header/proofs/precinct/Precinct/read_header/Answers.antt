use Rattle.std.proofs.Common.{◌≡◌, ◌∙◌, sym, subst, Ok, arith}
use Rattle.jx_tagtree.specs.Header.{Reading, to_come}
use Rattle.jx_packet_header.specs.Packet.{State, IsPacket, BreaksPlanes}
use Rattle.jx_packet_header.specs.Kept.{AreBands}
use Rattle.jx_packet_header.specs.Scan.{scan_header}
use Rattle.jx_packet_header.specs.Said.{Refuses, HasCause}
use Rattle.jx_packet_header.proofs.PacketLemmas.{total_few, read_by, packet_ok, packet_only, refuse_cause, refuse_only, refuse_planes, read_planes, end_cause}
use Rattle.jx_packet_header.proofs.precinct.Precinct.read_header.Goals as goal

pub read_told-requires-clause-few : goal.read_told-requires-clause-few
read_told-requires-clause-few c = rw c.new-bits.ensures (total_few c.args.bytes.now (omega arith))

pub returns-in-Err-clause-only : goal.returns-in-Err-clause-only
returns-in-Err-clause-only c = λ parts used after p.
    let k : State = record { style = c.self.inside.style.bits; layer = c.self.inside.next; bands = c.self.inside.bands.items } in
    refuse_only c.in-Err.fault c.args.bytes.now k parts used after
    (subst (λ (s : State). AreBands s.bands) (sym c.self.view_is) c.requires.state.bands)
    (subst (λ (r : Reading). Refuses c.in-Err.fault (scan_header k (to_come r))) c.new-bits.ensures c.in-Err.ensures.err)
    (subst (λ (s : State). IsPacket c.args.bytes.now s parts used after) (sym c.self.view_is) p)

pub returns-in-Err-clause-planes : goal.returns-in-Err-clause-planes
returns-in-Err-clause-planes c = λ x.
    let k : State = record { style = c.self.inside.style.bits; layer = c.self.inside.next; bands = c.self.inside.bands.items } in
    refuse_planes c.in-Err.fault c.args.bytes.now k
    (subst (λ (s : State). AreBands s.bands) (sym c.self.view_is) c.requires.state.bands)
    (subst (λ (r : Reading). Refuses c.in-Err.fault (scan_header k (to_come r))) c.new-bits.ensures c.in-Err.ensures.err)
    (subst (λ (s : State). BreaksPlanes c.args.bytes.now s) (sym c.self.view_is) x)

pub returns-in-Err-clause-err : goal.returns-in-Err-clause-err
returns-in-Err-clause-err c =
    let k : State = record { style = c.self.inside.style.bits; layer = c.self.inside.next; bands = c.self.inside.bands.items } in
    subst (λ (s : State). HasCause c.in-Err.fault c.args.bytes.now s) c.self.view_is (refuse_cause c.in-Err.fault c.args.bytes.now k
    (subst (λ (s : State). AreBands s.bands) (sym c.self.view_is) c.requires.state.bands)
    (subst (λ (r : Reading). Refuses c.in-Err.fault (scan_header k (to_come r))) c.new-bits.ensures c.in-Err.ensures.err))

pub returns-in-Err-finish-clause-only : goal.returns-in-Err-finish-clause-only
returns-in-Err-finish-clause-only c = λ parts used after p.
    let inner : State = record { style = c.self.inside.style.bits; layer = c.self.inside.next; bands = c.self.inside.bands.items } in
    let now : State = record { style = c.self.inside.style.bits; layer = c.read_told.new.next; bands = c.read_told.new.bands.items } in
    let w = read_by c.args.bytes.now inner c.args.self.now c.new-bits.result c.read_told.new.bits c.new-parts.result.items c.read_told.new.parts.items now c.self.view_is c.new-bits.ensures c.new-parts.ensures.items c.in-Ok.ensures.ok c.in-Ok.ensures.frame in
    (end_cause c.args.bytes.now c.args.self.now c.read_told.new.bits c.read_told.new.parts.items now c.in-Err-finish.field-0 c.requires.state.bands w (sym c.in-Err-finish.ensures)).1 parts used after p

pub returns-in-Err-finish-clause-planes : goal.returns-in-Err-finish-clause-planes
returns-in-Err-finish-clause-planes c = λ x.
    let inner : State = record { style = c.self.inside.style.bits; layer = c.self.inside.next; bands = c.self.inside.bands.items } in
    let now : State = record { style = c.self.inside.style.bits; layer = c.read_told.new.next; bands = c.read_told.new.bands.items } in
    let w = read_by c.args.bytes.now inner c.args.self.now c.new-bits.result c.read_told.new.bits c.new-parts.result.items c.read_told.new.parts.items now c.self.view_is c.new-bits.ensures c.new-parts.ensures.items c.in-Ok.ensures.ok c.in-Ok.ensures.frame in
    read_planes c.args.bytes.now c.args.self.now c.read_told.new.bits c.read_told.new.parts.items now c.requires.state.bands w x

pub returns-in-Err-finish-clause-err : goal.returns-in-Err-finish-clause-err
returns-in-Err-finish-clause-err c =
    let inner : State = record { style = c.self.inside.style.bits; layer = c.self.inside.next; bands = c.self.inside.bands.items } in
    let now : State = record { style = c.self.inside.style.bits; layer = c.read_told.new.next; bands = c.read_told.new.bands.items } in
    let w = read_by c.args.bytes.now inner c.args.self.now c.new-bits.result c.read_told.new.bits c.new-parts.result.items c.read_told.new.parts.items now c.self.view_is c.new-bits.ensures c.new-parts.ensures.items c.in-Ok.ensures.ok c.in-Ok.ensures.frame in
    end_cause c.args.bytes.now c.args.self.now c.read_told.new.bits c.read_told.new.parts.items now c.in-Err-finish.field-0 c.requires.state.bands w (sym c.in-Err-finish.ensures)

pub returns-clause-ok : goal.returns-clause-ok
returns-clause-ok c =
    let inner : State = record { style = c.self.inside.style.bits; layer = c.self.inside.next; bands = c.self.inside.bands.items } in
    let now : State = record { style = c.self.inside.style.bits; layer = c.read_told.new.next; bands = c.read_told.new.bands.items } in
    let w = read_by c.args.bytes.now inner c.args.self.now c.new-bits.result c.read_told.new.bits c.new-parts.result.items c.read_told.new.parts.items now c.self.view_is c.new-bits.ensures c.new-parts.ensures.items c.in-Ok.ensures.ok c.in-Ok.ensures.frame in
    packet_ok c.args.bytes.now c.args.self.now c.read_told.new.bits c.read_told.new.parts.items now c.in-Ok-finish.used c.requires.state.bands w (sym c.in-Ok-finish.ensures)

pub returns-clause-only : goal.returns-clause-only
returns-clause-only c = λ parts used after p.
    let inner : State = record { style = c.self.inside.style.bits; layer = c.self.inside.next; bands = c.self.inside.bands.items } in
    let now : State = record { style = c.self.inside.style.bits; layer = c.read_told.new.next; bands = c.read_told.new.bands.items } in
    let w = read_by c.args.bytes.now inner c.args.self.now c.new-bits.result c.read_told.new.bits c.new-parts.result.items c.read_told.new.parts.items now c.self.view_is c.new-bits.ensures c.new-parts.ensures.items c.in-Ok.ensures.ok c.in-Ok.ensures.frame in
    let s = packet_only c.args.bytes.now c.args.self.now c.read_told.new.bits c.read_told.new.parts.items parts now after used c.requires.state.bands w p in
    let both : Ok c.in-Ok-finish.used ≡ Ok used = c.in-Ok-finish.ensures ∙ s.ends in
    (s.parts_are, cc, s.after_is)

pub returns-clause-planes : goal.returns-clause-planes
returns-clause-planes c = λ x.
    let inner : State = record { style = c.self.inside.style.bits; layer = c.self.inside.next; bands = c.self.inside.bands.items } in
    let now : State = record { style = c.self.inside.style.bits; layer = c.read_told.new.next; bands = c.read_told.new.bands.items } in
    let w = read_by c.args.bytes.now inner c.args.self.now c.new-bits.result c.read_told.new.bits c.new-parts.result.items c.read_told.new.parts.items now c.self.view_is c.new-bits.ensures c.new-parts.ensures.items c.in-Ok.ensures.ok c.in-Ok.ensures.frame in
    read_planes c.args.bytes.now c.args.self.now c.read_told.new.bits c.read_told.new.parts.items now c.requires.state.bands w x
