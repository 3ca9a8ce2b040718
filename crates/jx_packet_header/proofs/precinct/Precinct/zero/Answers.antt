use Rattle.std.proofs.Common.{◌≡◌, ◌<◌, ◌≤◌, ◌∙◌, ◌-◌, ◌+◌, ℕ, List, sym, ap, subst, length, get_or, refl, arith}
use Rattle.jx_packet_header.specs.declared.known.Known.{Known}
use Rattle.jx_packet_header.specs.Packet.{Cells, State, unknown_block}
use Rattle.jx_packet_header.proofs.BandLemmas.{block_is}
use Rattle.jx_packet_header.proofs.FreshLemmas.{Within, within_here, within_next, within_end}
use Rattle.jx_packet_header.proofs.precinct.Precinct.zero.Goals as goal

pub loop-band-init : goal.loop-band-init
loop-band-init c = (record { same = refl; inside = c.requires }, c.deref-band-items.ensures.value ∙ ap (λ (s : State). s.bands) c.self.view_is)

pub returns-then-left-len : goal.returns-then-left-len
returns-then-left-len c =
    let items = c.loop-band.invariant.1 in
    let x = c.band-item.result in
    let view : length c.band.inside.blocks.items ≡ length x.blocks = ap (λ (z : Cells). length z.blocks) c.band.view_is in
    let inside : c.loop-band.band-index < length c.args.self.now.bands = omega (arith, ap (λ (l : List Cells). length l) items) in
    let lt : c.loop-band.left < length c.band.inside.blocks.items = omega (arith, c.len.ensures, c.band.inside.blocks.ok.0) in
    let here = within_here c.args.self.now.bands c.loop-band.band-index c.loop-band.left c.args.block x inside
    (c.band-item.is ∙ ap (λ (l : List Cells). get_or l c.loop-band.band-index x) items) c.loop-band.invariant.0 (omega arith) in
    ap (λ (k : Known). k.zero) (sym (block_is c.band.inside.blocks.items c.loop-band.left c.index.result.now lt c.index.ensures)
    ∙ ap (λ (z : Cells). get_or z.blocks c.loop-band.left unknown_block) c.band.view_is ∙ here)

pub loop-band-preserved : goal.loop-band-preserved
loop-band-preserved c =
    let items = c.loop-band.invariant.1 in
    let x = c.band-item.result in
    let view : length c.band.inside.blocks.items ≡ length x.blocks = ap (λ (z : Cells). length z.blocks) c.band.view_is in
    let inside : c.loop-band.band-index < length c.args.self.now.bands = omega (arith, ap (λ (l : List Cells). length l) items) in
    let long : c.len-left.result ≡ length x.blocks = omega (arith, c.len-left.ensures, c.band.inside.blocks.ok.0) in
    let past : length x.blocks ≤ c.loop-band.left = omega (arith, c.len.ensures, c.band.inside.blocks.ok.0) in
    let next = within_next c.args.self.now.bands c.loop-band.band-index c.loop-band.left c.args.block x inside
    (c.band-item.is ∙ ap (λ (l : List Cells). get_or l c.loop-band.band-index x) items) c.loop-band.invariant.0 past in
    (subst (λ (n : ℕ). Within c.args.self.now.bands (c.loop-band.band-index + 1) (c.loop-band.left - n) c.args.block) (sym long) next, items)

pub returns : goal.returns
returns c = absurd (within_end c.args.self.now.bands c.loop-band.band-index c.loop-band.left c.args.block (omega (arith, ap (λ (l : List Cells). length l) c.loop-band.invariant.1)) c.loop-band.invariant.0)
