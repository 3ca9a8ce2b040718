use Rattle.std.proofs.Common.{◌≡◌, ◌<◌, ◌∙◌, sym, ap, subst, length, Some}
use Rattle.jx_tagtree.specs.Header.{to_come}
use Rattle.jx_packet_header.specs.declared.known.Known.{Known}
use Rattle.jx_packet_header.specs.Packet.{Cells, block_at}
use Rattle.jx_packet_header.specs.Scan.{Asked, scan_first}
use Rattle.jx_packet_header.proofs.AskLemmas.{asked_is}
use Rattle.jx_packet_header.proofs.BandLemmas.{first_band, block_is}
use Rattle.jx_packet_header.proofs.band.read_block.Goals as goal

pub read_included-requires-clause-band : goal.read_included-requires-clause-band
read_included-requires-clause-band c =
    let cells : Cells = record { first = c.band.inside.first; zeros = c.band.inside.zeros; planes = c.band.inside.planes; blocks = c.band.inside.blocks.items } in
    let lt : c.args.leaf < length cells.blocks = subst (λ (x : Cells). c.args.leaf < length x.blocks) (sym c.band.view_is) c.requires.leaf in
    let a : Asked = asked_is c.in-Ok-true.field-0 c.read_inclusion.new.tree (to_come c.read_inclusion.new.bits) in
    let known : block_at cells c.args.leaf ≡ c.index.result.now = block_is c.band.inside.blocks.items c.args.leaf c.index.result.now lt c.index.ensures in
    let e : scan_first (block_at cells c.args.leaf).zero cells.first c.args.leaf c.args.layer (to_come c.args.bits.now) ≡ Some a =
    ap (λ (k : Known). scan_first k.zero cells.first c.args.leaf c.args.layer (to_come c.args.bits.now)) known ∙ c.in-Ok-true.ensures.ok in
    first_band cells c.args.band.now c.args.leaf c.args.layer (to_come c.args.bits.now) a c.band.view_is c.requires.band c.requires.leaf e
