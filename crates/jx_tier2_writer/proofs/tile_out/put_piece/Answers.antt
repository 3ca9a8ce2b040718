use Rattle.std.proofs.Common.{◌≡◌, ◌∙◌, ◌+◌, ◌-◌, ◌<◌, ◌++◌, [], ℕ, List, length, map, ap, refl, sym, subst, arith, OnOk}
use Rattle.std.specs.Prelude.{slice_index_or}
use Rattle.jx_base.specs.declared.pieces.Block.{Block}
use Rattle.jx_progression.specs.Packets.{IsPacketName}
use Rattle.jx_progression.specs.declared.names.PacketName.{PacketName}
use Rattle.jx_codestream.specs.Shapes.{layers_of}
use Rattle.jx_tier2_reader.specs.Written.{packet_bytes}
use Rattle.jx_tier2_writer.specs.Packed.{own_packet, own_packets}
use Rattle.jx_tier2_writer.specs.Pieces.{part_pieces}
use Rattle.jx_tier2_writer.proofs.PieceLemmas.{packet_below, piece_at}
use Rattle.jx_tier2_writer.proofs.tile_out.put_piece.Goals as goal

pub overflow_add-number : goal.overflow_add-number
overflow_add-number g c =
    let own : List Block = map g.B.Coded.block c.args.values.now in
    let names : List PacketName = c.args.layout.now.names.items in
    let number : ℕ = c.args.part.now.from + (c.args.piece - 1) in
    let below : number < length names =
    packet_below (own_packets c.args.marks c.args.stream.now c.args.geom.now own) names c.args.part.now c.requires.part c.args.piece number c.requires.piece (omega (arith, c.if-piece-eq0.false)) refl in
    omega (arith, below, c.requires.layout.few)

pub index-name-requires : goal.index-name-requires
index-name-requires g c =
    let own : List Block = map g.B.Coded.block c.args.values.now in
    let number : ℕ = c.args.part.now.from + (c.args.piece - 1) in
    let P : ℕ → Type 0 = λ n. number < n in
    subst P (sym c.args.layout.now.names.ok.0)
    (packet_below (own_packets c.args.marks c.args.stream.now c.args.geom.now own) c.args.layout.now.names.items c.args.part.now c.requires.part c.args.piece number
    c.requires.piece (omega (arith, c.if-piece-eq0.false)) refl)

pub put_packet-requires-clause-there : goal.put_packet-requires-clause-there
put_packet-requires-clause-there g c =
    let own : List Block = map g.B.Coded.block c.args.values.now in
    let names : List PacketName = c.args.layout.now.names.items in
    let number : ℕ = c.args.part.now.from + (c.args.piece - 1) in
    let below : number < length names =
    packet_below (own_packets c.args.marks c.args.stream.now c.args.geom.now own) names c.args.part.now c.requires.part c.args.piece number c.requires.piece (omega (arith, c.if-piece-eq0.false)) refl in
    subst (IsPacketName c.args.geom.now (layers_of c.args.stream.now c.args.geom.now.tile)) (sym c.index-name.ensures) (c.requires.layout.each number c.index-name.result.now below)

pub returns : goal.returns
returns g c =
    let s = c.args.stream.now in
    let geom = c.args.geom.now in
    let own : List Block = map g.B.Coded.block c.args.values.now in
    let ps = own_packets c.args.marks s geom own in
    let names : List PacketName = c.args.layout.now.names.items in
    let number : ℕ = c.args.part.now.from + (c.args.piece - 1) in
    let name : PacketName = c.index-name.result.now in
    let P : List ℕ → Type 0 = λ xs. OnOk c.put_packet.result (c.put_packet.new.out.items ≡ c.args.out.now.items ++ xs) in
    let e : slice_index_or (part_pieces ps names c.args.part.now) c.args.piece [] ≡ packet_bytes number (own_packet c.args.marks s geom own name) =
    piece_at ps names c.args.part.now c.requires.part c.args.piece number name c.requires.piece (omega (arith, c.if-piece-eq0.false)) refl
    ∙ ap (λ (x : PacketName). packet_bytes number (own_packet c.args.marks s geom own x)) (sym c.index-name.ensures) in
    subst P (sym e) c.put_packet.ensures
