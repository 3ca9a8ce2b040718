use Rattle.std.proofs.Common.{◌<◌, ℕ, List, length, sym, subst, arith}
use Rattle.std.specs.Borrow.{Bor}
use Rattle.jx_codeblock.specs.Recoded.{WrittenBlock}
use Rattle.jx_tier2_reader.specs.Written.{Packets}
use Rattle.jx_tier2_writer.specs.Packed.{own_packets}
use Rattle.jx_tier2_writer.specs.Pieces.{IsLayout, IsPartOut, blocks_lent, bytes_lent, part_pieces}
use Rattle.jx_tier2_writer.proofs.PieceLemmas.{part_at, part_is_out, parts_count}
use Rattle.jx_tier2_writer.proofs.tile_out.TileOut.put.Goals as goal

pub put_piece-requires-clause-layout : goal.put_piece-requires-clause-layout
put_piece-requires-clause-layout c =
    let t = c.self.inside in
    let P : List (Bor WrittenBlock) → Type 0 = λ refs. IsLayout t.marks t.stream.now t.geom (blocks_lent refs) (bytes_lent refs) t.layout in
    subst P (sym c.deref.ensures.value) c.self.invariant

pub put_piece-requires-clause-part : goal.put_piece-requires-clause-part
put_piece-requires-clause-part c =
    let t = c.self.inside in
    let ps : Packets = own_packets t.marks t.stream.now t.geom (blocks_lent t.blocks.items) in
    let below : c.args.part < length t.layout.parts.items = omega (arith, c.requires.part, parts_count ps t.layout c.args.self.now c.self.view_is) in
    let P : List (Bor WrittenBlock) → Type 0 = λ refs. IsPartOut (own_packets t.marks t.stream.now t.geom (blocks_lent refs)) t.layout.names.items c.index-own.result.now in
    subst P (sym c.deref.ensures.value) (part_is_out ps t.layout.names.items t.layout.parts.items c.args.part c.index-own.result.now c.self.invariant.parts below c.index-own.ensures)

pub put_piece-requires-clause-piece : goal.put_piece-requires-clause-piece
put_piece-requires-clause-piece c =
    let t = c.self.inside in
    let ps : Packets = own_packets t.marks t.stream.now t.geom (blocks_lent t.blocks.items) in
    let P : List (Bor WrittenBlock) → Type 0 = λ refs. c.args.piece < length (part_pieces (own_packets t.marks t.stream.now t.geom (blocks_lent refs)) t.layout.names.items c.index-own.result.now) in
    let Q : List (List ℕ) → Type 0 = λ pieces. c.args.piece < length pieces in
    subst P (sym c.deref.ensures.value) (subst Q (part_at ps t.layout c.args.self.now c.self.view_is c.args.part c.index-own.result.now c.requires.part c.index-own.ensures) c.requires.piece)
