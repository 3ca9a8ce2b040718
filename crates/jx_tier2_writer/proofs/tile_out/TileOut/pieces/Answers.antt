use Rattle.std.proofs.Common.{◌∙◌, ◌<◌, ℕ, List, length, ap, sym, arith}
use Rattle.jx_tier2_reader.specs.Written.{Packets}
use Rattle.jx_tier2_writer.specs.Packed.{own_packets}
use Rattle.jx_tier2_writer.specs.Pieces.{IsPartOut, blocks_lent}
use Rattle.jx_tier2_writer.proofs.PieceLemmas.{part_at, part_is_out, parts_count, pieces_count}
use Rattle.jx_tier2_writer.proofs.tile_out.TileOut.pieces.Goals as goal

pub returns : goal.returns
returns c =
    let t = c.self.inside in
    let ps : Packets = own_packets t.marks t.stream.now t.geom (blocks_lent t.blocks.items) in
    let below : c.args.part < length t.layout.parts.items = omega (arith, c.requires, parts_count ps t.layout c.args.self.now c.self.view_is) in
    let is : IsPartOut ps t.layout.names.items c.index-own.result.now =
    part_is_out ps t.layout.names.items t.layout.parts.items c.args.part c.index-own.result.now c.self.invariant.parts below c.index-own.ensures in
    c.count_of.ensures ∙ sym (pieces_count ps t.layout.names.items c.index-own.result.now is)
    ∙ ap (λ (xs : List (List ℕ)). length xs) (sym (part_at ps t.layout c.args.self.now c.self.view_is c.args.part c.index-own.result.now c.requires c.index-own.ensures))
