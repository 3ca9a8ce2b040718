use Rattle.std.proofs.Common.{◌≡◌, All, List, [], arith, map, length, subst}
use Rattle.std.specs.List.{concat}
use Rattle.jx_base.specs.declared.pieces.Block.{Block}
use Rattle.jx_geom.specs.Geometry.{GeometryInRange}
use Rattle.jx_progression.specs.declared.names.PacketName.{PacketName}
use Rattle.jx_codestream.specs.declared.headers.HeaderKind.TheVariants.{First}
use Rattle.jx_codestream.specs.Params.{header_of}
use Rattle.jx_codestream.specs.Spells.{part_bytes}
use Rattle.jx_tier2_writer.specs.Packed.{own_packets, own_parts}
use Rattle.jx_tier2_writer.specs.Pieces.{IsPartOut, pieces_with}
use Rattle.jx_tier2_writer.specs.Tile.{AreAtMost}
use Rattle.jx_tier2_writer.specs.declared.tile_part.PartOut.{PartOut}
use Rattle.jx_tier2_writer.proofs.AssembledLemmas.{tile_bytes, too_long}
use Rattle.jx_tier2_writer.proofs.CutLemmas.{same_fault}
use Rattle.jx_codestream.proofs.SegmentLemmas.{segments_fit as all_in_range}
use Rattle.jx_tier2_writer.specs.declared.tile.AssembleFault.TheVariants.{TooLong}
use Rattle.jx_tier2_writer.proofs.assemble.pack_values.Goals as goal

pub pack_named-requires-clause-header : goal.pack_named-requires-clause-header
pack_named-requires-clause-header g c =
    all_in_range First (length c.args.stream.now.siz.comps) [] (header_of c.args.stream.now c.args.geom.now.tile) c.requires.header

pub returns-clause-layout : goal.returns-clause-layout
returns-clause-layout g c =
    let own : List Block = map g.B.Coded.block c.args.values.now in
    let ps = own_packets c.args.marks c.args.stream.now c.args.geom.now own in
    let P : List PacketName → Type 0 = λ ns. All (IsPartOut ps ns) c.in-Ok-pack_named.parts.items in
    record { sent = c.in-Ok.ensures; each = c.requires.each; few = c.requires.short; parts = subst P c.deref-2.ensures.value c.in-Ok-pack_named.ensures.parts }

pub returns-clause-value : goal.returns-clause-value
returns-clause-value g c blocks are =
    let s = c.args.stream.now in
    let geom = c.args.geom.now in
    let own : List Block = map g.B.Coded.block c.args.values.now in
    let names : List PacketName = c.args.names.items in
    let parts : List PartOut = c.in-Ok-pack_named.parts.items in
    let ps = own_packets c.args.marks s geom own in
    let Q : List PacketName → Type 0 = λ ns. AreAtMost c.args.most (own_parts c.args.marks s geom own ns) in
    let R : List PacketName → Type 0 = λ ns. map concat (pieces_with ps ns parts) ≡ map (part_bytes (length s.siz.comps)) (own_parts c.args.marks s geom own ns) in
    let limits : GeometryInRange geom = c.requires.tile.limits in
    tile_bytes c.args.marks s geom blocks own names c.args.most (map concat (pieces_with ps names parts)) c.requires.tile.geometry limits are c.requires.each c.requires.order
    (subst R c.deref-2.ensures.value c.in-Ok-pack_named.ensures.value) (subst Q c.deref-2.ensures.value c.in-Ok-pack_named.ensures.short)

pub returns-in-Err-pack_named-clause-long : goal.returns-in-Err-pack_named-clause-long
returns-in-Err-pack_named-clause-long g c e blocks are =
    let s = c.args.stream.now in
    let geom = c.args.geom.now in
    let own : List Block = map g.B.Coded.block c.args.values.now in
    let limits : GeometryInRange geom = c.requires.tile.limits in
    let Q : List PacketName → Type 0 = λ ns. AreAtMost c.args.most (own_parts c.args.marks s geom own ns) → ⊥ in
    too_long c.args.marks s geom blocks own c.args.names.items c.args.most c.requires.tile.geometry limits are c.requires.each c.requires.order
    (subst Q c.deref-2.ensures.value (c.pack_named.ensures.long (same_fault c.pack_named.result c.in-Err-pack_named.fault TooLong c.in-Err-pack_named.is e)))

pub pack_named-requires-clause-comps : goal.pack_named-requires-clause-comps
pack_named-requires-clause-comps g c = c.requires.tile.range.few_comps

pub pack_named-requires-clause-tile : goal.pack_named-requires-clause-tile
pack_named-requires-clause-tile g c = omega (arith, c.requires.tile.tile, c.requires.tile.range.tiles)
