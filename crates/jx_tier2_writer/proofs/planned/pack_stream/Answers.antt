use Rattle.std.proofs.Common.{◌≡◌, ◌∙◌, ℕ, List, [], All, map, length, ap, sym, subst}
use Rattle.std.specs.Borrow.{Bor}
use Rattle.std.specs.List.{concat}
use Rattle.jx_base.specs.declared.pieces.Block.{Block}
use Rattle.jx_codeblock.specs.Recoded.{WrittenBlock}
use Rattle.jx_geom.specs.Geometry.{Geometry}
use Rattle.jx_progression.specs.Packets.{IsPacketName}
use Rattle.jx_codestream.specs.declared.Stream.{Stream}
use Rattle.jx_codestream.specs.declared.headers.HeaderKind.TheVariants.{First}
use Rattle.jx_codestream.specs.Params.{header_of}
use Rattle.jx_codestream.specs.Shapes.{geometry, layers_of}
use Rattle.jx_codestream.specs.Spells.{AreSegments}
use Rattle.jx_tile.specs.Covered.{IsListOf}
use Rattle.jx_tile.specs.Frame.{TileOf}
use Rattle.jx_tile.proofs.FrameLemmas.{frame_to, parts_from, parts_to}
use Rattle.jx_tile_parts.specs.Groups.{HasFewParts}
use Rattle.jx_tier2_writer.specs.Assembled.{AreOwn, AreTileBytes, HasMoreBytes}
use Rattle.jx_tier2_writer.specs.Own.{AreOwnBlocks}
use Rattle.jx_tier2_writer.specs.Packed.{own_packets}
use Rattle.jx_tier2_writer.specs.Pieces.{IsLayout, blocks_lent, bytes_lent, tile_pieces}
use Rattle.jx_tier2_writer.specs.Tile.{AreAtMost}
use Rattle.jx_tier2_writer.specs.declared.assemble.Layout.{Layout}
use Rattle.jx_tier2_writer.specs.declared.tile.AssembleFault.TheVariants.{TooLong}
use Rattle.jx_tier2_writer.proofs.CutLemmas.{same_fault}
use Rattle.jx_tier2_writer.proofs.planned.pack_stream.Goals as goal

pub pack_values-requires-clause-order : goal.pack_values-requires-clause-order
pack_values-requires-clause-order c =
    let P : Stream → ℕ → Type 0 = λ s t. IsListOf s t c.in-Ok.names.items in
    frame_to P c.in_ok-frame.frame c.parts.result.0.now c.parts.result.2.now c.parts.ensures.stream c.parts.ensures.geometry c.in-Ok.ensures.order

pub pack_values-requires-clause-each : goal.pack_values-requires-clause-each
pack_values-requires-clause-each c =
    let f : TileOf = c.in_ok-frame.frame in
    let P : Stream → Geometry → Type 0 = λ s g. All (IsPacketName g (layers_of s g.tile)) c.in-Ok.names.items in
    parts_to P c.parts.result.0.now f.stream c.parts.result.2.now (geometry f.stream f.number) c.parts.ensures.stream c.parts.ensures.geometry c.in-Ok.ensures.each

pub pack_values-requires-clause-header : goal.pack_values-requires-clause-header
pack_values-requires-clause-header c =
    let s : Stream = c.args.stream.now in
    let P : Stream → Geometry → Type 0 = λ x g. AreSegments First (length x.siz.comps) [] (header_of x g.tile) in
    parts_to P c.parts.result.0.now s c.parts.result.2.now (geometry s c.args.tile) (c.parts.ensures.stream ∙ ap (λ (f : TileOf). f.stream) c.in_ok-frame.ensures)
    (c.parts.ensures.geometry ∙ ap (λ (f : TileOf). geometry f.stream f.number) c.in_ok-frame.ensures) c.requires.header

pub pack_values-requires-clause-own : goal.pack_values-requires-clause-own
pack_values-requires-clause-own c =
    let s : Stream = c.args.stream.now in
    let P : Stream → Geometry → Type 0 = λ x g. AreOwnBlocks x g (blocks_lent c.deref.result.now) in
    let Q : List (Bor WrittenBlock) → Type 0 = λ refs. AreOwnBlocks s (geometry s c.args.tile) (blocks_lent refs) in
    parts_to P c.parts.result.0.now s c.parts.result.2.now (geometry s c.args.tile) (c.parts.ensures.stream ∙ ap (λ (f : TileOf). f.stream) c.in_ok-frame.ensures)
    (c.parts.ensures.geometry ∙ ap (λ (f : TileOf). geometry f.stream f.number) c.in_ok-frame.ensures) (subst Q (sym c.deref.ensures.value) c.requires.own)

pub pack_values-requires-clause-few : goal.pack_values-requires-clause-few
pack_values-requires-clause-few c =
    let s : Stream = c.args.stream.now in
    let P : Stream → Geometry → Type 0 = λ x g. HasFewParts c.args.marks.parts x g.tile in
    parts_to P c.parts.result.0.now s c.parts.result.2.now (geometry s c.args.tile) (c.parts.ensures.stream ∙ ap (λ (f : TileOf). f.stream) c.in_ok-frame.ensures)
    (c.parts.ensures.geometry ∙ ap (λ (f : TileOf). geometry f.stream f.number) c.in_ok-frame.ensures) c.requires.few

pub returns-clause-value : goal.returns-clause-value
returns-clause-value c all are =
    let s : Stream = c.args.stream.now in
    let m = c.args.marks in
    let made : Geometry = c.into_geometry.result in
    let layout : Layout = c.in-Ok-pack_values.layout in
    let stream = c.parts.ensures.stream ∙ ap (λ (f : TileOf). f.stream) c.in_ok-frame.ensures in
    let is : made ≡ geometry s c.args.tile = c.into_geometry.ensures ∙ ap (λ (f : TileOf). geometry f.stream f.number) c.in_ok-frame.ensures in
    let same : c.parts.result.2.now ≡ made = c.parts.ensures.geometry ∙ ap (λ (f : TileOf). geometry f.stream f.number) c.in_ok-frame.ensures ∙ sym is in
    let refs : List (Bor WrittenBlock) = c.deref.result.now in
    let P : Stream → Geometry → Type 0 = λ x g. (all : List Block) → AreOwn x g.tile all (blocks_lent refs)
    → (is : AreTileBytes m x all g.tile (map concat (tile_pieces (own_packets m x g (blocks_lent refs)) layout))) × AreAtMost c.args.most is.parts in
    let Q : ℕ → List (Bor WrittenBlock) → Type 0 = λ t lent. (all : List Block) → AreOwn s t all (blocks_lent lent)
    → (is : AreTileBytes m s all t (map concat (tile_pieces (own_packets m s made (blocks_lent lent)) layout))) × AreAtMost c.args.most is.parts in
    let here : Q made.tile refs = parts_from P c.parts.result.0.now s c.parts.result.2.now made stream same c.in-Ok-pack_values.ensures.value in
    subst (λ (t : ℕ). Q t c.args.blocks.items) (ap (λ (g : Geometry). g.tile) is) (subst (λ (lent : List (Bor WrittenBlock)). Q made.tile lent) c.deref.ensures.value here) all are

pub returns-in-Err-pack_values-clause-long : goal.returns-in-Err-pack_values-clause-long
returns-in-Err-pack_values-clause-long c is all are =
    let s : Stream = c.args.stream.now in
    let refs : List (Bor WrittenBlock) = c.deref.result.now in
    let stream = c.parts.ensures.stream ∙ ap (λ (f : TileOf). f.stream) c.in_ok-frame.ensures in
    let same = c.parts.ensures.geometry ∙ ap (λ (f : TileOf). geometry f.stream f.number) c.in_ok-frame.ensures in
    let P : Stream → Geometry → Type 0 = λ x g. (all : List Block) → AreOwn x g.tile all (blocks_lent refs) → HasMoreBytes c.args.marks x all g.tile c.args.most in
    let Q : List (Bor WrittenBlock) → Type 0 = λ lent. (all : List Block) → AreOwn s c.args.tile all (blocks_lent lent) → HasMoreBytes c.args.marks s all c.args.tile c.args.most in
    let here : Q refs = parts_from P c.parts.result.0.now s c.parts.result.2.now (geometry s c.args.tile) stream same
    (c.pack_values.ensures.long (same_fault c.pack_values.result c.in-Err-pack_values.fault TooLong c.in-Err-pack_values.is is)) in
    subst Q c.deref.ensures.value here all are

pub invariant_of-result : goal.invariant_of-result
invariant_of-result c =
    let s : Stream = c.args.stream.now in
    let made : Geometry = c.into_geometry.result in
    let stream = c.parts.ensures.stream ∙ ap (λ (f : TileOf). f.stream) c.in_ok-frame.ensures in
    let is : made ≡ geometry s c.args.tile = c.into_geometry.ensures ∙ ap (λ (f : TileOf). geometry f.stream f.number) c.in_ok-frame.ensures in
    let same : c.parts.result.2.now ≡ made = c.parts.ensures.geometry ∙ ap (λ (f : TileOf). geometry f.stream f.number) c.in_ok-frame.ensures ∙ sym is in
    let refs : List (Bor WrittenBlock) = c.deref.result.now in
    let P : Stream → Geometry → Type 0 = λ x g. IsLayout c.args.marks x g (blocks_lent refs) (bytes_lent refs) c.in-Ok-pack_values.layout in
    let Q : List (Bor WrittenBlock) → Type 0 = λ lent. IsLayout c.args.marks s made (blocks_lent lent) (bytes_lent lent) c.in-Ok-pack_values.layout in
    subst Q c.deref.ensures.value (parts_from P c.parts.result.0.now s c.parts.result.2.now made stream same c.in-Ok-pack_values.ensures.layout)
