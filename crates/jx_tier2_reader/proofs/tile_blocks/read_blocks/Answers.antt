use Rattle.std.proofs.Common.{ℕ, List, subst, sym}
use Rattle.jx_progression.specs.declared.names.PacketName.{PacketName}
use Rattle.jx_codestream.specs.declared.Stream.{Stream}
use Rattle.jx_codestream.specs.Shapes.{tile_at}
use Rattle.jx_tile.specs.Covered.{IsListOf, IsWhole}
use Rattle.jx_tile.specs.Faults.{HasCause}
use Rattle.jx_tile.proofs.FrameLemmas.{frame_from, frame_totals, frame_to, inside_frame}
use Rattle.jx_tier2_reader.specs.Gathered.{AreTileBlocks, BreaksTile, head_pieces}
use Rattle.jx_tier2_reader.specs.InRange.{DataInRange, HeadsInRange}
use Rattle.jx_tier2_reader.proofs.BodyLemmas.{read_data}
use Rattle.jx_tier2_reader.proofs.HeadLemmas.{read_heads}
use Rattle.jx_tier2_reader.proofs.GatherLemmas.{cause_of_data, cause_of_lack, tile_sound}
use Rattle.jx_tier2_reader.proofs.tile_blocks.read_blocks.Goals as goal

pub returns-in-Err-clause-broken : goal.returns-in-Err-clause-broken
returns-in-Err-clause-broken c =
    cause_of_lack c.args.bytes.now c.args.frame.now.stream c.args.frame.now.number c.in-Err.fault c.in-Err.ensures.uncovered

pub read_tile-requires-clause-order : goal.read_tile-requires-clause-order
read_tile-requires-clause-order c =
    let L : List PacketName → Type 0 = λ xs. IsListOf c.args.frame.now.stream c.args.frame.now.number xs in
    let P : Stream → ℕ → Type 0 = λ s t. IsListOf s t c.deref.result.now in
    frame_to P c.args.frame.now c.parts.result.0.now c.parts.result.2.now c.parts.ensures.stream c.parts.ensures.geometry (subst L (sym c.deref.ensures.value) c.in-Ok.ensures.order)

pub read_tile-requires-clause-whole : goal.read_tile-requires-clause-whole
read_tile-requires-clause-whole c =
    let P : Stream → ℕ → Type 0 = λ s t. IsWhole s t in
    frame_to P c.args.frame.now c.parts.result.0.now c.parts.result.2.now c.parts.ensures.stream c.parts.ensures.geometry c.in-Ok.ensures.whole

pub read_tile-requires-clause-bodies : goal.read_tile-requires-clause-bodies
read_tile-requires-clause-bodies c =
    let P : Stream → ℕ → Type 0 = λ s t. DataInRange c.args.bytes.now (tile_at s t).bodies in
    let inside = inside_frame c.args.frame.now c.parts.result.0.now c.parts.result.1.now c.parts.result.2.now c.parts.ensures.stream c.parts.ensures.geometry c.parts.ensures.tile in
    frame_to P c.args.frame.now c.parts.result.0.now c.parts.result.2.now c.parts.ensures.stream c.parts.ensures.geometry
    (read_data c.args.bytes.now c.args.frame.now.stream c.args.frame.now.number c.requires.read inside)

pub read_tile-requires-clause-heads : goal.read_tile-requires-clause-heads
read_tile-requires-clause-heads c =
    let P : Stream → ℕ → Type 0 = λ s t. HeadsInRange c.args.bytes.now (head_pieces s t) in
    let inside = inside_frame c.args.frame.now c.parts.result.0.now c.parts.result.1.now c.parts.result.2.now c.parts.ensures.stream c.parts.ensures.geometry c.parts.ensures.tile in
    frame_to P c.args.frame.now c.parts.result.0.now c.parts.result.2.now c.parts.ensures.stream c.parts.ensures.geometry
    (read_heads c.args.bytes.now c.args.frame.now.stream c.args.frame.now.number c.requires.read inside)

pub returns-in-Ok-read_tile-clause-blocks : goal.returns-in-Ok-read_tile-clause-blocks
returns-in-Ok-read_tile-clause-blocks c =
    let P : Stream → ℕ → Type 0 = λ s t. AreTileBlocks c.args.bytes.now s t c.read_tile.new.blocks.items in
    frame_from P c.args.frame.now c.parts.result.0.now c.parts.result.2.now c.parts.ensures.stream c.parts.ensures.geometry c.in-Ok-read_tile.ensures.ok

pub returns-in-Ok-read_tile-clause-whole : goal.returns-in-Ok-read_tile-clause-whole
returns-in-Ok-read_tile-clause-whole c = c.in-Ok.ensures.whole

pub returns-in-Ok-read_tile-clause-sound : goal.returns-in-Ok-read_tile-clause-sound
returns-in-Ok-read_tile-clause-sound c =
    let f = c.args.frame.now in
    let P : Stream → ℕ → Type 0 = λ s t. AreTileBlocks c.args.bytes.now s t c.read_tile.new.blocks.items in
    let inside = inside_frame f c.parts.result.0.now c.parts.result.1.now c.parts.result.2.now c.parts.ensures.stream c.parts.ensures.geometry c.parts.ensures.tile in
    let totals = frame_totals f c.parts.result.0.now c.parts.result.1.now c.parts.result.2.now c.parts.ensures.stream c.parts.ensures.tile in
    tile_sound c.args.bytes.now f.stream f.number c.read_tile.new.blocks.items c.requires.read c.requires.fits inside totals
    (frame_from P f c.parts.result.0.now c.parts.result.2.now c.parts.ensures.stream c.parts.ensures.geometry c.in-Ok-read_tile.ensures.ok)

pub returns-clause-broken : goal.returns-clause-broken
returns-clause-broken c =
    let P : Stream → ℕ → Type 0 = λ s t. HasCause (BreaksTile c.args.bytes.now s t) c.in-Err-read_tile.fault in
    cause_of_data c.args.bytes.now c.args.frame.now.stream c.args.frame.now.number c.in-Err-read_tile.fault
    (frame_from P c.args.frame.now c.parts.result.0.now c.parts.result.2.now c.parts.ensures.stream c.parts.ensures.geometry c.in-Err-read_tile.ensures.err)
