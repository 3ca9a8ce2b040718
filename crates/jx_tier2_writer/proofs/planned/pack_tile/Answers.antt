use Rattle.std.proofs.Common.{◌≡◌, ℕ, List, map, subst, sym}
use Rattle.std.specs.List.{concat}
use Rattle.std.proofs.lemmas.Result.{IfOk-weaker}
use Rattle.jx_base.specs.declared.pieces.Block.{Block}
use Rattle.jx_codeblock.specs.Recoded.{WrittenBlock}
use Rattle.jx_codestream.specs.declared.Stream.{Stream}
use Rattle.jx_codestream.specs.Shapes.{geometry}
use Rattle.jx_options.specs.declared.Marks.{Marks}
use Rattle.jx_plan.specs.Plan.{Plan, headers_of}
use Rattle.jx_tier2_writer.specs.Assembled.{AreOwn, AreTileBytes}
use Rattle.jx_tier2_writer.specs.Assembled.{HasMoreBytes}
use Rattle.jx_tier2_writer.specs.Own.{AreOwnBlocks}
use Rattle.jx_tier2_writer.specs.Pieces.{blocks_lent}
use Rattle.jx_tier2_writer.specs.Tile.{AreAtMost, IsTile, StandIn, block_written, made_in}
use Rattle.jx_tier2_writer.proofs.EntryLemmas.{lent_blocks}
use Rattle.jx_tier2_writer.proofs.PlanLemmas.{is_tile, is_too_long}
use Rattle.jx_tier2_writer.proofs.planned.pack_tile.Goals as goal

pub returns-clause-parts : goal.returns-clause-parts
returns-clause-parts c =
    let p : Plan = c.args.plan.now in
    let t = c.args.tile in
    let s : Stream = c.tile_headers-headers.result.now in
    let values : List WrittenBlock = made_in c.args.values.now in
    let own : List Block = blocks_lent c.in_ok-blocks.blocks.items in
    let same : own ≡ map block_written values = lent_blocks c.in_ok-blocks.blocks.items values c.in_ok-blocks.ensures in
    IfOk-weaker c.pack_stream.result
    (λ out. (blocks : List Block) → AreOwn s t blocks own → (is : AreTileBytes c.marks.result s blocks t (map concat out)) × AreAtMost c.args.most is.parts)
    (λ out. (blocks : List Block) → StandIn blocks p t values → IsTile p blocks t c.args.most (map concat out))
    (λ out is blocks stand.
    let bytes : List (List ℕ) = map concat out in
    let O : List Block → Type 0 = λ xs. AreOwn s t blocks xs in
    let P : Stream → Type 0 = λ s. (x : AreTileBytes c.marks.result s blocks t bytes) × AreAtMost c.args.most x.parts in
    let Q : Marks → Type 0 = λ m. (x : AreTileBytes m (headers_of p) blocks t bytes) × AreAtMost c.args.most x.parts in
    is_tile p blocks t c.args.most bytes
    (subst Q c.marks.ensures (subst P c.tile_headers-headers.ensures.value (is blocks (subst O (sym same) (c.tile_headers-headers.ensures.stand blocks stand))))))
    c.pack_stream.ensures.value

pub returns-clause-long : goal.returns-clause-long
returns-clause-long c e blocks stand =
    let p : Plan = c.args.plan.now in
    let t = c.args.tile in
    let s : Stream = c.tile_headers-headers.result.now in
    let values : List WrittenBlock = made_in c.args.values.now in
    let own : List Block = blocks_lent c.in_ok-blocks.blocks.items in
    let same : own ≡ map block_written values = lent_blocks c.in_ok-blocks.blocks.items values c.in_ok-blocks.ensures in
    let O : List Block → Type 0 = λ xs. AreOwn s t blocks xs in
    let P : Stream → Type 0 = λ s. HasMoreBytes c.marks.result s blocks t c.args.most in
    let Q : Marks → Type 0 = λ m. HasMoreBytes m (headers_of p) blocks t c.args.most in
    is_too_long p blocks t c.args.most
    (subst Q c.marks.ensures (subst P c.tile_headers-headers.ensures.value (c.pack_stream.ensures.long e blocks (subst O (sym same) (c.tile_headers-headers.ensures.stand blocks stand)))))

pub pack_stream-requires-clause-main : goal.pack_stream-requires-clause-main
pack_stream-requires-clause-main c =
    let P : Stream → Type 0 = λ s. c.args.main.now ≡ record { siz = s.siz; main = s.main } in
    subst P (sym c.tile_headers-headers.ensures.value) c.requires.main

pub pack_stream-requires-clause-own : goal.pack_stream-requires-clause-own
pack_stream-requires-clause-own c =
    let s : Stream = c.tile_headers-headers.result.now in
    let values : List WrittenBlock = made_in c.args.values.now in
    let P : List Block → Type 0 = λ xs. AreOwnBlocks s (geometry s c.args.tile) xs in
    subst P (sym (lent_blocks c.in_ok-blocks.blocks.items values c.in_ok-blocks.ensures)) c.tile_headers-headers.ensures.own
