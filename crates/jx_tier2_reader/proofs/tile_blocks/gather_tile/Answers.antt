use Rattle.std.proofs.Common.{subst, sym}
use Rattle.std.specs.Prelude.{IfErr, IfOk, OnOk}
use Rattle.std.specs.Global.{Vec}
use Rattle.jx_base.specs.declared.pieces.Block.{Block}
use Rattle.jx_codestream.specs.Read.{IsRead}
use Rattle.jx_codestream.specs.declared.faults.StreamFault.{StreamFault}
use Rattle.jx_tile.specs.Covered.{IsWhole}
use Rattle.jx_tile.specs.Faults.{HasCause}
use Rattle.jx_tile.specs.Frame.{TileOf}
use Rattle.jx_tier2_reader.specs.Gathered.{AreTileBlocks}
use Rattle.jx_tier2_reader.specs.Joined.{RefusesTile}
use Rattle.jx_tier2_reader.proofs.tile_blocks.gather_tile.Goals as goal

pub read_blocks-result-requires-clause-read : goal.read_blocks-result-requires-clause-read
read_blocks-result-requires-clause-read c = subst (λ (f : TileOf). IsRead c.args.bytes.now f.stream) (sym c.in_ok-frame.ensures) c.requires.read

pub returns-clause-blocks : goal.returns-clause-blocks
returns-clause-blocks c =
    subst (λ (f : TileOf). IfOk c.read_blocks-result.result (λ (blocks : Vec Block). AreTileBlocks c.args.bytes.now f.stream f.number blocks.items))
    c.in_ok-frame.ensures c.read_blocks-result.ensures.blocks

pub returns-clause-whole : goal.returns-clause-whole
returns-clause-whole c =
    subst (λ (f : TileOf). OnOk c.read_blocks-result.result (IsWhole f.stream f.number)) c.in_ok-frame.ensures c.read_blocks-result.ensures.whole

pub returns-clause-broken : goal.returns-clause-broken
returns-clause-broken c =
    subst (λ (f : TileOf). IfErr c.read_blocks-result.result (λ (e : StreamFault). HasCause (RefusesTile c.args.bytes.now f.stream f.number) e))
    c.in_ok-frame.ensures c.read_blocks-result.ensures.broken
