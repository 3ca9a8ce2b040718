use Rattle.std.proofs.Common.{subst}
use Rattle.std.specs.Prelude.{IfErr, OnOk}
use Rattle.jx_codestream.specs.declared.faults.StreamFault.{StreamFault}
use Rattle.jx_tile.specs.Covered.{IsWhole, LacksPacket}
use Rattle.jx_tile.specs.Faults.{HasCause}
use Rattle.jx_tile.specs.Frame.{TileOf}
use Rattle.jx_plan.proofs.strays.check_tile.Goals as goal

pub returns-clause-whole : goal.returns-clause-whole
returns-clause-whole c = subst (λ (f : TileOf). OnOk c.check-result.result (IsWhole f.stream f.number)) c.in_ok-frame.ensures c.check-result.ensures.whole

pub returns-clause-uncovered : goal.returns-clause-uncovered
returns-clause-uncovered c =
    subst (λ (f : TileOf). IfErr c.check-result.result (λ (e : StreamFault). HasCause (LacksPacket f.stream f.number) e)) c.in_ok-frame.ensures c.check-result.ensures.uncovered
