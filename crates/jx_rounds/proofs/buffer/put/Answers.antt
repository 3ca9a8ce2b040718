use Rattle.std.proofs.Common.{arith}
use Rattle.jx_rounds.proofs.WriteLemmas.{halt_fault, refused_cause, refused_rose, unrisen}
use Rattle.jx_rounds.proofs.buffer.put.Goals as goal

pub returns-in-Ok-clause-same : goal.returns-in-Ok-clause-same
returns-in-Ok-clause-same g c = unrisen _ _ _ c.in-Ok.ensures.cause

pub returns-in-Err-clause-fault : goal.returns-in-Err-clause-fault
returns-in-Err-clause-fault g c = halt_fault c.halt_of.result c.in-Err.refused c.halt_of.ensures

pub returns-in-Err-clause-cause : goal.returns-in-Err-clause-cause
returns-in-Err-clause-cause g c = refused_cause _ _ c.halt_of.result c.in-Err.refused c.halt_of.ensures c.in-Err.ensures.cause

pub returns-in-Ok-clause-rose : goal.returns-in-Ok-clause-rose
returns-in-Ok-clause-rose g c = λ rose. absurd (omega (arith, unrisen _ _ _ c.in-Ok.ensures.cause, rose))

pub returns-in-Err-clause-rose : goal.returns-in-Err-clause-rose
returns-in-Err-clause-rose g c = refused_rose _ _ c.halt_of.result c.in-Err.refused c.halt_of.ensures c.in-Err.ensures.cause
