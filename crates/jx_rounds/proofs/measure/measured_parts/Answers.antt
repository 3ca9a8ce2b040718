use Rattle.std.proofs.Common.{Err, ap}
use Rattle.jx_rounds.specs.declared.halt.Halt.{Halt}
use Rattle.jx_rounds.proofs.MeasureLemmas.{measured_of, unmeasured}
use Rattle.jx_rounds.proofs.measure.measured_parts.Goals as goal

pub returns-in-Ok-clause-ok : goal.returns-in-Ok-clause-ok
returns-in-Ok-clause-ok g c = measured_of c.args.making.now _ _ _ _ _ _ c.in-Ok.ensures.ok c.into_parts.result.items c.asked-lengths.ensures c.into_parts.ensures

pub returns-in-Err-clause-err : goal.returns-in-Err-clause-err
returns-in-Err-clause-err g c = unmeasured c.args.making.now c.in-Err.halt _ _ (λ failed. c.in-Err.ensures.cause (ap (λ (h : Halt). Err h) failed)) c.in-Err.ensures.err
