use Rattle.std.proofs.Common.{◌<◌, ℕ, subst, sym}
use Rattle.jx_mq.proofs.States.{next_is_at, next_below}
use Rattle.jx_mq.proofs.table.state_after.Goals as goal

pub returns-clause-state : goal.returns-clause-state
returns-clause-state c = next_is_at c.args.state c.args.a c.args.is_mps c.requires c.ranges.a.fits

pub returns-clause-known : goal.returns-clause-known
returns-clause-known c = subst (λ (n : ℕ). n < 94) (sym (next_is_at c.args.state c.args.a c.args.is_mps c.requires c.ranges.a.fits)) (next_below _ _ _ c.requires)
