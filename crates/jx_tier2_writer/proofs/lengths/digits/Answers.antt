use Rattle.std.proofs.Common.{◌≡◌, ℕ, ◌∙◌, ap, arith}
use Rattle.jx_packet_header.specs.Words.{powers, size}
use Rattle.jx_tier2_writer.proofs.lengths.digits.Goals as goal

pub returns-clause-value : goal.returns-clause-value
unfolding size
returns-clause-value c = let e : c.loop-place.place ≡ 32 = omega arith in c.loop-place.invariant.0 ∙ ap (λ (k : ℕ). powers k c.args.number) e
