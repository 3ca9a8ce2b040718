-- Every place stands for itself where the step is 1; and where no place stands for any.
use Rattle.std.proofs.Common.{◌≡◌, ℕ, ◌*◌, ◌≤◌, ◌<◌, ap, sym, ◌∙◌, arith}
use Rattle.jx_base.specs.declared.names.Span.{Span}
use Rattle.jx_base.specs.Numbers.{ceil_of}
use Rattle.jx_base.specs.Places.{span_of, length_of}
use Rattle.jx_base.proofs.Ceilings.{ceil_least, ceil_from}
use Rattle.jx_geom.specs.Spans.{scaled}

pub one_step : (n : ℕ) → ceil_of n 1 ≡ n
unfolding ceil_of
one_step n = omega arith

pub scaled_by_one : (s : Span) (step : ℕ) → step ≡ 1 → s ≡ scaled s step
unfolding scaled
scaled_by_one s step e =
    sym (ap (λ (n : ℕ). scaled s n) e ∙ ap (λ (n : ℕ). span_of n (ceil_of s.high 1)) (one_step s.low) ∙ ap (λ (n : ℕ). span_of s.low n) (one_step s.high))

-- the first multiple from the low end on isn't below the high end
pub none_from : (s : Span) (step : ℕ) → 0 < step → s.high ≤ ceil_of s.low step * step → length_of (scaled s step) ≡ 0
unfolding scaled
none_from s step h far = omega (arith, ceil_least s.high step (ceil_of s.low step) h far)

pub none_to : (s : Span) (step : ℕ) → 0 < step → length_of (scaled s step) ≡ 0 → s.high ≤ ceil_of s.low step * step
unfolding scaled
none_to s step h e =
    let below : ceil_of s.high step ≤ ceil_of s.low step = omega arith in
    ceil_from s.high step (ceil_of s.low step) h below
