use Rattle.std.proofs.Common.{◌≡◌, ◌+◌, drop, eqb}
use Rattle.std.specs.List.{position_or_len}
use Rattle.jx_options.proofs.parts.first_place.Given as goal

abbrev pub invariant-loop-place : goal.invariant-loop-place
invariant-loop-place l = position_or_len (λ b. eqb b l.separator) l.text ≡ l.place + position_or_len (λ b. eqb b l.separator) (drop l.place l.text)
