use Rattle.std.proofs.Common.{◌≡◌, drop}
use Rattle.jx_tier2_reader.specs.Data.{end_of_bytes, first_place}
use Rattle.jx_tier2_reader.proofs.heads.end_of_bytes.Given as goal

abbrev pub invariant-loop-body : goal.invariant-loop-body
invariant-loop-body l = end_of_bytes l.end (drop l.body-index l.bodies) ≡ end_of_bytes (first_place l.bodies) l.bodies
