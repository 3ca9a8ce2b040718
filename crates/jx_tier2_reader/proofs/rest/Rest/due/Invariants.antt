use Rattle.std.proofs.Common.{◌≡◌, ◌∷◌, length}
use Rattle.jx_tier2_reader.specs.Data.{due}
use Rattle.jx_tier2_reader.specs.Reading.{seen}
use Rattle.jx_tier2_reader.proofs.rest.Rest.due.Given as goal

abbrev pub invariant-loop-self : goal.invariant-loop-self
invariant-loop-self l = record {
  same : due (l.self-inside.body ∷ l.self-inside.later.now) ≡ due l.fn.self.bodies;
  end : l.self-inside.end ≡ l.fn.self.end;
  packed : seen l.self-inside.packed ≡ l.fn.self.packed;
  states : l.self-inside.precincts.items ≡ l.fn.self.states;
}

abbrev pub decreases-loop-self : goal.decreases-loop-self
decreases-loop-self l = length l.self-inside.later.now
