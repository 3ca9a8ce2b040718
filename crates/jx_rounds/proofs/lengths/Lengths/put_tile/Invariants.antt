use Rattle.std.proofs.Common.{◌≡◌, drop, map}
use Rattle.std.specs.List.{concat}
use Rattle.jx_rounds.specs.Sent.{lengths_behind, sent_of}
use Rattle.jx_rounds.proofs.lengths.Lengths.put_tile.Given as goal

abbrev pub invariant-loop-part : goal.invariant-loop-part
invariant-loop-part l = lengths_behind (sent_of l.tile (map concat (drop l.part l.packed))) l.self ≡ lengths_behind (sent_of l.tile (map concat l.packed)) l.initial.self
