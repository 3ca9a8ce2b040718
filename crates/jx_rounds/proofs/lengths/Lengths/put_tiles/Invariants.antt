use Rattle.std.proofs.Common.{◌≡◌, ◌+◌, drop}
use Rattle.jx_rounds.specs.Sent.{lengths_behind, sent_from}
use Rattle.jx_rounds.proofs.lengths.Lengths.put_tiles.Given as goal

abbrev pub invariant-loop-packed : goal.invariant-loop-packed
invariant-loop-packed l = record {
  at : l.tile ≡ l.first + l.packed-index;
  put : lengths_behind (sent_from l.tile (drop l.packed-index l.tiles)) l.self ≡ lengths_behind (sent_from l.first l.tiles) l.initial.self;
}
