use Rattle.std.proofs.Common.{◌≡◌, ◌+◌, ◌<◌, length}
use Rattle.jx_rounds.specs.MadeRounds.{AreOfRound, IsRoundAt}
use Rattle.jx_rounds.proofs.rounds.put_counts.Given as goal

abbrev pub invariant-loop-at : goal.invariant-loop-at
invariant-loop-at l = record {
  of : AreOfRound l.making l.tile l.each.items l.all;
  place : l.at ≡ l.tile + length l.each.items;
  round : IsRoundAt l.making l.at l.tile l.all l.room;
  few : l.all < 4096;
}
