use Rattle.std.proofs.Common.{◌≡◌, ◌≤◌, ◌+◌, length, take}
use Rattle.jx_tier2_writer.specs.Tile.{AreMade, first_block}
use Rattle.jx_rounds.specs.Rounds.{LeadOn}
use Rattle.jx_rounds.specs.Sent.{sent_from}
use Rattle.jx_rounds.proofs.rounds.push_tiles.Given as goal

abbrev pub invariant-loop-at : goal.invariant-loop-at
invariant-loop-at l = record {
  lead : LeadOn l.making l.tile l.at (sent_from l.tile l.tiles.items);
  count : l.tile + length l.tiles.items ≡ l.at;
  from : first_block l.making l.tile + l.from ≡ first_block l.making l.at;
  low : l.from ≤ length l.entries;
  made : AreMade (take l.from l.entries);
}
