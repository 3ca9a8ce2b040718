use Rattle.std.proofs.Common.{◌≡◌, ◌≤◌}
use Rattle.jx_layers.specs.Cuts.{goes_on}
use Rattle.jx_layers.specs.Texts.{parts_of, rising_in}
use Rattle.jx_layers.proofs.texts.cuts_after.Given as goal

abbrev pub invariant-loop-turn : goal.invariant-loop-turn
invariant-loop-turn l = record {
  count : l.cuts.count ≡ l._turn;
  few : l.cuts.count ≤ 32;
  so_far : goes_on l.cuts (parts_of l.rest) ≡ rising_in 0 32 (parts_of l.text);
}
