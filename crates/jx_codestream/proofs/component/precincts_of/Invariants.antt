use Rattle.std.proofs.Common.{◌≡◌, ◌<◌, ℕ, length, get_or}
use Rattle.jx_codestream.specs.Params.{precinct_of}
use Rattle.jx_codestream.proofs.component.precincts_of.Given as goal

abbrev pub invariant-loop-res : goal.invariant-loop-res
invariant-loop-res l = record {
  size : length l.precincts ≡ 33;
  each : (k : ℕ) → k < l.res → get_or l.precincts k 0 ≡ precinct_of l.bytes k;
}
