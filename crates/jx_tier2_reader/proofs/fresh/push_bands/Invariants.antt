use Rattle.std.proofs.Common.{◌≡◌, ◌++◌, take, []}
use Rattle.std.specs.List.{flat_map}
use Rattle.jx_tier2_reader.specs.Blocks.{blocks_of_band}
use Rattle.jx_tier2_reader.proofs.fresh.push_bands.Given as goal

abbrev pub invariant-loop-band : goal.invariant-loop-band
invariant-loop-band l = l.list.items ≡ l.initial.list.items ++ flat_map (blocks_of_band l.stream l.geom [] l.comp l.res) (take l.band-index l.bands)
