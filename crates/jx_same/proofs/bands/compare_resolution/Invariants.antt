use Rattle.std.proofs.Common.{◌≡◌, None, take}
use Rattle.std.specs.List.{find, flat_map}
use Rattle.jx_same.specs.Items.{band_items, differs}
use Rattle.jx_same.specs.Sides.{geometry_at, meaning_at}
use Rattle.jx_same.proofs.bands.compare_resolution.Given as goal

abbrev pub invariant-loop-band : goal.invariant-loop-band
invariant-loop-band g l = find (differs (meaning_at l.a) (meaning_at l.b)) (flat_map (band_items (geometry_at l.a) l.comp l.res) (take l.band-index l.bands)) ≡ None
