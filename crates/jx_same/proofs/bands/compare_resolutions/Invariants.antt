use Rattle.std.proofs.Common.{◌≡◌, None}
use Rattle.std.specs.List.{find}
use Rattle.jx_base.specs.Joined.{joined}
use Rattle.jx_same.specs.Items.{differs, resolution_items}
use Rattle.jx_same.specs.Sides.{geometry_at, meaning_at}
use Rattle.jx_same.proofs.bands.compare_resolutions.Given as goal

abbrev pub invariant-loop-res : goal.invariant-loop-res
invariant-loop-res g l = find (differs (meaning_at l.a) (meaning_at l.b)) (joined (resolution_items (geometry_at l.a) l.comp) 0 l.res) ≡ None
