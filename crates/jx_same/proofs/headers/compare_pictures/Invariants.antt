use Rattle.std.proofs.Common.{◌≡◌, None}
use Rattle.std.specs.List.{find}
use Rattle.jx_base.specs.Joined.{joined}
use Rattle.jx_same.specs.Items.{differs, size_items}
use Rattle.jx_same.specs.Sides.{meaning_in}
use Rattle.jx_same.proofs.headers.compare_pictures.Given as goal

abbrev pub invariant-loop-comp : goal.invariant-loop-comp
invariant-loop-comp l = find (differs (meaning_in l.a) (meaning_in l.b)) (joined size_items 0 l.comp) ≡ None
