use Rattle.std.proofs.Common.{List, subst, sym}
use Rattle.jx_marker.specs.declared.Segment.{Segment}
use Rattle.jx_codestream.specs.InRange.{HeadersInRange}
use Rattle.jx_codestream.specs.TileHeaders.{with_own}
use Rattle.jx_codestream.proofs.view.TileView.new.Goals as goal

pub invariant_of-result : goal.invariant_of-result
invariant_of-result c =
    let P : List Segment → Type 0 = λ x. HeadersInRange (with_own c.args.main.now x) in
    (subst P (sym c.in_ok-own.ensures) c.requires, c.in_ok-shapes.ensures)
