use Rattle.std.proofs.Common.{◌≡◌, ◌∙◌, sym, ap, nat_lt, ℕ, List, Some, None}
use Rattle.std.specs.List.{find}
use Rattle.jx_codestream.specs.Params.{tile_planes}
use Rattle.jx_codestream.proofs.ScanLemmas.{planes_here, planes_later, tile_list}
use Rattle.jx_codestream.proofs.checks.check_planes.Goals as goal

pub returns-in-Some : goal.returns-in-Some
returns-in-Some c =
    let found : find (nat_lt 74) (tile_planes c.args.main.now.segments.now c.args.comps c.tile-item.result) ≡ Some c.in-Some.planes =
    sym (ap (λ (x : List ℕ). find (nat_lt 74) x) (tile_list c.args.main.now.segments.now c.as_slice.result.now c.args.comps c.tile-item.result c.as_slice.ensures)) ∙ sym c.in_ok-planes.ensures ∙ c.in-Some.is in
    rw c.from.ensures (planes_here (nat_lt 74) (tile_planes c.args.main.now.segments.now c.args.comps) c.args.tiles.now c.loop-tile.tile-index c.tile-item.result c.in-Some.planes c.loop-tile-test.true c.tile-item.is found c.loop-tile.invariant)

pub loop-tile-preserved : goal.loop-tile-preserved
loop-tile-preserved c =
    let found : find (nat_lt 74) (tile_planes c.args.main.now.segments.now c.args.comps c.tile-item.result) ≡ None =
    sym (ap (λ (x : List ℕ). find (nat_lt 74) x) (tile_list c.args.main.now.segments.now c.as_slice.result.now c.args.comps c.tile-item.result c.as_slice.ensures)) ∙ sym c.in_ok-planes.ensures ∙ c.in_default.is in
    planes_later (nat_lt 74) (tile_planes c.args.main.now.segments.now c.args.comps) c.args.tiles.now c.loop-tile.tile-index c.tile-item.result c.loop-tile-test.true c.tile-item.is found c.loop-tile.invariant
