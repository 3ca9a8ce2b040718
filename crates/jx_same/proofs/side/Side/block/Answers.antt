use Rattle.std.proofs.Common.{◌≡◌, ◌<◌, sym, subst, arith}
use Rattle.jx_base.specs.Places.{size_of}
use Rattle.jx_geom.specs.Geometry.{blocks_in}
use Rattle.jx_same.specs.Items.{rect_in}
use Rattle.jx_same.specs.Sides.{Covers, HasBandOf, SideValue, geometry_at}
use Rattle.jx_same.proofs.SampleLemmas.{IsCounted, counted_found, counted_inside}
use Rattle.jx_same.proofs.side.Side.block.Goals as goal

pub overflow_add-number : goal.overflow_add-number
overflow_add-number c =
    let v : SideValue = record { stream = c.self.inside.frame.stream; blocks = c.self.inside.blocks.now; tile = c.self.inside.frame.number } in
    let name = c.args.name in
    let is : c.args.self.now ≡ v = sym c.self.view_is in
    let counted : IsCounted v name c.number.result c.args.index c.self.inside.first c.block_number.result c.parts.result.2.now = record {
      side = c.self.invariant.0;
      before = c.self.invariant.1;
      own = c.block_number.ensures.value;
      geometry = c.parts.ensures.geometry;
      tile = c.number.ensures;
      band = subst (λ (u : SideValue). HasBandOf u name) is c.requires.band;
      index = subst (λ (u : SideValue). c.args.index < size_of (blocks_in (geometry_at u) name.comp name.res name.band)) is c.requires.index;
    } in
    let inside = counted_inside v name c.number.result c.args.index c.self.inside.first c.block_number.result c.parts.result.2.now counted in
    omega (arith, inside.0, inside.1)

pub offset_bounds-blocks-number : goal.offset_bounds-blocks-number
offset_bounds-blocks-number c =
    let v : SideValue = record { stream = c.self.inside.frame.stream; blocks = c.self.inside.blocks.now; tile = c.self.inside.frame.number } in
    let name = c.args.name in
    let is : c.args.self.now ≡ v = sym c.self.view_is in
    let counted : IsCounted v name c.number.result c.args.index c.self.inside.first c.block_number.result c.parts.result.2.now = record {
      side = c.self.invariant.0;
      before = c.self.invariant.1;
      own = c.block_number.ensures.value;
      geometry = c.parts.ensures.geometry;
      tile = c.number.ensures;
      band = subst (λ (u : SideValue). HasBandOf u name) is c.requires.band;
      index = subst (λ (u : SideValue). c.args.index < size_of (blocks_in (geometry_at u) name.comp name.res name.band)) is c.requires.index;
    } in
    let inside = counted_inside v name c.number.result c.args.index c.self.inside.first c.block_number.result c.parts.result.2.now counted in
    omega (arith, inside.0, inside.1)

pub bounds-blocks-number : goal.bounds-blocks-number
bounds-blocks-number c =
    let v : SideValue = record { stream = c.self.inside.frame.stream; blocks = c.self.inside.blocks.now; tile = c.self.inside.frame.number } in
    let name = c.args.name in
    let is : c.args.self.now ≡ v = sym c.self.view_is in
    let counted : IsCounted v name c.number.result c.args.index c.self.inside.first c.block_number.result c.parts.result.2.now = record {
      side = c.self.invariant.0;
      before = c.self.invariant.1;
      own = c.block_number.ensures.value;
      geometry = c.parts.ensures.geometry;
      tile = c.number.ensures;
      band = subst (λ (u : SideValue). HasBandOf u name) is c.requires.band;
      index = subst (λ (u : SideValue). c.args.index < size_of (blocks_in (geometry_at u) name.comp name.res name.band)) is c.requires.index;
    } in
    let inside = counted_inside v name c.number.result c.args.index c.self.inside.first c.block_number.result c.parts.result.2.now counted in
    inside.0

pub returns-clause-covers : goal.returns-clause-covers
returns-clause-covers c =
    let v : SideValue = record { stream = c.self.inside.frame.stream; blocks = c.self.inside.blocks.now; tile = c.self.inside.frame.number } in
    let name = c.args.name in
    let is : c.args.self.now ≡ v = sym c.self.view_is in
    let counted : IsCounted v name c.number.result c.args.index c.self.inside.first c.block_number.result c.parts.result.2.now = record {
      side = c.self.invariant.0;
      before = c.self.invariant.1;
      own = c.block_number.ensures.value;
      geometry = c.parts.ensures.geometry;
      tile = c.number.ensures;
      band = subst (λ (u : SideValue). HasBandOf u name) is c.requires.band;
      index = subst (λ (u : SideValue). c.args.index < size_of (blocks_in (geometry_at u) name.comp name.res name.band)) is c.requires.index;
    } in
    let found = counted_found v name c.number.result c.args.index c.self.inside.first c.block_number.result c.parts.result.2.now c.index-blocks-number.result counted c.index-blocks-number.is in
    subst (λ (u : SideValue). Covers u name c.index-blocks-number.result) (sym is) found.covers

pub returns-clause-rect : goal.returns-clause-rect
returns-clause-rect c =
    let v : SideValue = record { stream = c.self.inside.frame.stream; blocks = c.self.inside.blocks.now; tile = c.self.inside.frame.number } in
    let name = c.args.name in
    let is : c.args.self.now ≡ v = sym c.self.view_is in
    let counted : IsCounted v name c.number.result c.args.index c.self.inside.first c.block_number.result c.parts.result.2.now = record {
      side = c.self.invariant.0;
      before = c.self.invariant.1;
      own = c.block_number.ensures.value;
      geometry = c.parts.ensures.geometry;
      tile = c.number.ensures;
      band = subst (λ (u : SideValue). HasBandOf u name) is c.requires.band;
      index = subst (λ (u : SideValue). c.args.index < size_of (blocks_in (geometry_at u) name.comp name.res name.band)) is c.requires.index;
    } in
    let found = counted_found v name c.number.result c.args.index c.self.inside.first c.block_number.result c.parts.result.2.now c.index-blocks-number.result counted c.index-blocks-number.is in
    subst (λ (u : SideValue). c.index-blocks-number.result.rect ≡ rect_in (geometry_at u) name.comp name.res name.band c.args.index) (sym is) found.rect
