use Rattle.std.proofs.Common.{◌/◌, ◌+◌, ℕ, List, ap, subst, length, ◌∙◌}
use Rattle.jx_progression.specs.Groups.{AreBounds}
use Rattle.jx_progression.proofs.PlacesLemmas.{are_bounds, are_groups}
use Rattle.jx_progression.proofs.table.no_table.Goals as goal

pub returns-clause-ready : goal.returns-clause-ready
returns-clause-ready c = record {
  places = c.in_ok-sent.ensures.places;
  groups = are_groups c.args.geom.now c.in_ok-places.places.items c.resolutions-rows.result.now (length c.in_ok-groups.groups.items)
      c.resolutions-rows.ensures c.in_ok-places.ensures
      (c.in_ok-groups.ensures.count ∙ ap (λ (l : List ℕ). length l / 128 + 1) c.deref.ensures.value);
  bounds = subst (λ (ss : List ℕ). AreBounds c.args.geom.now c.in_ok-places.places.items c.in_ok-groups.groups.items ss) c.deref-2.ensures.value
      (subst (λ (ps : List ℕ). AreBounds c.args.geom.now ps c.in_ok-groups.groups.items c.deref-2.result.now) c.deref.ensures.value
      (are_bounds c.args.geom.now c.deref.result.now c.resolutions-rows.result.now c.in_ok-groups.groups.items c.deref-2.result.now
      c.resolutions-rows.ensures c.in_ok-groups.ensures.bounds));
}
