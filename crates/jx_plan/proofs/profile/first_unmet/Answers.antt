use Rattle.std.proofs.Common.{◌≡◌, ◌∙◌, ap, refl, List}
use Rattle.std.specs.List.{list_any}
use Rattle.jx_marker.specs.declared.CompSize.{CompSize}
use Rattle.jx_marker.specs.declared.Segment.{Segment}
use Rattle.jx_codestream.specs.Params.{header_of}
use Rattle.jx_plan.specs.Profile.{are_full, conditions, is_parameter}
use Rattle.jx_plan.proofs.profile.first_unmet.Goals as goal

pub returns : goal.returns
unfolding conditions
returns c =
    let full : c.are_full.result ≡ are_full c.args.written.now.siz.comps = c.are_full.ensures ∙ ap (λ (xs : List CompSize). are_full xs) c.as_slice.ensures in
    let own : c.has_parameters.result ≡ list_any is_parameter (header_of c.args.written.now 0) = c.has_parameters.ensures ∙ ap (λ (xs : List Segment). list_any is_parameter xs) c.header.ensures in
    c.first_failed.ensures
    ∙ rw (c.is_small.ensures, c.has_no_offset.ensures, c.tile_count.ensures, full, c.all_meet.ensures, own, c.all_meet-2.ensures, c.all_meet-3.ensures, c.all_meet-4.ensures, c.is_ordered.ensures, c.all_meet-5.ensures, c.levels_meet.ensures, c.all_meet-6.ensures, c.guards_meet.ensures, c.by_component.ensures) refl
