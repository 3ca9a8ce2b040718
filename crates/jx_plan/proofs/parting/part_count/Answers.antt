use Rattle.std.proofs.Common.{◌≡◌, ◌∙◌, ap, length, subst, List}
use Rattle.jx_progression.specs.declared.names.PacketName.{PacketName}
use Rattle.jx_tile.specs.Covered.{IsListOf}
use Rattle.jx_tile.specs.Frame.{TileOf}
use Rattle.jx_tile_parts.specs.Groups.{groups_of}
use Rattle.jx_plan.proofs.parting.part_count.Goals as goal

pub returns : goal.returns
returns c =
    let names = c.in-Ok.names.items in
    let count : c.count_parts.result ≡ length (groups_of c.args.parts names) = c.count_parts.ensures ∙ ap (λ (xs : List PacketName). length (groups_of c.args.parts xs)) c.as_slice.ensures.value in
    let order = subst (λ (f : TileOf). IsListOf f.stream f.number names) c.in_ok-frame.ensures c.in-Ok.ensures.order in
    record { names = names; order = order; count_is = count }
