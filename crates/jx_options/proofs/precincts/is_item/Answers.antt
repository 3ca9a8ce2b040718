use Rattle.std.proofs.Common.{◌∙◌, ◌/◌, ◌%◌, [], ◌∷◌}
use Rattle.std.specs.Fmt.{decimal}
use Rattle.jx_options.proofs.ItemLemmas.{by_rest, not_after, not_whole, whole}
use Rattle.jx_options.proofs.precincts.is_item.Goals as goal

pub returns-in_default : goal.returns-in_default
returns-in_default c = not_after (decimal (c.args.byte % 16)) _ (120 ∷ decimal (c.args.byte / 16)) (c.in_default.ensures)

pub returns-in_default-after : goal.returns-in_default-after
returns-in_default-after c =
    not_after (120 ∷ []) c.in-Some.rest.now (decimal (c.args.byte / 16)) (c.in_default-after.ensures)
    ∙ by_rest (decimal (c.args.byte % 16)) _ c.in-Some.rest.now (120 ∷ decimal (c.args.byte / 16)) (c.in-Some.ensures)

pub returns-in-Some-after_exponent : goal.returns-in-Some-after_exponent
returns-in-Some-after_exponent c =
    whole (decimal (c.args.byte / 16)) c.in-Some-after.height.now _ _ (c.in-Some-after_exponent.ensures) c.is_empty.ensures
    ∙ by_rest (120 ∷ []) c.in-Some.rest.now c.in-Some-after.height.now (decimal (c.args.byte / 16)) (c.in-Some-after.ensures)
    ∙ by_rest (decimal (c.args.byte % 16)) _ c.in-Some.rest.now (120 ∷ decimal (c.args.byte / 16)) (c.in-Some.ensures)

pub returns-in-None : goal.returns-in-None
returns-in-None c =
    not_whole (decimal (c.args.byte / 16)) c.in-Some-after.height.now (c.in-None.ensures)
    ∙ by_rest (120 ∷ []) c.in-Some.rest.now c.in-Some-after.height.now (decimal (c.args.byte / 16)) (c.in-Some-after.ensures)
    ∙ by_rest (decimal (c.args.byte % 16)) _ c.in-Some.rest.now (120 ∷ decimal (c.args.byte / 16)) (c.in-Some.ensures)
