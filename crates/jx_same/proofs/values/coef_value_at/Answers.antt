use Rattle.std.proofs.Common.{◌∙◌, ap, option_map, refl, sym, subst}
use Rattle.jx_base.specs.declared.pieces.Block.{Block}
use Rattle.jx_base.specs.Places.{InRect}
use Rattle.jx_plan.specs.Meaning.{sample_in}
use Rattle.jx_same.specs.Items.{coef_value, place_of}
use Rattle.jx_same.proofs.FindLemmas.{nothing}
use Rattle.jx_same.proofs.ValueLemmas.{block_has, block_sound, coef_is, no_coef}
use Rattle.jx_same.proofs.values.coef_value_at.Goals as goal

pub returns-in_default : goal.returns-in_default
returns-in_default c =
    let i = c.args.input.now in
    let none = sym c.block_at.ensures ∙ ap (option_map (λ b. b.now)) (nothing c.block_at.result (λ x is. c.in_default.not-Some x is)) in
    ap coef_value (sym (no_coef i.stream.now i.blocks.now c.args.spot none))

pub new-requires : goal.new-requires
new-requires c =
    let i = c.args.input.now in
    let here = sym c.block_at.ensures ∙ ap (option_map (λ b. b.now)) c.in-Some.is in
    block_sound i.stream.now i.blocks.now (place_of c.args.spot) c.in-Some.block.now c.requires here

pub value-requires : goal.value-requires
value-requires c =
    let i = c.args.input.now in
    let here = sym c.block_at.ensures ∙ ap (option_map (λ b. b.now)) c.in-Some.is in
    subst (λ (b : Block). InRect b.rect c.args.spot.x c.args.spot.y) (sym c.in_ok-decoded.ensures) (block_has i.blocks.now (place_of c.args.spot) c.in-Some.block.now here)

pub returns : goal.returns
returns c =
    let i = c.args.input.now in
    let here = sym c.block_at.ensures ∙ ap (option_map (λ b. b.now)) c.in-Some.is in
    c.value.ensures (place_of c.args.spot) refl refl
    ∙ ap (λ (b : Block). coef_value (sample_in (place_of c.args.spot) b)) c.in_ok-decoded.ensures
    ∙ ap coef_value (sym (coef_is i.stream.now i.blocks.now c.args.spot c.in-Some.block.now here))
