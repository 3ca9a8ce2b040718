use Rattle.std.proofs.Common.{ℕ, false, ◌≡◌, ◌+◌, ◌*◌, ◌/◌, ◌%◌, ◌∙◌, refl, ap, subst}
use Rattle.std.specs.Int.{bit_at}
use Rattle.jx_tier1_specs.specs.declared.question.Question.{Question}
use Rattle.jx_tier1_specs.specs.declared.question.About.TheVariants.{Bit}
use Rattle.jx_tier1_specs.specs.Pass.{question}
use Rattle.jx_tier1.proofs.RefinementWord.{place_refined}
use Rattle.jx_tier1.proofs.word_passes.refinement_place.Goals as goal

pub returns : goal.returns
returns g c = λ v r.
    let k = c.args.plane in
    let x : ℕ = c.args.corner.x + c.args.place / 6 in
    let y : ℕ = c.args.corner.y + c.args.place % 6 in
    let label : ℕ = 14 + 2 * bit_at c.args.refined c.args.place + bit_at c.args.near c.args.place in
    let q : c.asked.result ≡ question k label false (Bit x y) =
    c.asked.ensures.question
    ∙ (ap (λ (n : ℕ). question k label false (Bit n c.row.result)) c.column.ensures
    ∙ ap (λ (n : ℕ). question k label false (Bit x n)) c.row.ensures) in
    (place_refined g.S.Source.ask k v c.args.corner.x c.args.corner.y c.args.near c.args.refined c.args.place label c.in_ok-ask.field-0 c.args.source.now c.ask.new.self r refl
    (subst (λ (z : Question). c.in_ok-ask.field-0 ≡ (g.S.Source.ask c.args.source.now z).0) q c.in_ok-ask.ensures.answer)
    (subst (λ (z : Question). c.ask.new.self ≡ (g.S.Source.ask c.args.source.now z).1) q c.in_ok-ask.ensures.after)).1
