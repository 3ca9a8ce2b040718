use Rattle.std.proofs.Common.{ℕ, Bool, ◌≡◌, ◌+◌, ◌/◌, ◌%◌, ◌∙◌, ap, subst}
use Rattle.jx_tier1_specs.specs.declared.question.Question.{Question}
use Rattle.jx_tier1_specs.specs.declared.question.About.TheVariants.{Sign}
use Rattle.jx_tier1_specs.specs.Pass.{question}
use Rattle.jx_tier1.proofs.MarkLemmas.{IsWholeAt}
use Rattle.jx_tier1.proofs.PlaceWalk.{sign_ends}
use Rattle.jx_tier1.proofs.decisions.decide_sign.Goals as goal

pub returns : goal.returns
returns g c = record {
  walk = λ v s i n.
      let k = c.args.plane in
      let x : ℕ = c.args.corner.x + c.args.place / 6 in
      let y : ℕ = c.args.corner.y + c.args.place % 6 in
      let whole : IsWholeAt v x y = record { column = i.column; row = i.row; whole = i.whole } in
      let row : ℕ × Bool = c.sign-label.result in
      let r = c.sign-label.ensures.row k v c.args.corner.x c.args.corner.y s c.requires.first in
      let q : c.asked.result ≡ question k row.0 row.1 (Sign x y) =
      c.asked.ensures.question
      ∙ (ap (λ (m : ℕ). question k row.0 row.1 (Sign m c.row.result)) c.column.ensures
      ∙ ap (λ (m : ℕ). question k row.0 row.1 (Sign x m)) c.row.ensures) in
      let e : c.in_ok-negative.negative ≡ (g.S.Source.ask c.args.source.now (question k row.0 row.1 (Sign x y))).0 =
      subst (λ (z : Question). c.in_ok-negative.negative ≡ (g.S.Source.ask c.args.source.now z).0) q c.in_ok-negative.ensures.answer in
      let u : c.ask.new.self ≡ (g.S.Source.ask c.args.source.now (question k row.0 row.1 (Sign x y))).1 =
      subst (λ (z : Question). c.ask.new.self ≡ (g.S.Source.ask c.args.source.now z).1) q c.in_ok-negative.ensures.after in
      sign_ends g.S.Source.ask k v c.args.corner.x c.args.corner.y c.args.sight.window c.args.sight.signs c.raised.result c.signed.result c.args.place row
      c.in_ok-negative.negative c.args.source.now c.ask.new.self s c.requires.place whole n r e u c.raised.ensures.place c.raised.ensures.others c.signed.ensures.place
      c.signed.ensures.others;
  there = c.raised.ensures.place;
  others = c.raised.ensures.others;
}
