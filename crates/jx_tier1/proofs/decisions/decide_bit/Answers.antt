use Rattle.std.proofs.Common.{ℕ, Bool, false, ◌≡◌, ◌+◌, ◌/◌, ◌%◌, ◌∙◌, ap, sym, subst}
use Rattle.std.specs.Prelude.{IfOk, OnOk}
use Rattle.jx_tier1_specs.specs.declared.question.Question.{Question}
use Rattle.jx_tier1_specs.specs.declared.question.About.TheVariants.{Bit}
use Rattle.jx_tier1_specs.specs.Pass.{question, label_at}
use Rattle.jx_tier1.proofs.decisions.decide_bit.Goals as goal

pub returns-clause-answer : goal.returns-clause-answer
returns-clause-answer g c = λ v s.
    let k = c.args.plane in
    let x : ℕ = c.args.corner.x + c.args.place / 6 in
    let y : ℕ = c.args.corner.y + c.args.place % 6 in
    let l = c.label-label.ensures.label k v c.args.corner.x c.args.corner.y c.args.sight.signs (sym c.requires.band) s c.requires.first in
    let q : c.asked.result ≡ question k (label_at k v x y) false (Bit x y) =
    c.asked.ensures.question
    ∙ (ap (λ (n : ℕ). question k n false (Bit c.column.result c.row.result)) l
    ∙ (ap (λ (n : ℕ). question k (label_at k v x y) false (Bit n c.row.result)) c.column.ensures
    ∙ ap (λ (n : ℕ). question k (label_at k v x y) false (Bit x n)) c.row.ensures)) in
    subst (λ (z : Question). IfOk c.ask.result (λ (b : Bool). b ≡ (g.S.Source.ask c.args.source.now z).0)) q c.ask.ensures.answer

pub returns-clause-after : goal.returns-clause-after
returns-clause-after g c = λ v s.
    let k = c.args.plane in
    let x : ℕ = c.args.corner.x + c.args.place / 6 in
    let y : ℕ = c.args.corner.y + c.args.place % 6 in
    let l = c.label-label.ensures.label k v c.args.corner.x c.args.corner.y c.args.sight.signs (sym c.requires.band) s c.requires.first in
    let q : c.asked.result ≡ question k (label_at k v x y) false (Bit x y) =
    c.asked.ensures.question
    ∙ (ap (λ (n : ℕ). question k n false (Bit c.column.result c.row.result)) l
    ∙ (ap (λ (n : ℕ). question k (label_at k v x y) false (Bit n c.row.result)) c.column.ensures
    ∙ ap (λ (n : ℕ). question k (label_at k v x y) false (Bit x n)) c.row.ensures)) in
    subst (λ (z : Question). OnOk c.ask.result (c.ask.new.self ≡ (g.S.Source.ask c.args.source.now z).1)) q c.ask.ensures.after
