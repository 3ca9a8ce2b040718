use Rattle.std.proofs.Common.{ℕ, ◌+◌}
use Rattle.jx_tier1.proofs.CleanSteps.{clean_zero, clean_one, left_place, left_neat}
use Rattle.jx_tier1.proofs.DueWords.{less_behind}
use Rattle.jx_tier1.proofs.word_passes.cleanup_usual.Goals as goal

pub returns-then-not-branch-clause-walk : goal.returns-then-not-branch-clause-walk
returns-then-not-branch-clause-walk g c = λ v h.
    clean_zero g.S.Source.ask c.args.plane v c.args.corner.x c.args.corner.y c.args.word.sight.window c.args.word.sight.signs c.args.word.due c.args.word.runs c.args.place
    c.behind-due.result c.in_ok-decide_bit.field-0 c.args.source.now c.decide_bit.new.source h c.requires.first c.requires.one c.requires.run
    (c.in_ok-decide_bit.ensures.answer v h.sight) (c.in_ok-decide_bit.ensures.after v h.sight) c.if-not-branch.true c.behind-due.ensures.before c.behind-due.ensures.behind

pub returns-clause-walk : goal.returns-clause-walk
returns-clause-walk g c = λ v h.
    let w : ℕ = c.args.word.sight.window in
    let s : ℕ = c.args.word.sight.signs in
    let d : ℕ = c.args.word.due in
    let z : ℕ = c.args.word.runs in
    let p : ℕ = c.args.place in
    let x : ℕ = c.args.corner.x in
    let y : ℕ = c.args.corner.y in
    clean_one g.S.Source.ask c.args.plane v x y w s d z p c.in_ok-sight.sight.window c.in_ok-sight.sight.signs c.behind-due.result c.behind.result
    c.in_ok-decide_bit.field-0 c.args.source.now c.decide_bit.new.source c.decide_sign.new.source h c.requires.first c.requires.one c.requires.run
    (c.in_ok-decide_bit.ensures.answer v h.sight) (c.in_ok-decide_bit.ensures.after v h.sight) c.if-not-branch.false
    (c.in_ok-sight.ensures.walk v h.sight (left_place c.args.plane v x y w s d z p h c.requires.one) (left_neat c.args.plane v x y w s d z p h c.requires.one))
    c.in_ok-sight.ensures.there c.in_ok-sight.ensures.others c.behind-due.ensures.before c.behind-due.ensures.behind c.behind.ensures.before c.behind.ensures.behind

pub returns-clause-runs : goal.returns-clause-runs
returns-clause-runs g c = λ i. less_behind c.args.word.runs c.behind.result (c.args.place + 6) i c.behind.ensures.before c.behind.ensures.behind

pub returns-clause-due : goal.returns-clause-due
returns-clause-due g c = λ i. less_behind c.args.word.due c.behind-due.result c.args.place i c.behind-due.ensures.before c.behind-due.ensures.behind

pub returns-then-not-branch-clause-due : goal.returns-then-not-branch-clause-due
returns-then-not-branch-clause-due g c = λ i. less_behind c.args.word.due c.behind-due.result c.args.place i c.behind-due.ensures.before c.behind-due.ensures.behind
