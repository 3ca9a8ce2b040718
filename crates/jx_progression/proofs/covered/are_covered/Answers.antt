use Rattle.std.proofs.Common.{ℕ, List, subst, sym}
use Rattle.jx_progression.specs.Groups.{AreCoveredTo}
use Rattle.jx_progression.proofs.CoveredLemmas.{covered_answer, some_uncovered}
use Rattle.jx_progression.proofs.covered.are_covered.Goals as goal

pub returns-clause-whole : goal.returns-clause-whole
returns-clause-whole c =
    let P : List ℕ → Type 0 = λ ss. AreCoveredTo c.args.geom.now c.args.layers c.args.entries.now ss in
    covered_answer c.args.geom.now c.args.layers c.args.entries.now c.deref.result.now c.are_all_sent.result
    (subst P (sym c.deref.ensures.value) c.in_ok-send_all.ensures) c.are_all_sent.ensures.whole c.are_all_sent.ensures.lacks

pub returns-clause-lacks : goal.returns-clause-lacks
returns-clause-lacks c = λ f.
    (let P : List ℕ → Type 0 = λ ss. AreCoveredTo c.args.geom.now c.args.layers c.args.entries.now ss in
    some_uncovered c.args.geom.now c.args.layers c.args.entries.now c.deref.result.now (subst P (sym c.deref.ensures.value) c.in_ok-send_all.ensures)
    (c.are_all_sent.ensures.lacks f))
