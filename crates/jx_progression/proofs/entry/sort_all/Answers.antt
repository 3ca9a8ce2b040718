use Rattle.std.proofs.Common.{rules, get_or, ◌+◌, arith}
use Rattle.std.proofs.lemmas.Fn.{always_returns_same}
use Rattle.jx_progression.specs.Steps.{sort_key}
use Rattle.jx_progression.proofs.KeyLemmas.{not_before}
use Rattle.jx_progression.proofs.entry.sort_all.Goals as goal

pub returns-clause-sorted : goal.returns-clause-sorted
returns-clause-sorted c =
    let up = c.in_ok-sort_by_key.ensures.sorted (λ p. sort_key c.args.geom.now c.args.order p)
    (always_returns_same _ _ _ (λ a r f k. search rules)) in
    λ k d lt. not_before (sort_key c.args.geom.now c.args.order (get_or c.sort_by_key.new.self k d))
    (sort_key c.args.geom.now c.args.order (get_or c.sort_by_key.new.self (k + 1) d)) (up k d (omega arith) lt)
