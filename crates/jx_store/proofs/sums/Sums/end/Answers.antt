use Rattle.std.proofs.Common.{◌≡◌, ◌+◌, ◌-◌, ◌<◌, ◌≤◌, arith, subst}
use Rattle.jx_store.specs.Setup.{Setup, end_of}
use Rattle.jx_store.specs.Sums.{items_of}
use Rattle.jx_store.proofs.Loads.{sums_long}
use Rattle.jx_store.proofs.sums.Sums.end.Goals as goal
use Rattle.jx_base.specs.Limits.{most_blocks}

pub overflow_cast-result : goal.overflow_cast-result
overflow_cast-result c =
    let f = c.self.inside in let i = c.self.invariant in let l = f.sums.ok.0 in let len = c.len.ensures in
    let long = sums_long (items_of f.sums.items) f.sums.items i.sums in
    omega (arith, long, l, len)

pub overflow_add-result : goal.overflow_add-result
overflow_add-result c =
    let f = c.self.inside in let i = c.self.invariant in let l = f.sums.ok.0 in let len = c.len.ensures in
    let long = sums_long (items_of f.sums.items) f.sums.items i.sums in
    omega (arith, long, l, len)

pub returns-clause-is : goal.returns-clause-is
returns-clause-is c =
    let f = c.self.inside in let i = c.self.invariant in let l = f.sums.ok.0 in let len = c.len.ensures in
    let long = sums_long (items_of f.sums.items) f.sums.items i.sums in
    subst (λ (s : Setup). f.first + (c.len.result - 1) ≡ end_of s) c.self.view_is (omega (arith, long, l, len))

pub returns-clause-range : goal.returns-clause-range
returns-clause-range c =
    let f = c.self.inside in let i = c.self.invariant in let l = f.sums.ok.0 in let len = c.len.ensures in
    let long = sums_long (items_of f.sums.items) f.sums.items i.sums in
    subst (λ (s : Setup). (s.first < f.first + (c.len.result - 1)) × (f.first + (c.len.result - 1) ≤ most_blocks)) c.self.view_is (omega (arith, long, l, len), omega (arith, long, l, len))
