use Rattle.std.proofs.Common.{ℕ, ◌+◌, ◌*◌, ◌/◌, ◌≡◌, arith}
use Rattle.std.proofs.lemmas.Nat.{mul-le}
use Rattle.jx_tier1.specs.Blocks.{wide_for}
use Rattle.jx_tier1.proofs.DrawLemmas.{spot_room}
use Rattle.jx_tier1.proofs.block.BlockState.spot.Goals as goal

pub overflow_mul-result : goal.overflow_mul-result
overflow_mul-result c = omega (arith, mul-le (c.from.result + 1) c.wide.result 300 200 (omega arith) (omega arith))

pub overflow_add-result-2 : goal.overflow_add-result-2
overflow_add-result-2 c = omega (arith, mul-le (c.from.result + 1) c.wide.result 300 200 (omega arith) (omega arith))

pub overflow_add-result-3 : goal.overflow_add-result-3
overflow_add-result-3 c = omega (arith, mul-le (c.from.result + 1) c.wide.result 300 200 (omega arith) (omega arith))

pub returns-clause-below : goal.returns-clause-below
returns-clause-below c =
    let wide : ℕ = wide_for c.args.self.now.width in
    let e : (c.from.result + 1) * c.wide.result + c.from-2.result + 1 ≡ (c.args.stripe + 1) * wide + c.args.group + 1 = cc in
    spot_room ((c.from.result + 1) * c.wide.result + c.from-2.result + 1) c.args.stripe c.args.group ((c.args.self.now.height + 3) / 4) wide e c.requires.stripe (omega arith)
