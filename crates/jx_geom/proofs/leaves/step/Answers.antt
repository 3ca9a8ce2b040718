use Rattle.std.proofs.Common.{◌≤◌, ◌<◌, ◌*◌, ◌/◌, ℕ, arith}
use Rattle.std.proofs.Math.Nat.{div-mul-le_self}
use Rattle.std.proofs.lemmas.Nat.{mul-le}
use Rattle.jx_geom.proofs.SpanLemmas.{grows_by}
use Rattle.jx_geom.proofs.leaves.step.Goals as goal

most : (place w stride : ℕ) → 0 < w → place ≤ 4294967295 → stride ≤ 4294967295 → place / w * stride ≤ 18446744065119617025
most place w stride some le le2 =
    let quotient : place / w ≤ 4294967295 = omega (arith, grows_by (place / w) w some, div-mul-le_self place w) in
    mul-le (place / w) stride 4294967295 4294967295 quotient le2

pub overflow_mul-result : goal.overflow_mul-result
overflow_mul-result c = omega (arith, most c.args.place c.max-wide.result c.args.stride (omega arith) (omega arith) (omega arith))

pub overflow_add-result : goal.overflow_add-result
overflow_add-result c = omega (arith, most c.args.place c.max-wide.result c.args.stride (omega arith) (omega arith) (omega arith))

pub overflow_add-result-2 : goal.overflow_add-result-2
overflow_add-result-2 c =
    let some : 0 < c.max-wide.result = omega arith in
    omega (arith, most c.args.place c.max-wide.result c.args.stride some (omega arith) (omega arith))
