use Rattle.std.proofs.Common.{◌≡◌, ◌*◌, ◌≤◌, vec_len, vec_capacity}
use Rattle.std.specs.List.{sum}
use Rattle.jx_store_tests.proofs.works.many.Given as goal

abbrev pub invariant-loop-place : goal.invariant-loop-place
invariant-loop-place l = (vec_len l.numbers ≡ l.place) × (vec_len l.sizes ≡ l.place) × (sum l.sizes.items ≤ 8 * l.place) × (l.count ≤ vec_capacity l.numbers) × (l.count ≤ vec_capacity l.sizes)
