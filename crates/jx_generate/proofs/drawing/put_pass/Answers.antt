use Rattle.std.proofs.Common.{◌≡◌, ◌∙◌, ◌++◌, ◌-◌, ◌+◌, ℕ, List, ap, suc, arith}
use Rattle.std.proofs.Common.{◌%◌, ◌==◌, cond}
use Rattle.jx_generate.specs.Drawn.{lowered}
use Rattle.jx_generate.proofs.DrawnLemmas.{bytes_left, byte_next, bytes_none, past_next, past_none, pass_drawn, pass_past}
use Rattle.jx_generate.specs.Random.{state_past}
use Rattle.jx_generate.proofs.drawing.put_pass.Goals as goal

pub loop-number-preserved : goal.loop-number-preserved
loop-number-preserved c =
    let count : ℕ = c.next-count.result % 24 in
    let e : count - c.loop-number.number ≡ suc (count - (c.loop-number.number + 1)) = omega (arith, c.loop-number-test.true) in
    let left : count - c.loop-number.number - 1 ≡ count - (c.loop-number.number + 1) = omega arith in (
      byte_next c.loop-number.out.items c.push.new.self.items (c.args.out.now.items ++ bytes_left 0 c.next-count.new.state count) c.loop-number.before c.loop-number.state
          c.next_byte-before.result c.next_byte-before.new.state c.ended.result (count - c.loop-number.number) (count - (c.loop-number.number + 1)) e
          c.next_byte-before.ensures.value c.next_byte-before.ensures.state
          (c.ended.ensures ∙ ap (λ (n : ℕ). cond (n == 0) (lowered c.next_byte-before.result) c.next_byte-before.result) left) c.in_ok-push.ensures.items c.loop-number.invariant.0,
      past_next c.loop-number.state c.next_byte-before.new.state (count - c.loop-number.number) (count - (c.loop-number.number + 1)) (state_past c.next-count.new.state count) e
          c.next_byte-before.ensures.state c.loop-number.invariant.1,
    )

pub returns-clause-bytes : goal.returns-clause-bytes
returns-clause-bytes c =
    let count : ℕ = c.next-count.result % 24 in
    let none : count - c.loop-number.number ≡ 0 = omega (arith, c.loop-number-test.false) in
    bytes_none c.loop-number.out.items (c.args.out.now.items ++ bytes_left 0 c.next-count.new.state count) c.loop-number.before c.loop-number.state (count - c.loop-number.number) none c.loop-number.invariant.0
    ∙ ap (λ (xs : List ℕ). c.args.out.now.items ++ xs) (pass_drawn c.args.state.now c.next-count.new.state count c.next-count.ensures.state (ap (λ (n : ℕ). n % 24) c.next-count.ensures.value))

pub returns-clause-state : goal.returns-clause-state
returns-clause-state c =
    let count : ℕ = c.next-count.result % 24 in
    let none : count - c.loop-number.number ≡ 0 = omega (arith, c.loop-number-test.false) in
    past_none c.loop-number.state (count - c.loop-number.number) (state_past c.next-count.new.state count) none c.loop-number.invariant.1
    ∙ pass_past c.args.state.now c.next-count.new.state count c.next-count.ensures.state (ap (λ (n : ℕ). n % 24) c.next-count.ensures.value)
