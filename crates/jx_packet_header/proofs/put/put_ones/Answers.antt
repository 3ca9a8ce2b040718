use Rattle.std.proofs.Common.{◌≡◌, ◌-◌, ◌+◌, ◌++◌, ◌∙◌, ℕ, List, Bool, sym, ap, replicate, true, arith}
use Rattle.std.proofs.lemmas.List.{append-nil}
use Rattle.jx_packet_header.proofs.PutLemmas.{push_first, ones_next}
use Rattle.jx_packet_header.proofs.put.put_ones.Goals as goal

pub loop-preserved : goal.loop-preserved
loop-preserved c =
    let less : c.args.count - (c.loop.counter + 1) ≡ c.args.count - c.loop.counter - 1 = omega arith in
    ap (λ (n : ℕ). c.bit.new.self ++ replicate n true) less
    ∙ push_first c.loop.bits c.bit.new.self (replicate (c.args.count - c.loop.counter - 1) true) true c.in_ok-bit.ensures.ok
    ∙ ap (λ (l : List Bool). c.loop.bits ++ l) (sym (ones_next (c.args.count - c.loop.counter) (omega arith))) ∙ c.loop.invariant

pub returns : goal.returns
returns c =
    let none : 0 ≡ c.args.count - c.loop.counter = omega arith in
    sym (append-nil c.loop.bits) ∙ ap (λ (n : ℕ). c.loop.bits ++ replicate n true) none ∙ c.loop.invariant
