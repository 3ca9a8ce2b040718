use Rattle.std.proofs.Common.{◌≡◌, ◌-◌, arith}
use Rattle.std.proofs.lemmas.Bool.Decides.{nat_tests}
use Rattle.jx_coder_specs.specs.RawBits.{raw_width}
use Rattle.jx_raw.proofs.Reading.{first_left, step, next}
use Rattle.jx_raw.proofs.reader.RawReader.bit.Goals as goal
use Rattle.jx_raw.proofs.reader.RawReader.bit.Goals.{then-self-2, else-self-2}

pub invariant_of-self : goal.invariant_of-self
invariant_of-self c = step _ _ _ _ c.if-self-gt0.true c.self.invariant

pub invariant_of-self-2 : goal.invariant_of-self-2
invariant_of-self-2 c =
    let width : c.if-self-2.self ≡ raw_width c.self.inside.current - 1 =
    elim c.if-self-2.branch [ then-self-2 w ↦ grind (arith, nat_tests) | else-self-2 w ↦ grind (arith, nat_tests) ] in
    rw width (next _ _ _ _ (omega arith) ((let within = c.self.invariant.within in omega arith)) c.self.invariant)

pub returns-then-self-gt0-clause-bit : goal.returns-then-self-gt0-clause-bit
returns-then-self-gt0-clause-bit c =
    rw (← c.self.view_is) (first_left c.self.inside.bytes.now c.self.inside.place c.self.inside.current c.self.inside.left c.if-self-gt0.true)
