use Rattle.std.proofs.Common.{◌≡◌, ◌+◌, ◌*◌, arith}
use Rattle.std.proofs.lemmas.Bool.Decides.{nat_tests}
use Rattle.jx_coder_specs.specs.RawBits.{raw_width}
use Rattle.jx_raw.proofs.Writing.{more_bits, whole, whole_bits}
use Rattle.jx_raw.proofs.writer.RawWriter.bit.Goals as goal
use Rattle.jx_raw.proofs.writer.RawWriter.bit.Goals.{then-byte, else-byte}

pub returns-then-self : goal.returns-then-self
returns-then-self c =
    rw (c.from.ensures, ← c.self.view_is) (more_bits c.self.inside.bytes.items c.self.inside.partial c.self.inside.count c.args.bit)

pub invariant_of-self-2 : goal.invariant_of-self-2
invariant_of-self-2 c =
    let width : c.if-byte.self ≡ raw_width (c.self.inside.partial * 2 + c.from.result) =
    elim c.if-byte.branch [ then-byte w ↦ grind (arith, nat_tests) | else-byte w ↦ grind (arith, nat_tests) ] in
    rw (width, c.in_ok-push.ensures.items, c.from.ensures) (whole _ _ _ _ c.args.bit c.if-self.false c.self.invariant)

pub returns : goal.returns
returns c =
    rw (c.in_ok-push.ensures.items, c.from.ensures, ← c.self.view_is)
    (whole_bits c.self.inside.bytes.items c.self.inside.partial c.self.inside.count c.self.inside.width c.args.bit c.if-self.false c.self.invariant)
