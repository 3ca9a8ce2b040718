use Rattle.std.proofs.Common.{rules, ◌-◌, length}
use Rattle.jx_coder_specs.specs.RawBits.{raw_bits}
use Rattle.jx_tier1_specs.proofs.Firsts.{looked_short}
use Rattle.jx_tier1_specs.proofs.reader.Reader.looked.Goals as goal

pub overflow_cast-result : goal.overflow_cast-result
overflow_cast-result c =
    let bits = c.self.inside.bits in
    let f = looked_short bits.bytes c.self.inside.decoder.bytes (length (raw_bits bits.bytes) - length bits.left) c.self.invariant.0 c.self.invariant.1 in
    rw c.looked.ensures (search rules)
