use Rattle.std.proofs.Common.{◌≡◌, ap, ◌∙◌, arith}
use Rattle.jx_coder_specs.specs.MqReading.{MqReader, mq_byte_in}
use Rattle.jx_mq.specs.Decoding.{reader_of}
use Rattle.jx_mq.specs.Shifting.{mq_shifted_by}
use Rattle.jx_mq.proofs.Refills.{refilling_begins, byte_in_a}
use Rattle.jx_mq.proofs.Shifts.{short_some, half_of, short_rest, refilling_by, refilled_last}
use Rattle.jx_mq.proofs.decoder.Registers.fed_by.Goals as goal

pub loop-now-init : goal.loop-now-init
loop-now-init c =
    let some = short_some _ _ c.requires.shifts in
    record {
      refilling = refilling_begins _ _ c.requires.within some.0 some.1;
      short = c.requires.shifts;
      wide = c.requires.wide;
    }

pub shifted-requires-clause-room : goal.shifted-requires-clause-room
shifted-requires-clause-room c =
    let half = half_of _ _ _ c.loop-now-test.true c.loop-now.invariant.short in
    omega (arith, half)

pub loop-now-preserved : goal.loop-now-preserved
loop-now-preserved c =
    let now : reader_of c.fed-now.result ≡ mq_byte_in c.args.bytes.now (mq_shifted_by c.loop-now.now.ct (reader_of c.loop-now.now)) =
    c.fed-now.ensures.registers ∙ ap (λ (r : MqReader). mq_byte_in c.args.bytes.now r) c.shifted.ensures.registers in
    let a = ap (λ (r : MqReader). r.a) now ∙ byte_in_a c.args.bytes.now (mq_shifted_by c.loop-now.now.ct (reader_of c.loop-now.now)) in
    let within = rw now at c.fed-now.ensures.within in
    let wide = c.shifted.ensures.wide in
    let kept = c.fed-now.ensures.a in
    record {
      refilling = rw now (refilling_by _ _ _ _ c.shifted.ensures.fits c.loop-now-test.true c.loop-now.invariant.short within c.loop-now.invariant.refilling);
      short = rw a (short_rest _ _ _ (omega arith) c.loop-now.invariant.short);
      wide = omega arith;
    }

pub returns-clause-registers : goal.returns-clause-registers
returns-clause-registers c =
    rw c.shifted-2.ensures.registers (refilled_last _ _ _ _ c.shifted-2.ensures.fits c.loop-now-test.false c.loop-now.invariant.short c.loop-now.invariant.refilling)
