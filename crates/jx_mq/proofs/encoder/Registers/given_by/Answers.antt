use Rattle.std.proofs.Common.{◌≡◌, ap, ◌∙◌, arith}
use Rattle.jx_coder_specs.specs.MqWriting.{MqWriter, mq_byte_out}
use Rattle.jx_mq.specs.Coding.{writer_of}
use Rattle.jx_mq.specs.Shifting.{mq_moved_by}
use Rattle.jx_mq.proofs.Renormals.{renormalizing_begins, byte_out_a}
use Rattle.jx_mq.proofs.Shifts.{short_some, short_rest}
use Rattle.jx_mq.proofs.Outs.{few_of, c_room, renormalizing_by, renormalized_last, coder_last}
use Rattle.jx_mq.proofs.encoder.Registers.given_by.Goals as goal

pub loop-now-init : goal.loop-now-init
loop-now-init c = record {
  shifting = renormalizing_begins _ c.requires.coding (short_some _ _ c.requires.shifts).1;
  short = c.requires.shifts;
  wide = c.requires.wide;
}

pub shifted-moved-requires-clause-narrow : goal.shifted-moved-requires-clause-narrow
shifted-moved-requires-clause-narrow c = few_of _ _ _ c.loop-now-test.true c.loop-now.invariant.short

pub loop-now-preserved : goal.loop-now-preserved
loop-now-preserved c =
    let now : writer_of c.in_ok-now.now c.byte_out.new.older.items ≡ mq_byte_out (mq_moved_by c.loop-now.now.ct (writer_of c.loop-now.now c.loop-now.older.items)) =
    c.in_ok-now.ensures.registers ∙ ap (λ (w : MqWriter). mq_byte_out w) (c.shifted-moved.ensures.registers c.loop-now.older.items) in
    let a = ap (λ (w : MqWriter). w.a) now ∙ byte_out_a (mq_moved_by c.loop-now.now.ct (writer_of c.loop-now.now c.loop-now.older.items)) in
    let wide = c.shifted-moved.ensures.wide in
    let kept = c.in_ok-now.ensures.a in
    record {
      shifting = rw now (renormalizing_by _ _ _ c.loop-now-test.true c.loop-now.invariant.short c.loop-now.invariant.shifting);
      short = rw a (short_rest _ _ _ c.loop-now-test.true c.loop-now.invariant.short);
      wide = omega arith;
    }

pub shifted-requires-clause-room : goal.shifted-requires-clause-room
shifted-requires-clause-room c =
    let less = c.loop-now-test.false in
    c_room _ _ (omega arith) c.loop-now.invariant.shifting.coding

pub returns-clause-registers : goal.returns-clause-registers
returns-clause-registers c =
    rw (c.shifted.ensures.registers c.loop-now.older.items) (renormalized_last _ _ _ c.loop-now-test.false c.loop-now.invariant.short c.loop-now.invariant.shifting)

pub returns-clause-coder : goal.returns-clause-coder
returns-clause-coder c =
    rw (c.shifted.ensures.registers c.loop-now.older.items) (coder_last _ _ _ c.loop-now-test.false c.loop-now.invariant.short c.loop-now.invariant.shifting)
