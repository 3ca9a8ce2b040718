use Rattle.std.proofs.Common.{◌≡◌, ◌+◌, true, false, length, arith, refl, sym, ap, ◌∙◌}
use Rattle.jx_jp2.specs.declared.Boxed.{Boxed}
use Rattle.jx_jp2.specs.Heads.{length_at}
use Rattle.jx_jp2.specs.Positions.{has_positions, HoldsPositions}
use Rattle.jx_jp2.proofs.HeadLemmas.{sound}
use Rattle.jx_jp2.proofs.PositionLemmas.{passed_next, holds_here, broken_here, none_here}
use Rattle.jx_jp2.proofs.positions.holds_positions.Goals as goal

pub returns-in_default : goal.returns-in_default
returns-in_default c = (
  λ (h : false ≡ true). absurd (cc),
  λ (h : HoldsPositions c.args.bytes.now). absurd (broken_here c.args.bytes.now c.loop-at.at c.in_default.field-0 c.loop-at.invariant c.loop-at-test.true c.in_default.ensures.broken h),
)

pub tbox-requires : goal.tbox-requires
tbox-requires c =
    let s = sound c.args.bytes.now true (length c.args.bytes.now) c.loop-at.at (omega arith) c.in-Ok.ensures.sound in
    omega (arith, s.head)

pub returns-then-has_positions : goal.returns-then-has_positions
returns-then-has_positions c = (
  λ _. holds_here c.args.bytes.now c.loop-at.at c.loop-at.invariant c.loop-at-test.true c.in-Ok.ensures.sound
      (ap (λ k. has_positions k) (sym c.tbox.ensures) ∙ (sym c.has_positions.ensures ∙ c.if-has_positions.true)),
  λ _. refl,
)

pub loop-at-smaller : goal.loop-at-smaller
loop-at-smaller c =
    let s = sound c.args.bytes.now true (length c.args.bytes.now) c.loop-at.at (omega arith) c.in-Ok.ensures.sound in
    let end : c.in-Ok.boxed.to ≡ c.loop-at.at + length_at c.args.bytes.now c.loop-at.at = ap (λ (b : Boxed). b.to) c.in-Ok.ensures.boxed in
    omega (arith, s.grows, s.ends, end)

pub loop-at-preserved : goal.loop-at-preserved
loop-at-preserved c =
    passed_next c.args.bytes.now c.loop-at.at c.in-Ok.boxed c.loop-at.invariant c.loop-at-test.true c.in-Ok.ensures.sound
    (ap (λ k. has_positions k) (sym c.tbox.ensures) ∙ (sym c.has_positions.ensures ∙ c.if-has_positions.false)) c.in-Ok.ensures.boxed

pub returns : goal.returns
returns c = (
  λ (h : false ≡ true). absurd (cc),
  λ (h : HoldsPositions c.args.bytes.now). absurd (none_here c.args.bytes.now c.loop-at.at c.loop-at.invariant c.loop-at-test.false h),
)
