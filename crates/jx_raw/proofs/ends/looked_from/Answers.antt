use Rattle.std.proofs.Common.{◌≡◌, ◌-◌, ℕ, ◌∷◌, slice_index_or, refl, sym, ap, ◌∙◌, add-one, arith}
use Rattle.jx_coder_specs.specs.RawBits.{raw_width}
use Rattle.jx_raw.proofs.Told.{looked_on, looked_done, looked_end}
use Rattle.jx_raw.proofs.ends.looked_from.Goals as goal

pub loop-left-init : goal.loop-left-init
loop-left-init c = record { same = refl; before = c.byte_before-before.ensures }

pub loop-left-preserved : goal.loop-left-preserved
loop-left-preserved c =
    let here = c.loop-left.invariant.before (omega arith) in
    let left : c.saturating_sub-left.result ≡ c.loop-left.left - raw_width (slice_index_or (0 ∷ c.args.segment.now) c.loop-left.place 0) =
    c.saturating_sub-left.ensures ∙ ap (λ (w : ℕ). c.loop-left.left - w) (c.width_after.ensures ∙ ap (λ (b : ℕ). raw_width b) here) in
    record {
      same = rw left (sym (looked_on c.args.segment.now c.loop-left.place c.loop-left.left c.if-place-segment.true c.loop-left-test.true) ∙ c.loop-left.invariant.same);
      before = λ within. rw (add-one c.loop-left.place) refl;
    }

pub returns-else-place-segment : goal.returns-else-place-segment
returns-else-place-segment c = sym (looked_end c.args.segment.now c.loop-left.place c.loop-left.left c.if-place-segment.false) ∙ c.loop-left.invariant.same

pub returns-after-loop-left : goal.returns-after-loop-left
returns-after-loop-left c = sym (looked_done c.args.segment.now c.loop-left.place c.loop-left.left (omega arith)) ∙ c.loop-left.invariant.same
