use Rattle.std.proofs.Common.{◌≡◌, ◌∙◌, ◌<◌, arith, length, sym, true, false}
use Rattle.jx_plan.specs.Changes.{is_coding}
use Rattle.jx_plan.proofs.CodingLemmas.{next_coding, next_other}
use Rattle.jx_plan.proofs.changes.coding_end.Goals as goal
use Rattle.jx_plan.proofs.changes.coding_end.Goals.{then-is_coding, else-is_coding}

pub loop-place-preserved : goal.loop-place-preserved
loop-place-preserved c =
    let inside : c.loop-place.place < length c.args.segments.now = omega arith in
    elim c.if-is_coding.branch [
      | then-is_coding w ↦
          (let here : is_coding c.index-segments-place.result ≡ true = cc in
          let end = next_coding c.args.segments.now c.loop-place.place c.index-segments-place.result inside c.index-segments-place.is here in
          (w.end-is ∙ sym end, omega arith))
      | else-is_coding w ↦
          (let past : is_coding c.index-segments-place.result ≡ false = cc in
          let end = next_other c.args.segments.now c.loop-place.place c.index-segments-place.result inside c.index-segments-place.is past in
          (w.end-is ∙ c.loop-place.invariant.0 ∙ sym end, omega arith))
    ]
