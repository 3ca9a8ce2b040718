use Rattle.std.proofs.Common.{ℕ, ◌-◌, ◌∙◌, min, ap, arith, bit_and, w64}
use Rattle.std.specs.Int.{bit_at}
use Rattle.std.proofs.lemmas.Nat.Bits.{bit_at_and, bit_at_not}
use Rattle.jx_tier1.proofs.CleanWord.{cleaned_none, cleaned_next, cleaned_all, four_of, run_row}
use Rattle.jx_tier1.proofs.DueWords.{bit_of_word, above, bit_le}
use Rattle.jx_tier1.proofs.WordReach.{lower}
use Rattle.jx_tier1.proofs.word_passes.cleanup_word.Goals as goal

pub loop-word-init : goal.loop-word-init
loop-word-init g c =
    let d : ℕ = c.args.places in
    let n : ℕ = c.near.result in
    let m : ℕ = bit_and d (18446744073709551615 - n) in
    let z : ℕ = c.whole_columns.result in
    record {
      within = λ i. omega arith;
      rows = λ i e. run_row z i c.whole_columns.ensures.others e;
      fits = c.ranges.places.fits;
      walk = λ v b.
          cleaned_none g.S.Source.ask c.args.plane v c.args.corner.x c.args.corner.y c.args.sight.window c.args.sight.signs d z c.args.source.now b
          (λ i l r. four_of z d c.args.sight.window n m i
          (λ j o. bit_at_and d (18446744073709551615 - n) j ∙ ap (λ (u : ℕ). min (bit_at d j) u) (bit_at_not w64 n j c.near.type_inv o))
          c.near.ensures l (c.whole_columns.ensures.first i l r));
    }

pub lowest-place-requires : goal.lowest-place-requires
lowest-place-requires g c = let n = c.loop-word-test.true in omega arith

pub cleanup_place-requires-clause-place : goal.cleanup_place-requires-clause-place
cleanup_place-requires-clause-place g c =
    let p : ℕ = c.lowest-place.result in
    bit_of_word c.args.places p c.requires.places
    (above (bit_at c.loop-word.word.due p) (bit_at c.args.places p) c.lowest-place.ensures.place (c.loop-word.invariant.within p) (bit_le c.args.places p))

pub loop-word-preserved : goal.loop-word-preserved
loop-word-preserved g c =
    let p : ℕ = c.lowest-place.result in
    let o : ℕ = c.args.places in
    let d : ℕ = c.loop-word.word.due in
    let within = c.loop-word.invariant.within in
    let step = c.in_ok-word.ensures in
    record {
      within = λ i. let a = step.due i in let b = within i in omega arith;
      rows = λ i e. c.loop-word.invariant.rows i (above (bit_at c.in_ok-word.word.runs i) (bit_at c.loop-word.word.runs i) e (step.runs i) (bit_le c.loop-word.word.runs i));
      fits = step.fits;
      walk = λ v b.
          cleaned_next g.S.Source.ask c.args.plane v c.args.corner.x c.args.corner.y c.loop-word.word.sight.window c.loop-word.word.sight.signs d c.loop-word.word.runs p
          c.in_ok-word.word.sight.window c.in_ok-word.word.sight.signs c.in_ok-word.word.due c.in_ok-word.word.runs c.args.source.now c.loop-word.source
          c.cleanup_place.new.source (c.loop-word.invariant.walk v b) c.requires.first
          (bit_of_word o p c.requires.places (above (bit_at d p) (bit_at o p) c.lowest-place.ensures.place (within p) (bit_le o p)))
          c.lowest-place.ensures.place c.lowest-place.ensures.first (λ h s. step.walk h s);
    }

pub loop-word-smaller : goal.loop-word-smaller
loop-word-smaller g c =
    let n = c.loop-word-test.true in
    lower c.loop-word.word.due c.in_ok-word.word.due c.lowest-place.result (omega arith) c.loop-word.invariant.fits c.in_ok-word.ensures.fits c.lowest-place.ensures.place
    c.in_ok-word.ensures.before

pub returns : goal.returns
returns g c = record {
  walk = λ v b.
      cleaned_all g.S.Source.ask c.args.plane v c.args.corner.x c.args.corner.y c.loop-word.word.sight.window c.loop-word.word.sight.signs c.loop-word.word.due
      c.loop-word.word.runs c.args.source.now c.loop-word.source (c.loop-word.invariant.walk v b) c.requires.first c.loop-word-test.false;
}
