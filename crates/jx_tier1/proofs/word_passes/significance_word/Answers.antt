use Rattle.std.proofs.Common.{ℕ, ◌∙◌, min, ap, arith, bit_and}
use Rattle.std.specs.Int.{bit_at}
use Rattle.std.proofs.lemmas.Nat.{and_le_r}
use Rattle.std.proofs.lemmas.Nat.Bits.{bit_at_and}
use Rattle.jx_tier1.proofs.DueWords.{bit_of_word, above, bit_le}
use Rattle.jx_tier1.proofs.SeekWord.{sought_none, sought_next, sought_all}
use Rattle.jx_tier1.proofs.WordReach.{lower}
use Rattle.jx_tier1.proofs.word_passes.significance_word.Goals as goal

pub loop-word-init : goal.loop-word-init
loop-word-init g c = record {
  within = λ i. let e = bit_at_and c.near.result c.args.free i in omega arith;
  fits = let a = and_le_r c.near.result c.args.free in let b = c.ranges.free.fits in omega arith;
  walk = λ v b.
      sought_none g.S.Source.ask c.args.plane v c.args.corner.x c.args.corner.y c.args.sight.window c.args.sight.signs c.args.free (bit_and c.near.result c.args.free)
      c.args.source.now b (λ i. bit_at_and c.near.result c.args.free i ∙ ap (λ (n : ℕ). min n (bit_at c.args.free i)) (c.near.ensures i));
}

pub lowest-place-requires : goal.lowest-place-requires
lowest-place-requires g c = let n = c.loop-word-test.true in omega arith

pub significance_place-requires-clause-place : goal.significance_place-requires-clause-place
significance_place-requires-clause-place g c = bit_of_word c.args.free c.lowest-place.result c.requires.free (above (bit_at c.loop-word.word.due c.lowest-place.result) (bit_at c.args.free c.lowest-place.result) c.lowest-place.ensures.place (c.loop-word.invariant.within c.lowest-place.result) (bit_le c.args.free c.lowest-place.result))

pub loop-word-preserved : goal.loop-word-preserved
loop-word-preserved g c =
    let p : ℕ = c.lowest-place.result in
    let o : ℕ = c.args.free in
    let d : ℕ = c.loop-word.word.due in
    let within = c.loop-word.invariant.within in
    let step = c.in_ok-word.ensures in
    record {
      within = λ i. let a = step.within i in let b = within i in omega arith;
      fits = step.fits;
      walk = λ v b.
          sought_next g.S.Source.ask c.args.plane v c.args.corner.x c.args.corner.y c.loop-word.word.sight.window c.loop-word.word.sight.signs o d c.loop-word.word.seen p
          c.in_ok-word.word.sight.window c.in_ok-word.word.sight.signs c.in_ok-word.word.due c.in_ok-word.word.seen c.args.source.now c.loop-word.source
          c.significance_place.new.source (c.loop-word.invariant.walk v b) c.requires.first
          (bit_of_word o p c.requires.free (above (bit_at d p) (bit_at o p) c.lowest-place.ensures.place (within p) (bit_le o p)))
          c.lowest-place.ensures.place c.lowest-place.ensures.first (λ h s. step.walk h s);
    }

pub loop-word-smaller : goal.loop-word-smaller
loop-word-smaller g c =
    let n = c.loop-word-test.true in
    lower c.loop-word.word.due c.in_ok-word.word.due c.lowest-place.result (omega arith) c.loop-word.invariant.fits c.in_ok-word.ensures.fits c.lowest-place.ensures.place
    c.in_ok-word.ensures.before

pub returns : goal.returns
returns g c = record {
  walk = λ v b.
      sought_all g.S.Source.ask c.args.plane v c.args.corner.x c.args.corner.y c.loop-word.word.sight.window c.loop-word.word.sight.signs c.args.free c.loop-word.word.due
      c.loop-word.word.seen c.args.source.now c.loop-word.source (c.loop-word.invariant.walk v b) c.requires.first c.loop-word-test.false;
}
