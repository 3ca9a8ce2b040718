use Rattle.std.proofs.Common.{ℕ, ◌≡◌, ◌-◌, ◌∙◌, min, ap, arith, bit_and, w64}
use Rattle.std.specs.Int.{bit_at}
use Rattle.std.proofs.lemmas.Nat.Bits.{bit_at_and, bit_at_not}
use Rattle.jx_tier1.specs.Places.{of_eight}
use Rattle.jx_tier1.proofs.RefinementWord.{refined_none, refined_next, refined_all}
use Rattle.jx_tier1.proofs.WordReach.{lower}
use Rattle.jx_tier1.proofs.word_passes.refinement_word.Goals as goal

pub loop-due-init : goal.loop-due-init
loop-due-init g c = record {
  fits = c.ranges.places.fits;
  walk = λ v b. refined_none g.S.Source.ask c.args.plane v c.args.corner.x c.args.corner.y c.args.window c.args.places c.args.refined c.args.source.now b;
}

pub lowest-place-requires : goal.lowest-place-requires
lowest-place-requires g c = let n = c.loop-due-test.true in omega arith

pub loop-due-preserved : goal.loop-due-preserved
loop-due-preserved g c = record {
  fits = c.behind-due.type_inv;
  walk = λ v b.
      let p : ℕ = c.lowest-place.result in
      let m : ℕ = c.args.refined in
      let few = c.lowest-place.ensures.few in
      let near : bit_at (bit_and c.beside.result (18446744073709551615 - m)) p ≡ min (of_eight c.args.window p) (1 - bit_at m p) =
      bit_at_and c.beside.result (18446744073709551615 - m) p
      ∙ (ap (λ (n : ℕ). min n (bit_at (18446744073709551615 - m) p)) (c.beside.ensures p)
      ∙ ap (λ (n : ℕ). min (of_eight c.args.window p) n) (bit_at_not w64 m p c.ranges.refined.fits few)) in
      refined_next g.S.Source.ask c.args.plane v c.args.corner.x c.args.corner.y c.args.window c.loop-due.due m (bit_and c.beside.result (18446744073709551615 - m)) p
      c.behind-due.result c.args.source.now c.loop-due.source c.refinement_place.new.source (c.loop-due.invariant.walk v b) c.requires.first c.lowest-place.ensures.place
      c.lowest-place.ensures.first near c.behind-due.ensures.before c.behind-due.ensures.behind (λ h r. c.in_ok-refinement_place.ensures h r);
}

pub loop-due-smaller : goal.loop-due-smaller
loop-due-smaller g c =
    let n = c.loop-due-test.true in
    lower c.loop-due.due c.behind-due.result c.lowest-place.result (omega arith) c.loop-due.invariant.fits c.behind-due.type_inv c.lowest-place.ensures.place
    c.behind-due.ensures.before

pub returns : goal.returns
returns g c = record {
  walk = λ v b.
      refined_all g.S.Source.ask c.args.plane v c.args.corner.x c.args.corner.y c.args.window c.loop-due.due c.args.refined c.args.source.now c.loop-due.source
      (c.loop-due.invariant.walk v b) c.loop-due-test.false;
}
