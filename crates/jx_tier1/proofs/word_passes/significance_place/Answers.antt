use Rattle.std.proofs.Common.{ℕ, ◌+◌, ◌/◌, ◌%◌, ◌∙◌, max, ap, arith, bit_and, bit_or}
use Rattle.std.specs.Int.{bit_at}
use Rattle.std.proofs.lemmas.Nat.{and_le_r, or_lt}
use Rattle.std.proofs.lemmas.Nat.Bits.{bit_at_and, bit_at_or}
use Rattle.jx_tier1.specs.Sights.{IsPlaceIn}
use Rattle.jx_tier1.proofs.DueWords.{more_bit, less_bit}
use Rattle.jx_tier1.proofs.NextLemmas.{IsRaised}
use Rattle.jx_tier1.proofs.SeekLemmas.{seek_zero, seek_one, sign_place, sign_neat}
use Rattle.jx_tier1.proofs.word_passes.significance_place.Goals as goal

pub returns-then-not-branch-clause-walk : goal.returns-then-not-branch-clause-walk
returns-then-not-branch-clause-walk g c = λ v h.
    let one = c.requires.one in
    let d = c.args.word.due in
    seek_zero g.S.Source.ask c.args.plane v c.args.corner.x c.args.corner.y c.args.word.sight.window c.args.word.sight.signs c.args.free d c.args.word.seen c.args.place
    c.behind-due.result c.in_ok-decide_bit.field-0 c.args.source.now c.decide_bit.new.source h c.requires.first c.requires.place one
    (c.in_ok-decide_bit.ensures.answer v h.sight) (c.in_ok-decide_bit.ensures.after v h.sight) c.if-not-branch.true c.behind-due.ensures.before c.behind-due.ensures.behind

pub returns-clause-walk : goal.returns-clause-walk
returns-clause-walk g c = λ v h.
    let w : ℕ = c.args.word.sight.window in
    let d : ℕ = c.args.word.due in
    let o : ℕ = c.args.free in
    let n : ℕ = c.following.result in
    let p : ℕ = c.args.place in
    let x : ℕ = c.args.corner.x in
    let y : ℕ = c.args.corner.y in
    let f = c.following.ensures in
    let r : IsRaised w c.in_ok-sight.sight.window n p =
    record {
      there = c.in_ok-sight.ensures.there;
      others = c.in_ok-sight.ensures.others;
      below = f.below;
      first = f.first;
      second = f.second;
      third = f.third;
      rest = f.others;
    } in
    let i : IsPlaceIn v (x + p / 6) (y + p % 6) = sign_place c.args.plane v x y w c.args.word.sight.signs o d c.args.word.seen p h c.requires.first c.requires.place c.requires.one in
    let z = sign_neat c.args.plane v x y w c.args.word.sight.signs o d c.args.word.seen p h c.requires.first c.requires.place c.requires.one in
    seek_one g.S.Source.ask c.args.plane v x y w c.args.word.sight.signs o d c.args.word.seen p
    c.in_ok-sight.sight.window c.in_ok-sight.sight.signs n (bit_and n o) (bit_or c.behind-due.result (bit_and n o)) (bit_or c.args.word.seen (bit_and n o))
    c.in_ok-decide_bit.field-0 c.args.source.now c.decide_bit.new.source c.decide_sign.new.source h c.requires.first c.requires.place c.requires.one
    (c.in_ok-decide_bit.ensures.answer v h.sight) (c.in_ok-decide_bit.ensures.after v h.sight) c.if-not-branch.false
    (c.in_ok-sight.ensures.walk v h.sight i z) r
    (λ j l. f.others j (λ e. absurd (omega arith)) (λ e. absurd (omega arith)) (λ e. absurd (omega arith)) (λ e. absurd (omega arith)))
    (λ j. bit_at_and n o j)
    (λ j l. bit_at_or c.behind-due.result (bit_and n o) j ∙ less_bit (bit_at c.behind-due.result j) (bit_at (bit_and n o) j) (c.behind-due.ensures.before j l))
    (λ j l. bit_at_or c.behind-due.result (bit_and n o) j ∙ ap (λ (m : ℕ). max m (bit_at (bit_and n o) j)) (c.behind-due.ensures.behind j l))
    (λ j. bit_at_or c.args.word.seen (bit_and n o) j)

pub returns-clause-before : goal.returns-clause-before
returns-clause-before g c = λ j l.
    let f = c.following.ensures in
    let n : ℕ = c.following.result in
    let a = f.others j (λ e. absurd (omega arith)) (λ e. absurd (omega arith)) (λ e. absurd (omega arith)) (λ e. absurd (omega arith)) in
    let b = c.behind-due.ensures.before j l in
    let d = bit_at_and n c.args.free j in
    bit_at_or c.behind-due.result (bit_and n c.args.free) j ∙ omega arith

pub returns-then-not-branch-clause-within : goal.returns-then-not-branch-clause-within
returns-then-not-branch-clause-within g c = λ j. more_bit c.args.word.due c.behind-due.result c.args.free c.args.place j c.behind-due.ensures.before c.behind-due.ensures.behind

pub returns-clause-within : goal.returns-clause-within
returns-clause-within g c = λ j.
    let n : ℕ = c.following.result in
    let a = more_bit c.args.word.due c.behind-due.result c.args.free c.args.place j c.behind-due.ensures.before c.behind-due.ensures.behind in
    let b = bit_at_and n c.args.free j in
    let d = bit_at_or c.behind-due.result (bit_and n c.args.free) j in
    omega arith

pub returns-clause-fits : goal.returns-clause-fits
returns-clause-fits g c =
    or_lt 64 c.behind-due.result (bit_and c.following.result c.args.free) c.behind-due.type_inv
    (let a = and_le_r c.following.result c.args.free in let b = c.ranges.free.fits in omega arith)
