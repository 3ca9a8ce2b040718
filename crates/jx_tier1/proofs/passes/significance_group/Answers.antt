use Rattle.std.proofs.Common.{◌≡◌, ◌+◌, ◌-◌, ◌*◌, ◌/◌, ◌∙◌, ℕ, min, refl, sym, ap, arith, subst, set, bit_and}
use Rattle.std.specs.Int.{bit_at}
use Rattle.jx_tier1_specs.specs.Asking.{told}
use Rattle.jx_tier1.specs.Blocks.{BlockWords}
use Rattle.jx_tier1.specs.BlockPasses.{ComesTo}
use Rattle.jx_tier1.specs.Marks.{mark, minus}
use Rattle.jx_tier1.specs.Places.{of_nine}
use Rattle.jx_tier1.specs.Sights.{IsSight}
use Rattle.jx_tier1.specs.WordScan.{word_pass}
use Rattle.jx_tier1.proofs.BeforeLemmas.{before_significance, significance_idle}
use Rattle.jx_tier1.proofs.BitLemmas.{bit_shr, and_bit}
use Rattle.std.proofs.lemmas.Nat.Bits.{bit_at-zero}
use Rattle.jx_tier1.proofs.GroupLemmas.{has_word, significance_comes, significance_rests}
use Rattle.jx_tier1.proofs.passes.significance_group.Goals as goal

-- the places behind the window's first column and row
shifted : (p w i : ℕ) → min p (1 - bit_at (w / 128) i) ≡ min p (1 - bit_at w (i + 7))
shifted p w i = ap (λ (n : ℕ). min p (1 - n)) (bit_shr w 7 i)

none_due : (a b i n : ℕ) → bit_at a i ≡ n → bit_and a b ≡ 0 → min n (bit_at b i) ≡ 0
none_due a b i n e z = sym (and_bit a b i n (bit_at b i) e refl) ∙ (ap (λ (m : ℕ). bit_at m i) z ∙ bit_at-zero i)

pub returns-then-near-free-eq0-clause-walk : goal.returns-then-near-free-eq0-clause-walk
returns-then-near-free-eq0-clause-walk g c = λ h n m.
    let s : ℕ = c.args.stripe in
    let t : ℕ = c.args.group in
    let b : BlockWords = c.args.block.now in
    let o = c.spot-at.ensures in
    let l = c.requires.group in
    let a = has_word b s t c.spot-at.result o.lists o.at o.below l in
    let sees = c.window-window.ensures (mark h) s t o.at (omega arith) m.drawn.significant in
    let i = significance_idle g.S.Source.ask c.args.plane h b s t c.window-window.result c.places_of-valid.result c.without-free.result c.args.source.now m sees
    (c.places_of-valid.ensures.places h (sym m.drawn.width) (sym m.drawn.height))
    (λ j. c.without-free.ensures.bits j ∙ shifted (bit_at c.places_of-valid.result j) c.window-window.result j)
    (λ j. none_due c.near.result c.without-free.result j (of_nine c.window-window.result j) (c.near.ensures j) c.if-near-free-eq0.true) in
    let P : BlockWords → Type 0 = λ z. ComesTo 0 s (t + 1) c.args.plane (told g.S.Source.ask (word_pass 1 c.args.plane (8 * t) (4 * s) h) c.args.source.now) z c.args.source.now in
    subst P (sym c.visit.ensures) (significance_rests g.S.Source.ask c.args.plane h b s t c.spot-at.result c.args.source.now m a i.0 i.1)

pub returns-clause-walk : goal.returns-clause-walk
returns-clause-walk g c = λ h n m.
    let s : ℕ = c.args.stripe in
    let t : ℕ = c.args.group in
    let at : ℕ = c.spot-at.result in
    let seen : ℕ = c.in_ok-after.seen in
    let b : BlockWords = c.args.block.now in
    let o = c.spot-at.ensures in
    let l = c.requires.group in
    let a = has_word b s t at o.lists o.at o.below l in
    let sight : IsSight c.args.plane.causal h (8 * t) (4 * s) c.window-window.result c.signs-signs.result = record {
      window = c.window-window.ensures (mark h) s t o.at (omega arith) m.drawn.significant;
      signs = c.signs-signs.ensures (minus h) s t o.at (omega arith) m.drawn.negative;
    } in
    let valid = c.places_of-valid.ensures.places h (sym m.drawn.width) (sym m.drawn.height) in
    let before = before_significance c.args.plane h b s t c.window-window.result c.signs-signs.result c.places_of-valid.result c.without-free.result n m sight valid
    (λ j. c.without-free.ensures.bits j ∙ shifted (bit_at c.places_of-valid.result j) c.window-window.result j) in
    let after = c.in_ok-after.ensures.walk h before in
    let P : BlockWords → Type 0 = λ z. ComesTo 0 s (t + 1) c.args.plane (told g.S.Source.ask (word_pass 1 c.args.plane (8 * t) (4 * s) h) c.args.source.now) z c.significance_word.new.source in
    let V : BlockWords → BlockWords = λ z. record z { visited = set z.visited at seen } in
    subst P (sym (c.visit-2.ensures ∙ ap V c.put.ensures))
    (significance_comes g.S.Source.ask c.args.plane h b s t at c.in_ok-after.after.window c.in_ok-after.after.signs c.places_of-valid.result seen c.own_places.result
    c.own_places-2.result c.args.source.now c.significance_word.new.source n m a valid after c.own_places.ensures.bits c.own_places-2.ensures.bits)
