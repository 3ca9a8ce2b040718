use Rattle.std.proofs.Common.{◌≡◌, ◌+◌, ◌-◌, ◌*◌, ◌∙◌, ◌||◌, not, ℕ, min, sym, ap, arith, subst, get_or}
use Rattle.std.specs.Int.{bit_at}
use Rattle.jx_tier1_specs.specs.Asking.{told}
use Rattle.jx_tier1_specs.specs.Cells.{significant}
use Rattle.jx_tier1_specs.specs.Pass.{is_decided}
use Rattle.jx_tier1.specs.Blocks.{BlockWords}
use Rattle.jx_tier1.specs.BlockPasses.{ComesTo}
use Rattle.jx_tier1.specs.Marks.{mark, minus}
use Rattle.jx_tier1.specs.Sights.{IsSight}
use Rattle.jx_tier1.specs.WordPasses.{Picks}
use Rattle.jx_tier1.specs.WordScan.{word_pass}
use Rattle.jx_tier1.proofs.BeforeLemmas.{left_picked, before_cleanup}
use Rattle.jx_tier1.proofs.GroupLemmas.{has_word, cleanup_comes, cleanup_rests}
use Rattle.jx_tier1.proofs.IdleLemmas.{cleanup_idle}
use Rattle.jx_tier1.proofs.passes.cleanup_group.Goals as goal

-- the bits of the words by their names
left_bits : (d e v p q m n i : ℕ) → p ≡ m → q ≡ n → bit_at e i ≡ min (bit_at v i) (1 - bit_at p i) → bit_at d i ≡ min (bit_at e i) (1 - bit_at q i)
    → bit_at d i ≡ min (min (bit_at v i) (1 - bit_at m i)) (1 - bit_at n i)
left_bits d e v p q m n i j k f h =
    h
    ∙ (ap (λ (z : ℕ). min z (1 - bit_at q i)) f
    ∙ (ap (λ (z : ℕ). min (min (bit_at v i) (1 - bit_at z i)) (1 - bit_at q i)) j ∙ ap (λ (z : ℕ). min (min (bit_at v i) (1 - bit_at m i)) (1 - bit_at z i)) k))

pub returns-then-places-eq0-clause-walk : goal.returns-then-places-eq0-clause-walk
returns-then-places-eq0-clause-walk g c = λ h n m.
    let s : ℕ = c.args.stripe in
    let t : ℕ = c.args.group in
    let at : ℕ = c.spot-at.result in
    let b : BlockWords = c.args.block.now in
    let o = c.spot-at.ensures in
    let a = has_word b s t at o.lists o.at o.below c.requires.group in
    let valid = c.places_of-valid.ensures.places h (sym m.drawn.width) (sym m.drawn.height) in
    let picks = left_picked c.args.plane h b s t at c.places_of-valid.result c.without-places.result m a valid
    (λ i. left_bits c.without-places.result c.without-left.result c.places_of-valid.result c.significant.result c.visited.result (get_or b.significant at 0) (get_or b.visited at 0) i
    c.significant.ensures.value c.visited.ensures (c.without-left.ensures.bits i) (c.without-places.ensures.bits i)) in
    let none = subst (λ (z : ℕ). Picks (λ v. not (significant v || is_decided c.args.plane v)) h (8 * t) (4 * s) z) c.if-places-eq0.true picks in
    cleanup_rests g.S.Source.ask c.args.plane h b s t c.args.source.now m (cleanup_idle g.S.Source.ask c.args.plane h (8 * t) (4 * s) c.args.source.now none)

pub returns-clause-walk : goal.returns-clause-walk
returns-clause-walk g c = λ h n m.
    let s : ℕ = c.args.stripe in
    let t : ℕ = c.args.group in
    let at : ℕ = c.spot-at.result in
    let b : BlockWords = c.args.block.now in
    let o = c.spot-at.ensures in
    let l = c.requires.group in
    let a = has_word b s t at o.lists o.at o.below l in
    let valid = c.places_of-valid.ensures.places h (sym m.drawn.width) (sym m.drawn.height) in
    let sight : IsSight c.args.plane.causal h (8 * t) (4 * s) c.window-window.result c.signs-signs.result = record {
      window = c.window-window.ensures (mark h) s t o.at (omega arith) m.drawn.significant;
      signs = c.signs-signs.ensures (minus h) s t o.at (omega arith) m.drawn.negative;
    } in
    let before = before_cleanup c.args.plane h b s t at c.window-window.result c.signs-signs.result c.places_of-valid.result c.without-places.result n m a sight valid
    (λ i. left_bits c.without-places.result c.without-left.result c.places_of-valid.result c.significant.result c.visited.result (get_or b.significant at 0) (get_or b.visited at 0) i
    c.significant.ensures.value c.visited.ensures (c.without-left.ensures.bits i) (c.without-places.ensures.bits i)) in
    let after = c.in_ok-after.ensures.walk h before in
    let P : BlockWords → Type 0 = λ z. ComesTo 2 s (t + 1) c.args.plane (told g.S.Source.ask (word_pass 0 c.args.plane (8 * t) (4 * s) h) c.args.source.now) z c.cleanup_word.new.source in
    subst P (sym c.put.ensures)
    (cleanup_comes g.S.Source.ask c.args.plane h b s t at c.in_ok-after.after.window c.in_ok-after.after.signs c.places_of-valid.result c.own_places.result
    c.own_places-2.result c.args.source.now c.cleanup_word.new.source n m a valid after c.own_places.ensures.bits c.own_places-2.ensures.bits)
