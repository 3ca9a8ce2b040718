use Rattle.std.proofs.Common.{◌≡◌, ◌+◌, ◌-◌, ◌*◌, ◌∙◌, ◌&&◌, not, ℕ, min, refl, sym, ap, arith, subst, get_or, bit_or}
use Rattle.std.specs.Int.{bit_at}
use Rattle.jx_tier1_specs.specs.Asking.{told}
use Rattle.jx_tier1_specs.specs.Cells.{significant}
use Rattle.jx_tier1_specs.specs.Pass.{is_decided}
use Rattle.jx_tier1.specs.Blocks.{BlockWords}
use Rattle.jx_tier1.specs.BlockPasses.{ComesTo}
use Rattle.jx_tier1.specs.Marks.{mark}
use Rattle.jx_tier1.specs.Places.{IsWord}
use Rattle.jx_tier1.specs.WordPasses.{Picks}
use Rattle.jx_tier1.specs.WordScan.{word_pass}
use Rattle.jx_tier1.proofs.BeforeLemmas.{due_picked, before_refinement}
use Rattle.jx_tier1.proofs.BitLemmas.{or_bit}
use Rattle.jx_tier1.proofs.GroupLemmas.{has_word, refinement_rests}
use Rattle.jx_tier1.proofs.IdleLemmas.{refinement_idle}
use Rattle.jx_tier1.proofs.RefinedLemmas.{refinement_comes}
use Rattle.jx_tier1.proofs.passes.refinement_group.Goals as goal

-- the bits of the two words by their names
due_bits : (d p q m n i : ℕ) → p ≡ m → q ≡ n → bit_at d i ≡ min (bit_at p i) (1 - bit_at q i) → bit_at d i ≡ min (bit_at m i) (1 - bit_at n i)
due_bits d p q m n i e f h = h ∙ (ap (λ (z : ℕ). min (bit_at z i) (1 - bit_at q i)) e ∙ ap (λ (z : ℕ). min (bit_at m i) (1 - bit_at z i)) f)

pub returns-then-due-eq0-clause-walk : goal.returns-then-due-eq0-clause-walk
returns-then-due-eq0-clause-walk g c = λ h n m.
    let s : ℕ = c.args.stripe in
    let t : ℕ = c.args.group in
    let at : ℕ = c.spot-at.result in
    let b : BlockWords = c.args.block.now in
    let o = c.spot-at.ensures in
    let a = has_word b s t at o.lists o.at o.below c.requires.group in
    let e = c.significant.ensures in
    let picks = due_picked c.args.plane h b s t at c.without-due.result m a (subst IsWord e.value e.word)
    (λ i. due_bits c.without-due.result c.significant.result c.visited.result (get_or b.significant at 0) (get_or b.visited at 0) i e.value c.visited.ensures (c.without-due.ensures.bits i)) in
    let none = subst (λ (z : ℕ). Picks (λ v. significant v && not (is_decided c.args.plane v)) h (8 * t) (4 * s) z) c.if-due-eq0.true picks in
    refinement_rests g.S.Source.ask c.args.plane h b s t c.args.source.now m (refinement_idle g.S.Source.ask c.args.plane h (8 * t) (4 * s) c.args.source.now none)

pub returns-clause-walk : goal.returns-clause-walk
returns-clause-walk g c = λ h n m.
    let s : ℕ = c.args.stripe in
    let t : ℕ = c.args.group in
    let at : ℕ = c.spot-at.result in
    let b : BlockWords = c.args.block.now in
    let o = c.spot-at.ensures in
    let l = c.requires.group in
    let a = has_word b s t at o.lists o.at o.below l in
    let e = c.significant.ensures in
    let sees = c.window-window.ensures (mark h) s t o.at (omega arith) m.drawn.significant in
    let before = before_refinement c.args.plane h b s t at c.window-window.result c.without-due.result n m a sees (subst IsWord e.value e.word)
    (λ i. due_bits c.without-due.result c.significant.result c.visited.result (get_or b.significant at 0) (get_or b.visited at 0) i e.value c.visited.ensures (c.without-due.ensures.bits i)) in
    let r : ℕ = bit_or c.refined-refined.result c.without-due.result in
    let walk = c.in_ok-refinement_word.ensures.walk h (rw c.refined-refined.ensures before) in
    let P : BlockWords → Type 0 = λ z. ComesTo 1 s (t + 1) c.args.plane (told g.S.Source.ask (word_pass 2 c.args.plane (8 * t) (4 * s) h) c.args.source.now) z c.refinement_word.new.source in
    subst P (sym c.refine.ensures)
    (refinement_comes g.S.Source.ask c.args.plane h b s t at c.without-due.result r c.args.source.now c.refinement_word.new.source n m a before.due
    (λ i. or_bit c.refined-refined.result c.without-due.result i (bit_at (get_or b.refined at 0) i) (bit_at c.without-due.result i) (ap (λ (z : ℕ). bit_at z i) c.refined-refined.ensures) refl)
    walk)
