-- A block's segments are its pieces, joined up to each pass that ends a segment.
use Rattle.std.proofs.Common.{◌≡◌, ℕ, zero, suc, ◌+◌, ◌-◌, ◌<◌, ◌≤◌, ◌==◌, Bool, true, false, List, [], ◌∷◌, ◌++◌, inl, inr, ◌∙◌, ap, sym, refl, arith, map, append_assoc, append-nil}
use Rattle.std.specs.List.{concat, filter, flat_map, range_with_len}
use Rattle.std.proofs.lemmas.Bool.{cases_Bool, cond-true, cond-false, eq-eqb, ne_eqb}
use Rattle.jx_base.specs.Pieces.{PieceValue, ArePieces}
use Rattle.jx_codeblock.specs.Groups.{onto_first, joined_on, ends_it, groups}
use Rattle.jx_codeblock.specs.Segments.{ends_below, segment_count, segment_at, segments_of}
use Rattle.jx_codeblock.proofs.EndLemmas.{below_ended, below_still, below_grows, below_within, count_is}
use Rattle.jx_base.proofs.PieceLemmas.{pieces_end}

-- ---- the segment of a number
abbrev segs : ℕ → List PieceValue → ℕ → ℕ → List (List ℕ)
segs style ps a n = map (segment_at style ps) (range_with_len a n)

at_own : (style i : ℕ) (p : PieceValue) (ps : List PieceValue) → ends_below style p.first ≡ i → segment_at style (p ∷ ps) i ≡ p.bytes ++ segment_at style ps i
at_own style i p ps e =
    let test : PieceValue → Bool = λ q. ends_below style q.first == i in
    ap (λ (qs : List PieceValue). flat_map (λ (q : PieceValue). q.bytes) qs)
    (cond-true (ends_below style p.first == i) (p ∷ filter test ps) (filter test ps) (eq-eqb (ends_below style p.first) i e))

at_other : (style i : ℕ) (p : PieceValue) (ps : List PieceValue) → (ends_below style p.first ≡ i → ⊥) → segment_at style (p ∷ ps) i ≡ segment_at style ps i
at_other style i p ps ne =
    let test : PieceValue → Bool = λ q. ends_below style q.first == i in
    ap (λ (qs : List PieceValue). flat_map (λ (q : PieceValue). q.bytes) qs)
    (cond-false (ends_below style p.first == i) (p ∷ filter test ps) (filter test ps) (ne_eqb (ends_below style p.first) i ne))

-- pieces from a pass on have nothing of an earlier segment
at_low : (style layer first passes i : ℕ) (ps : List PieceValue) → ArePieces style layer first passes ps → i < ends_below style first → segment_at style ps i ≡ []
at_low style layer first passes i [] are lt = refl
at_low style layer first passes i (p ∷ ps) are lt =
    let here : ends_below style p.first ≡ ends_below style first = ap (ends_below style) are.0.begins in
    let grows : ends_below style first ≤ ends_below style (first + p.passes) = below_grows style first (first + p.passes) (omega arith) in
    at_other style i p ps (λ (e : ends_below style p.first ≡ i). omega arith)
    ∙ at_low style p.layer (first + p.passes) passes i ps are.1 (omega arith)

segs_past : (style a n : ℕ) (p : PieceValue) (ps : List PieceValue) → ends_below style p.first < a → segs style (p ∷ ps) a n ≡ segs style ps a n
segs_past style a zero p ps lt = refl
segs_past style a (suc n) p ps lt =
    let here : segment_at style (p ∷ ps) a ≡ segment_at style ps a = at_other style a p ps (λ (e : ends_below style p.first ≡ a). omega arith) in
    let more : segs style (p ∷ ps) (a + 1) n ≡ segs style ps (a + 1) n = segs_past style (a + 1) n p ps (omega arith) in
    cc

-- ---- the last piece, and one before another
segs_last : (style a : ℕ) (p : PieceValue) → ends_below style p.first ≡ a → (ends : Bool) → segs style (p ∷ []) a 1 ≡ joined_on ends p.bytes []
segs_last style a p e ends =
    let here : segment_at style (p ∷ []) a ≡ p.bytes = at_own style a p [] e ∙ append-nil p.bytes in
    by ends here
  where
    by : (ends : Bool) → segment_at style (p ∷ []) a ≡ p.bytes → segs style (p ∷ []) a 1 ≡ joined_on ends p.bytes []
    by true here = ap (λ (s : List ℕ). s ∷ []) here
    by false here = ap (λ (s : List ℕ). s ∷ []) here

segs_ended : (style layer a n first passes : ℕ) (p : PieceValue) (ps : List PieceValue) → ends_below style p.first ≡ a → ends_below style first ≡ a + 1
    → ArePieces style layer first passes ps → segs style (p ∷ ps) a (suc n) ≡ p.bytes ∷ segs style ps (a + 1) n
segs_ended style layer a n first passes p ps e next are =
    let low : segment_at style ps a ≡ [] = at_low style layer first passes a ps are (omega arith) in
    let here : segment_at style (p ∷ ps) a ≡ p.bytes = at_own style a p ps e ∙ ap (λ (s : List ℕ). p.bytes ++ s) low ∙ append-nil p.bytes in
    let more : segs style (p ∷ ps) (a + 1) n ≡ segs style ps (a + 1) n = segs_past style (a + 1) n p ps (omega arith) in
    cc

segs_on : (style a n : ℕ) (p : PieceValue) (ps : List PieceValue) → ends_below style p.first ≡ a → segs style (p ∷ ps) a (suc n) ≡ onto_first p.bytes (segs style ps a (suc n))
segs_on style a n p ps e =
    let here : segment_at style (p ∷ ps) a ≡ p.bytes ++ segment_at style ps a = at_own style a p ps e in
    let more : segs style (p ∷ ps) (a + 1) n ≡ segs style ps (a + 1) n = segs_past style (a + 1) n p ps (omega arith) in
    cc

-- ---- pieces from a pass on
segs_are : (style layer first passes : ℕ) (p : PieceValue) (ps : List PieceValue) → ArePieces style layer first passes (p ∷ ps)
    → segs style (p ∷ ps) (ends_below style first) (ends_below style (passes - 1) + 1 - ends_below style first) ≡ groups style (p ∷ ps)
segs_are style layer first passes p [] are =
    let begins : p.first ≡ first = are.0.begins in
    let some : 1 ≤ p.passes = are.0.some in
    let ends : first + p.passes ≡ passes = are.1 in
    let key : ends_below style p.first ≡ ends_below style first = ap (ends_below style) begins in
    let flat : ends_below style (passes - 1) ≡ ends_below style p.first = below_within style p.first p.passes (passes - 1) are.0.segment (omega arith) (omega arith) in
    let one : ends_below style (passes - 1) + 1 - ends_below style first ≡ 1 = omega arith in
    rw one (segs_last style (ends_below style first) p key (ends_it style p))
segs_are style layer first passes p (q ∷ ps) are =
    let begins : p.first ≡ first = are.0.begins in
    let some : 1 ≤ p.passes = are.0.some in
    let a : ℕ = ends_below style first in
    let key : ends_below style p.first ≡ a = ap (ends_below style) begins in
    let last : ℕ = p.first + p.passes - 1 in
    let flat : ends_below style last ≡ ends_below style p.first = below_within style p.first p.passes last are.0.segment (omega arith) (omega arith) in
    let next : last + 1 ≡ first + p.passes = omega arith in
    let some_q : 1 ≤ q.passes = are.1.0.some in
    let end_q : first + p.passes + q.passes ≤ passes = pieces_end style q.layer (first + p.passes + q.passes) passes ps are.1.1 in
    let grows : ends_below style (first + p.passes) ≤ ends_below style (passes - 1) = below_grows style (first + p.passes) (passes - 1) (omega arith) in
    let again = segs_are style p.layer (first + p.passes) passes q ps are.1 in
    elim (cases_Bool (ends_it style p)) [
      | inl yes_it ↦
          let b : ends_below style (first + p.passes) ≡ a + 1 = ap (ends_below style) (sym next) ∙ below_ended style last yes_it ∙ ap (λ (n : ℕ). n + 1) (flat ∙ key) in
          let count : ends_below style (passes - 1) + 1 - a ≡ suc (ends_below style (passes - 1) + 1 - (a + 1)) = omega arith in
          let rest : segs style (q ∷ ps) (a + 1) (ends_below style (passes - 1) + 1 - (a + 1)) ≡ groups style (q ∷ ps) = rw b at again in
          rw (count, yes_it) (segs_ended style p.layer a (ends_below style (passes - 1) + 1 - (a + 1)) (first + p.passes) passes p (q ∷ ps) key b are.1
          ∙ ap (λ (ss : List (List ℕ)). p.bytes ∷ ss) rest)
      | inr no_it ↦
          let b : ends_below style (first + p.passes) ≡ a = ap (ends_below style) (sym next) ∙ below_still style last no_it ∙ flat ∙ key in
          let count : ends_below style (passes - 1) + 1 - a ≡ suc (ends_below style (passes - 1) - a) = omega arith in
          let rest : segs style (q ∷ ps) a (ends_below style (passes - 1) + 1 - a) ≡ groups style (q ∷ ps) = rw b at again in
          let rest' : segs style (q ∷ ps) a (suc (ends_below style (passes - 1) - a)) ≡ groups style (q ∷ ps) = rw count at rest in
          rw (count, no_it) (segs_on style a (ends_below style (passes - 1) - a) p (q ∷ ps) key ∙ ap (onto_first p.bytes) rest')
    ]

pub none_left : (style layer first passes : ℕ) (ps : List PieceValue) → ArePieces style layer first passes ps → passes ≤ first → ps ≡ []
none_left style layer first passes [] are le = refl
none_left style layer first passes (p ∷ ps) are le =
    let some : 1 ≤ p.passes = are.0.some in
    let h : first + p.passes ≤ passes = pieces_end style p.layer (first + p.passes) passes ps are.1 in
    absurd (omega arith)

-- the segments of a block's pieces
pub segments_are : (style layer passes : ℕ) (ps : List PieceValue) → ArePieces style layer 0 passes ps → segments_of style passes ps ≡ groups style ps
unfolding segments_of
segments_are style layer passes [] are = let e : passes ≡ 0 = sym are in rw e refl
segments_are style layer passes (p ∷ ps) are =
    let some : 1 ≤ p.passes = are.0.some in
    let h : 0 + p.passes ≤ passes = pieces_end style p.layer (0 + p.passes) passes ps are.1 in
    let count : segment_count style passes ≡ ends_below style (passes - 1) + 1 - 0 = count_is style passes (omega arith) ∙ omega arith in
    rw count (segs_are style layer 0 passes p ps are)

-- ---- their bytes
onto_bytes : (bytes : List ℕ) (ss : List (List ℕ)) → concat (onto_first bytes ss) ≡ bytes ++ concat ss
onto_bytes bytes [] = refl
onto_bytes bytes (s ∷ ss) = append_assoc bytes s (concat ss)

joined_bytes : (ends : Bool) (bytes : List ℕ) (ss : List (List ℕ)) → concat (joined_on ends bytes ss) ≡ bytes ++ concat ss
joined_bytes true bytes ss = refl
joined_bytes false bytes ss = onto_bytes bytes ss

pub groups_bytes : (style : ℕ) (ps : List PieceValue) → concat (groups style ps) ≡ flat_map (λ (p : PieceValue). p.bytes) ps
groups_bytes style [] = refl
groups_bytes style (p ∷ ps) = joined_bytes (ends_it style p) p.bytes (groups style ps) ∙ ap (λ (s : List ℕ). p.bytes ++ s) (groups_bytes style ps)
