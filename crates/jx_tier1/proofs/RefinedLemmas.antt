-- A refinement pass over a word of a block: what its lists show after it.
use Rattle.std.proofs.Common.{◌≡◌, ◌<◌, ◌≤◌, ◌+◌, ◌*◌, ◌/◌, ◌%◌, ◌==◌, ◌&&◌, not, ℕ, zero, suc, max, Bool, true, false, refl, sym, ap, ◌∙◌, arith, subst, inl, inr, get_or, set}
use Rattle.std.specs.Prelude.{nat_lt}
use Rattle.std.specs.Int.{bit_at}
use Rattle.std.proofs.lemmas.Bool.{cases_Bool, cases_eq, lt-ltb, true≢false}
use Rattle.jx_tier1_specs.specs.declared.coef.Coef.{Coef}
use Rattle.jx_tier1_specs.specs.declared.question.Plane.{Plane}
use Rattle.jx_tier1_specs.specs.declared.question.Question.{Question}
use Rattle.jx_tier1_specs.specs.Cells.{Cells, coef_at, significant}
use Rattle.jx_tier1_specs.specs.Near.{one_if}
use Rattle.jx_tier1_specs.specs.Asking.{Asking, Told, told}
use Rattle.jx_tier1_specs.specs.Pass.{is_decided, with_bit, refinement_at, pass_at}
use Rattle.jx_tier1_specs.proofs.DoneLemmas.{leaves_if}
use Rattle.jx_tier1_specs.proofs.GridLemmas.{here_with}
use Rattle.jx_tier1_specs.proofs.LeafLemmas.{AllLeaves, leaves_told}
use Rattle.jx_tier1_specs.proofs.Told.{told_then}
use Rattle.jx_tier1.specs.Blocks.{BlockWords, bit_in, wide_for}
use Rattle.jx_tier1.specs.BlockPasses.{is_more, IsMidway, ComesTo}
use Rattle.jx_tier1.specs.Walking.{IsNow}
use Rattle.jx_tier1.specs.WordPasses.{Picks}
use Rattle.jx_tier1.specs.WordScan.{has_place, pass_at_bit, bits_scanned, word_pass}
use Rattle.jx_tier1.proofs.FlagLemmas.{is_marked, is_negative, draws_marks, marks_drawn, draws_signs, signs_drawn, draws_same, pair_at}
use Rattle.jx_tier1.proofs.GroupLemmas.{HasWord}
use Rattle.jx_tier1.proofs.MarkLemmas.{one_le}
use Rattle.jx_tier1.proofs.MoreLemmas.{Refines, refines}
use Rattle.jx_tier1.proofs.VisitLemmas.{word_visited, bit_of_place, place_here, place_there_in, place_elsewhere, picked}
use Rattle.jx_tier1.proofs.WordMoves.{IsStep, IsAmong, refinement_moves, placed, among_bit, bit_step, bits_move, word_moves}
use Rattle.jx_tier1.proofs.WordScanLemmas.{at_place, place_there}

refinement_steps : (k : Plane) (t s : ℕ) → k.number < k.planes → IsStep 2 k (Refines k) t s
refinement_steps k t s l = λ g x y w a. refinement_moves k (Refines k) t s g x y (refines k l) a w

-- a coefficient that is significant was decided
abbrev IsSettled : Plane → Coef → Type 0
IsSettled k c = significant c ≡ true → is_decided k c ≡ true

decided_or : (a b : Bool) → (a && not b) ≡ false → a ≡ true → b ≡ true
decided_or true true e f = refl
decided_or true false e f = absurd (true≢false e)
decided_or false b e f = absurd (true≢false (sym f))

place_settles : (k : Plane) (t s : ℕ) (g : Cells) (x y : ℕ) → IsAmong g t s x y → AllLeaves (refinement_at k g x y) (λ v. IsSettled k (coef_at v x y))
place_settles k t s g x y a =
    let c : Coef = coef_at g x y in
    leaves_if (significant c && not (is_decided k c)) _ (Told g) (λ v. IsSettled k (coef_at v x y))
    (λ e. λ b. λ z. ap (λ (d : Coef). is_decided k d) (here_with g x y (with_bit k b c) a.whole a.inside) ∙ lt-ltb k.number (k.number + 1) (omega arith))
    (λ e. decided_or (significant c) (is_decided k c) e)

settled_kept : (k : Plane) (c d : Coef) → Refines k c d → IsSettled k c → IsSettled k d
settled_kept k c d r h = λ e. (let u = h (sym r.marked ∙ e) in ap (λ (z : Coef). is_decided k z) (r.done u) ∙ u)

has_place_as : (g v : Cells) (x y i : ℕ) → v.width ≡ g.width → v.height ≡ g.height → has_place v x y i ≡ has_place g x y i
has_place_as g v x y i e f =
    ap (λ (n : ℕ). nat_lt (i % 6) 4 && (nat_lt (x + i / 6) n && nat_lt (y + i % 6) v.height)) e
    ∙ ap (λ (n : ℕ). nat_lt (i % 6) 4 && (nat_lt (x + i / 6) g.width && nat_lt (y + i % 6) n)) f

word_settles : {S : Type 0} (ask : S → Question → Bool × S) (k : Plane) (t s count p q : ℕ) (g : Cells) (u : S) → IsNow k g → p + count ≤ 48 → p ≤ q → q < p + count
    → has_place g (8 * t) (4 * s) q ≡ true → IsSettled k (coef_at (told ask (bits_scanned 2 k (8 * t) (4 * s) count p g) u).0 (8 * t + q / 6) (4 * s + q % 6))
word_settles ask k t s zero p q g u w l m n h = absurd (omega arith)
word_settles {S = S} ask k t s (suc count) p q g u w l m n h =
    let R : Coef → Coef → Type 0 = Refines k in
    let x : ℕ = 8 * t + q / 6 in
    let y : ℕ = 4 * s + q % 6 in
    let few = w.scan.number in
    let path = (refines k few).path in
    let first : Asking Cells = pass_at_bit 2 k g (8 * t) (4 * s) p in
    let v : Cells = (told ask first u).0 in
    let z : S = (told ask first u).1 in
    let more : Cells → Asking Cells = λ c. bits_scanned 2 k (8 * t) (4 * s) count (p + 1) c in
    let a = bit_step ask 2 k R t s p g u path (refinement_steps k t s few) w (omega arith) in
    let P : Cells × S → Type 0 = λ c. IsSettled k (coef_at c.0 x y) in
    subst P (sym (told_then ask first more u))
    (elim (cases_eq p q) [
      | inl e ↦
          (let i = placed g (8 * t) (4 * s) q (omega arith) h in
          let b = among_bit k g t s q w (omega arith) i in
          let tree : Asking Cells = pass_at 2 k g x y in
          let there : first ≡ tree =
          ap (λ (c : ℕ). pass_at_bit 2 k g (8 * t) (4 * s) c) e ∙ at_place 2 k g (8 * t) (4 * s) q h in
          let here : IsSettled k (coef_at (told ask tree u).0 x y) = leaves_told ask tree (λ c. IsSettled k (coef_at c x y)) u (place_settles k t s g x y b) in
          let c : IsSettled k (coef_at v x y) = subst (λ (d : Asking Cells). IsSettled k (coef_at (told ask d u).0 x y)) (sym there) here in
          let rest = bits_move ask 2 k R t s count (p + 1) v z path (refinement_steps k t s few) a.now (omega arith) in
          settled_kept k (coef_at v x y) (coef_at (told ask (more v) z).0 x y) (pair_at R t s v (told ask (more v) z).0 x y rest.moves) c)
      | inr e ↦
          word_settles ask k t s count (p + 1) q v z a.now (omega arith) (omega arith) (omega arith)
          (has_place_as g v (8 * t) (4 * s) q a.moves.width a.moves.height ∙ h)
    ])

word_settled : {S : Type 0} (ask : S → Question → Bool × S) (k : Plane) (t s q : ℕ) (g : Cells) (u : S) → IsNow k g → q < 48 → has_place g (8 * t) (4 * s) q ≡ true
    → IsSettled k (coef_at (told ask (word_pass 2 k (8 * t) (4 * s) g) u).0 (8 * t + q / 6) (4 * s + q % 6))
unfolding word_pass
word_settled ask k t s q g u w l h = word_settles ask k t s 48 0 q g u w (omega arith) (omega arith) (omega arith) h

-- the bit of a place, from its old one and whether it was due
refined_bit : (k : Plane) (c d : Coef) → Refines k c d → IsSettled k d → max (one_if (is_more k.planes c)) (one_if (significant c && not (is_decided k c))) ≡ one_if (is_more k.planes d)
refined_bit k c d r z =
    let n : ℕ = one_if (is_more k.planes c) in
    let few = one_le (is_more k.planes c) in
    let kept : d ≡ c → max n 0 ≡ one_if (is_more k.planes d) = λ e.
    (let f : max n 0 ≡ n = omega arith in f ∙ ap (λ (y : Coef). one_if (is_more k.planes y)) (sym e)) in
    elim (cases_Bool (significant c)) [
      | inr s ↦ ap (λ (b : Bool). max n (one_if (b && not (is_decided k c)))) s ∙ kept (r.none s)
      | inl s ↦ elim (cases_Bool (is_decided k c)) [
        | inl u ↦ ap (λ (b : Bool). max n (one_if (b && not (is_decided k c)))) s ∙ (ap (λ (b : Bool). max n (one_if (true && not b))) u ∙ kept (r.done u))
        | inr u ↦
            (let f : max n 1 ≡ 1 = omega arith in
            ap (λ (b : Bool). max n (one_if (b && not (is_decided k c)))) s
            ∙ (ap (λ (b : Bool). max n (one_if (true && not b))) u ∙ (f ∙ sym (ap one_if (r.more s u (z (r.marked ∙ s)))))))
      ]
    ]

test_none : (n : ℕ) → n ≡ 0 → not (n == 0) ≡ false
test_none n e = rw e refl

pub refinement_comes : {S : Type 0} (ask : S → Question → Bool × S) (k : Plane) (g : Cells) (b : BlockWords) (s t at due r : ℕ) (u after : S)
    → IsNow k g → IsMidway 1 s t k g b → HasWord b s t at → Picks (λ c. significant c && not (is_decided k c)) g (8 * t) (4 * s) due
    → ((i : ℕ) → bit_at r i ≡ max (bit_at (get_or b.refined at 0) i) (bit_at due i))
    → after ≡ (told ask (word_pass 2 k (8 * t) (4 * s) g) u).1
    → ComesTo 1 s (t + 1) k (told ask (word_pass 2 k (8 * t) (4 * s) g) u) (record b { refined = set b.refined at r }) after
refinement_comes {S = S} ask k g b s t at due r u after now d a p e f =
    let R : Coef → Coef → Type 0 = Refines k in
    let wide : ℕ = wide_for b.width in
    let few = now.scan.number in
    let h : Cells = (told ask (word_pass 2 k (8 * t) (4 * s) g) u).0 in
    let m = word_moves ask 2 k R t s g u (refines k few).path (refinement_steps k t s few) now in
    let q = d.drawn in
    let mw = m.width in
    let mh = m.height in
    record {
      block = record {
        drawn = record {
          width = q.width ∙ sym m.width;
          height = q.height ∙ sym m.height;
          significant = draws_marks wide h b.significant (draws_same is_marked R t s wide g h b.significant m (λ c z i. i.marked) (marks_drawn wide g b.significant q.significant));
          negative = draws_signs wide h b.negative (draws_same is_negative R t s wide g h b.negative m (λ c z i. i.negative) (signs_drawn wide g b.negative q.negative));
          refined = λ x y l n.
              (let l' : x < g.width = omega arith in
              let n' : y < g.height = omega arith in
              let bit : ℕ = bit_in wide (set b.refined at r) (x + 1) (y + 1) in
              let else_ : (x / 8 ≡ t → y / 4 ≡ s → ⊥) → bit ≡ one_if (is_more k.planes (coef_at h x y)) = λ z.
              place_elsewhere b.width s t at r x y b.refined a.refined (let w = q.width in omega arith) z
              ∙ (q.refined x y l' n' ∙ ap (λ (c : Coef). one_if (is_more k.planes c)) (sym (m.stays x y l' z))) in
              elim (cases_eq (x / 8) t) [
                | inl i ↦ elim (cases_eq (y / 4) s) [
                  | inl j ↦
                      (let o : ℕ = 6 * (x % 8) + y % 4 in
                      let v = bit_of_place g s t x y l' n' i j in
                      let there = place_there_in wide s t at x y o g b.refined a.refined v in
                      let old = sym there ∙ q.refined x y l' n' in
                      let new = picked (λ c. significant c && not (is_decided k c)) g s t x y due o p v in
                      let place = has_place g (8 * t) (4 * s) o in
                      let vh = v.few in
                      let vc = v.column in
                      let vr = v.row in
                      let vg = v.gap in
                      let has : has_place g (8 * t) (4 * s) o ≡ true =
                      place_there g (8 * t) (4 * s) o vg (omega arith) (omega arith) in
                      let c : IsSettled k (coef_at h (8 * t + o / 6) (4 * s + o % 6)) = word_settled ask k t s o g u now (omega arith) has in
                      let c' : IsSettled k (coef_at h x y) =
                      subst (λ (z : ℕ). IsSettled k (coef_at h z y)) (sym vc) (subst (λ (z : ℕ). IsSettled k (coef_at h (8 * t + o / 6) z)) (sym vr) c) in
                      place_here wide s t at r x y o g b.refined a.refined v
                      ∙ (e o
                      ∙ (ap (λ (z : ℕ). max z (bit_at due o)) old
                      ∙ (ap (λ (z : ℕ). max (one_if (is_more k.planes (coef_at g x y))) z) new
                      ∙ refined_bit k (coef_at g x y) (coef_at h x y) (pair_at R t s g h x y m) c'))))
                  | inr j ↦ else_ (λ y' z. j z)
                ]
                | inr i ↦ else_ (λ y' z. i y')
              ]);
        };
        visited = word_visited R 1 k.number s t g h b (record b { refined = set b.refined at r }) m d.visited (λ x y l n z. refl)
            (λ x y l n i j v. λ z.
            let o = pair_at R t s g h x y m in
            let c = o.none (sym o.marked ∙ test_none (coef_at h x y).bits z) in
            v ∙ ap (λ (y' : Coef). one_if (nat_lt k.number y'.planes)) (sym c));
      };
      source = f;
    }
