-- A refinement pass over the places of a word.
use Rattle.std.proofs.Common.{◌≡◌, ◌<◌, ◌≤◌, ◌+◌, ◌-◌, ◌*◌, ◌/◌, ◌%◌, ◌^◌, ◌==◌, ◌&&◌, ℕ, min, Bool, true, false, not, refl, sym, ap, ◌∙◌, arith, subst, inl, inr}
use Rattle.std.specs.Int.{bit_at}
use Rattle.std.proofs.lemmas.Bool.{cases_eq, cases_lt, cases_Bool, eq-eqb, ne_eqb, eqb-true, true≢false}
use Rattle.std.proofs.lemmas.Nat.{pow_pos}
use Rattle.std.proofs.lemmas.Nat.Bits.{bit_at-zero}
use Rattle.jx_tier1_specs.specs.declared.coef.Coef.{Coef}
use Rattle.jx_tier1_specs.specs.declared.question.Plane.{Plane}
use Rattle.jx_tier1_specs.specs.declared.question.Question.{Question}
use Rattle.jx_tier1_specs.specs.declared.question.About.TheVariants.{Bit}
use Rattle.jx_tier1_specs.specs.Cells.{Cells, coef_at, with_coef, significant}
use Rattle.jx_tier1_specs.specs.Labels.{refinement_row}
use Rattle.jx_tier1_specs.specs.Near.{one_if, has_near}
use Rattle.jx_tier1_specs.specs.Asking.{Asking, Told, told}
use Rattle.jx_tier1_specs.specs.Pass.{is_decided, is_refined, with_bit, changed, question, shift_of, refinement_at, refinement_label_at}
use Rattle.jx_tier1.specs.Blocks.{Sees}
use Rattle.jx_tier1.specs.Marks.{mark}
use Rattle.jx_tier1.specs.Places.{of_eight}
use Rattle.jx_tier1.specs.Walking.{IsNow}
use Rattle.jx_tier1.specs.WordPasses.{BeforeRefinement, IsRefinable, coef_in, in_word}
use Rattle.jx_tier1.specs.WordScan.{pass_at_bit, bits_scanned, word_pass}
use Rattle.jx_tier1.proofs.ChangeSight.{sees_kept}
use Rattle.jx_tier1.proofs.DueWords.{place_of, no_place, some_place, coef_other}
use Rattle.jx_tier1.proofs.MarkLemmas.{mark_kept}
use Rattle.jx_tier1.proofs.NextLemmas.{eight_less}
use Rattle.jx_tier1.proofs.RefineLemmas.{refinement_unmarked, refinement_done, refinement_told}
use Rattle.jx_tier1.proofs.SightLemmas.{near_seen}
use Rattle.jx_tier1.proofs.SignificanceWord.{nine_at}
use Rattle.jx_tier1.proofs.WordAfter.{bit_after, whole_at}
use Rattle.jx_tier1.proofs.WordReach.{bits_over, bits_more}
use Rattle.jx_tier1.proofs.WordScanLemmas.{at_place, at_no_place}

-- the label by two bits
pub label_by : (m n : ℕ) (r h : Bool) → m ≡ one_if r → n ≡ one_if (not r && h) → 14 + 2 * m + n ≡ refinement_row r h
unfolding refinement_row
label_by m n true h e f = rw (e, f) refl
label_by m n false true e f = rw (e, f) refl
label_by m n false false e f = rw (e, f) refl

refine_at : (k : Plane) (g : Cells) (x y i : ℕ) → in_word g x y i ≡ true → pass_at_bit 2 k g x y i ≡ refinement_at k g (x + i / 6) (y + i % 6)
refine_at k g x y i e =
    let p = place_of g x y i e in
    at_place 2 k g x y i (sym (some_place g x y i p.few) ∙ e)

-- a place that is refined
pub place_refined : {S : Type 0} (ask : S → Question → Bool × S) (k : Plane) (g : Cells) (x y n m i label : ℕ) (bit : Bool) (s t : S)
    → IsRefinable k g x y n m i → label ≡ 14 + 2 * bit_at m i + bit_at n i
    → bit ≡ (ask s (question k label false (Bit (x + i / 6) (y + i % 6)))).0
    → t ≡ (ask s (question k label false (Bit (x + i / 6) (y + i % 6)))).1
    → (changed g (x + i / 6) (y + i % 6) (with_bit k bit) ≡ (told ask (pass_at_bit 2 k g x y i) s).0) × (t ≡ (told ask (pass_at_bit 2 k g x y i) s).1)
place_refined {S = S} ask k g x y n m i label bit s t r l b u =
    let c : ℕ = x + i / 6 in
    let q : ℕ = y + i % 6 in
    let e : label ≡ refinement_label_at k g c q =
    l ∙ label_by (bit_at m i) (bit_at n i) (is_refined k (coef_in g x y i)) (has_near g k.causal c q) r.refined r.near in
    let a = refinement_told ask k g (changed g c q (with_bit k bit)) c q label (shift_of k) bit s t r.marked r.fresh e refl b u refl in
    let tree : told ask (refinement_at k g c q) s ≡ told ask (pass_at_bit 2 k g x y i) s = ap (λ (z : Asking Cells). told ask z s) (sym (refine_at k g x y i r.place)) in
    (a.0 ∙ ap (λ (z : Cells × S). z.0) tree, a.1 ∙ ap (λ (z : Cells × S). z.1) tree)

-- within the pass, at a bit: from it on which places are significant and not decided, and which of them were refined before
pub record Refines (k : Plane) (g : Cells) (x y w d m b : ℕ) : Type 0 where
  pub now : IsNow k g
  pub window : Sees k.causal (mark g) x y w
  pub due : (i : ℕ) → b ≤ i → in_word g x y i ≡ true → bit_at d i ≡ one_if (significant (coef_in g x y i) && not (is_decided k (coef_in g x y i)))
  pub none : (i : ℕ) → in_word g x y i ≡ false → bit_at d i ≡ 0
  pub before : (i : ℕ) → i < b → bit_at d i ≡ 0
  pub refined : (i : ℕ) → b ≤ i → in_word g x y i ≡ true → bit_at d i ≡ 1 → bit_at m i ≡ one_if (is_refined k (coef_in g x y i))

pub refines_none : (k : Plane) (g : Cells) (x y w d m : ℕ) → BeforeRefinement k g x y w d m → Refines k g x y w d m 0
refines_none k g x y w d m b = record {
  now = b.now;
  window = b.window;
  due = λ i l t. b.due.place i t;
  none = λ i t. b.due.none i t;
  before = λ i l. absurd (omega arith);
  refined = λ i l t e. b.refined i t e;
}

one_both : (a b : Bool) → one_if (a && not b) ≡ 1 → (a ≡ true) × (b ≡ false)
one_both true false e = (refl, refl)
one_both true true e = absurd (omega arith)
one_both false b e = absurd (omega arith)

zero_either : (a b : Bool) → one_if (a && not b) ≡ 0 → a ≡ true → b ≡ true
zero_either true true e f = refl
zero_either true false e f = absurd (omega arith)
zero_either false b e f = absurd (true≢false (sym f))

-- a bit at which nothing is asked
pub not_refined : (k : Plane) (g : Cells) (x y w d m b i : ℕ) → Refines k g x y w d m b → b ≤ i → i < 48 → bit_at d i ≡ 0 → pass_at_bit 2 k g x y i ≡ Told g
not_refined k g x y w d m b i r l f z =
    elim (cases_Bool (in_word g x y i)) [
      | inr t ↦ at_no_place 2 k g x y i (no_place g x y i f t)
      | inl t ↦
          (refine_at k g x y i t
          ∙ elim (cases_Bool (significant (coef_in g x y i))) [
            | inr s ↦ refinement_unmarked k g (x + i / 6) (y + i % 6) s
            | inl s ↦
                refinement_done k g (x + i / 6) (y + i % 6)
                (zero_either (significant (coef_in g x y i)) (is_decided k (coef_in g x y i)) (sym (r.due i l t) ∙ z) s)
          ])
    ]

near_bit : (r h : Bool) (n : ℕ) → n ≤ 1 → (n == 1) ≡ h → min n (1 - one_if r) ≡ one_if (not r && h)
near_bit true h n l e = omega arith
near_bit false true n l e = let f = eqb-true n 1 e in omega arith
near_bit false false n l e = elim (cases_eq n 1) [ inl f ↦ absurd (true≢false (sym (eq-eqb n 1 f) ∙ e)) | inr f ↦ omega arith ]

-- one at which a bit is asked for
pub is_refinable : (k : Plane) (g : Cells) (x y w d m n b i : ℕ) → Refines k g x y w d m b → y % 4 ≡ 0 → b ≤ i → bit_at d i ≡ 1
    → bit_at n i ≡ min (of_eight w i) (1 - bit_at m i) → IsRefinable k g x y n m i
is_refinable k g x y w d m n b i r f l one e =
    elim (cases_Bool (in_word g x y i)) [
      | inr t ↦ let z = r.none i t in absurd (omega arith)
      | inl t ↦
          (let p = place_of g x y i t in
          let c = one_both (significant (coef_in g x y i)) (is_decided k (coef_in g x y i)) (sym (r.due i l t) ∙ one) in
          let refined = r.refined i l t one in
          let h = near_seen g k.causal (x + i / 6) (y + i % 6) w i (nine_at k g x y w i r.window f p.few p.gap) in
          record {
            place = t;
            marked = c.0;
            fresh = c.1;
            refined = refined;
            near = e
                ∙ (ap (λ (z : ℕ). min (of_eight w i) (1 - z)) refined
                ∙ near_bit (is_refined k (coef_in g x y i)) (has_near g k.causal (x + i / 6) (y + i % 6)) (of_eight w i) (eight_less w i) h);
          })
    ]

with_bit_marked : (k : Plane) (bit : Bool) (c : Coef) → significant c ≡ true → significant (with_bit k bit c) ≡ significant c
with_bit_marked k true c s = ap not (ne_eqb (c.bits + 2 ^ shift_of k) 0 (λ e. let p = pow_pos (shift_of k) in absurd (omega arith))) ∙ sym s
with_bit_marked k false c s = refl

-- the next bit
pub refines_next : (k : Plane) (g : Cells) (x y w d m n rest p : ℕ) (bit : Bool) → Refines k g x y w d m p → IsRefinable k g x y n m p
    → IsNow k (changed g (x + p / 6) (y + p % 6) (with_bit k bit))
    → ((i : ℕ) → i ≤ p → bit_at rest i ≡ 0) → ((i : ℕ) → p < i → bit_at rest i ≡ bit_at d i)
    → Refines k (changed g (x + p / 6) (y + p % 6) (with_bit k bit)) x y w rest m (p + 1)
refines_next k g x y w d m n rest p bit r q now before behind =
    let a : ℕ = x + p / 6 in
    let b : ℕ = y + p % 6 in
    let coef : Coef = with_bit k bit (coef_at g a b) in
    let h : Cells = with_coef g a b coef in
    let place = place_of g x y p q.place in
    let j = whole_at k g a b r.now place.column place.row in
    let same : (i : ℕ) → p < i → in_word g x y i ≡ true → coef_in h x y i ≡ coef_in g x y i =
    λ (i : ℕ) (l : p < i) (t : in_word g x y i ≡ true). coef_other g x y i p coef (place_of g x y i t) place (λ e. absurd (omega arith)) in
    record {
      now = now;
      window = sees_kept k.causal (mark g) (mark h) x y w r.window (λ c e. mark_kept g a b coef c e j (with_bit_marked k bit (coef_at g a b) q.marked));
      due = λ i l t.
          behind i (omega arith)
          ∙ (r.due i (omega arith) t ∙ ap (λ (z : Coef). one_if (significant z && not (is_decided k z))) (sym (same i (omega arith) t)));
      none = λ i t. elim (cases_lt p i) [ inl l ↦ behind i l ∙ r.none i t | inr l ↦ before i l ];
      before = λ i l. before i (omega arith);
      refined = λ i l t e. r.refined i (omega arith) t (sym (behind i (omega arith)) ∙ e) ∙ ap (λ (z : Coef). one_if (is_refined k z)) (sym (same i (omega arith) t));
    }

refines_later : (k : Plane) (g : Cells) (x y w d m a b : ℕ) → Refines k g x y w d m a → a ≤ b → ((i : ℕ) → i < b → bit_at d i ≡ 0) → Refines k g x y w d m b
refines_later k g x y w d m a b r l z = record {
  now = r.now;
  window = r.window;
  due = λ i n t. r.due i (omega arith) t;
  none = λ i t. r.none i t;
  before = λ i n. z i n;
  refined = λ i n t e. r.refined i (omega arith) t e;
}

-- so far
pub record Refined {S : Type 0} (ask : S → Question → Bool × S) (k : Plane) (g : Cells) (x y : ℕ) (s : S) (w d m : ℕ) (t : S) : Type 0 where
  pub at : ℕ
  pub few : at ≤ 48
  pub cells : Cells
  pub same : told ask (bits_scanned 2 k x y at 0 g) s ≡ (cells, t)
  pub word : Refines k cells x y w d m at

pub refined_none : {S : Type 0} (ask : S → Question → Bool × S) (k : Plane) (g : Cells) (x y w d m : ℕ) (s : S) → BeforeRefinement k g x y w d m
    → Refined ask k g x y s w d m s
refined_none ask k g x y w d m s b = record { at = 0; few = omega arith; cells = g; same = refl; word = refines_none k g x y w d m b }

pub refined_next : {S : Type 0} (ask : S → Question → Bool × S) (k : Plane) (g : Cells) (x y w d m n p rest : ℕ) (s t u : S) → Refined ask k g x y s w d m t
    → y % 4 ≡ 0 → bit_at d p ≡ 1 → ((i : ℕ) → i < p → bit_at d i ≡ 0) → bit_at n p ≡ min (of_eight w p) (1 - bit_at m p)
    → ((i : ℕ) → i ≤ p → bit_at rest i ≡ 0) → ((i : ℕ) → p < i → bit_at rest i ≡ bit_at d i)
    → ((h : Cells) → IsRefinable k h x y n m p → u ≡ (told ask (pass_at_bit 2 k h x y p) t).1) → Refined ask k g x y s w rest m u
refined_next {S = S} ask k g x y w d m n p rest s t u q f one z e before behind step =
    let l : q.at ≤ p =
    elim (cases_lt p q.at) [
      | inl o ↦ let a = q.word.before p o in absurd (omega arith)
      | inr o ↦ o
    ] in
    let g' : Cells = q.cells in
    let r = refines_later k g' x y w d m q.at p q.word l z in
    let a = is_refinable k g' x y w d m n p p r f (omega arith) one e in
    let few = (place_of g' x y p a.place).few in
    let source = step g' a in
    let label : ℕ = 14 + 2 * bit_at m p + bit_at n p in
    let v : Question = question k label false (Bit (x + p / 6) (y + p % 6)) in
    let bit : Bool = (ask t v).0 in
    let there = place_refined ask k g' x y n m p label bit t (ask t v).1 a refl refl refl in
    let h : Cells = changed g' (x + p / 6) (y + p % 6) (with_bit k bit) in
    let after = (bit_after ask 2 k g' x y p t r.now).now in
    let P : Cells → Type 0 = λ c. IsNow k c in
    let same : told ask (pass_at_bit 2 k g' x y p) t ≡ (h, u) =
    ap (λ (c : Cells). (c, (told ask (pass_at_bit 2 k g' x y p) t).1)) (sym there.0) ∙ ap (λ (c : S). (h, c)) (sym source) in
    record {
      at = p + 1;
      few = omega arith;
      cells = h;
      same = bits_more ask 2 k x y p g g' h s t u
          (bits_over ask 2 k x y q.at p g g' s t q.same l (λ i o c. not_refined k g' x y w d m q.at i q.word o (omega arith) (z i c)))
          same;
      word = refines_next k g' x y w d m n rest p bit r a (subst P (sym there.0) after) before behind;
    }

pub refined_all : {S : Type 0} (ask : S → Question → Bool × S) (k : Plane) (g : Cells) (x y w d m : ℕ) (s t : S) → Refined ask k g x y s w d m t → d ≡ 0
    → t ≡ (told ask (word_pass 2 k x y g) s).1
unfolding word_pass
refined_all {S = S} ask k g x y w d m s t q e =
    let none : (i : ℕ) → bit_at d i ≡ 0 = λ i. ap (λ (n : ℕ). bit_at n i) e ∙ bit_at-zero i in
    ap (λ (c : Cells × S). c.1)
    (sym (bits_over ask 2 k x y q.at 48 g q.cells s t q.same q.few (λ i l o. not_refined k q.cells x y w d m q.at i q.word l o (none i))))
