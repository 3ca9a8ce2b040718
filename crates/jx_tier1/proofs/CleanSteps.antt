-- A cleanup pass at a place that is left: what it leaves in a word.
use Rattle.std.proofs.Common.{◌≡◌, ◌≢◌, ◌<◌, ◌≤◌, ◌+◌, ◌/◌, ◌%◌, ◌||◌, ℕ, Bool, true, false, not, refl, sym, ap, ◌∙◌, arith, subst, inl, inr}
use Rattle.std.specs.Int.{bit_at}
use Rattle.std.proofs.lemmas.Bool.{cases_eq, cases_lt}
use Rattle.jx_tier1_specs.specs.declared.coef.Coef.{Coef}
use Rattle.jx_tier1_specs.specs.declared.question.Plane.{Plane}
use Rattle.jx_tier1_specs.specs.declared.question.Question.{Question}
use Rattle.jx_tier1_specs.specs.declared.question.About.TheVariants.{Bit}
use Rattle.jx_tier1_specs.specs.Cells.{Cells, coef_at, with_coef, significant}
use Rattle.jx_tier1_specs.specs.Near.{one_if}
use Rattle.jx_tier1_specs.specs.Asking.{Asking, told}
use Rattle.jx_tier1_specs.specs.Pass.{question, label_at, sign_question, shift_of, sign_of, bit_of, with_bit, with_sign, changed, is_decided}
use Rattle.jx_tier1.specs.Places.{of_nine}
use Rattle.jx_tier1.specs.Sights.{IsSight, IsPlaceIn, EndsIn}
use Rattle.jx_tier1.specs.Walking.{IsNow}
use Rattle.jx_tier1.specs.WordPasses.{Cleans, CleansIn, coef_in, in_word, quiet_bit, four_quiet}
use Rattle.jx_tier1.specs.WordScan.{pass_at_bit}
use Rattle.jx_tier1.proofs.CleanLemmas.{is_left, usual_bit}
use Rattle.jx_tier1.proofs.DueWords.{IsPlaceOf, place_of, coef_other}
use Rattle.jx_tier1.proofs.NextLemmas.{by_second, same_nine}
use Rattle.jx_tier1.proofs.SeekLemmas.{sight_kept}
use Rattle.jx_tier1.proofs.ToldLemmas.{one_told, none_told}
use Rattle.jx_tier1.proofs.WordAfter.{bit_after, whole_at, neat_at}

-- the same columns behind a place
four_same : (d w e v i : ℕ) → quiet_bit e v i ≡ quiet_bit d w i → quiet_bit e v (i + 1) ≡ quiet_bit d w (i + 1) → quiet_bit e v (i + 2) ≡ quiet_bit d w (i + 2)
    → quiet_bit e v (i + 3) ≡ quiet_bit d w (i + 3) → four_quiet e v i ≡ four_quiet d w i
four_same d w e v i a b c f = rw (a, b, c, f) refl

quiet_same : (d w e v i : ℕ) → bit_at e i ≡ bit_at d i → of_nine v i ≡ of_nine w i → quiet_bit e v i ≡ quiet_bit d w i
quiet_same d w e v i a b = rw (a, b) refl

pub runs_same : (d w e v q i : ℕ) → ((j : ℕ) → q < j → bit_at e j ≡ bit_at d j) → q < i → ((j : ℕ) → i ≤ j → of_nine v j ≡ of_nine w j)
    → four_quiet e v i ≡ four_quiet d w i
runs_same d w e v q i behind l nine =
    four_same d w e v i (quiet_same d w e v i (behind i l) (nine i (omega arith)))
    (quiet_same d w e v (i + 1) (behind (i + 1) (omega arith)) (nine (i + 1) (omega arith)))
    (quiet_same d w e v (i + 2) (behind (i + 2) (omega arith)) (nine (i + 2) (omega arith)))
    (quiet_same d w e v (i + 3) (behind (i + 3) (omega arith)) (nine (i + 3) (omega arith)))

four_zero : (d w i j : ℕ) → i ≤ j → j < i + 4 → quiet_bit d w j ≡ 0 → four_quiet d w i ≡ 0
four_zero d w i j l m e =
    let P : ℕ → Type 0 = λ n. quiet_bit d w n ≡ 0 in
    elim (cases_eq j i) [
      | inl a ↦ let z = subst P a e in omega arith
      | inr a ↦ elim (cases_eq j (i + 1)) [
        | inl b ↦ let z = subst P b e in omega arith
        | inr b ↦ elim (cases_eq j (i + 2)) [
          | inl c ↦ let z = subst P c e in omega arith
          | inr c ↦ let f : j ≡ i + 3 = omega arith in let z = subst P f e in omega arith
        ]
      ]
    ]

-- columns in run mode after a place became significant
pub runs_raised : (d w z e v u q i : ℕ) → ((j : ℕ) → q < j → bit_at e j ≡ bit_at d j) → bit_at v (q + 7) ≡ 1 → ((j : ℕ) → j ≢ q + 7 → bit_at v j ≡ bit_at w j)
    → ((j : ℕ) → j ≤ q + 6 → bit_at u j ≡ 0) → ((j : ℕ) → q + 6 < j → bit_at u j ≡ bit_at z j)
    → q % 6 < 4 → q < i → i % 6 ≡ 0 → bit_at z i ≡ four_quiet d w i → bit_at u i ≡ four_quiet e v i
runs_raised d w z e v u q i behind there others low high gap l r s =
    elim (cases_lt (q + 6) i) [
      | inl m ↦
          (high i m
          ∙ (s
          ∙ sym (runs_same d w e v q i behind l
          (λ j n. same_nine w v j q others (omega arith) (λ o. absurd (omega arith)) (λ o. absurd (omega arith)) (λ o. absurd (omega arith)) (λ o. absurd (omega arith))))))
      | inr m ↦
          (let nine : of_nine v (q + 6) ≡ 1 = by_second v (q + 6) (let o : q + 6 + 1 ≡ q + 7 = omega arith in ap (λ (n : ℕ). bit_at v n) o ∙ there) in
          let none : quiet_bit e v (q + 6) ≡ 0 = omega arith in
          low i m ∙ sym (four_zero e v i (q + 6) m (omega arith) none))
    ]

-- coefficients up to a place are decided, and those behind it are as they were
pub record IsLater (k : Plane) (g h : Cells) (x y p q : ℕ) : Type 0 where
  pub width : h.width ≡ g.width
  pub height : h.height ≡ g.height
  pub done : (i : ℕ) → p < i → i ≤ q → in_word g x y i ≡ true → is_decided k (coef_in h x y i) ≡ true
  pub same : (i : ℕ) → q < i → in_word g x y i ≡ true → coef_in h x y i ≡ coef_in g x y i

inside_same : (g h : Cells) (x y i : ℕ) → h.width ≡ g.width → h.height ≡ g.height → in_word h x y i ≡ in_word g x y i
inside_same g h x y i a b = rw (a, b) refl

decided_left : (s e : Bool) → e ≡ true → one_if (not (s || e)) ≡ 0
decided_left true e a = omega arith
decided_left false e a = rw a (omega arith)

pub cleans_next : (k : Plane) (g h : Cells) (x y w v d z w' v' d' z' p q : ℕ) → Cleans k g x y w v d z p → IsNow k h → IsSight k.causal h x y w' v' → p ≤ q
    → IsLater k g h x y p q → ((i : ℕ) → i ≤ q → bit_at d' i ≡ 0) → ((i : ℕ) → q < i → bit_at d' i ≡ bit_at d i)
    → ((i : ℕ) → p < i → i < 48 → i % 6 ≡ 0 → bit_at z' i ≡ four_quiet d' w' i) → Cleans k h x y w' v' d' z' (p + 1)
cleans_next k g h x y w v d z w' v' d' z' p q c now sight l later before behind runs =
    let inside : (i : ℕ) → in_word h x y i ≡ in_word g x y i = λ i. inside_same g h x y i later.width later.height in
    record {
      now = now;
      sight = sight;
      due = λ i m t.
          let u = sym (inside i) ∙ t in
          elim (cases_lt q i) [
            | inl n ↦
                (behind i n
                ∙ (c.due i (omega arith) u ∙ ap (λ (o : Coef). one_if (not (significant o || is_decided k o))) (sym (later.same i n u))))
            | inr n ↦
                (before i n ∙ sym (decided_left (significant (coef_in h x y i)) (is_decided k (coef_in h x y i)) (later.done i (omega arith) n u)))
          ];
      none = λ i t. elim (cases_lt q i) [ inl n ↦ behind i n ∙ c.none i (sym (inside i) ∙ t) | inr n ↦ before i n ];
      before = λ i m. before i (omega arith);
      runs = λ i m n r. runs i (omega arith) n r;
    }

-- one place
one_later : (k : Plane) (g : Cells) (x y p : ℕ) (coef : Coef) → IsPlaceOf g x y p → coef.planes ≡ k.number + 1
    → IsLater k g (with_coef g (x + p / 6) (y + p % 6) coef) x y p p
one_later k g x y p coef i e = record {
  width = refl;
  height = refl;
  done = λ j l m t. absurd (omega arith);
  same = λ j l t. coef_other g x y j p coef (place_of g x y j t) i (λ n. absurd (omega arith));
}

-- the bit is 0
pub clean_zero : {S : Type 0} (ask : S → Question → Bool × S) (k : Plane) (g : Cells) (x y w v d z p rest : ℕ) (bit : Bool) (s t : S)
    → Cleans k g x y w v d z p → y % 4 ≡ 0 → bit_at d p ≡ 1 → bit_at z p ≡ 0
    → bit ≡ (ask s (question k (label_at k g (x + p / 6) (y + p % 6)) false (Bit (x + p / 6) (y + p % 6)))).0
    → t ≡ (ask s (question k (label_at k g (x + p / 6) (y + p % 6)) false (Bit (x + p / 6) (y + p % 6)))).1
    → bit ≡ false → ((i : ℕ) → i ≤ p → bit_at rest i ≡ 0) → ((i : ℕ) → p < i → bit_at rest i ≡ bit_at d i)
    → CleansIn k x y (told ask (pass_at_bit 0 k g x y p) s) w v rest z (p + 1) t
clean_zero {S = S} ask k g x y w v d z p rest bit s t c f one run a b is before behind =
    let e : ℕ = x + p / 6 in
    let r : ℕ = y + p % 6 in
    let m : Cells = changed g e r (with_bit k false) in
    let q = is_left k g x y w v d z p p c (omega arith) one in
    let j = whole_at k g e r c.now q.place.column q.place.row in
    let n = none_told ask k g m e r (label_at k g e r) (shift_of k) bit s t refl refl a b is refl in
    let tree : told ask (pass_at_bit 0 k g x y p) s ≡ told ask (bit_of k g e r) s = ap (λ (u : Asking Cells). told ask u s) (usual_bit k g x y w v d z p c f one run) in
    let there : m ≡ (told ask (pass_at_bit 0 k g x y p) s).0 = n.0 ∙ ap (λ (u : Cells × S). u.0) (sym tree) in
    let after = (bit_after ask 0 k g x y p s c.now).now in
    let now : IsNow k m = subst (λ (u : Cells). IsNow k u) (sym there) after in
    let sight = sight_kept k.causal g x y w v e r (with_bit k false (coef_at g e r)) c.sight j refl refl in
    record {
      word = subst (λ (u : Cells). Cleans k u x y w v rest z (p + 1)) there
          (cleans_next k g m x y w v d z w v rest z p p c now sight (omega arith) (one_later k g x y p (with_bit k false (coef_at g e r)) q.place refl) before behind
          (λ i l o u. c.runs i (omega arith) o u ∙ sym (runs_same d w rest w p i behind l (λ j' y'. refl))));
      source = n.1 ∙ ap (λ (u : Cells × S). u.1) (sym tree);
    }

-- it is 1
pub clean_one : {S : Type 0} (ask : S → Question → Bool × S) (k : Plane) (g : Cells) (x y w v d z p w' v' rest runs : ℕ) (bit : Bool) (s t u : S)
    → Cleans k g x y w v d z p → y % 4 ≡ 0 → bit_at d p ≡ 1 → bit_at z p ≡ 0
    → bit ≡ (ask s (question k (label_at k g (x + p / 6) (y + p % 6)) false (Bit (x + p / 6) (y + p % 6)))).0
    → t ≡ (ask s (question k (label_at k g (x + p / 6) (y + p % 6)) false (Bit (x + p / 6) (y + p % 6)))).1
    → bit ≡ true → EndsIn k.causal x y (told ask (sign_of k g (x + p / 6) (y + p % 6)) t) w' v' u
    → bit_at w' (p + 7) ≡ 1 → ((j : ℕ) → j ≢ p + 7 → bit_at w' j ≡ bit_at w j)
    → ((i : ℕ) → i ≤ p → bit_at rest i ≡ 0) → ((i : ℕ) → p < i → bit_at rest i ≡ bit_at d i)
    → ((i : ℕ) → i ≤ p + 6 → bit_at runs i ≡ 0) → ((i : ℕ) → p + 6 < i → bit_at runs i ≡ bit_at z i)
    → CleansIn k x y (told ask (pass_at_bit 0 k g x y p) s) w' v' rest runs (p + 1) u
clean_one {S = S} ask k g x y w v d z p w' v' rest runs bit s t u c f one run a b is ends up others before behind low high =
    let e : ℕ = x + p / 6 in
    let r : ℕ = y + p % 6 in
    let negative : Bool = (ask t (sign_question k g e r)).0 in
    let m : Cells = changed g e r (with_sign k negative) in
    let q = is_left k g x y w v d z p p c (omega arith) one in
    let tree : told ask (sign_of k g e r) t ≡ told ask (pass_at_bit 0 k g x y p) s =
    one_told ask k g e r (label_at k g e r) (shift_of k) bit s t refl refl a b is ∙ ap (λ (o : Asking Cells). told ask o s) (sym (usual_bit k g x y w v d z p c f one run)) in
    let there : m ≡ (told ask (pass_at_bit 0 k g x y p) s).0 = ap (λ (o : Cells × S). o.0) tree in
    let after = (bit_after ask 0 k g x y p s c.now).now in
    let now : IsNow k m = subst (λ (o : Cells). IsNow k o) (sym there) after in
    record {
      word = subst (λ (o : Cells). Cleans k o x y w' v' rest runs (p + 1)) there
          (cleans_next k g m x y w v d z w' v' rest runs p p c now ends.sight (omega arith) (one_later k g x y p (with_sign k negative (coef_at g e r)) q.place refl) before behind
          (λ i l o n. runs_raised d w z rest w' runs p i behind up others low high q.place.gap l n (c.runs i (omega arith) o n)));
      source = ends.source ∙ ap (λ (o : Cells × S). o.1) tree;
    }

-- where a sign is asked for
pub left_place : (k : Plane) (g : Cells) (x y w v d z p : ℕ) → Cleans k g x y w v d z p → bit_at d p ≡ 1 → IsPlaceIn g (x + p / 6) (y + p % 6)
left_place k g x y w v d z p c one =
    let q = is_left k g x y w v d z p p c (omega arith) one in
    let j = whole_at k g (x + p / 6) (y + p % 6) c.now q.place.column q.place.row in
    record { column = j.column; row = j.row; whole = j.whole }

pub left_neat : (k : Plane) (g : Cells) (x y w v d z p : ℕ) → Cleans k g x y w v d z p → bit_at d p ≡ 1 → (coef_at g (x + p / 6) (y + p % 6)).negative ≡ false
left_neat k g x y w v d z p c one = neat_at k g (x + p / 6) (y + p % 6) c.now (is_left k g x y w v d z p p c (omega arith) one).none
