-- Words at which a refinement or a cleanup pass asks nothing.
use Rattle.std.proofs.Common.{◌≡◌, ◌<◌, ◌≤◌, ◌+◌, ◌/◌, ◌%◌, ◌==◌, ◌||◌, ◌&&◌, not, ℕ, Bool, true, false, refl, sym, ap, ◌∙◌, arith, subst, inl, inr, if◌then◌else◌}
use Rattle.std.specs.Int.{bit_at}
use Rattle.std.proofs.lemmas.Bool.{cases_Bool, le-ltb, true≢false}
use Rattle.std.proofs.lemmas.Nat.Bits.{bit_at-zero}
use Rattle.jx_tier1_specs.specs.declared.question.Plane.{Plane}
use Rattle.jx_tier1_specs.specs.declared.question.Question.{Question}
use Rattle.jx_tier1_specs.specs.Cells.{Cells, coef_at, significant}
use Rattle.jx_tier1_specs.specs.Near.{one_if}
use Rattle.jx_tier1_specs.specs.Asking.{Told, told}
use Rattle.jx_tier1_specs.specs.Pass.{is_decided, usual_at, bit_of, is_run, run_at}
use Rattle.jx_tier1_specs.proofs.RunBackLemmas.{is_one}
use Rattle.jx_tier1.specs.WordPasses.{Picks, in_word, coef_in}
use Rattle.jx_tier1.specs.WordScan.{pass_at_bit, word_pass}
use Rattle.jx_tier1.proofs.DueWords.{no_place, some_place}
use Rattle.jx_tier1.proofs.WordScanLemmas.{at_place, at_no_place, bits_none}

not_picked : (b : Bool) (n : ℕ) → n ≡ 0 → n ≡ one_if b → b ≡ false
not_picked true n e f = absurd (omega arith)
not_picked false n e f = refl

-- a refinement pass
by_false : {A : Type 0} (b : Bool) (t u : A) → b ≡ false → (if b then t else u) ≡ u
by_false b t u e = ap (λ (z : Bool). if z then t else u) e

refinement_bit : (k : Plane) (g : Cells) (x y i : ℕ) → i < 48 → Picks (λ c. significant c && not (is_decided k c)) g x y 0 → pass_at_bit 2 k g x y i ≡ Told g
refinement_bit k g x y i l p =
    elim (cases_Bool (in_word g x y i)) [
      | inr e ↦ at_no_place 2 k g x y i (no_place g x y i l e)
      | inl e ↦
          (at_place 2 k g x y i (sym (some_place g x y i l) ∙ e)
          ∙ by_false (significant (coef_in g x y i) && not (is_decided k (coef_in g x y i))) _ (Told g)
          (not_picked (significant (coef_in g x y i) && not (is_decided k (coef_in g x y i))) (bit_at 0 i) (bit_at-zero i) (p.place i e)))
    ]

pub refinement_idle : {S : Type 0} (ask : S → Question → Bool × S) (k : Plane) (g : Cells) (x y : ℕ) (u : S) → Picks (λ c. significant c && not (is_decided k c)) g x y 0
    → told ask (word_pass 2 k x y g) u ≡ (g, u)
unfolding word_pass
refinement_idle ask k g x y u p = bits_none ask 2 k x y 48 0 g u (λ i l m. refinement_bit k g x y i (omega arith) p)

-- a cleanup pass
by_true : {A : Type 0} (b : Bool) (t u : A) → b ≡ true → (if b then t else u) ≡ t
by_true b t u e = ap (λ (z : Bool). if z then t else u) e

not_false_is : (b : Bool) → not b ≡ false → b ≡ true
not_false_is true e = refl
not_false_is false e = absurd (true≢false e)

left_not : (n : ℕ) → n ≡ 0 → not (n == 0) ≡ false
left_not n e = rw e refl

no_run : (k : Plane) (g : Cells) (x y : ℕ) → (significant (coef_at g x y) || is_decided k (coef_at g x y)) ≡ true → is_run k g x y ≡ false
no_run k g x y h =
    elim (cases_Bool (is_run k g x y)) [
      | inr e ↦ e
      | inl e ↦
          (let r = (is_one k g x y e).left 0 (omega arith) in
          let o : y + 0 ≡ y = omega arith in
          let a : (coef_at g x y).bits ≡ 0 = subst (λ (n : ℕ). (coef_at g x n).bits ≡ 0) o r.bits in
          let b : (coef_at g x y).planes ≤ k.number = subst (λ (n : ℕ). (coef_at g x n).planes ≤ k.number) o r.planes in
          let c : significant (coef_at g x y) ≡ false = left_not (coef_at g x y).bits a in
          let d : is_decided k (coef_at g x y) ≡ false = le-ltb k.number (coef_at g x y).planes b in
          absurd (true≢false (sym h ∙ (ap (λ (z : Bool). z || is_decided k (coef_at g x y)) c ∙ ap (λ (z : Bool). false || z) d))))
    ]

cleanup_bit : (k : Plane) (g : Cells) (x y i : ℕ) → i < 48 → Picks (λ c. not (significant c || is_decided k c)) g x y 0 → pass_at_bit 0 k g x y i ≡ Told g
cleanup_bit k g x y i l p =
    elim (cases_Bool (in_word g x y i)) [
      | inr e ↦ at_no_place 0 k g x y i (no_place g x y i l e)
      | inl e ↦
          (let b : Bool = significant (coef_in g x y i) || is_decided k (coef_in g x y i) in
          let h : b ≡ true = not_false_is b (not_picked (not b) (bit_at 0 i) (bit_at-zero i) (p.place i e)) in
          let c : ℕ = x + i / 6 in
          let r : ℕ = y + i % 6 in
          at_place 0 k g x y i (sym (some_place g x y i l) ∙ e)
          ∙ (by_false (is_run k g c r) (run_at k g c r) (usual_at k g c r) (no_run k g c r h) ∙ by_true b (Told g) (bit_of k g c r) h))
    ]

pub cleanup_idle : {S : Type 0} (ask : S → Question → Bool × S) (k : Plane) (g : Cells) (x y : ℕ) (u : S) → Picks (λ c. not (significant c || is_decided k c)) g x y 0
    → told ask (word_pass 0 k x y g) u ≡ (g, u)
unfolding word_pass
cleanup_idle ask k g x y u p = bits_none ask 0 k x y 48 0 g u (λ i l m. cleanup_bit k g x y i (omega arith) p)
