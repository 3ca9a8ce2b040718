-- A significance pass at a place that is due, and over the places of a word.
use Rattle.std.proofs.Common.{◌≡◌, ◌<◌, ◌≤◌, ◌+◌, ◌/◌, ◌%◌, ℕ, min, max, Bool, true, false, refl, sym, ap, ◌∙◌, arith, subst}
use Rattle.std.specs.Int.{bit_at}
use Rattle.jx_tier1_specs.specs.declared.coef.Coef.{Coef}
use Rattle.jx_tier1_specs.specs.declared.question.Plane.{Plane}
use Rattle.jx_tier1_specs.specs.declared.question.Question.{Question}
use Rattle.jx_tier1_specs.specs.declared.question.About.TheVariants.{Bit}
use Rattle.jx_tier1_specs.specs.Cells.{Cells, coef_at, with_coef, significant}
use Rattle.jx_tier1_specs.specs.Asking.{Asking, told}
use Rattle.jx_tier1_specs.specs.Pass.{question, label_at, sign_question, shift_of, sign_of, bit_of, with_bit, with_sign, changed}
use Rattle.jx_tier1.specs.Marks.{mark, minus}
use Rattle.jx_tier1.specs.Sights.{IsSight, IsBit, IsPlaceIn, EndsIn}
use Rattle.jx_tier1.specs.Walking.{IsNow}
use Rattle.jx_tier1.specs.WordPasses.{IsDue, Seeks, SeeksIn}
use Rattle.jx_tier1.specs.WordScan.{pass_at_bit}
use Rattle.jx_tier1.proofs.ChangeSight.{sees_kept, minus_kept}
use Rattle.jx_tier1.proofs.DueWords.{IsPlaceOf, bit_le, due_zero, due_one}
use Rattle.jx_tier1.proofs.MarkLemmas.{IsWholeAt, mark_kept}
use Rattle.jx_tier1.proofs.NextLemmas.{IsRaised}
use Rattle.jx_tier1.proofs.SignificanceWord.{Asks, is_due}
use Rattle.jx_tier1.proofs.ToldLemmas.{one_told, none_told}
use Rattle.jx_tier1.proofs.WordAfter.{bit_after, whole_at, neat_at}

-- windows where a coefficient stays as significant as it was, and keeps its sign
pub sight_kept : (causal : Bool) (g : Cells) (x y w v a b : ℕ) (coef : Coef) → IsSight causal g x y w v → IsWholeAt g a b
    → significant coef ≡ significant (coef_at g a b) → coef.negative ≡ (coef_at g a b).negative → IsSight causal (with_coef g a b coef) x y w v
sight_kept causal g x y w v a b coef s i e f = record {
  window = sees_kept causal (mark g) (mark (with_coef g a b coef)) x y w s.window (λ c r. mark_kept g a b coef c r i e);
  signs = sees_kept causal (minus g) (minus (with_coef g a b coef)) x y (v / 2) s.signs (λ c r. minus_kept g a b coef c r i f);
}

-- what is asked at a place that is due
pub asks_at : (k : Plane) (g : Cells) (x y w v o d e p : ℕ) → Seeks k g x y w v o d e p → y % 4 ≡ 0 → IsBit p → bit_at d p ≡ 1 → Asks 1 k g x y p
asks_at k g x y w v o d e p s f i one =
    let l = bit_le o p in
    is_due 1 k g x y w o d e p refl s.due s.sight.window f i.column one l

pub whole_of : (k : Plane) (g : Cells) (x y p : ℕ) → IsNow k g → IsPlaceOf g x y p → IsWholeAt g (x + p / 6) (y + p % 6)
whole_of k g x y p n q = whole_at k g (x + p / 6) (y + p % 6) n q.column q.row

pub sign_place : (k : Plane) (g : Cells) (x y w v o d e p : ℕ) → Seeks k g x y w v o d e p → y % 4 ≡ 0 → IsBit p → bit_at d p ≡ 1
    → IsPlaceIn g (x + p / 6) (y + p % 6)
sign_place k g x y w v o d e p s f i one =
    let j = whole_of k g x y p s.now (asks_at k g x y w v o d e p s f i one).place in
    record { column = j.column; row = j.row; whole = j.whole }

pub sign_neat : (k : Plane) (g : Cells) (x y w v o d e p : ℕ) → Seeks k g x y w v o d e p → y % 4 ≡ 0 → IsBit p → bit_at d p ≡ 1
    → (coef_at g (x + p / 6) (y + p % 6)).negative ≡ false
sign_neat k g x y w v o d e p s f i one = neat_at k g (x + p / 6) (y + p % 6) s.now (asks_at k g x y w v o d e p s f i one).none

-- the bit is 0
pub seek_zero : {S : Type 0} (ask : S → Question → Bool × S) (k : Plane) (g : Cells) (x y w v o d e p rest : ℕ) (bit : Bool) (s t : S)
    → Seeks k g x y w v o d e p → y % 4 ≡ 0 → IsBit p → bit_at d p ≡ 1
    → bit ≡ (ask s (question k (label_at k g (x + p / 6) (y + p % 6)) false (Bit (x + p / 6) (y + p % 6)))).0
    → t ≡ (ask s (question k (label_at k g (x + p / 6) (y + p % 6)) false (Bit (x + p / 6) (y + p % 6)))).1
    → bit ≡ false → ((i : ℕ) → i ≤ p → bit_at rest i ≡ 0) → ((i : ℕ) → p < i → bit_at rest i ≡ bit_at d i)
    → SeeksIn k x y (told ask (pass_at_bit 1 k g x y p) s) w v o rest e (p + 1) t
seek_zero {S = S} ask k g x y w v o d e p rest bit s t h f i one a b z before behind =
    let c : ℕ = x + p / 6 in
    let r : ℕ = y + p % 6 in
    let m : Cells = changed g c r (with_bit k false) in
    let q = asks_at k g x y w v o d e p h f i one in
    let j = whole_of k g x y p h.now q.place in
    let n = none_told ask k g m c r (label_at k g c r) (shift_of k) bit s t refl refl a b z refl in
    let tree : told ask (pass_at_bit 1 k g x y p) s ≡ told ask (bit_of k g c r) s = ap (λ (u : Asking Cells). told ask u s) q.bit in
    let there : m ≡ (told ask (pass_at_bit 1 k g x y p) s).0 = n.0 ∙ ap (λ (u : Cells × S). u.0) (sym tree) in
    let P : Cells → Type 0 = λ u. IsSight k.causal u x y w v in
    let Q : Cells → Type 0 = λ u. IsDue k u x y w o rest e (p + 1) in
    record {
      word = record {
        now = (bit_after ask 1 k g x y p s h.now).now;
        sight = subst P there (sight_kept k.causal g x y w v c r (with_bit k false (coef_at g c r)) h.sight j refl refl);
        due = subst Q there (due_zero k g x y w o d e rest p (with_bit k false (coef_at g c r)) h.due q.place j one refl before behind);
      };
      source = n.1 ∙ ap (λ (u : Cells × S). u.1) (sym tree);
    }

-- it is 1
pub seek_one : {S : Type 0} (ask : S → Question → Bool × S) (k : Plane) (g : Cells) (x y w v o d e p w' v' n more next after : ℕ) (bit : Bool) (s t u : S)
    → Seeks k g x y w v o d e p → y % 4 ≡ 0 → IsBit p → bit_at d p ≡ 1
    → bit ≡ (ask s (question k (label_at k g (x + p / 6) (y + p % 6)) false (Bit (x + p / 6) (y + p % 6)))).0
    → t ≡ (ask s (question k (label_at k g (x + p / 6) (y + p % 6)) false (Bit (x + p / 6) (y + p % 6)))).1
    → bit ≡ true → EndsIn k.causal x y (told ask (sign_of k g (x + p / 6) (y + p % 6)) t) w' v' u → IsRaised w w' n p
    → ((i : ℕ) → i ≤ p → bit_at n i ≡ 0)
    → ((i : ℕ) → bit_at more i ≡ min (bit_at n i) (bit_at o i))
    → ((i : ℕ) → i ≤ p → bit_at next i ≡ bit_at more i) → ((i : ℕ) → p < i → bit_at next i ≡ max (bit_at d i) (bit_at more i))
    → ((i : ℕ) → bit_at after i ≡ max (bit_at e i) (bit_at more i))
    → SeeksIn k x y (told ask (pass_at_bit 1 k g x y p) s) w' v' o next after (p + 1) u
seek_one {S = S} ask k g x y w v o d e p w' v' n more next after bit s t u h f i one a b z ends r low both before behind all =
    let c : ℕ = x + p / 6 in
    let q : ℕ = y + p % 6 in
    let negative : Bool = (ask t (sign_question k g c q)).0 in
    let m : Cells = changed g c q (with_sign k negative) in
    let g' = asks_at k g x y w v o d e p h f i one in
    let j = whole_of k g x y p h.now g'.place in
    let tree : told ask (sign_of k g c q) t ≡ told ask (pass_at_bit 1 k g x y p) s =
    one_told ask k g c q (label_at k g c q) (shift_of k) bit s t refl refl a b z ∙ ap (λ (y' : Asking Cells). told ask y' s) (sym g'.bit) in
    let there : m ≡ (told ask (pass_at_bit 1 k g x y p) s).0 = ap (λ (y' : Cells × S). y'.0) tree in
    let Q : Cells → Type 0 = λ y'. IsDue k y' x y w' o next after (p + 1) in
    let R : Cells × S → Type 0 = λ y'. EndsIn k.causal x y y' w' v' u in
    let end = subst R tree ends in
    record {
      word = record {
        now = (bit_after ask 1 k g x y p s h.now).now;
        sight = end.sight;
        due = subst Q there
            (due_one k g x y w w' n o d e next after p (with_sign k negative (coef_at g c q)) h.due g'.place j one refl r
            (λ i' l. before i' l ∙ (both i' ∙ (let y' = low i' l in let x' : min (bit_at n i') (bit_at o i') ≡ 0 = omega arith in x')))
            (λ i' l. behind i' l ∙ ap (λ (y' : ℕ). max (bit_at d i') y') (both i'))
            (λ i'. all i' ∙ ap (λ (y' : ℕ). max (bit_at e i') y') (both i'))
            low);
      };
      source = end.source;
    }
