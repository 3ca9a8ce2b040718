-- A significance pass over the places of a word, from one that is due to the next.
use Rattle.std.proofs.Common.{◌≡◌, ◌<◌, ◌≤◌, ◌+◌, ◌%◌, ℕ, min, Bool, refl, sym, ap, ◌∙◌, arith, subst, inl, inr}
use Rattle.std.specs.Int.{bit_at}
use Rattle.std.proofs.lemmas.Bool.{cases_lt}
use Rattle.std.proofs.lemmas.Nat.Bits.{bit_at-zero}
use Rattle.jx_tier1_specs.specs.declared.question.Plane.{Plane}
use Rattle.jx_tier1_specs.specs.declared.question.Question.{Question}
use Rattle.jx_tier1_specs.specs.Cells.{Cells}
use Rattle.jx_tier1_specs.specs.Asking.{told}
use Rattle.jx_tier1.specs.Places.{of_nine}
use Rattle.jx_tier1.specs.Sights.{IsBit}
use Rattle.jx_tier1.specs.WordPasses.{BeforeSignificance, AfterSignificance, Seeks, SeeksIn}
use Rattle.jx_tier1.specs.WordScan.{pass_at_bit, bits_scanned, word_pass}
use Rattle.jx_tier1.proofs.DueWords.{due_later, place_of}
use Rattle.jx_tier1.proofs.SignificanceWord.{not_due}
use Rattle.jx_tier1.proofs.WordReach.{bits_over, bits_more}

-- so far: some bits were passed, and what is due stands behind them
pub record Sought {S : Type 0} (ask : S → Question → Bool × S) (k : Plane) (g : Cells) (x y : ℕ) (s : S) (w v o d e : ℕ) (t : S) : Type 0 where
  pub at : ℕ
  pub few : at ≤ 48
  pub cells : Cells
  pub same : told ask (bits_scanned 1 k x y at 0 g) s ≡ (cells, t)
  pub word : Seeks k cells x y w v o d e at

pub sought_none : {S : Type 0} (ask : S → Question → Bool × S) (k : Plane) (g : Cells) (x y w v o d : ℕ) (s : S) → BeforeSignificance k g x y w v o
    → ((i : ℕ) → bit_at d i ≡ min (of_nine w i) (bit_at o i)) → Sought ask k g x y s w v o d d s
sought_none ask k g x y w v o d s b e = record {
  at = 0;
  few = omega arith;
  cells = g;
  same = refl;
  word = record {
    now = b.now;
    sight = b.sight;
    due = record {
      free = λ i l t. b.free.place i t;
      none = λ i t. b.free.none i t;
      fresh = λ i l t. b.fresh i t;
      due = λ i l. e i;
      before = λ i l. absurd (omega arith);
      seen = λ i l t. absurd (omega arith);
      coming = λ i l. refl;
      blank = λ i t. let z = b.free.none i t in e i ∙ omega arith;
    };
  };
}

-- the bits up to one, none of which is due
later : {S : Type 0} (ask : S → Question → Bool × S) (k : Plane) (g : Cells) (x y w v o d e p : ℕ) (s t : S) (q : Sought ask k g x y s w v o d e t) → y % 4 ≡ 0
    → q.at ≤ p → p ≤ 48 → ((i : ℕ) → i < p → bit_at d i ≡ 0)
    → (told ask (bits_scanned 1 k x y p 0 g) s ≡ (q.cells, t)) × Seeks k q.cells x y w v o d e p
later ask k g x y w v o d e p s t q f l m z = (
  bits_over ask 1 k x y q.at p g q.cells s t q.same l
      (λ i a b. not_due 1 k q.cells x y w o d e q.at i refl q.word.due q.word.sight.window f (omega arith) a (z i b)),
  record {
    now = q.word.now;
    sight = q.word.sight;
    due = due_later k q.cells x y w o d e q.at p q.word.due l (λ i a b. z i b);
  },
)

pub sought_next : {S : Type 0} (ask : S → Question → Bool × S) (k : Plane) (g : Cells) (x y w v o d e p w' v' d' e' : ℕ) (s t u : S)
    → Sought ask k g x y s w v o d e t → y % 4 ≡ 0 → IsBit p → bit_at d p ≡ 1 → ((i : ℕ) → i < p → bit_at d i ≡ 0)
    → ((h : Cells) → Seeks k h x y w v o d e p → SeeksIn k x y (told ask (pass_at_bit 1 k h x y p) t) w' v' o d' e' (p + 1) u)
    → Sought ask k g x y s w' v' o d' e' u
sought_next {S = S} ask k g x y w v o d e p w' v' d' e' s t u q f i one z step =
    let few = i.column in
    let l : q.at ≤ p =
    elim (cases_lt p q.at) [
      | inl m ↦ let a = q.word.due.before p m in absurd (omega arith)
      | inr m ↦ m
    ] in
    let a = later ask k g x y w v o d e p s t q f l (omega arith) z in
    let b = step q.cells a.1 in
    let h : Cells = (told ask (pass_at_bit 1 k q.cells x y p) t).0 in
    let same : told ask (pass_at_bit 1 k q.cells x y p) t ≡ (h, u) = ap (λ (n : S). (h, n)) (sym b.source) in
    record {
      at = p + 1;
      few = omega arith;
      cells = h;
      same = bits_more ask 1 k x y p g q.cells h s t u a.0 same;
      word = b.word;
    }

-- none is due any more
pub sought_all : {S : Type 0} (ask : S → Question → Bool × S) (k : Plane) (g : Cells) (x y w v o d e : ℕ) (s t : S) → Sought ask k g x y s w v o d e t
    → y % 4 ≡ 0 → d ≡ 0 → AfterSignificance k x y (told ask (word_pass 1 k x y g) s) w v e t
unfolding word_pass
sought_all {S = S} ask k g x y w v o d e s t q f z =
    let none : (i : ℕ) → bit_at d i ≡ 0 = λ i. ap (λ (n : ℕ). bit_at n i) z ∙ bit_at-zero i in
    let a = later ask k g x y w v o d e 48 s t q f q.few (omega arith) (λ i l. none i) in
    let P : Cells × S → Type 0 = λ n. AfterSignificance k x y n w v e t in
    let due = a.1.due in
    subst P (sym a.0)
    (record {
      ends = record { sight = a.1.sight; source = refl };
      seen = record { place = λ i n. due.seen i (place_of q.cells x y i n).few n; none = λ i n. due.blank i n };
    })

-- nothing is due from the start
pub significance_still : {S : Type 0} (ask : S → Question → Bool × S) (k : Plane) (g : Cells) (x y w v o d : ℕ) (s : S) → BeforeSignificance k g x y w v o
    → ((i : ℕ) → bit_at d i ≡ min (of_nine w i) (bit_at o i)) → y % 4 ≡ 0 → d ≡ 0
    → AfterSignificance k x y (told ask (word_pass 1 k x y g) s) w v 0 s
significance_still {S = S} ask k g x y w v o d s b e f z =
    let P : ℕ → Type 0 = λ n. AfterSignificance k x y (told ask (word_pass 1 k x y g) s) w v n s in
    subst P z (sought_all ask k g x y w v o d d s s (sought_none ask k g x y w v o d s b e) f z)
