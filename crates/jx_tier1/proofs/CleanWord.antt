-- A cleanup pass over the places of a word, from one that is left to the next.
use Rattle.std.proofs.Common.{◌≡◌, ◌≢◌, ◌<◌, ◌≤◌, ◌+◌, ◌-◌, ◌%◌, ℕ, Bool, min, refl, sym, ap, ◌∙◌, arith, subst, inl, inr}
use Rattle.std.specs.Int.{bit_at}
use Rattle.std.proofs.lemmas.Bool.{cases_eq, cases_lt}
use Rattle.std.proofs.lemmas.Nat.Bits.{bit_at-zero}
use Rattle.jx_tier1_specs.specs.declared.question.Plane.{Plane}
use Rattle.jx_tier1_specs.specs.declared.question.Question.{Question}
use Rattle.jx_tier1_specs.specs.Cells.{Cells}
use Rattle.jx_tier1_specs.specs.Asking.{told}
use Rattle.jx_tier1.specs.Places.{of_nine}
use Rattle.jx_tier1.specs.Sights.{IsBit, EndsIn}
use Rattle.jx_tier1.specs.WordPasses.{BeforeCleanup, Cleans, CleansIn, four_quiet}
use Rattle.jx_tier1.specs.WordScan.{pass_at_bit, bits_scanned, word_pass}
use Rattle.jx_tier1.proofs.CleanLemmas.{not_left}
use Rattle.jx_tier1.proofs.WordReach.{bits_over, bits_more}

-- so far
pub record Cleaned {S : Type 0} (ask : S → Question → Bool × S) (k : Plane) (g : Cells) (x y : ℕ) (s : S) (w v d z : ℕ) (t : S) : Type 0 where
  pub at : ℕ
  pub few : at ≤ 48
  pub cells : Cells
  pub same : told ask (bits_scanned 0 k x y at 0 g) s ≡ (cells, t)
  pub word : Cleans k cells x y w v d z at

pub cleaned_none : {S : Type 0} (ask : S → Question → Bool × S) (k : Plane) (g : Cells) (x y w v d z : ℕ) (s : S) → BeforeCleanup k g x y w v d
    → ((i : ℕ) → i < 48 → i % 6 ≡ 0 → bit_at z i ≡ four_quiet d w i) → Cleaned ask k g x y s w v d z s
cleaned_none ask k g x y w v d z s b e = record {
  at = 0;
  few = omega arith;
  cells = g;
  same = refl;
  word = record {
    now = b.now;
    sight = b.sight;
    due = λ i l t. b.due.place i t;
    none = λ i t. b.due.none i t;
    before = λ i l. absurd (omega arith);
    runs = λ i l m r. e i m r;
  };
}

-- the bits up to one, none of which is left
later : {S : Type 0} (ask : S → Question → Bool × S) (k : Plane) (g : Cells) (x y w v d z p : ℕ) (s t : S) (q : Cleaned ask k g x y s w v d z t) → y % 4 ≡ 0
    → q.at ≤ p → p ≤ 48 → ((i : ℕ) → i < p → bit_at d i ≡ 0)
    → (told ask (bits_scanned 0 k x y p 0 g) s ≡ (q.cells, t)) × Cleans k q.cells x y w v d z p
later ask k g x y w v d z p s t q f l m e = (
  bits_over ask 0 k x y q.at p g q.cells s t q.same l (λ i a b. not_left k q.cells x y w v d z q.at i q.word f a (omega arith) (e i b)),
  record {
    now = q.word.now;
    sight = q.word.sight;
    due = λ i a t'. q.word.due i (omega arith) t';
    none = λ i t'. q.word.none i t';
    before = λ i a. e i a;
    runs = λ i a b r. q.word.runs i (omega arith) b r;
  },
)

pub cleaned_next : {S : Type 0} (ask : S → Question → Bool × S) (k : Plane) (g : Cells) (x y w v d z p w' v' d' z' : ℕ) (s t u : S)
    → Cleaned ask k g x y s w v d z t → y % 4 ≡ 0 → IsBit p → bit_at d p ≡ 1 → ((i : ℕ) → i < p → bit_at d i ≡ 0)
    → ((h : Cells) → Cleans k h x y w v d z p → CleansIn k x y (told ask (pass_at_bit 0 k h x y p) t) w' v' d' z' (p + 1) u)
    → Cleaned ask k g x y s w' v' d' z' u
cleaned_next {S = S} ask k g x y w v d z p w' v' d' z' s t u q f i one e step =
    let few = i.column in
    let l : q.at ≤ p =
    elim (cases_lt p q.at) [
      | inl m ↦ let a = q.word.before p m in absurd (omega arith)
      | inr m ↦ m
    ] in
    let a = later ask k g x y w v d z p s t q f l (omega arith) e in
    let b = step q.cells a.1 in
    let h : Cells = (told ask (pass_at_bit 0 k q.cells x y p) t).0 in
    let same : told ask (pass_at_bit 0 k q.cells x y p) t ≡ (h, u) = ap (λ (n : S). (h, n)) (sym b.source) in
    record { at = p + 1; few = omega arith; cells = h; same = bits_more ask 0 k x y p g q.cells h s t u a.0 same; word = b.word }

-- none is left any more
pub cleaned_all : {S : Type 0} (ask : S → Question → Bool × S) (k : Plane) (g : Cells) (x y w v d z : ℕ) (s t : S) → Cleaned ask k g x y s w v d z t → y % 4 ≡ 0
    → d ≡ 0 → EndsIn k.causal x y (told ask (word_pass 0 k x y g) s) w v t
unfolding word_pass
cleaned_all {S = S} ask k g x y w v d z s t q f e =
    let a = later ask k g x y w v d z 48 s t q f q.few (omega arith) (λ i l. ap (λ (n : ℕ). bit_at n i) e ∙ bit_at-zero i) in
    let P : Cells × S → Type 0 = λ n. EndsIn k.causal x y n w v t in
    subst P (sym a.0) (record { sight = a.1.sight; source = refl })

-- columns of four places that are left and by which nothing is significant
pub four_of : (z d w n m i : ℕ) → ((j : ℕ) → j < 64 → bit_at m j ≡ min (bit_at d j) (1 - bit_at n j)) → ((j : ℕ) → bit_at n j ≡ of_nine w j) → i < 48
    → bit_at z i ≡ min (min (bit_at m i) (bit_at m (i + 1))) (min (bit_at m (i + 2)) (bit_at m (i + 3))) → bit_at z i ≡ four_quiet d w i
four_of z d w n m i a b l e =
    e ∙ rw (
      a i (omega arith),
      a (i + 1) (omega arith),
      a (i + 2) (omega arith),
      a (i + 3) (omega arith),
      b i,
      b (i + 1),
      b (i + 2),
      b (i + 3),
    )
    refl

pub run_row : (z i : ℕ) → ((j : ℕ) → j % 6 ≢ 0 → bit_at z j ≡ 0) → bit_at z i ≡ 1 → i % 6 ≡ 0
run_row z i none e = elim (cases_eq (i % 6) 0) [ inl a ↦ a | inr a ↦ let b = none i a in absurd (omega arith) ]
