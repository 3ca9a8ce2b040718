-- A coding pass within a word: what is known of the word before the pass, and what holds after it (ITU-T T.800, D.3).
use Rattle.std.specs.Prelude.{ℕ, ◌≡◌, ◌<◌, ◌≤◌, ◌+◌, ◌-◌, ◌/◌, ◌%◌, min, nat_lt, Bool, true, false, not, ◌&&◌, ◌||◌}
use Rattle.std.specs.Int.{bit_at}
use Rattle.jx_tier1_specs.specs.declared.coef.Coef.{Coef}
use Rattle.jx_tier1_specs.specs.declared.question.Plane.{Plane}
use Rattle.jx_tier1_specs.specs.Cells.{Cells, coef_at, significant}
use Rattle.jx_tier1_specs.specs.Near.{one_if, has_near}
use Rattle.jx_tier1_specs.specs.Pass.{is_decided, is_refined}
use Rattle.jx_tier1.specs.Blocks.{Sees}
use Rattle.jx_tier1.specs.Marks.{mark}
use Rattle.jx_tier1.specs.Places.{of_nine}
use Rattle.jx_tier1.specs.Sights.{IsSight, EndsIn}
use Rattle.jx_tier1.specs.Walking.{IsNow}
use Rattle.jx_tier1.specs.WordScan.{has_place}

-- the coefficient at a bit of a word
abbrev pub coef_in : Cells → ℕ → ℕ → ℕ → Coef
coef_in g x y i = coef_at g (x + i / 6) (y + i % 6)

-- whether a bit is one of the 48 of a word, and that of a place of the block
abbrev pub in_word : Cells → ℕ → ℕ → ℕ → Bool
in_word g x y i = nat_lt i 48 && has_place g x y i

-- a word picks the places that pass a test
pub record Picks (test : Coef → Bool) (g : Cells) (x y w : ℕ) : Type 0 where
  pub place : (i : ℕ) → in_word g x y i ≡ true → bit_at w i ≡ one_if (test (coef_in g x y i))
  pub none : (i : ℕ) → in_word g x y i ≡ false → bit_at w i ≡ 0

-- before a significance pass: nothing was decided in this plane, and a word has the insignificant places (D.3.1)
pub record BeforeSignificance (k : Plane) (g : Cells) (x y w v o : ℕ) : Type 0 where
  pub now : IsNow k g
  pub sight : IsSight k.causal g x y w v
  pub fresh : (i : ℕ) → in_word g x y i ≡ true → is_decided k (coef_in g x y i) ≡ false
  pub free : Picks (λ c. not (significant c)) g x y o

-- from a bit on which places are insignificant, that none was decided, and which are due; before it which were decided
pub record IsDue (k : Plane) (g : Cells) (x y w o d e b : ℕ) : Type 0 where
  pub free : (i : ℕ) → b ≤ i → in_word g x y i ≡ true → bit_at o i ≡ one_if (not (significant (coef_in g x y i)))
  pub none : (i : ℕ) → in_word g x y i ≡ false → bit_at o i ≡ 0
  pub fresh : (i : ℕ) → b ≤ i → in_word g x y i ≡ true → is_decided k (coef_in g x y i) ≡ false
  pub due : (i : ℕ) → b ≤ i → bit_at d i ≡ min (of_nine w i) (bit_at o i)
  pub before : (i : ℕ) → i < b → bit_at d i ≡ 0
  pub seen : (i : ℕ) → i < b → in_word g x y i ≡ true → bit_at e i ≡ one_if (is_decided k (coef_in g x y i))
  pub coming : (i : ℕ) → b ≤ i → bit_at e i ≡ bit_at d i
  pub blank : (i : ℕ) → in_word g x y i ≡ false → bit_at e i ≡ 0

-- within the pass, at a bit: windows, what is due, and what was decided or is due
pub record Seeks (k : Plane) (g : Cells) (x y w v o d e b : ℕ) : Type 0 where
  pub now : IsNow k g
  pub sight : IsSight k.causal g x y w v
  pub due : IsDue k g x y w o d e b

pub record SeeksIn {S : Type 0} (k : Plane) (x y : ℕ) (told : Cells × S) (w v o d e b : ℕ) (after : S) : Type 0 where
  pub word : Seeks k told.0 x y w v o d e b
  pub source : after ≡ told.1

-- after it: windows and source are as the pass leaves them, and a word has the places that it decided
pub record AfterSignificance {S : Type 0} (k : Plane) (x y : ℕ) (told : Cells × S) (w v e : ℕ) (after : S) : Type 0 where
  pub ends : EndsIn k.causal x y told w v after
  pub seen : Picks (is_decided k) told.0 x y e

-- before a refinement pass: a word has the significant places that weren't decided, another one those of them that were
-- refined before (D.3.3)
pub record BeforeRefinement (k : Plane) (g : Cells) (x y w d m : ℕ) : Type 0 where
  pub now : IsNow k g
  pub window : Sees k.causal (mark g) x y w
  pub due : Picks (λ c. significant c && not (is_decided k c)) g x y d
  pub refined : (i : ℕ) → in_word g x y i ≡ true → bit_at d i ≡ 1 → bit_at m i ≡ one_if (is_refined k (coef_in g x y i))

-- within the pass: a significant place that wasn't decided; a bit says whether it was refined before, another one whether it
-- wasn't and a neighbour is significant
pub record IsRefinable (k : Plane) (g : Cells) (x y n m i : ℕ) : Type 0 where
  pub place : in_word g x y i ≡ true
  pub marked : significant (coef_in g x y i) ≡ true
  pub fresh : is_decided k (coef_in g x y i) ≡ false
  pub refined : bit_at m i ≡ one_if (is_refined k (coef_in g x y i))
  pub near : bit_at n i ≡ one_if (not (is_refined k (coef_in g x y i)) && has_near g k.causal (x + i / 6) (y + i % 6))

-- before a cleanup pass: a word has the insignificant places that weren't decided (D.3.4)
pub record BeforeCleanup (k : Plane) (g : Cells) (x y w v d : ℕ) : Type 0 where
  pub now : IsNow k g
  pub sight : IsSight k.causal g x y w v
  pub due : Picks (λ c. not (significant c || is_decided k c)) g x y d

-- whether a place is left to the pass and none of its nine is significant; whether it and the three below it are so
abbrev pub quiet_bit : ℕ → ℕ → ℕ → ℕ
quiet_bit d w i = min (bit_at d i) (1 - of_nine w i)

abbrev pub four_quiet : ℕ → ℕ → ℕ → ℕ
four_quiet d w i = min (min (quiet_bit d w i) (quiet_bit d w (i + 1))) (min (quiet_bit d w (i + 2)) (quiet_bit d w (i + 3)))

-- within the pass, at a bit: from it on which places are left, and which columns are in run mode, at the bits of their first
-- places
pub record Cleans (k : Plane) (g : Cells) (x y w v d z b : ℕ) : Type 0 where
  pub now : IsNow k g
  pub sight : IsSight k.causal g x y w v
  pub due : (i : ℕ) → b ≤ i → in_word g x y i ≡ true → bit_at d i ≡ one_if (not (significant (coef_in g x y i) || is_decided k (coef_in g x y i)))
  pub none : (i : ℕ) → in_word g x y i ≡ false → bit_at d i ≡ 0
  pub before : (i : ℕ) → i < b → bit_at d i ≡ 0
  pub runs : (i : ℕ) → b ≤ i → i < 48 → i % 6 ≡ 0 → bit_at z i ≡ four_quiet d w i

pub record CleansIn {S : Type 0} (k : Plane) (x y : ℕ) (told : Cells × S) (w v d z b : ℕ) (after : S) : Type 0 where
  pub word : Cleans k told.0 x y w v d z b
  pub source : after ≡ told.1
