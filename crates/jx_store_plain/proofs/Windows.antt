-- The slots of a window, each number in its own.
use Rattle.std.proofs.Common.{◌≡◌, ◌≢◌, ℕ, ◌+◌, ◌%◌, ◌<◌, ◌≤◌, ◌==◌, ◌⊎◌, cond, List, length, set, refl, ◌∙◌, inl, inr, arith}
use Rattle.std.specs.Prelude.{Some, None, slice_get}
use Rattle.std.proofs.lemmas.Bool.{cases_eq, cases_lt}
use Rattle.std.proofs.lemmas.Bool.Decides.{nat_tests}
use Rattle.std.proofs.lemmas.Nat.{mod_below}
use Rattle.jx_store_plain.specs.declared.slot.Slot.{Slot}
use Rattle.jx_store_plain.specs.Shown.{slot_of}
use Rattle.jx_base.proofs.Lists.{get-set_same, get-set_other}
use Rattle.jx_store.proofs.Windows.{apart}

module _ {V : Type 0} where
  same_slot : (d n w : ℕ) (slots : List (Slot V)) (j : ℕ) (x : Slot V) (k : ℕ) → (d ≤ k → k < n → k % w ≢ j % w)
      → slot_of d n w (set slots (j % w) x) k ≡ slot_of d n w slots k
  same_slot d n w slots j x k ne =
      elim (cases_lt k n) [
        | inl kn ↦ elim (cases_lt k d) [ inl below ↦ grind (arith, nat_tests) | inr dk ↦ rw (get-set_other slots (j % w) (k % w) x (ne dk kn)) refl ]
        | inr out ↦ grind (arith, nat_tests)
      ]

  -- the slot of j, between drained and next, is written
  pub slot_set : (d n w : ℕ) (slots : List (Slot V)) (j : ℕ) (x : Slot V) (k : ℕ) → 0 < w → length slots ≡ w → n ≤ d + w → d ≤ j → j < n
      → slot_of d n w (set slots (j % w) x) k ≡ cond (k == j) (Some x) (slot_of d n w slots k)
  slot_set d n w slots j x k some long near dj jn =
      elim (cases_eq k j) [
        | inl e ↦ (let at = get-set_same slots (j % w) x (omega (arith, mod_below j w some)) in grind (arith, nat_tests, at, e))
        | inr ne ↦ (let same = same_slot d n w slots j x k (λ dk kn. apart d w k j some dk dj (omega arith) (omega arith) ne) in grind (arith, nat_tests, same))
      ]

  wider : (d n w : ℕ) (slots : List (Slot V)) (k : ℕ) → k ≢ n → slot_of d (n + 1) w slots k ≡ slot_of d n w slots k
  wider d n w slots k ne = grind (arith, nat_tests)

  narrower : (d n w : ℕ) (slots : List (Slot V)) (k : ℕ) → k ≢ d → slot_of (d + 1) n w slots k ≡ slot_of d n w slots k
  narrower d n w slots k ne = grind (arith, nat_tests)

  -- the next slot is written, and the range grows
  pub slot_next : (d n w : ℕ) (slots : List (Slot V)) (x : Slot V) (k : ℕ) → 0 < w → length slots ≡ w → n < d + w → d ≤ n
      → slot_of d (n + 1) w (set slots (n % w) x) k ≡ cond (k == n) (Some x) (slot_of d n w slots k)
  slot_next d n w slots x k some long near le =
      slot_set d (n + 1) w slots n x k some long (omega arith) le (omega arith)
      ∙ elim (cases_eq k n) [ inl e ↦ grind (arith, nat_tests, e) | inr ne ↦ (let same = wider d n w slots k ne in grind (arith, nat_tests, same)) ]

  -- the slot of d is written, and the range begins behind it
  pub slot_drained : (d n w : ℕ) (slots : List (Slot V)) (x : Slot V) (k : ℕ) → 0 < w → length slots ≡ w → n ≤ d + w → d < n
      → slot_of (d + 1) n w (set slots (d % w) x) k ≡ cond (k == d) None (slot_of d n w slots k)
  slot_drained d n w slots x k some long near lt =
      elim (cases_eq k d) [
        | inl e ↦ grind (arith, nat_tests, e)
        | inr ne ↦ (let same = narrower d n w (set slots (d % w) x) k ne in let at = slot_set d n w slots d x k some long near (omega arith) lt in grind (arith, nat_tests, same, at))
      ]

  -- the slot of a number in the range
  pub slot_in : (d n w : ℕ) (slots : List (Slot V)) (k : ℕ) → d ≤ k → k < n → slot_of d n w slots k ≡ slice_get slots (k % w)
  slot_in d n w slots k dk kn = grind (arith, nat_tests)

  pub slot_out : (d n w : ℕ) (slots : List (Slot V)) (k : ℕ) → (k < d) ⊎ (n ≤ k) → slot_of d n w slots k ≡ None
  slot_out d n w slots k (inl lt) = grind (arith, nat_tests)
  slot_out d n w slots k (inr le) = grind (arith, nat_tests)
