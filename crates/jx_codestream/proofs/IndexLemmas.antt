-- The table of a header's slots, one segment more.
use Rattle.std.proofs.Common.{◌≡◌, ◌≢◌, ◌∙◌, ◌<◌, ◌≤◌, ◌+◌, ◌-◌, ◌==◌, ◌&&◌, ℕ, zero, suc, Bool, true, false, nat_lt, arith, List, [], ◌∷◌, ◌++◌, length, take, get_or, refl, sym, ap, subst, Option, Some, None, cond, inl, inr}
use Rattle.std.specs.List.{slice_get}
use Rattle.std.specs.Option.{option_or}
use Rattle.std.proofs.Math.ListN.{set}
use Rattle.std.proofs.lemmas.List.{get_or-set_other, length-set, length-take, take_more}
use Rattle.std.proofs.lemmas.List.Folds.{find-append}
use Rattle.std.proofs.lemmas.Grind.{get_or-set_at}
use Rattle.jx_marker.specs.declared.Segment.{Segment}
use Rattle.jx_codestream.specs.Headers.{slot_of}
use Rattle.jx_codestream.specs.Tiles.{in_slot}
use Rattle.jx_codestream.specs.Index.{entry_at, Indexes}
use Rattle.std.proofs.lemmas.Bool.{cases_eq, cases_lt, eq-eqb, le-ltb, lt-ltb, ne_eqb}

get_old : (xs ys : List Segment) (k : ℕ) → k < length xs → slice_get (xs ++ ys) k ≡ slice_get xs k
get_old [] ys k h = absurd (omega arith)
get_old (x ∷ xs) ys zero h = refl
get_old (x ∷ xs) ys (suc k) h = get_old xs ys k (omega arith)

get_last : (xs : List Segment) (y : Segment) → slice_get (xs ++ y ∷ []) (length xs) ≡ Some y
get_last [] y = refl
get_last (x ∷ xs) y = get_last xs y

get_some : (xs : List Segment) (k : ℕ) → k < length xs → (y : Segment) × (slice_get xs k ≡ Some y)
get_some [] k h = absurd (omega arith)
get_some (x ∷ xs) zero h = (x, refl)
get_some (x ∷ xs) (suc k) h = get_some xs k (omega arith)

in_more : (slot : ℕ) (xs : List Segment) (s : Segment) → in_slot slot (xs ++ s ∷ []) ≡ option_or (in_slot slot xs) (cond (slot_of s == slot) (Some s) None)
in_more slot xs s = find-append (λ (x : Segment). slot_of x == slot) xs (s ∷ [])

or_none : (x : Option Segment) → option_or x None ≡ x
or_none None = refl
or_none (Some s) = refl

in_other : (slot : ℕ) (xs : List Segment) (s : Segment) → slot_of s ≢ slot → in_slot slot (xs ++ s ∷ []) ≡ in_slot slot xs
in_other slot xs s h = in_more slot xs s ∙ rw (ne_eqb (slot_of s) slot h) (or_none (in_slot slot xs))

entry_none : (xs : List Segment) (n : ℕ) → n ≡ 0 → entry_at xs n ≡ None
entry_none xs n h = rw (eq-eqb n 0 h) refl

entry_some : (xs : List Segment) (n : ℕ) → n ≢ 0 → n ≤ length xs → (y : Segment) × (entry_at xs n ≡ Some y)
entry_some xs n h most =
    let within : n - 1 < length xs = omega arith in
    let found = get_some xs (n - 1) within in
    (found.0, rw (ne_eqb n 0 h) found.1)

entry_old : (xs : List Segment) (s : Segment) (n : ℕ) → n ≤ length xs → entry_at (xs ++ s ∷ []) n ≡ entry_at xs n
entry_old xs s n most =
    elim (cases_eq n 0) [
      | inl e ↦ entry_none (xs ++ s ∷ []) n e ∙ sym (entry_none xs n e)
      | inr h ↦ let within : n - 1 < length xs = omega arith in rw (ne_eqb n 0 h) (get_old xs (s ∷ []) (n - 1) within)
    ]

entry_new : (xs : List Segment) (s : Segment) → entry_at (xs ++ s ∷ []) (length xs + 1) ≡ Some s
entry_new xs s =
    let one : length xs + 1 ≢ 0 = λ e. absurd (omega arith) in
    let last : length xs + 1 - 1 ≡ length xs = omega arith in
    rw (ne_eqb (length xs + 1) 0 one, last) (get_last xs s)

-- no number in the table passes the segments
abbrev pub IsSmall : ℕ → List ℕ → Type 0
IsSmall most table = (slot : ℕ) → get_or table slot 0 ≤ most

module _ (xs : List Segment) (s : Segment) (table : List ℕ) (right : Indexes xs table) (small : IsSmall (length xs) table) where
  kept_slot : (slot : ℕ) → slot < length table → slot_of s ≢ slot → entry_at (xs ++ s ∷ []) (get_or table slot 0) ≡ in_slot slot (xs ++ s ∷ [])
  kept_slot slot inside h = entry_old xs s (get_or table slot 0) (small slot) ∙ right slot inside ∙ sym (in_other slot xs s h)

  taken_slot : (slot : ℕ) → slot < length table → get_or table slot 0 ≢ 0 → entry_at (xs ++ s ∷ []) (get_or table slot 0) ≡ in_slot slot (xs ++ s ∷ [])
  taken_slot slot inside h =
      let found = entry_some xs (get_or table slot 0) h (small slot) in
      let before : in_slot slot xs ≡ Some found.0 = sym (right slot inside) ∙ found.1 in
      entry_old xs s (get_or table slot 0) (small slot) ∙ found.1 ∙ sym (in_more slot xs s ∙ rw before refl)

  free_slot : slot_of s < length table → get_or table (slot_of s) 0 ≡ 0 → in_slot (slot_of s) (xs ++ s ∷ []) ≡ Some s
  free_slot inside h =
      let before : in_slot (slot_of s) xs ≡ None = sym (right (slot_of s) inside) ∙ entry_none xs (get_or table (slot_of s) 0) h in
      in_more (slot_of s) xs s ∙ rw (before, eq-eqb (slot_of s) (slot_of s) refl) refl

  entered : slot_of s < length table → get_or table (slot_of s) 0 ≡ 0 → Indexes (xs ++ s ∷ []) (set table (slot_of s) (length xs + 1))
  entered inside h slot within =
      let within_old : slot < length table = omega (arith, length-set {A = ℕ} table (slot_of s) (length xs + 1)) in
      elim (cases_eq slot (slot_of s)) [
        | inl e ↦ rw (get_or-set_at table (slot_of s) slot (length xs + 1) 0 e inside) (entry_new xs s ∙ sym (free_slot inside h) ∙ ap (λ (n : ℕ). in_slot n (xs ++ s ∷ [])) (sym e))
        | inr n ↦ rw (get_or-set_other table (slot_of s) slot (length xs + 1) 0 n) (kept_slot slot within_old (λ e. n (sym e)))
      ]

  entered_small : slot_of s < length table → IsSmall (length xs + 1) (set table (slot_of s) (length xs + 1))
  entered_small inside slot =
      elim (cases_eq slot (slot_of s)) [
        | inl e ↦ rw (get_or-set_at table (slot_of s) slot (length xs + 1) 0 e inside) (omega arith)
        | inr n ↦ rw (get_or-set_other table (slot_of s) slot (length xs + 1) 0 n) (omega (arith, small slot))
      ]

  -- the table is right for one segment more
  pub index_more : (after : List ℕ) → after ≡ cond (nat_lt (slot_of s) (length table) && (get_or table (slot_of s) 0 == 0)) (set table (slot_of s) (length xs + 1)) table
      → Indexes (xs ++ s ∷ []) after × IsSmall (length xs + 1) after
  index_more after is =
      elim (cases_lt (slot_of s) (length table)) [
        | inl inside ↦
            elim (cases_eq (get_or table (slot_of s) 0) 0) [
              | inl free ↦ rw (is, lt-ltb (slot_of s) (length table) inside, eq-eqb (get_or table (slot_of s) 0) 0 free) (entered inside free, entered_small inside)
              | inr taken ↦ rw (is, lt-ltb (slot_of s) (length table) inside, ne_eqb (get_or table (slot_of s) 0) 0 taken) (
                (λ slot within. elim (cases_eq slot (slot_of s)) [
                  | inl e ↦ taken_slot slot within (λ zero_there. taken (ap (λ (n : ℕ). get_or table n 0) (sym e) ∙ zero_there))
                  | inr n ↦ kept_slot slot within (λ e. n (sym e))
                ]),
                (λ slot. omega (arith, small slot)),
              )
            ]
        | inr outside ↦ rw (is, le-ltb (slot_of s) (length table) outside)
            ((λ slot within. kept_slot slot within (λ e. absurd (omega arith))), (λ slot. omega (arith, small slot)))
      ]

-- the same for the front of a list
pub index_on : (all : List Segment) (place : ℕ) (s : Segment) (table after : List ℕ) → place < length all → s ≡ get_or all place s → length (take place all) ≡ place
    → Indexes (take place all) table → IsSmall place table → after ≡ cond (nat_lt (slot_of s) (length table) && (get_or table (slot_of s) 0 == 0)) (set table (slot_of s) (place + 1)) table
    → Indexes (take (place + 1) all) after × IsSmall (place + 1) after
index_on all place s table after inside is size right small next =
    let more : take (place + 1) all ≡ take place all ++ s ∷ [] = take_more all place s inside ∙ ap (λ (x : Segment). take place all ++ x ∷ []) (sym is) in
    let small_front : IsSmall (length (take place all)) table = subst (λ (n : ℕ). IsSmall n table) (sym size) small in
    let here = index_more (take place all) s table right small_front after (next ∙ ap (λ (n : ℕ). cond (nat_lt (slot_of s) (length table) && (get_or table (slot_of s) 0 == 0)) (set table (slot_of s) (n + 1)) table) (sym size)) in
    (subst (λ (x : List Segment). Indexes x after) (sym more) here.0, subst (λ (n : ℕ). IsSmall (n + 1) after) size here.1)

pub size_after : (slot n : ℕ) (found : Bool) (table after : List ℕ) → after ≡ cond found (set table slot n) table → length after ≡ length table
size_after slot n true table after is = rw is (length-set {A = ℕ} table slot n)
size_after slot n false table after is = ap (λ (x : List ℕ). length x) is

pub front_size : (xs : List Segment) (n : ℕ) → n < length xs → length (take n xs) ≡ n
front_size xs n h = simp length-take (omega arith)
