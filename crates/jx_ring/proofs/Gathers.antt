-- The tape, and behind it the entries out of the slots.
use Rattle.std.proofs.Common.{◌≡◌, ◌≢◌, ℕ, zero, suc, ◌+◌, ◌-◌, ◌*◌, ◌/◌, ◌%◌, ◌<◌, ◌≤◌, nat_lt, cond, Bool, true, false, List, [], ◌∷◌, ◌++◌, map, length, get_or, set, refl, sym, ap, subst, ◌∙◌, inl, inr, arith, append_assoc, append-nil, get_or-set_other}
use Rattle.std.specs.List.{sum_by}
use Rattle.std.proofs.Math.Nat.{mul-add, mul-add-mod_self_left, mod-eq_of_lt, div-add-mod}
use Rattle.std.proofs.lemmas.Bool.{cases_eq, cases_lt}
use Rattle.std.proofs.lemmas.Bool.Decides.{nat_tests}
use Rattle.std.proofs.lemmas.Nat.{mod_below}
use Rattle.std.proofs.lemmas.List.{map-append, length-append}
use Rattle.std.proofs.lemmas.List.Sums.{sum_by_push}
use mathlib.Core.Option.{some, some-injective}
use lib.ListN.{get_elem?}
use Rattle.jx_store.specs.declared.event.Taped.{Taped}
use Rattle.jx_store.specs.declared.work.Named.{Named}
use Rattle.jx_store.specs.Setup.{Setup}
use Rattle.jx_ring.specs.declared.view.Taken.{Taken}
use Rattle.jx_ring.specs.declared.view.Place.{Place}
use Rattle.jx_ring.specs.declared.view.Place.TheVariants.{Empty, Full, Tape}
use Rattle.jx_ring.specs.Claims.{taken, stretch}
use Rattle.jx_ring.specs.Rule.{TapeOk}
use Rattle.jx_ring.specs.Closing.{IsWhole, Shut, found}
use Rattle.jx_ring.proofs.Carrying.{longer_tape}

module _ {V : Type 0} where
  abbrev pick : Taped (Named V) → Place V → Taped (Named V)
  pick z Empty = z
  pick z (Full y) = y
  pick z (Tape v) = z

  entry_is : (a b : Taped (Named V)) → ◌≡◌ {A = Place V} (Full a) (Full b) → a ≡ b
  entry_is a b q = ap (pick a) q

  abbrev code : Place V → ℕ
  code Empty = 0
  code (Full y) = 1
  code (Tape v) = 2

  not_empty : (a : Taped (Named V)) → ◌≡◌ {A = Place V} (Full a) Empty → ⊥
  not_empty a q = (let z = ap code q in omega (arith, z))

  pub other_place : (a b : Place V) → a ≡ b → code a ≢ code b → ⊥
  other_place a b q ne = ne (ap code q)

module _ {V : Type 0} (n : ℕ) (entry : ℕ → Taped (Named V)) (d : ℕ) where
  pub found_more : (i : ℕ) → d + i < n → found n entry d (suc i) ≡ found n entry d i ++ entry (d + i) ∷ []
  found_more i lt = (let t : nat_lt (d + i) n ≡ true = grind (arith, nat_tests) in ap (λ b. found n entry d i ++ cond b (entry (d + i) ∷ []) []) t)

  pub found_no_more : (i : ℕ) → n ≤ d + i → found n entry d (suc i) ≡ found n entry d i
  found_no_more i le = (let f : nat_lt (d + i) n ≡ false = grind (arith, nat_tests) in ap (λ b. found n entry d i ++ cond b (entry (d + i) ∷ []) []) f ∙ append-nil (found n entry d i))

  pub found_long : (i : ℕ) → d + i ≤ n → length (found n entry d i) ≡ i
  found_long zero le = refl
  found_long (suc i) le = (let below = found_long i (omega (arith, le)) in let l = ap length (found_more i (omega (arith, le))) in let a = length-append (found n entry d i) (entry (d + i) ∷ []) in omega (arith, below, l, a))

  pub found_stop : (i : ℕ) → d ≤ n → n ≤ d + i → found n entry d i ≡ found n entry d (n - d)
  found_stop zero low le = (let e : 0 ≡ n - d = omega (arith, low, le) in ap (found n entry d) e)
  found_stop (suc i) low le = elim (cases_lt (d + i) n) [
    | inl lt ↦ (let e : suc i ≡ n - d = omega (arith, lt, le) in ap (found n entry d) e)
    | inr more ↦ found_no_more i more ∙ found_stop i low more
  ]

module _ {V : Type 0} (p : Setup) (Ok : ℕ → Named V → Type 0) where
  gather : (claims : List Taken) (seen d : ℕ) (slots : List (Place V)) (x : Shut p Ok claims seen d slots) (m : ℕ) → d + m ≤ x.next
      → TapeOk p Ok (x.tape.items ++ found x.next x.entry d m) × (length (x.tape.items ++ found x.next x.entry d m) + p.first ≡ d + m)
      × ((F : Taken → ℕ) → sum_by F (map taken (x.tape.items ++ found x.next x.entry d m)) ≡ sum_by F (map taken x.tape.items) + stretch (λ k. F (taken (x.entry k))) d m)
  gather claims seen d slots x zero le =
      let e = append-nil x.tape.items in
      (subst (TapeOk p Ok) (sym e) x.taped, (let l = ap length e in let g = x.long in omega (arith, l, g)), (λ F. let s = ap (λ (items : List (Taped (Named V))). sum_by F (map taken items)) e in omega (arith, s)))
  gather claims seen d slots x (suc m) le =
      let lt : d + m < x.next = omega (arith, le) in let k : ℕ = d + m in let high = x.high in
      let below = gather claims seen d slots x m (omega (arith, le)) in let xs : List (Taped (Named V)) = x.tape.items ++ found x.next x.entry d m in
      let more : x.tape.items ++ found x.next x.entry d (suc m) ≡ xs ++ x.entry k ∷ [] = ap (λ (l : List (Taped (Named V))). x.tape.items ++ l) (found_more x.next x.entry d m lt) ∙ sym (append_assoc x.tape.items (found x.next x.entry d m) (x.entry k ∷ [])) in
      let ok = (x.parked k (omega arith) lt).1 in (
        subst (TapeOk p Ok) (sym more) (longer_tape p Ok xs (x.entry k) k below.0 ok below.1 (omega (arith, lt, high))),
        (let l = ap length more in let a = length-append xs (x.entry k ∷ []) in let b = below.1 in omega (arith, l, a, b)),
        (λ F. let s = ap (λ (items : List (Taped (Named V))). sum_by F (map taken items)) more in let a = ap (sum_by F) (map-append taken xs (x.entry k ∷ [])) in let b = sum_by_push F (map taken xs) (taken (x.entry k)) in let c = below.2 F in omega (arith, s, a, b, c)),
      )

  -- all slots are read
  pub whole : (claims : List Taken) (seen d : ℕ) (slots : List (Place V)) (x : Shut p Ok claims seen d slots) (items : List (Taped (Named V))) → items ≡ x.tape.items ++ found x.next x.entry d p.window → IsWhole p Ok claims seen items
  whole claims seen d slots x items is =
      let mid = x.mid in let near = x.near in let saw = x.saw in
      let stop = found_stop x.next x.entry d p.window mid near in
      let e : items ≡ x.tape.items ++ found x.next x.entry d (x.next - d) = is ∙ ap (λ (l : List (Taped (Named V))). x.tape.items ++ l) stop in
      let g = gather claims seen d slots x (x.next - d) (omega (arith, mid)) in
      subst (IsWhole p Ok claims seen) (sym e) (record {
        ok = g.0;
        same = λ F. (let a = g.2 F in let b = x.same F in omega (arith, a, b));
        long = (let l = g.1 in omega (arith, l, saw, mid));
      })

  -- what lies in the slot of the next number
  pub full_here : (claims : List Taken) (seen d : ℕ) (slots : List (Place V)) (x : Shut p Ok claims seen d slots) (k : ℕ) (e : Taped (Named V)) → d ≤ k → k < d + p.window → get_elem? slots (k % p.window) ≡ some (Full e) → (k < x.next) × (e ≡ x.entry k)
  full_here claims seen d slots x k e low high at = elim (cases_lt k x.next) [
    | inl lt ↦ (lt, entry_is e (x.entry k) (some-injective (Full e) (Full (x.entry k)) (sym at ∙ (x.parked k low lt).0)))
    | inr le ↦ absurd (not_empty e (some-injective (Full e) Empty (sym at ∙ x.empty k le high)))
  ]

  pub empty_here : (claims : List Taken) (seen d : ℕ) (slots : List (Place V)) (x : Shut p Ok claims seen d slots) (k : ℕ) → d ≤ k → get_elem? slots (k % p.window) ≡ some Empty → x.next ≤ k
  empty_here claims seen d slots x k low at = elim (cases_lt k x.next) [
    | inl lt ↦ absurd (not_empty (x.entry k) (some-injective (Full (x.entry k)) Empty (sym (x.parked k low lt).0 ∙ at)))
    | inr le ↦ le
  ]

  pub step_full : (claims : List Taken) (seen d : ℕ) (slots : List (Place V)) (x : Shut p Ok claims seen d slots) (i : ℕ) (e : Taped (Named V)) (items items' : List (Taped (Named V))) → i < p.window
      → get_elem? slots ((d + i) % p.window) ≡ some (Full e) → items ≡ x.tape.items ++ found x.next x.entry d i → items' ≡ items ++ e ∷ [] → items' ≡ x.tape.items ++ found x.next x.entry d (i + 1)
  step_full claims seen d slots x i e items items' lt at is more =
      let h = full_here claims seen d slots x (d + i) e (omega arith) (omega (arith, lt)) at in
      let f = found_more x.next x.entry d i h.0 in let z : suc i ≡ i + 1 = omega arith in
      more ∙ ap (λ (l : List (Taped (Named V))). l ++ e ∷ []) is ∙ append_assoc x.tape.items (found x.next x.entry d i) (e ∷ [])
      ∙ ap (λ (y : Taped (Named V)). x.tape.items ++ (found x.next x.entry d i ++ y ∷ [])) h.1 ∙ ap (λ (l : List (Taped (Named V))). x.tape.items ++ l) (sym f) ∙ ap (λ (j : ℕ). x.tape.items ++ found x.next x.entry d j) z

  pub step_empty : (claims : List Taken) (seen d : ℕ) (slots : List (Place V)) (x : Shut p Ok claims seen d slots) (i : ℕ) (items items' : List (Taped (Named V)))
      → get_elem? slots ((d + i) % p.window) ≡ some Empty → items ≡ x.tape.items ++ found x.next x.entry d i → items' ≡ items → items' ≡ x.tape.items ++ found x.next x.entry d (i + 1)
  step_empty claims seen d slots x i items items' at is more =
      let f = found_no_more x.next x.entry d i (empty_here claims seen d slots x (d + i) (omega arith) at) in let z : suc i ≡ i + 1 = omega arith in
      more ∙ is ∙ ap (λ (l : List (Taped (Named V))). x.tape.items ++ l) (sym f) ∙ ap (λ (j : ℕ). x.tape.items ++ found x.next x.entry d j) z

  pub room_left : (claims : List Taken) (seen d : ℕ) (slots : List (Place V)) (x : Shut p Ok claims seen d slots) (i : ℕ) (e : Taped (Named V)) (items : List (Taped (Named V))) → i < p.window
      → get_elem? slots ((d + i) % p.window) ≡ some (Full e) → items ≡ x.tape.items ++ found x.next x.entry d i → length items < length p.sizes
  room_left claims seen d slots x i e items lt at is =
      let h = full_here claims seen d slots x (d + i) e (omega arith) (omega (arith, lt)) at in let below = h.0 in
      let l = ap length is in let a = length-append x.tape.items (found x.next x.entry d i) in let f = found_long x.next x.entry d i (omega (arith, below)) in
      let long = x.long in let high = x.high in omega (arith, l, a, f, long, high, below)

-- a place that is emptied, and those that are not
pub cleared : (l : List Bool) (i : ℕ) → get_or (set l i false) i false ≡ false
cleared [] i = refl
cleared (b ∷ bs) zero = refl
cleared (b ∷ bs) (suc i) = cleared bs i

pub still_clear : (l : List Bool) (i j : ℕ) → get_or l j false ≡ false → get_or (set l i false) j false ≡ false
still_clear l i j was = elim (cases_eq j i) [ inl e ↦ ap (λ (k : ℕ). get_or (set l i false) k false) e ∙ cleared l i | inr ne ↦ get_or-set_other l i j false false ne ∙ was ]

-- each place is that of a number of the window
pub some_number : (d w j : ℕ) → j < w → (k : ℕ) × (d ≤ k) × (k < d + w) × (k % w ≡ j)
some_number d w j lt =
    let r : ℕ = d % w in let q : ℕ = d / w in let low = mod_below d w (omega (arith, lt)) in let is = div-add-mod d w in
    elim (cases_lt j r) [
      | inl less ↦ (d + w - r + j, omega (arith, low, less), omega (arith, less, low), (let e : d + w - r + j ≡ w * (q + 1) + j = (let m = mul_step w q in omega (arith, is, low, m)) in ap (λ (z : ℕ). z % w) e ∙ mul-add-mod_self_left w (q + 1) j ∙ mod-eq_of_lt lt))
      | inr more ↦ (d - r + j, omega (arith, low, more, is), omega (arith, low, lt, is), (let e : d - r + j ≡ w * q + j = omega (arith, is) in ap (λ (z : ℕ). z % w) e ∙ mul-add-mod_self_left w q j ∙ mod-eq_of_lt lt))
    ]
  where
    mul_step : (w q : ℕ) → w * (q + 1) ≡ w * q + w
    mul_step w q = (let m = mul-add w q 1 in omega (arith, m))
