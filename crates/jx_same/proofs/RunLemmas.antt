-- Lists under numbers, cut into runs.
use Rattle.std.proofs.Common.{◌≡◌, ◌∙◌, ℕ, zero, suc, ◌+◌, ◌*◌, ◌/◌, ◌%◌, ◌<◌, ◌≤◌, List, ◌++◌, ap, sym, add-one, arith, append_assoc, append-nil, inl, inr, Bool, Option, None, Some, Result, Ok, IfOk, get_or, length, min, subst}
use Rattle.std.specs.List.{find, slice_get}
use Rattle.std.proofs.lemmas.Option.{get_or_from_slice_get, slice_get-get_or, slice_get_within}
use Rattle.std.proofs.lemmas.Bool.{cases_lt}
use Rattle.std.proofs.lemmas.Grind.{div_ceil_times}
use Rattle.jx_base.specs.Joined.{joined}
use Rattle.jx_base.proofs.Joined.{joined_next, joined_none}
use Rattle.jx_same.specs.Runs.{AreFirsts, cut_at, run_items}
use Rattle.jx_same.proofs.FindLemmas.{before, behind}

-- those below a number, then the rest
pub joined_split : {X : Type 0} (f : ℕ → List X) (a b c : ℕ) → a ≤ b → b ≤ c → joined f a c ≡ joined f a b ++ joined f b c
joined_split {X} f a b zero ab bc =
    let same : b ≡ 0 = omega arith in
    joined_none f a 0 (omega arith) ∙ sym (ap (λ (xs : List X). xs ++ joined f b 0) (joined_none f a b (omega arith)) ∙ joined_none f b 0 (omega arith))
joined_split {X} f a b (suc c) ab bc = elim (cases_lt c b) [
  | inl last ↦
      let same : b ≡ suc c = omega arith in
      sym (ap (λ (xs : List X). joined f a b ++ xs) (joined_none f b (suc c) (omega arith)) ∙ append-nil (joined f a b) ∙ ap (joined f a) same)
  | inr more ↦
      let one : joined f a (c + 1) ≡ joined f a c ++ f c = joined_next f a c (omega arith) in
      let one' : joined f a (suc c) ≡ joined f a c ++ f c = rw add-one at one in
      let two : joined f b (c + 1) ≡ joined f b c ++ f c = joined_next f b c (omega arith) in
      let two' : joined f b (suc c) ≡ joined f b c ++ f c = rw add-one at two in
      one' ∙ ap (λ (xs : List X). xs ++ f c) (joined_split f a b c ab (omega arith)) ∙ append_assoc (joined f a b) (joined f b c) (f c)
      ∙ ap (λ (xs : List X). joined f a b ++ xs) (sym two')
]

-- the first place where a run begins, and those of the next ones
cut_first : (low size high : ℕ) → low ≤ high → cut_at low size high 0 ≡ low
cut_first low size high le = omega arith

cut_last : (low size high n : ℕ) → high ≤ low + n * size → cut_at low size high n ≡ high
cut_last low size high n le = omega (arith, le)

cut_from : (low size high n : ℕ) → low ≤ high → low ≤ cut_at low size high n
cut_from low size high n le = omega (arith, le)

cut_next : (low size high n : ℕ) → cut_at low size high n ≤ cut_at low size high (n + 1)
cut_next low size high n =
    let more : (n + 1) * size ≡ n * size + size = grind arith in
    omega (arith, more)

runs_below : {X : Type 0} (f : ℕ → List X) (low size high n : ℕ) → low ≤ high → joined (run_items f low size high) 0 n ≡ joined f low (cut_at low size high n)
runs_below f low size high zero le =
    joined_none (run_items f low size high) 0 0 (omega arith) ∙ sym (ap (joined f low) (cut_first low size high le) ∙ joined_none f low low (omega arith))
runs_below {X} f low size high (suc n) le =
    let next : joined (run_items f low size high) 0 (n + 1) ≡ joined f low (cut_at low size high (n + 1)) =
    joined_next (run_items f low size high) 0 n (omega arith)
    ∙ ap (λ (xs : List X). xs ++ run_items f low size high n) (runs_below f low size high n le)
    ∙ sym (joined_split f low (cut_at low size high n) (cut_at low size high (n + 1)) (cut_from low size high n le) (cut_next low size high n)) in
    rw add-one at next

-- all runs together
pub runs_whole : {X : Type 0} (f : ℕ → List X) (low size high n : ℕ) → low ≤ high → high ≤ low + n * size → joined (run_items f low size high) 0 n ≡ joined f low high
runs_whole f low size high n le all = runs_below f low size high n le ∙ ap (joined f low) (cut_last low size high n all)

-- ---- rounds: none so far, and none or one in the next
pub round_goes : {X : Type 0} (p : X → Bool) (f : ℕ → List X) (low high : ℕ) → low ≤ high
    → find p (joined f 0 low) ≡ None → find p (joined f low high) ≡ None → find p (joined f 0 high) ≡ None
round_goes p f low high le none here = ap (find p) (joined_split f 0 low high (omega arith) le) ∙ behind p (joined f 0 low) (joined f low high) None none here

pub round_stops : {X : Type 0} (p : X → Bool) (f : ℕ → List X) (low high count : ℕ) (x : X) → low ≤ high → high ≤ count
    → find p (joined f 0 low) ≡ None → find p (joined f low high) ≡ Some x → find p (joined f 0 count) ≡ Some x
round_stops p f low high count x le within none here =
    ap (find p) (joined_split f 0 high count (omega arith) within)
    ∙ before p (joined f 0 high) (joined f high count) x
    (ap (find p) (joined_split f 0 low high (omega arith) le) ∙ behind p (joined f 0 low) (joined f low high) (Some x) none here)

-- ---- the answer of a run
pub first_at : {X E : Type 0} (p : X → Bool) (f : ℕ → List X) (answers : List (Result (Option X) E)) (i : ℕ) (d : Result (Option X) E) (m o : Option X)
    → AreFirsts p f answers → i < length answers → get_or answers i d ≡ Ok m → m ≡ o → find p (f i) ≡ o
first_at {X} {E} p f answers i d m o are lt is same =
    let there : slice_get answers i ≡ Some (get_or answers i d) = slice_get-get_or answers i d lt in
    let first : m ≡ find p (f i) = subst (λ (r : Result (Option X) E). IfOk r (λ found. found ≡ find p (f i))) is (are i (get_or answers i d) there) in
    sym first ∙ same

pub firsts_each : {X E : Type 0} (p : X → Bool) (f : ℕ → List X) (answers : List (Result (Option X) E)) (n : ℕ) → length answers ≡ n
    → ((i : ℕ) (d : Result (Option X) E) → i < n → IfOk (get_or answers i d) (λ found. found ≡ find p (f i))) → AreFirsts p f answers
firsts_each {X} {E} p f answers n long each i r at =
    let lt : i < length answers = slice_get_within answers i r at in
    let P : Result (Option X) E → Type 0 = λ a. IfOk a (λ found. found ≡ find p (f i)) in
    subst P (get_or_from_slice_get answers i r r at) (each i r (omega (arith, lt, long)))

-- ---- how a round is cut: a run of the size has something, and so many runs have all
pub size_some : (taken threads : ℕ) → 0 < taken → 0 < threads → 0 < taken / threads + min 1 (taken % threads)
size_some taken threads some few = elim (cases_lt 0 (taken / threads + min 1 (taken % threads))) [
  | inl is ↦ is
  | inr none ↦
      let zero_is : taken / threads + min 1 (taken % threads) ≡ 0 = omega (arith, none) in
      let all : taken ≤ 0 * threads = subst (λ (n : ℕ). taken ≤ n * threads) zero_is (div_ceil_times taken threads few).0 in
      absurd (omega (arith, all, some))
]

pub runs_all : (low taken size : ℕ) → 0 < size → low + taken ≤ low + (taken / size + min 1 (taken % size)) * size
runs_all low taken size some = omega (arith, (div_ceil_times taken size some).0)
