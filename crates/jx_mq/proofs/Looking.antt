-- Decisions depend on the bytes looked at alone.
use Rattle.std.proofs.Common.{◌≡◌, ◌<◌, ◌≤◌, ◌+◌, ◌-◌, ◌*◌, ◌%◌, ℕ, zero, suc, Bool, true, false, List, [], ◌∷◌, ◌++◌, length, take, refl, ap, ◌∙◌, arith, ltb, inl, inr, if◌then◌else◌, ◌==◌}
use Rattle.std.proofs.lemmas.Bool.{cases_lt, cases_eq, eq-eqb, ne_eqb}
use Rattle.std.proofs.lemmas.List.{get_or-take, take_all}
use Rattle.jx_coder_specs.specs.MqTable.{MqContexts, mq_fresh, mq_row_of}
use Rattle.jx_coder_specs.specs.MqReading.{MqReader, MqAsked, Under, Anew, MqDecisions, mq_byte, mq_byte_in, mq_reader, mq_shifted_in, mq_refilled, mq_is_low, mq_chosen, mq_read, mq_bit, mq_after, mq_decisions_from, mq_decisions, mq_looked}
use Rattle.jx_mq.proofs.Refills.{refilled_more, refilled_done}
use Rattle.jx_mq.proofs.Segments.{left_out}
use Rattle.jx_mq.proofs.Inversion.{first_reader}

-- what was looked at reaches at most one byte past the current one
pub record IsSeen (r : MqReader) : Type 0 where
  pub near : r.looked ≤ r.place + 2

-- more was looked at, and still so
pub record Sees (before after : MqReader) : Type 0 where
  pub more : before.looked ≤ after.looked
  pub seen : IsSeen after

pub sees_if : (test : Bool) (before x y : MqReader) → Sees before x → Sees before y → Sees before (if test then x else y)
sees_if true before x y p q = p
sees_if false before x y p q = q

pub sees_more : (x y z : MqReader) → Sees x y → Sees y z → Sees x z
sees_more x y z p q = let a = p.more in let b = q.more in record { more = omega arith; seen = q.seen }

-- the three ends of a byte in
abbrev marked : MqReader → MqReader
marked r = record r { c = (r.c + 65280) % 4294967296; ct = 8; looked = r.place + 2 }

abbrev stuffed : ℕ → MqReader → MqReader
stuffed next r = record r { c = (r.c + next * 512) % 4294967296; ct = 7; place = r.place + 1; looked = r.place + 2 }

abbrev plain : ℕ → MqReader → MqReader
plain next r = record r { c = (r.c + next * 256) % 4294967296; ct = 8; place = r.place + 1; looked = r.place + 2 }

pub sees_in : (s : List ℕ) (r : MqReader) → IsSeen r → Sees r (mq_byte_in s r)
sees_in s r h =
    let near = h.near in
    let next : ℕ = mq_byte s (r.place + 1) in
    sees_if (mq_byte s r.place == 255) r (if ltb 143 next then marked r else stuffed next r) (plain next r)
    (sees_if (ltb 143 next) r (marked r) (stuffed next r) (record { more = near; seen = record { near = omega arith } }) (record { more = near; seen = record { near = omega arith } }))
    (record { more = near; seen = record { near = omega arith } })

looked_if : (test : Bool) (x y : MqReader) (n : ℕ) → x.looked ≡ n → y.looked ≡ n → (if test then x else y).looked ≡ n
looked_if true x y n p q = p
looked_if false x y n p q = q

pub looked_in : (s : List ℕ) (r : MqReader) → (mq_byte_in s r).looked ≡ r.place + 2
looked_in s r =
    let next : ℕ = mq_byte s (r.place + 1) in
    looked_if (mq_byte s r.place == 255) (if ltb 143 next then marked r else stuffed next r) (plain next r) (r.place + 2)
    (looked_if (ltb 143 next) (marked r) (stuffed next r) (r.place + 2) refl refl) refl

-- two segments have the same bytes as far as was looked at
pub Agree : List ℕ → List ℕ → ℕ → Type 0
Agree s t n = (i : ℕ) → i < n → mq_byte t i ≡ mq_byte s i

fewer : (s t : List ℕ) (m n : ℕ) → m ≤ n → Agree s t n → Agree s t m
unfolding Agree
fewer s t m n most same i less = same i (omega arith)

same_in : (s t : List ℕ) (r : MqReader) → Agree s t (mq_byte_in s r).looked → mq_byte_in t r ≡ mq_byte_in s r
unfolding Agree
same_in s t r same =
    let e = looked_in s r in
    rw (same r.place (omega arith), same (r.place + 1) (omega arith)) refl

pub sees_shift : (s : List ℕ) (r : MqReader) → IsSeen r → Sees r (mq_shifted_in s r)
sees_shift s r h =
    elim (cases_eq r.ct 0) [
      | inl none ↦ let in_sees = sees_in s r h in rw (eq-eqb r.ct 0 none) (record { more = in_sees.more; seen = record { near = in_sees.seen.near } })
      | inr ne ↦ rw (ne_eqb r.ct 0 ne) (record { more = omega arith; seen = record { near = h.near } })
    ]

same_shift : (s t : List ℕ) (r : MqReader) → Agree s t (mq_shifted_in s r).looked → mq_shifted_in t r ≡ mq_shifted_in s r
same_shift s t r same =
    elim (cases_eq r.ct 0) [
      | inl none ↦
          let here : Agree s t (mq_byte_in s r).looked = rw (eq-eqb r.ct 0 none) at same in
          rw (eq-eqb r.ct 0 none, same_in s t r here) refl
      | inr ne ↦ rw (ne_eqb r.ct 0 ne) refl
    ]

pub sees_refill : (n : ℕ) (s : List ℕ) (r : MqReader) → IsSeen r → Sees r (mq_refilled s n r)
unfolding mq_refilled
sees_refill zero s r h = record { more = omega arith; seen = h }
sees_refill (suc n) s r h =
    elim (cases_lt r.a 32768) [
      | inl less ↦ let shift = sees_shift s r h in rw (refilled_more s n r less) (sees_more r (mq_shifted_in s r) (mq_refilled s n (mq_shifted_in s r)) shift (sees_refill n s (mq_shifted_in s r) shift.seen))
      | inr most ↦ rw (refilled_done s (suc n) r most) (record { more = omega arith; seen = h })
    ]

same_refill : (n : ℕ) (s t : List ℕ) (r : MqReader) → IsSeen r → Agree s t (mq_refilled s n r).looked → mq_refilled t n r ≡ mq_refilled s n r
unfolding mq_refilled
same_refill zero s t r h same = refl
same_refill (suc n) s t r h same =
    elim (cases_lt r.a 32768) [
      | inl less ↦
          let shift = sees_shift s r h in
          let rest = sees_refill n s (mq_shifted_in s r) shift.seen in
          let all : Agree s t (mq_refilled s n (mq_shifted_in s r)).looked = rw (refilled_more s n r less) at same in
          let first : mq_shifted_in t r ≡ mq_shifted_in s r = same_shift s t r (fewer s t (mq_shifted_in s r).looked (mq_refilled s n (mq_shifted_in s r)).looked rest.more all) in
          rw (refilled_more s n r less, refilled_more t n r less, first) (same_refill n s t (mq_shifted_in s r) shift.seen all)
      | inr most ↦ rw (refilled_done s (suc n) r most, refilled_done t (suc n) r most) refl
    ]

pub chosen_seen : (r : MqReader) (qe : ℕ) → IsSeen r → Sees r (mq_chosen r qe)
chosen_seen r qe h =
    sees_if (mq_is_low r qe) r (record r { a = qe }) (record r { a = r.a - qe; c = r.c - qe * 65536 })
    (record { more = omega arith; seen = record { near = h.near } }) (record { more = omega arith; seen = record { near = h.near } })

pub sees_read : (s : List ℕ) (r : MqReader) (qe : ℕ) → IsSeen r → Sees r (mq_read s r qe)
sees_read s r qe h =
    let chosen = chosen_seen r qe h in
    sees_more r (mq_chosen r qe) (mq_read s r qe) chosen (sees_refill 15 s (mq_chosen r qe) chosen.seen)

same_read : (s t : List ℕ) (r : MqReader) (qe : ℕ) → IsSeen r → Agree s t (mq_read s r qe).looked → mq_read t r qe ≡ mq_read s r qe
same_read s t r qe h same = same_refill 15 s t (mq_chosen r qe) (chosen_seen r qe h).seen same

sees_all : (asked : List MqAsked) (s : List ℕ) (r : MqReader) (x : MqContexts) → IsSeen r → Sees r (mq_decisions_from s r x asked).reader
sees_all [] s r x h = record { more = omega arith; seen = h }
sees_all (Under label ∷ asked) s r x h =
    let first = sees_read s r (mq_row_of x label).qe h in
    sees_more r (mq_read s r (mq_row_of x label).qe) (mq_decisions_from s (mq_read s r (mq_row_of x label).qe) (mq_after r x label) asked).reader first
    (sees_all asked s (mq_read s r (mq_row_of x label).qe) (mq_after r x label) first.seen)
sees_all (Anew ∷ asked) s r x h = sees_all asked s r mq_fresh h

same_all : (asked : List MqAsked) (s t : List ℕ) (r : MqReader) (x : MqContexts) → IsSeen r → Agree s t (mq_decisions_from s r x asked).reader.looked → mq_decisions_from t r x asked ≡ mq_decisions_from s r x asked
same_all [] s t r x h same = refl
same_all (Under label ∷ asked) s t r x h same =
    let qe : ℕ = (mq_row_of x label).qe in
    let next : MqReader = mq_read s r (mq_row_of x label).qe in
    let first = sees_read s r (mq_row_of x label).qe h in
    let rest = sees_all asked s (mq_read s r (mq_row_of x label).qe) (mq_after r x label) first.seen in
    let here : mq_read t r (mq_row_of x label).qe ≡ mq_read s r (mq_row_of x label).qe =
    same_read s t r (mq_row_of x label).qe h (fewer s t (mq_read s r (mq_row_of x label).qe).looked (mq_decisions_from s (mq_read s r (mq_row_of x label).qe) (mq_after r x label) asked).reader.looked rest.more same) in
    rw (here, same_all asked s t (mq_read s r (mq_row_of x label).qe) (mq_after r x label) first.seen same) refl
same_all (Anew ∷ asked) s t r x h same = same_all asked s t r mq_fresh h same

first_seen : (s : List ℕ) → Sees (first_reader s) (mq_byte_in s (first_reader s))
unfolding first_reader
first_seen s = sees_in s (first_reader s) (record { near = omega arith })

pub start_seen : (s : List ℕ) → IsSeen (mq_reader s)
unfolding first_reader
start_seen s = let h = first_seen s in record { near = h.seen.near }

pub start_looked : (s : List ℕ) → (mq_reader s).looked ≡ 2
unfolding first_reader
start_looked s = looked_in s (first_reader s)

same_start : (s t : List ℕ) → Agree s t 2 → mq_reader t ≡ mq_reader s
unfolding Agree first_reader
same_start s t same =
    let e = looked_in s (first_reader s) in
    let here : mq_byte t 0 ≡ mq_byte s 0 = same 0 (omega arith) in
    let next : mq_byte_in t (first_reader s) ≡ mq_byte_in s (first_reader s) = same_in s t (first_reader s) (λ i less. same i (omega arith)) in
    let first : first_reader t ≡ first_reader s = rw here refl in
    let both : mq_byte_in t (first_reader t) ≡ mq_byte_in s (first_reader s) = ap (λ (r : MqReader). mq_byte_in t r) first ∙ next in
    ap (λ (r : MqReader). record r { c = r.c * 128 % 4294967296; ct = r.ct - 7 }) both

pub same_decisions : (s t : List ℕ) (x : MqContexts) (asked : List MqAsked) → ((i : ℕ) → i < (mq_decisions s x asked).reader.looked → mq_byte t i ≡ mq_byte s i) → mq_decisions t x asked ≡ mq_decisions s x asked
unfolding Agree
same_decisions s t x asked same =
    let seen = sees_all asked s (mq_reader s) x (start_seen s) in
    let start = start_looked s in
    let first : mq_reader t ≡ mq_reader s = same_start s t (λ i less. same i (let more = seen.more in omega arith)) in
    rw first (same_all asked s t (mq_reader s) x (start_seen s) same)

pub cut_decisions : (s : List ℕ) (x : MqContexts) (asked : List MqAsked) (k : ℕ) → mq_looked s x asked ≤ k → mq_decisions (take k s) x asked ≡ mq_decisions s x asked
cut_decisions s x asked k most =
    same_decisions s (take k s) x asked (λ i less.
    elim (cases_lt i k) [
      | inl within ↦ get_or-take k s i 255 within
      | inr past ↦ let short : length s ≤ k = omega arith in rw (take_all k s short) refl
    ])

pub dropped_decisions : (s : List ℕ) (x : MqContexts) (asked : List MqAsked) → mq_decisions (s ++ 255 ∷ []) x asked ≡ mq_decisions s x asked
dropped_decisions s x asked = same_decisions s (s ++ 255 ∷ []) x asked (λ i less. left_out s i)

-- two lists of decisions one after the other
pub in_parts : (first more : List MqAsked) (s : List ℕ) (r : MqReader) (x : MqContexts) →
    let d = mq_decisions_from s r x first in
    let e = mq_decisions_from s d.reader d.contexts more in
    mq_decisions_from s r x (first ++ more) ≡ record { bits = d.bits ++ e.bits; contexts = e.contexts; reader = e.reader }
in_parts [] more s r x = refl
in_parts (Under label ∷ first) more s r x =
    ap (λ (d : MqDecisions). record d { bits = mq_bit r x label ∷ d.bits }) (in_parts first more s (mq_read s r (mq_row_of x label).qe) (mq_after r x label))
in_parts (Anew ∷ first) more s r x = in_parts first more s r mq_fresh

pub looked_more : (s : List ℕ) (x : MqContexts) (first more : List MqAsked) → mq_looked s x first ≤ mq_looked s x (first ++ more)
looked_more s x first more =
    let before = sees_all first s (mq_reader s) x (start_seen s) in
    let d : MqDecisions = mq_decisions s x first in
    let after = sees_all more s (mq_decisions s x first).reader (mq_decisions s x first).contexts before.seen in
    let grown = after.more in
    rw (in_parts first more s (mq_reader s) x) (omega arith)
