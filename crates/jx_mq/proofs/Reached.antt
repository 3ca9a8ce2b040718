-- Where a reader stands after so many places: it has looked at the bytes that have one of them.
use Rattle.std.proofs.Common.{◌≡◌, ◌<◌, ◌≤◌, ◌+◌, ◌-◌, ◌*◌, ℕ, zero, suc, Bool, true, false, List, [], ◌∷◌, length, min, refl, add-one, arith, ◌⊎◌, inl, inr, if◌then◌else◌}
use Rattle.std.proofs.lemmas.Bool.{cases_lt, cases_eq, eq-eqb, ne_eqb, le-ltb}
use Rattle.std.proofs.lemmas.Grind.{get_or_default_zero}
use Rattle.jx_base.specs.Markers.{HasNoMarker}
use Rattle.jx_coder_specs.specs.MqReading.{MqReader, mq_byte, mq_reader, mq_shifted_in, mq_is_low, mq_chosen}
use Rattle.jx_coder_specs.specs.RawBits.{raw_width, raw_looked}
use Rattle.jx_mq.proofs.Places.{places, places_next, looked_within, looked_all}
use Rattle.jx_mq.proofs.Looking.{sees_in, sees_shift, looked_in, start_seen, start_looked}

-- the current byte has the last place, and CT places more
pub record Stands (s : List ℕ) (n : ℕ) (r : MqReader) : Type 0 where
  pub within : suc r.place ≤ length s
  pub looked : r.looked ≡ suc r.place
  pub room : places 0 s (suc r.place) ≡ n + r.ct
  pub over : places 0 s r.place < n

-- or all bytes were looked at
pub record Passed (s : List ℕ) (n : ℕ) (r : MqReader) : Type 0 where
  pub all : length s ≤ r.looked
  pub near : r.looked ≤ r.place + 2
  pub over : places 0 s (length s) ≤ n

unfoldable pub Reached : List ℕ → ℕ → MqReader → Type 0
Reached s n r = Stands s n r ⊎ Passed s n r

pub reached_looked : (s : List ℕ) (n : ℕ) (r : MqReader) → Reached s n r → min r.looked (length s) ≡ raw_looked s n
unfolding Reached
reached_looked s n r (inl h) =
    let within = h.within in
    let looked = h.looked in
    let room = h.room in
    let e : raw_looked s n ≡ suc r.place = looked_within 0 s n r.place h.within h.over (omega arith) in
    omega arith
reached_looked s n r (inr h) =
    let all = h.all in
    let e : raw_looked s n ≡ length s = looked_all 0 s n h.over in
    omega arith

-- FF stands before no byte above 8F
small_after : (before : ℕ) (s : List ℕ) (p : ℕ) → HasNoMarker before s → suc p < length s → mq_byte s p ≡ 255 → mq_byte s (suc p) ≤ 143
small_after before [] p h less ff = absurd (omega arith)
small_after before (byte ∷ []) p h less ff = absurd (omega arith)
small_after before (byte ∷ next ∷ rest) zero h less ff = h.1.0 ff
small_after before (byte ∷ next ∷ rest) (suc p) h less ff = small_after byte (next ∷ rest) p h.1 (omega arith) ff

width_here : (s : List ℕ) (p : ℕ) → suc p < length s → places 0 s (suc (suc p)) ≡ places 0 s (suc p) + raw_width (mq_byte s p)
width_here s p less = rw (get_or_default_zero s p 255 (omega arith)) (places_next 0 s (suc p) less)

-- a byte taken within the segment, and a shift
taken_within : (s : List ℕ) (n : ℕ) (r : MqReader) → HasNoMarker 0 s → r.ct ≡ 0 → suc r.place < length s → Stands s n r → Stands s (suc n) (mq_shifted_in s r)
taken_within s n r whole none more h =
    let room = h.room in
    let width = width_here s r.place more in
    elim (cases_eq (mq_byte s r.place) 255) [
      | inl ff ↦
          let small = small_after 0 s r.place whole more ff in
          let seven : raw_width (mq_byte s r.place) ≡ 7 = rw (eq-eqb (mq_byte s r.place) 255 ff) refl in
          rw (eq-eqb r.ct 0 none, eq-eqb (mq_byte s r.place) 255 ff, add-one r.place, le-ltb 143 (mq_byte s (suc r.place)) small)
          (record { within = more; looked = omega arith; room = omega arith; over = omega arith })
      | inr ne ↦
          let eight : raw_width (mq_byte s r.place) ≡ 8 = rw (ne_eqb (mq_byte s r.place) 255 ne) refl in
          rw (eq-eqb r.ct 0 none, ne_eqb (mq_byte s r.place) 255 ne, add-one r.place)
          (record { within = more; looked = omega arith; room = omega arith; over = omega arith })
    ]

-- a byte taken past the end
taken_past : (s : List ℕ) (n : ℕ) (r : MqReader) → r.ct ≡ 0 → suc r.place ≡ length s → Stands s n r → Passed s (suc n) (mq_shifted_in s r)
taken_past s n r none end h =
    let looked = h.looked in
    let room = h.room in
    let far = looked_in s r in
    let seen = (sees_in s r (record { near = omega arith })).seen in
    let over : places 0 s (length s) ≡ n + r.ct = rw end at h.room in
    rw (eq-eqb r.ct 0 none) (record { all = omega arith; near = seen.near; over = omega arith })

pub reached_shift : (s : List ℕ) (n : ℕ) (r : MqReader) → HasNoMarker 0 s → Reached s n r → Reached s (suc n) (mq_shifted_in s r)
unfolding Reached
reached_shift s n r whole (inl h) =
    elim (cases_eq r.ct 0) [
      | inl none ↦
          elim (cases_lt (suc r.place) (length s)) [
            | inl more ↦ inl (taken_within s n r whole none more h)
            | inr past ↦ let within = h.within in inr (taken_past s n r none (omega arith) h)
          ]
      | inr ne ↦
          let room = h.room in
          let over = h.over in
          rw (ne_eqb r.ct 0 ne) (inl (record { within = h.within; looked = h.looked; room = omega arith; over = omega arith }))
    ]
reached_shift s n r whole (inr h) =
    let all = h.all in
    let over = h.over in
    let sees = sees_shift s r (record { near = h.near }) in
    let more = sees.more in
    inr (record { all = omega arith; near = sees.seen.near; over = omega arith })

reached_if : (test : Bool) (s : List ℕ) (n : ℕ) (x y : MqReader) → Reached s n x → Reached s n y → Reached s n (if test then x else y)
reached_if true s n x y p q = p
reached_if false s n x y p q = q

reached_same : (s : List ℕ) (n : ℕ) (r : MqReader) (a c : ℕ) → Reached s n r → Reached s n (record r { a = a; c = c })
unfolding Reached
reached_same s n r a c (inl h) = inl (record { within = h.within; looked = h.looked; room = h.room; over = h.over })
reached_same s n r a c (inr h) = inr (record { all = h.all; near = h.near; over = h.over })

pub reached_chosen : (s : List ℕ) (n : ℕ) (r : MqReader) (qe : ℕ) → Reached s n r → Reached s n (mq_chosen r qe)
reached_chosen s n r qe h =
    reached_if (mq_is_low r qe) s n (record r { a = qe }) (record r { a = r.a - qe; c = r.c - qe * 65536 })
    (reached_same s n r qe r.c h) (reached_same s n r (r.a - qe) (r.c - qe * 65536) h)

start_passed : (s : List ℕ) → length s ≤ 1 → places 0 s (length s) ≤ 15 → Passed s 15 (mq_reader s)
start_passed s few over =
    let looked = start_looked s in
    let seen = start_seen s in
    record { all = omega arith; near = seen.near; over = over }

-- the first two bytes are taken at the start
start_stands : (byte next : ℕ) (rest : List ℕ) → HasNoMarker 0 (byte ∷ next ∷ rest) → Stands (byte ∷ next ∷ rest) 15 (mq_reader (byte ∷ next ∷ rest))
start_stands byte next rest whole =
    elim (cases_eq byte 255) [
      | inl ff ↦
          let small : next ≤ 143 = whole.1.0 ff in
          rw (eq-eqb byte 255 ff, le-ltb 143 next small) (record { within = omega arith; looked = omega arith; room = rw (eq-eqb byte 255 ff) refl; over = omega arith })
      | inr ne ↦
          rw (ne_eqb byte 255 ne) (record { within = omega arith; looked = omega arith; room = rw (ne_eqb byte 255 ne) refl; over = omega arith })
    ]

pub start_reached : (s : List ℕ) → HasNoMarker 0 s → Reached s 15 (mq_reader s)
unfolding Reached
start_reached [] whole = inr (start_passed [] (omega arith) (omega arith))
start_reached (byte ∷ []) whole = inr (start_passed (byte ∷ []) (omega arith) (omega arith))
start_reached (byte ∷ next ∷ rest) whole = inl (start_stands byte next rest whole)
