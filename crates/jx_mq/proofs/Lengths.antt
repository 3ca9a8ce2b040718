-- How many bytes decisions make.
use Rattle.std.proofs.Common.{◌≡◌, ◌≢◌, ◌≤◌, ◌+◌, ◌-◌, ◌*◌, ◌^◌, ℕ, zero, suc, Bool, true, false, List, [], ◌∷◌, ◌++◌, length, drop, reverse, refl, ap, sym, ◌∙◌, arith, ltb, inl, inr, if◌then◌else◌, ◌==◌, length-drop}
use Rattle.std.proofs.lemmas.Bool.{cases_lt, ne_eqb, eq-eqb}
use mathlib.Core.List.{reverse-cons}
use Rattle.std.proofs.lemmas.List.{length-reverse, reverse-reverse}
use Rattle.jx_coder_specs.specs.MqWriting.{MqWriter, mq_newest, mq_raised, mq_plain, mq_stuffed, mq_carried, mq_by_newest, mq_byte_out, mq_shifted, mq_renormalized, mq_lower, mq_upper, mq_part, mq_last_number, mq_given_out, mq_flushed, mq_trimmed, mq_segment}
use Rattle.jx_mq.proofs.Renormals.{renormalized_more, renormalized_done}

-- a byte more, and CT is what it takes
pub record OneMore (w after : MqWriter) : Type 0 where
  pub long : length after.bytes ≡ length w.bytes + 1
  pub least : 7 ≤ after.ct
  pub most : after.ct ≤ 8

either_more : (test : Bool) (w x y : MqWriter) → OneMore w x → OneMore w y → OneMore w (if test then x else y)
either_more true w x y p q = p
either_more false w x y p q = q

pub raised_long : (bytes : List ℕ) → length (mq_raised bytes) ≡ length bytes
raised_long [] = refl
raised_long (byte ∷ older) = refl

plain_more : (w : MqWriter) → OneMore w (mq_plain w)
plain_more w = record { long = omega arith; least = omega arith; most = omega arith }

stuffed_more : (w : MqWriter) → OneMore w (mq_stuffed w)
stuffed_more w = record { long = omega arith; least = omega arith; most = omega arith }

carried_more : (w : MqWriter) → OneMore w (mq_by_newest (mq_carried w))
carried_more w =
    let raised = raised_long w.bytes in
    let m : OneMore (mq_carried w) (mq_by_newest (mq_carried w)) =
    either_more (mq_newest (mq_carried w).bytes == 255) (mq_carried w) (mq_stuffed (mq_carried w)) (mq_plain (mq_carried w)) (stuffed_more (mq_carried w)) (plain_more (mq_carried w)) in
    record { long = m.long ∙ ap (λ (n : ℕ). n + 1) raised; least = m.least; most = m.most }

byte_out_more : (w : MqWriter) → OneMore w (mq_byte_out w)
byte_out_more w =
    either_more (mq_newest w.bytes == 255) w (mq_stuffed w) (if ltb w.c 134217728 then mq_plain w else mq_by_newest (mq_carried w)) (stuffed_more w)
    (either_more (ltb w.c 134217728) w (mq_plain w) (mq_by_newest (mq_carried w)) (plain_more w) (carried_more w))

-- so many shifts give out a byte for seven of them at most, and CT stays small
pub record Few (n : ℕ) (w after : MqWriter) : Type 0 where
  pub most : 7 * length after.bytes + w.ct ≤ 7 * length w.bytes + after.ct + n
  pub ct : w.ct ≤ 12 → after.ct ≤ 12

either_few : (test : Bool) (n : ℕ) (w x y : MqWriter) → Few n w x → Few n w y → Few n w (if test then x else y)
either_few true n w x y p q = p
either_few false n w x y p q = q

given_few : (w moved out : MqWriter) → moved.bytes ≡ w.bytes → moved.ct ≡ w.ct - 1 → OneMore moved out → Few 1 w (if moved.ct == 0 then out else moved)
given_few w moved out same ct more =
    let long : length moved.bytes ≡ length w.bytes = ap (λ (bytes : List ℕ). length bytes) same in
    let longer = more.long in
    let least = more.least in
    let most = more.most in
    elim (cases_lt 0 moved.ct) [
      | inl some ↦ rw (ne_eqb moved.ct 0 (omega arith)) (record { most = omega arith; ct = λ h. omega arith })
      | inr none ↦ rw (eq-eqb moved.ct 0 (omega arith)) (record { most = omega arith; ct = λ h. omega arith })
    ]

shifted_few : (w : MqWriter) → Few 1 w (mq_shifted w)
shifted_few w =
    let moved : MqWriter = record w { a = 2 * w.a; c = 2 * w.c; ct = w.ct - 1 } in
    given_few w moved (mq_byte_out moved) refl refl (byte_out_more moved)

renormalized_none : (w : MqWriter) → mq_renormalized 0 w ≡ w
unfolding mq_renormalized
renormalized_none w = refl

pub renormalized_few : (n : ℕ) (w : MqWriter) → Few n w (mq_renormalized n w)
renormalized_few zero w = rw (renormalized_none w) (record { most = omega arith; ct = λ h. h })
renormalized_few (suc n) w =
    elim (cases_lt w.a 32768) [
      | inl less ↦
          let one = shifted_few w in
          let rest = renormalized_few n (mq_shifted w) in
          let most = one.most in
          let most' = rest.most in
          rw (renormalized_more n w less) (record { most = omega arith; ct = λ h. rest.ct (one.ct h) })
      | inr most ↦ rw (renormalized_done (suc n) w most) (record { most = omega arith; ct = λ h. h })
    ]

pub part_few : (w : MqWriter) (qe : ℕ) (is_mps : Bool) → Few 0 w (mq_part w qe is_mps)
part_few w qe is_mps =
    let lower : Few 0 w (mq_lower w qe) = record { most = omega arith; ct = λ h. h } in
    let upper : Few 0 w (mq_upper w qe) = record { most = omega arith; ct = λ h. h } in
    either_few is_mps 0 w (if ltb (w.a - qe) qe then mq_lower w qe else mq_upper w qe) (if ltb (w.a - qe) qe then mq_upper w qe else mq_lower w qe)
    (either_few (ltb (w.a - qe) qe) 0 w (mq_lower w qe) (mq_upper w qe) lower upper) (either_few (ltb (w.a - qe) qe) 0 w (mq_upper w qe) (mq_lower w qe) upper lower)

-- shifts of one list and of another
pub both_few : (n m : ℕ) (w x y : MqWriter) → Few n w x → Few m x y → Few (n + m) w y
both_few n m w x y p q =
    let c = p.most in
    let d = q.most in
    record { most = omega arith; ct = λ h. q.ct (p.ct h) }

-- FLUSH gives out two bytes, and a last FF and the byte before the first are left out
flushed_long : (w : MqWriter) → length (mq_flushed w) ≡ length w.bytes + 2
flushed_long w =
    let last : MqWriter = record w { c = mq_last_number w } in
    let first = byte_out_more (record last { c = last.c * 2 ^ last.ct }) in
    let once : MqWriter = mq_given_out last in
    let second = byte_out_more (record once { c = once.c * 2 ^ once.ct }) in
    let a = first.long in
    let b = second.long in
    omega arith

either_trimmed : (test : Bool) (byte : ℕ) (older : List ℕ) → length (if test then older else byte ∷ older) ≤ length (byte ∷ older)
either_trimmed true byte older = omega arith
either_trimmed false byte older = omega arith

trimmed_long : (bytes : List ℕ) → length (mq_trimmed bytes) ≤ length bytes
trimmed_long [] = omega arith
trimmed_long (byte ∷ older) = either_trimmed (byte == 255) byte older

segment_long : (w : MqWriter) → length (mq_segment w) ≡ length (mq_trimmed (mq_flushed w)) - 1
segment_long w = length-drop 1 (reverse (mq_trimmed (mq_flushed w))) ∙ ap (λ (n : ℕ). n - 1) (length-reverse (mq_trimmed (mq_flushed w)))

-- the segment has one byte more than were given out, at most
pub segment_most : (w : MqWriter) → length (mq_segment w) ≤ length w.bytes + 1
segment_most w =
    let whole = segment_long w in
    let all = flushed_long w in
    let t = trimmed_long (mq_flushed w) in
    omega arith

-- the bytes of a segment from those that were given out and the newest
flushed_by : (w last once twice : MqWriter) → last ≡ record w { c = mq_last_number w } → once ≡ mq_given_out last → twice ≡ mq_given_out once → twice.bytes ≡ mq_flushed w
flushed_by w last once twice e f g =
    ap (λ (x : MqWriter). x.bytes) g ∙ ap (λ (x : MqWriter). (mq_given_out x).bytes) f ∙ ap (λ (x : MqWriter). (mq_given_out (mq_given_out x)).bytes) e

pub segment_whole : (w last once twice : MqWriter) (newest : ℕ) (older : List ℕ) → last ≡ record w { c = mq_last_number w } → once ≡ mq_given_out last → twice ≡ mq_given_out once →
    twice.bytes ≡ newest ∷ reverse older → newest ≢ 255 → mq_segment w ≡ drop 1 (older ++ newest ∷ [])
segment_whole w last once twice newest older e f g bytes ne =
    let all : mq_flushed w ≡ newest ∷ reverse older = sym (flushed_by w last once twice e f g) ∙ bytes in
    let kept : mq_trimmed (newest ∷ reverse older) ≡ newest ∷ reverse older = rw (ne_eqb newest 255 ne) refl in
    let turned : reverse (newest ∷ reverse older) ≡ older ++ newest ∷ [] = reverse-cons newest (reverse older) ∙ ap (λ (x : List ℕ). x ++ newest ∷ []) (reverse-reverse older) in
    ap (λ (x : List ℕ). drop 1 (reverse (mq_trimmed x))) all ∙ ap (λ (x : List ℕ). drop 1 (reverse x)) kept ∙ ap (λ (x : List ℕ). drop 1 x) turned

pub segment_trimmed : (w last once twice : MqWriter) (newest : ℕ) (older : List ℕ) → last ≡ record w { c = mq_last_number w } → once ≡ mq_given_out last → twice ≡ mq_given_out once →
    twice.bytes ≡ newest ∷ reverse older → newest ≡ 255 → mq_segment w ≡ drop 1 older
segment_trimmed w last once twice newest older e f g bytes is =
    let all : mq_flushed w ≡ newest ∷ reverse older = sym (flushed_by w last once twice e f g) ∙ bytes in
    let cut : mq_trimmed (newest ∷ reverse older) ≡ reverse older = rw (eq-eqb newest 255 is) refl in
    let turned : reverse (reverse older) ≡ older = reverse-reverse older in
    ap (λ (x : List ℕ). drop 1 (reverse (mq_trimmed x))) all ∙ ap (λ (x : List ℕ). drop 1 (reverse x)) cut ∙ ap (λ (x : List ℕ). drop 1 x) turned
