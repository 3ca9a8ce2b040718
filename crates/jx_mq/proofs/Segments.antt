-- The written segment and the bytes given out are one list.
use Rattle.std.proofs.Common.{◌≡◌, ◌≢◌, ◌<◌, ◌≤◌, ◌-◌, ℕ, zero, suc, List, [], ◌∷◌, ◌++◌, length, drop, reverse, refl, sym, ◌∙◌, arith, inl, inr, append_assoc, length-append, length-drop}
use Rattle.std.proofs.lemmas.Bool.{cases_lt, cases_eq, ne_eqb, eq-eqb}
use Rattle.std.proofs.lemmas.List.{append-nil, reverse-append, length-reverse, drop-append-le, get_or_push, get_or_append_left, get_or_past}
use Rattle.jx_base.specs.Markers.{HasNoMarker}
use Rattle.jx_coder_specs.specs.MqReading.{mq_byte}
use Rattle.jx_coder_specs.specs.MqWriting.{mq_newest, mq_trimmed}
use Rattle.jx_mq.specs.Coding.{AreGiven}
use Rattle.jx_mq.specs.Fraction.{front}
use Rattle.jx_mq.proofs.Fronts.{IsSegment}

-- the bytes in their order, without the one before the first
abbrev pub in_order : List ℕ → List ℕ
in_order bytes = drop 1 (reverse bytes)

order_more : (byte before : ℕ) (older : List ℕ) → in_order (byte ∷ before ∷ older) ≡ in_order (before ∷ older) ++ byte ∷ []
order_more byte before older =
    let turned : reverse (byte ∷ before ∷ older) ≡ reverse (before ∷ older) ++ byte ∷ [] = reverse-append (byte ∷ []) (before ∷ older) in
    let some : 1 ≤ length (reverse (before ∷ older)) = rw (length-reverse (before ∷ older)) (omega arith) in
    rw (turned, drop-append-le 1 (reverse (before ∷ older)) (byte ∷ []) some) refl

order_length : (bytes : List ℕ) → length (in_order bytes) ≡ length bytes - 1
order_length bytes = rw (length-drop 1 (reverse bytes), length-reverse bytes) refl

front_same : (f g : ℕ → ℕ) (count : ℕ) → ((i : ℕ) → i < count → f i ≡ g i) → front f count ≡ front g count
front_same f g zero same = refl
front_same f g (suc count) same = rw (same count (omega arith), front_same f g count (λ i less. same i (omega arith))) refl

pub front_of : (bytes : List ℕ) (count : ℕ) → AreGiven bytes → suc count ≡ length bytes → front (mq_byte (in_order bytes)) count ≡ bytes
front_of [] count given long = absurd given
front_of (byte ∷ []) zero given long = rw given refl
front_of (byte ∷ []) (suc count) given long = absurd (omega arith)
front_of (byte ∷ before ∷ older) zero given long = absurd (omega arith)
front_of (byte ∷ before ∷ older) (suc count) given long =
    let size : length (in_order (before ∷ older)) ≡ count = order_length (before ∷ older) ∙ (omega arith) in
    let here : mq_byte (in_order (byte ∷ before ∷ older)) count ≡ byte = rw (order_more byte before older) (get_or_push (in_order (before ∷ older)) byte 255 count size) in
    let rest : front (mq_byte (in_order (byte ∷ before ∷ older))) count ≡ front (mq_byte (in_order (before ∷ older))) count =
    front_same (mq_byte (in_order (byte ∷ before ∷ older))) (mq_byte (in_order (before ∷ older))) count
    (λ i less. rw (order_more byte before older) (get_or_append_left (in_order (before ∷ older)) (byte ∷ []) 255 i (omega arith))) in
    rw (here, rest, front_of (before ∷ older) count given.2 (omega arith)) refl

-- a last FF that was left out is given back by the endless tail
pub left_out : (bytes : List ℕ) (place : ℕ) → mq_byte (bytes ++ 255 ∷ []) place ≡ mq_byte bytes place
left_out bytes place =
    elim (cases_lt place (length bytes)) [
      | inl within ↦ get_or_append_left bytes (255 ∷ []) 255 place within
      | inr past ↦
          elim (cases_eq place (length bytes)) [
            | inl here ↦ get_or_push bytes 255 255 place (sym here) ∙ sym (get_or_past bytes place 255 past)
            | inr further ↦ get_or_past (bytes ++ 255 ∷ []) place 255 (rw length-append (omega arith)) ∙ sym (get_or_past bytes place 255 past)
          ]
    ]

pub trimmed_front : (bytes : List ℕ) (count : ℕ) → AreGiven bytes → suc count ≡ length bytes → front (mq_byte (in_order (mq_trimmed bytes))) count ≡ bytes
trimmed_front [] count given long = absurd given
trimmed_front (byte ∷ []) count given long = rw (ne_eqb byte 255 (λ e. omega arith)) (front_of (byte ∷ []) count given long)
trimmed_front (byte ∷ before ∷ older) count given long =
    elim (cases_eq byte 255) [
      | inl ff ↦
          let same : front (mq_byte (in_order (before ∷ older))) count ≡ front (mq_byte (in_order (byte ∷ before ∷ older))) count =
          front_same (mq_byte (in_order (before ∷ older))) (mq_byte (in_order (byte ∷ before ∷ older))) count
          (λ i less. rw (order_more byte before older, ff) (sym (left_out (in_order (before ∷ older)) i))) in
          rw (eq-eqb byte 255 ff) (same ∙ front_of (byte ∷ before ∷ older) count given long)
      | inr ne ↦ rw (ne_eqb byte 255 ne) (front_of (byte ∷ before ∷ older) count given long)
    ]

pub trimmed_length : (bytes : List ℕ) → length (mq_trimmed bytes) ≤ length bytes
trimmed_length [] = omega arith
trimmed_length (byte ∷ older) =
    elim (cases_eq byte 255) [ inl ff ↦ rw (eq-eqb byte 255 ff) (omega arith) | inr ne ↦ rw (ne_eqb byte 255 ne) (omega arith) ]

-- at most one byte is left out
pub trimmed_short : (bytes : List ℕ) (last : ℕ) → suc last ≡ length bytes → last ≤ suc (length (in_order (mq_trimmed bytes)))
trimmed_short [] last long = absurd (omega arith)
trimmed_short (byte ∷ older) last long =
    let all = order_length (byte ∷ older) in
    let fewer = order_length older in
    elim (cases_eq byte 255) [ inl ff ↦ rw (eq-eqb byte 255 ff, fewer) (omega arith) | inr ne ↦ rw (ne_eqb byte 255 ne, all) (omega arith) ]

-- what was given out, read as a segment
pub segment_of : (bytes : List ℕ) (last : ℕ) → AreGiven bytes → 0 < last → suc last ≡ length bytes → IsSegment (mq_byte (in_order (mq_trimmed bytes))) last
segment_of bytes last given some long = record {
  some = some;
  given = rw (trimmed_front bytes last given long) given;
  tail = λ i past. get_or_past (in_order (mq_trimmed bytes)) i 255 (let shorter = trimmed_length bytes in rw (order_length (mq_trimmed bytes)) (omega arith));
}

markers_before : (bytes after : List ℕ) → AreGiven bytes → HasNoMarker (mq_newest bytes) after → HasNoMarker 0 (in_order bytes ++ after)
markers_before [] after given h = absurd given
markers_before (byte ∷ []) after given h = rw given at h
markers_before (byte ∷ before ∷ older) after given h =
    rw (order_more byte before older, append_assoc (in_order (before ∷ older)) (byte ∷ []) after)
    (markers_before (before ∷ older) (byte ∷ after) given.2 (given.1, h))

no_markers : (bytes : List ℕ) → AreGiven bytes → mq_newest bytes ≢ 255 → HasNoMarker 0 (in_order bytes)
no_markers bytes given ne = rw append-nil at (markers_before bytes [] given ne)

pub trimmed_markers : (bytes : List ℕ) → AreGiven bytes → HasNoMarker 0 (in_order (mq_trimmed bytes))
trimmed_markers [] given = absurd given
trimmed_markers (byte ∷ []) given = rw (ne_eqb byte 255 (λ e. omega arith)) (no_markers (byte ∷ []) given (λ e. omega arith))
trimmed_markers (byte ∷ before ∷ older) given =
    elim (cases_eq byte 255) [
      | inl ff ↦ rw (eq-eqb byte 255 ff) (no_markers (before ∷ older) given.2 (λ e. let small = given.1 e in omega arith))
      | inr ne ↦ rw (ne_eqb byte 255 ne) (no_markers (byte ∷ before ∷ older) given ne)
    ]
