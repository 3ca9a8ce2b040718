-- The finished bytes lie in the interval of each state that led to them, at every length that a decoder may look at.
use Rattle.std.proofs.Common.{◌≡◌, ◌<◌, ◌≤◌, ◌+◌, ◌-◌, ◌*◌, ◌^◌, ℕ, zero, suc, List, ◌∷◌, refl, ◌∙◌, arith, inl, inr, lt_of_mul-lt-mul_right}
use Rattle.std.proofs.lemmas.Bool.{cases_lt, cases_eq, eq-eqb, ne_eqb}
use Rattle.std.proofs.lemmas.Nat.{pow_pos, pow-add, mul-le}
use Rattle.jx_coder_specs.specs.MqWriting.{MqWriter, mq_byte_out, mq_shifted, mq_renormalized, mq_lower, mq_upper}
use Rattle.jx_mq.specs.Coding.{IsCoding}
use Rattle.jx_mq.specs.Fraction.{value, size, low, scale, front}
use Rattle.jx_mq.proofs.Bounds.{coder, shifted_coding}
use Rattle.jx_mq.proofs.Renormals.{renormalized_more, renormalized_done}
use Rattle.jx_mq.proofs.Ends.{GivesOut, HasGivenOut, gives_out, doubled_ends}

pub mul_less : (x y t : ℕ) → x < y → 0 < t → x * t < y * t
mul_less x y t less some =
    let more : (x + 1) * t ≤ y * t = mul-le (x + 1) t y t (omega arith) (omega arith) in
    let e : (x + 1) * t ≡ x * t + t = grind arith in
    omega arith

pub cancel_most : (x y t : ℕ) → 0 < t → x * t ≤ y * t → x ≤ y
cancel_most x y t some most = elim (cases_lt y x) [ inl h ↦ absurd (let more = mul_less y x t h some in omega arith) | inr h ↦ h ]

-- the bytes given out are the first of the finished ones, but for a carry into the newest
pub record IsGrown (bytes : List ℕ) (byte : ℕ → ℕ) (count : ℕ) : Type 0 where
  pub newest : ℕ
  pub now : ℕ
  pub older : List ℕ
  pub was : bytes ≡ newest ∷ older
  pub is : front byte count ≡ now ∷ older
  pub least : newest ≤ now

pub grown_size : (bytes : List ℕ) (byte : ℕ → ℕ) (count : ℕ) → IsGrown bytes byte count → size bytes ≡ size (front byte count)
grown_size bytes byte count h = rw (h.was, h.is) refl

pub grown_value : (bytes : List ℕ) (byte : ℕ → ℕ) (count : ℕ) → IsGrown bytes byte count → value bytes ≤ value (front byte count)
grown_value bytes byte count h = let least = h.least in rw (h.was, h.is) (omega arith)

-- x places of n lie in it
pub record Fits (w : MqWriter) (byte : ℕ → ℕ) (last count : ℕ) : Type 0 where
  pub grown : IsGrown w.bytes byte count
  pub lower : (j : ℕ) → count < j → j ≤ last → low w * 2 ^ size (front byte j) < (value (front byte j) + 1) * 2 ^ scale w
  pub upper : (value (front byte last) + 1) * 2 ^ scale w ≤ (low w + w.a) * 2 ^ size (front byte last)

unfoldable pub FitsIn : MqWriter → (ℕ → ℕ) → ℕ → Type 0
FitsIn w byte last = (count : ℕ) × ((count < last) × Fits w byte last count)

-- a wider interval
pub fits_wider : (w inner : MqWriter) (byte : ℕ → ℕ) (last count : ℕ) → inner.bytes ≡ w.bytes → scale inner ≡ scale w → low w ≤ low inner → low inner + inner.a ≤ low w + w.a →
    Fits inner byte last count → Fits w byte last count
fits_wider w inner byte last count bytes scales least most h = record {
  grown = rw (← bytes) h.grown;
  lower = λ j more within.
      let less = rw scales at (h.lower j more within) in
      let under : low w * 2 ^ size (front byte j) ≤ low inner * 2 ^ size (front byte j) = mul-le (low w) (2 ^ size (front byte j)) (low inner) (2 ^ size (front byte j)) least (omega arith) in
      omega arith;
  upper =
      let some = rw scales at h.upper in
      let over : (low inner + inner.a) * 2 ^ size (front byte last) ≤ (low w + w.a) * 2 ^ size (front byte last) =
      mul-le (low inner + inner.a) (2 ^ size (front byte last)) (low w + w.a) (2 ^ size (front byte last)) most (omega arith) in
      omega arith;
}

pub fits_lower : (w : MqWriter) (qe : ℕ) (byte : ℕ → ℕ) (last count : ℕ) → qe ≤ w.a → Fits (mq_lower w qe) byte last count → Fits w byte last count
fits_lower w qe byte last count most h = fits_wider w (mq_lower w qe) byte last count refl refl (omega arith) (omega arith) h

pub fits_upper : (w : MqWriter) (qe : ℕ) (byte : ℕ → ℕ) (last count : ℕ) → qe ≤ w.a → Fits (mq_upper w qe) byte last count → Fits w byte last count
fits_upper w qe byte last count most h = fits_wider w (mq_upper w qe) byte last count refl refl (omega arith) (omega arith) h

scaled_less : (l s v n m : ℕ) → (l * 2 ^ m) * 2 ^ s < v * 2 ^ (n + m) → l * 2 ^ s < v * 2 ^ n
scaled_less l s v n m less =
    let e : (l * 2 ^ m) * 2 ^ s ≡ (l * 2 ^ s) * 2 ^ m = grind arith in
    let f : v * 2 ^ (n + m) ≡ (v * 2 ^ n) * 2 ^ m = rw pow-add (grind arith) in
    lt_of_mul-lt-mul_right (2 ^ m) (rw (e, f) at less)

scaled_most : (l a s v n m : ℕ) → v * 2 ^ (n + m) ≤ (l * 2 ^ m + a * 2 ^ m) * 2 ^ s → v * 2 ^ n ≤ (l + a) * 2 ^ s
scaled_most l a s v n m most =
    let e : (l * 2 ^ m + a * 2 ^ m) * 2 ^ s ≡ ((l + a) * 2 ^ s) * 2 ^ m = grind arith in
    let f : v * 2 ^ (n + m) ≡ (v * 2 ^ n) * 2 ^ m = rw pow-add (grind arith) in
    cancel_most (v * 2 ^ n) ((l + a) * 2 ^ s) (2 ^ m) (pow_pos m) (rw (e, f) at most)

-- the same interval in a finer scale
pub fits_scaled : (w fine : MqWriter) (byte : ℕ → ℕ) (last count places : ℕ) → fine.bytes ≡ w.bytes → scale fine ≡ scale w + places → low fine ≡ low w * 2 ^ places → fine.a ≡ w.a * 2 ^ places →
    Fits fine byte last count → Fits w byte last count
fits_scaled w fine byte last count places bytes scales lows widths h = record {
  grown = rw (← bytes) h.grown;
  lower = λ j more within. scaled_less (low w) (size (front byte j)) (value (front byte j) + 1) (scale w) places (rw (scales, lows) at (h.lower j more within));
  upper = scaled_most (low w) w.a (size (front byte last)) (value (front byte last) + 1) (scale w) places (rw (scales, lows, widths) at h.upper);
}

fits_doubled : (w : MqWriter) (byte : ℕ → ℕ) (last count : ℕ) → 0 < w.ct → w.ct ≤ 12 → Fits (coder (2 * w.a) (2 * w.c) (w.ct - 1) w.bytes) byte last count → Fits w byte last count
fits_doubled w byte last count some most h =
    let ends = doubled_ends w some most in
    fits_scaled w (coder (2 * w.a) (2 * w.c) (w.ct - 1) w.bytes) byte last count 1 refl (ends.1 ∙ (omega arith)) (ends.0 ∙ (omega arith)) (omega arith) h

emitted : (v big c s r : ℕ) → v ≤ big → c < 2 ^ r → (v * 2 ^ r + c) * 2 ^ s < (big + 1) * 2 ^ (s + r)
emitted v big c s r least rest =
    let e : (big + 1) * 2 ^ (s + r) ≡ ((big + 1) * 2 ^ r) * 2 ^ s = rw pow-add (grind arith) in
    let under : (v + 1) * 2 ^ r ≤ (big + 1) * 2 ^ r = mul-le (v + 1) (2 ^ r) (big + 1) (2 ^ r) (omega arith) (omega arith) in
    let whole : (v + 1) * 2 ^ r ≡ v * 2 ^ r + 2 ^ r = grind arith in
    rw e (mul_less (v * 2 ^ r + c) ((big + 1) * 2 ^ r) (2 ^ s) (omega arith) (pow_pos s))

grown_before : (w after : MqWriter) (byte : ℕ → ℕ) (count newest next before : ℕ) (older : List ℕ) → GivesOut w after newest next before older → IsGrown after.bytes byte (suc count) → IsGrown w.bytes byte count
grown_before w after byte count newest next before older g h =
    let is : front byte count ≡ before ∷ older = cc (g.bytes, h.was, h.is) in
    record { newest = newest; now = before; older = older; was = g.was; is = is; least = g.least }

not_first : (w after : MqWriter) (byte : ℕ → ℕ) (newest next before : ℕ) (older : List ℕ) → GivesOut w after newest next before older → IsGrown after.bytes byte 0 → ⊥
not_first w after byte newest next before older g h =
    let bytes = g.bytes in
    let was = h.was in
    let is = h.is in
    cc

-- a byte given out: the finished bytes with it are at least those given out, and C has less than one of them left
fits_before : (w after : MqWriter) (byte : ℕ → ℕ) (last count newest next before : ℕ) (older : List ℕ) → GivesOut w after newest next before older →
    Fits after byte last (suc count) → Fits w byte last count
fits_before w after byte last count newest next before older g h = record {
  grown = grown_before w after byte count newest next before older g h.grown;
  lower = λ j more within.
      elim (cases_lt (suc count) j) [
        | inl further ↦ rw (g.low_is, g.scale_is) at (h.lower j further within)
        | inr here ↦
            let e : j ≡ suc count = omega arith in
            let sizes : size after.bytes ≡ size (front byte (suc count)) = grown_size after.bytes byte (suc count) h.grown in
            let values = grown_value after.bytes byte (suc count) h.grown in
            let less = emitted (value after.bytes) (value (front byte (suc count))) after.c (size after.bytes) (27 - after.ct) values g.rest in
            rw (e, ← sizes, ← g.low_is, ← g.scale_is) less
      ];
  upper = rw (g.low_is, g.scale_is, g.a) at h.upper;
}

given_out_at : (w after : MqWriter) (byte : ℕ → ℕ) (last newest next before : ℕ) (older : List ℕ) → GivesOut w after newest next before older →
    (count : ℕ) → count ≤ last → Fits after byte last count → FitsIn w byte last
unfolding FitsIn
given_out_at w after byte last newest next before older g zero less h = absurd (not_first w after byte newest next before older g h.grown)
given_out_at w after byte last newest next before older g (suc count) less h = (count, (omega arith, fits_before w after byte last count newest next before older g h))

pub fits_given_last : (w after : MqWriter) (byte : ℕ → ℕ) (last count : ℕ) → HasGivenOut w after → count ≤ last → Fits after byte last count → FitsIn w byte last
unfolding HasGivenOut
fits_given_last w after byte last count g most h = given_out_at w after byte last g.0 g.1.0 g.1.1.0 g.1.1.1.0 g.1.1.1.1 count most h

pub fits_given_out : (w after : MqWriter) (byte : ℕ → ℕ) (last : ℕ) → HasGivenOut w after → FitsIn after byte last → FitsIn w byte last
unfolding FitsIn
fits_given_out w after byte last g h = let less = h.1.0 in fits_given_last w after byte last h.0 g (omega arith) h.1.1

pub fits_shifted : (w : MqWriter) (byte : ℕ → ℕ) (last : ℕ) → w.a < 32768 → IsCoding w → FitsIn (mq_shifted w) byte last → FitsIn w byte last
unfolding FitsIn
fits_shifted w byte last less h fits =
    let b = h.bounded in
    let due = h.due in
    let doubled : FitsIn (coder (2 * w.a) (2 * w.c) (w.ct - 1) w.bytes) byte last =
    elim (cases_eq (w.ct - 1) 0) [
      | inl none ↦ fits_given_out (coder (2 * w.a) (2 * w.c) (w.ct - 1) w.bytes) (mq_byte_out (coder (2 * w.a) (2 * w.c) (w.ct - 1) w.bytes)) byte last
          (gives_out (2 * w.a) (2 * w.c) (w.ct - 1) w.bytes none b.given) (rw (eq-eqb (w.ct - 1) 0 none) at fits)
      | inr ne ↦ rw (ne_eqb (w.ct - 1) 0 ne) at fits
    ] in
    (doubled.0, (doubled.1.0, fits_doubled w byte last doubled.0 due b.ct doubled.1.1))

pub fits_renormalized : (n : ℕ) (w : MqWriter) (byte : ℕ → ℕ) (last : ℕ) → IsCoding w → FitsIn (mq_renormalized n w) byte last → FitsIn w byte last
unfolding mq_renormalized
fits_renormalized zero w byte last h fits = fits
fits_renormalized (suc n) w byte last h fits =
    elim (cases_lt w.a 32768) [
      | inl less ↦ fits_shifted w byte last less h (fits_renormalized n (mq_shifted w) byte last (shifted_coding w less h) (rw (renormalized_more n w less) at fits))
      | inr most ↦ rw (renormalized_done (suc n) w most) at fits
    ]
