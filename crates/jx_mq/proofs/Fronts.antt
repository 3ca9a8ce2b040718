-- The first bytes of a segment as a fraction: what a decoder has taken.
use Rattle.std.proofs.Common.{◌≡◌, ◌<◌, ◌≤◌, ◌+◌, ◌-◌, ◌*◌, ◌^◌, ℕ, zero, suc, refl, arith, ◌⊎◌, inl, inr, lt_of_mul-lt-mul_right}
use Rattle.std.proofs.lemmas.Bool.{cases_lt}
use Rattle.std.proofs.lemmas.Nat.{pow_pos, pow-add, mul-le}
use Rattle.jx_coder_specs.specs.MqWriting.{MqWriter, mq_newest}
use Rattle.jx_mq.specs.Coding.{AreGiven, IsCoding}
use Rattle.jx_mq.specs.Fraction.{span, value, size, low, scale, front}
use Rattle.jx_mq.proofs.Fitting.{mul_less, grown_size, FitsIn}

-- what an encoder gave out, followed by FF for ever
pub record IsSegment (byte : ℕ → ℕ) (last : ℕ) : Type 0 where
  pub some : 0 < last
  pub given : AreGiven (front byte last)
  pub tail : (i : ℕ) → last ≤ i → byte i ≡ 255

given_older : (byte : ℕ → ℕ) (i : ℕ) → AreGiven (front byte (suc i)) → AreGiven (front byte i)
given_older byte zero h = refl
given_older byte (suc i) h = h.2

given_fewer : (byte : ℕ → ℕ) (i more : ℕ) → AreGiven (front byte (more + i)) → AreGiven (front byte i)
given_fewer byte i zero h = let e : 0 + i ≡ i = omega arith in rw e at h
given_fewer byte i (suc more) h = let e : suc more + i ≡ suc (more + i) = omega arith in given_fewer byte i more (given_older byte (more + i) (rw e at h))

given_front : (byte : ℕ → ℕ) (last i : ℕ) → AreGiven (front byte last) → i ≤ last → AreGiven (front byte i)
given_front byte last i h within = let e : last ≡ (last - i) + i = omega arith in given_fewer byte i (last - i) (rw e at h)

first_fits : (byte : ℕ → ℕ) (i : ℕ) → AreGiven (front byte (suc i)) → byte i < 256
first_fits byte zero h = h.0
first_fits byte (suc i) h = h.0

pub byte_fits : (byte : ℕ → ℕ) (last i : ℕ) → IsSegment byte last → byte i < 256
byte_fits byte last i h =
    elim (cases_lt i last) [
      | inl within ↦ first_fits byte i (given_front byte last (suc i) h.given within)
      | inr past ↦ rw (h.tail i past) (omega arith)
    ]

pub stuffed_fits : (byte : ℕ → ℕ) (last i : ℕ) → IsSegment byte last → suc i < last → byte i ≡ 255 → byte (suc i) ≤ 143
stuffed_fits byte last i h within ff = (given_front byte last (suc (suc i)) h.given within).1 ff

size_step : (byte : ℕ → ℕ) (i more : ℕ) → size (front byte i) ≤ size (front byte (more + i))
size_step byte i zero = let e : 0 + i ≡ i = omega arith in rw e (omega arith)
size_step byte i (suc more) = let e : suc more + i ≡ suc (more + i) = omega arith in let less = size_step byte i more in rw e (omega arith)

pub size_most : (byte : ℕ → ℕ) (i j : ℕ) → i ≤ j → size (front byte i) ≤ size (front byte j)
size_most byte i j most = let e : (j - i) + i ≡ j = omega arith in rw e at (size_step byte i (j - i))

value_grows : (v vl byte t tl k : ℕ) → v * 2 ^ tl ≤ vl * 2 ^ t → v * 2 ^ (tl + k) ≤ (vl * 2 ^ k + byte) * 2 ^ t
value_grows v vl byte t tl k less =
    let a : v * 2 ^ (tl + k) ≡ (v * 2 ^ tl) * 2 ^ k = rw pow-add (grind arith) in
    let b : (vl * 2 ^ k + byte) * 2 ^ t ≡ (vl * 2 ^ t) * 2 ^ k + byte * 2 ^ t = grind arith in
    let c : (v * 2 ^ tl) * 2 ^ k ≤ (vl * 2 ^ t) * 2 ^ k = mul-le (v * 2 ^ tl) (2 ^ k) (vl * 2 ^ t) (2 ^ k) less (omega arith) in
    rw (a, b) (omega arith)

value_step : (byte : ℕ → ℕ) (i more : ℕ) → value (front byte i) * 2 ^ size (front byte (more + i)) ≤ value (front byte (more + i)) * 2 ^ size (front byte i)
value_step byte i zero = let e : 0 + i ≡ i = omega arith in rw e (omega arith)
value_step byte i (suc more) =
    let e : suc more + i ≡ suc (more + i) = omega arith in
    let less = value_step byte i more in
    rw e (value_grows (value (front byte i)) (value (front byte (more + i))) (byte (more + i)) (size (front byte i)) (size (front byte (more + i))) (span (mq_newest (front byte (more + i)))) less)

pub value_most : (byte : ℕ → ℕ) (i j : ℕ) → i ≤ j → value (front byte i) * 2 ^ size (front byte j) ≤ value (front byte j) * 2 ^ size (front byte i)
value_most byte i j most = let e : (j - i) + i ≡ j = omega arith in rw e at (value_step byte i (j - i))

-- what was taken of the bytes: the first ones
pub record Inside (byte : ℕ → ℕ) (last place v t : ℕ) : Type 0 where
  pub within : suc place ≤ last
  pub v_is : v ≡ value (front byte (suc place))
  pub t_is : t ≡ size (front byte (suc place))

-- or all of them, and one bits after them
pub record Past (byte : ℕ → ℕ) (last place v t : ℕ) : Type 0 where
  pub here : byte place ≡ 255
  pub next : byte (suc place) ≡ 255
  pub ones : ℕ
  pub v_is : v + 1 ≡ (value (front byte last) + 1) * 2 ^ ones
  pub t_is : t ≡ size (front byte last) + ones

unfoldable pub Taken : (ℕ → ℕ) → ℕ → ℕ → ℕ → ℕ → Type 0
Taken byte last place v t = Inside byte last place v t ⊎ Past byte last place v t

-- what was taken lies in the interval
pub record Between (w : MqWriter) (v t : ℕ) : Type 0 where
  pub least : low w * 2 ^ t < (v + 1) * 2 ^ scale w
  pub most : v * 2 ^ scale w < (low w + w.a) * 2 ^ t

inside_most : (v vl t tl n e : ℕ) → v * 2 ^ tl ≤ vl * 2 ^ t → (vl + 1) * 2 ^ n ≤ e * 2 ^ tl → v * 2 ^ n < e * 2 ^ t
inside_most v vl t tl n e grows upper =
    let first : (v * 2 ^ n) * 2 ^ tl ≤ (vl * 2 ^ n) * 2 ^ t =
    let a : (v * 2 ^ n) * 2 ^ tl ≡ (v * 2 ^ tl) * 2 ^ n = grind arith in
    let b : (vl * 2 ^ n) * 2 ^ t ≡ (vl * 2 ^ t) * 2 ^ n = grind arith in
    rw (a, b) (mul-le (v * 2 ^ tl) (2 ^ n) (vl * 2 ^ t) (2 ^ n) grows (omega arith)) in
    let some = pow_pos n in
    let whole : (vl + 1) * 2 ^ n ≡ vl * 2 ^ n + 2 ^ n = grind arith in
    let second : (vl * 2 ^ n) * 2 ^ t < ((vl + 1) * 2 ^ n) * 2 ^ t = mul_less (vl * 2 ^ n) ((vl + 1) * 2 ^ n) (2 ^ t) (omega arith) (pow_pos t) in
    let third : ((vl + 1) * 2 ^ n) * 2 ^ t ≤ (e * 2 ^ tl) * 2 ^ t = mul-le ((vl + 1) * 2 ^ n) (2 ^ t) (e * 2 ^ tl) (2 ^ t) upper (omega arith) in
    let same : (e * 2 ^ tl) * 2 ^ t ≡ (e * 2 ^ t) * 2 ^ tl = grind arith in
    lt_of_mul-lt-mul_right (2 ^ tl) (omega arith)

past_least : (l v vl t n j : ℕ) → v + 1 ≡ (vl + 1) * 2 ^ j → l * 2 ^ t < (vl + 1) * 2 ^ n → l * 2 ^ (t + j) < (v + 1) * 2 ^ n
past_least l v vl t n j e less =
    let a : l * 2 ^ (t + j) ≡ (l * 2 ^ t) * 2 ^ j = rw pow-add (grind arith) in
    let b : ((vl + 1) * 2 ^ j) * 2 ^ n ≡ ((vl + 1) * 2 ^ n) * 2 ^ j = grind arith in
    rw (e, a, b) (mul_less (l * 2 ^ t) ((vl + 1) * 2 ^ n) (2 ^ j) less (pow_pos j))

past_most : (u v vl t n j : ℕ) → v + 1 ≡ (vl + 1) * 2 ^ j → (vl + 1) * 2 ^ n ≤ u * 2 ^ t → v * 2 ^ n < u * 2 ^ (t + j)
past_most u v vl t n j e most =
    let some = pow_pos n in
    let a : u * 2 ^ (t + j) ≡ (u * 2 ^ t) * 2 ^ j = rw pow-add (grind arith) in
    let b : ((vl + 1) * 2 ^ j) * 2 ^ n ≡ ((vl + 1) * 2 ^ n) * 2 ^ j = grind arith in
    let c : (v + 1) * 2 ^ n ≡ v * 2 ^ n + 2 ^ n = grind arith in
    let d : (v + 1) * 2 ^ n ≤ (u * 2 ^ t) * 2 ^ j = rw (e, b) (mul-le ((vl + 1) * 2 ^ n) (2 ^ j) (u * 2 ^ t) (2 ^ j) most (omega arith)) in
    rw a (omega arith)

pub between : (w : MqWriter) (byte : ℕ → ℕ) (last place v ct : ℕ) → IsCoding w → FitsIn w byte last → Taken byte last place v (scale w + ct) → Between w v (scale w + ct)
unfolding FitsIn Taken
between w byte last place v ct h fits (inl inside) =
    let f = fits.1.1 in
    let sizes : size w.bytes ≡ size (front byte fits.0) = grown_size w.bytes byte fits.0 f.grown in
    let bound = h.bounded.ct in
    let t_is = inside.t_is in
    let further : fits.0 < suc place =
    elim (cases_lt fits.0 (suc place)) [ inl more ↦ more | inr few ↦ absurd (let fewer = size_most byte (suc place) fits.0 few in omega arith) ] in
    record {
      least = rw (inside.t_is, inside.v_is) (f.lower (suc place) further inside.within);
      most = rw (inside.t_is, inside.v_is) (inside_most (value (front byte (suc place))) (value (front byte last)) (size (front byte (suc place))) (size (front byte last)) (scale w) (low w + w.a)
          (value_most byte (suc place) last inside.within) f.upper);
    }
between w byte last place v ct h fits (inr past) =
    let f = fits.1.1 in
    record {
      least = rw past.t_is (past_least (low w) v (value (front byte last)) (size (front byte last)) (scale w) past.ones past.v_is (f.lower last fits.1.0 (omega arith)));
      most = rw past.t_is (past_most (low w + w.a) v (value (front byte last)) (size (front byte last)) (scale w) past.ones past.v_is f.upper);
    }
