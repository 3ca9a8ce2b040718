-- The decoder follows the encoder: its C is the fraction that it took, less the lower end.
use Rattle.std.proofs.Common.{◌≡◌, ◌<◌, ◌≤◌, ◌+◌, ◌-◌, ◌*◌, ◌/◌, ◌^◌, ℕ, Bool, true, false, not, refl, ap, ◌∙◌, arith, ltb, inl, inr, lt_of_mul-lt-mul_right}
use Rattle.std.proofs.lemmas.Bool.{cases_lt, lt-ltb, le-ltb}
use Rattle.std.proofs.lemmas.Nat.{pow_pos, pow-add, mul-le}
use Rattle.jx_coder_specs.specs.MqReading.{MqReader, mq_is_low, mq_reads_mps, mq_chosen}
use Rattle.jx_coder_specs.specs.MqWriting.{MqWriter, mq_lower, mq_upper, mq_part}
use Rattle.jx_mq.specs.Coding.{IsCoding}
use Rattle.jx_mq.specs.Fraction.{low, scale}
use Rattle.jx_mq.proofs.Fitting.{mul_less, FitsIn}
use Rattle.jx_mq.proofs.Fronts.{Taken, between}

pub record Follows (w : MqWriter) (r : MqReader) (byte : ℕ → ℕ) (last v : ℕ) : Type 0 where
  pub a : r.a ≡ w.a
  pub code : r.c + low w * 65536 ≡ v * 2 ^ (16 - r.ct)
  pub ct : r.ct ≤ 8
  pub taken : Taken byte last r.place v (scale w + r.ct)

-- what was taken, in the scale of A
taken_least : (l v n ct : ℕ) → l * 2 ^ (n + ct) < (v + 1) * 2 ^ n → l * 2 ^ ct ≤ v
taken_least l v n ct less =
    let e : l * 2 ^ (n + ct) ≡ (l * 2 ^ ct) * 2 ^ n = rw pow-add (grind arith) in
    let h : l * 2 ^ ct < v + 1 = lt_of_mul-lt-mul_right (2 ^ n) (rw e at less) in
    omega arith

taken_most : (u v n ct : ℕ) → v * 2 ^ n < u * 2 ^ (n + ct) → v < u * 2 ^ ct
taken_most u v n ct less =
    let e : u * 2 ^ (n + ct) ≡ (u * 2 ^ ct) * 2 ^ n = rw pow-add (grind arith) in
    lt_of_mul-lt-mul_right (2 ^ n) (rw e at less)

sixteen : (u ct : ℕ) → ct ≤ 8 → (u * 2 ^ ct) * 2 ^ (16 - ct) ≡ u * 65536
sixteen u ct most =
    let e : ct + (16 - ct) ≡ 16 = omega arith in
    let f : 2 ^ ct * 2 ^ (16 - ct) ≡ 2 ^ 16 = rw (← pow-add 2 ct (16 - ct), e) refl in
    let g : (u * 2 ^ ct) * 2 ^ (16 - ct) ≡ u * (2 ^ ct * 2 ^ (16 - ct)) = grind arith in
    g ∙ rw f refl

-- the code is lt-ltb a part's width where what was taken lies in it
code_below : (c l u v ct : ℕ) → ct ≤ 8 → c + l * 65536 ≡ v * 2 ^ (16 - ct) → v < (l + u) * 2 ^ ct → c < u * 65536
code_below c l u v ct most code less =
    let e = sixteen (l + u) ct most in
    let f = mul_less v ((l + u) * 2 ^ ct) (2 ^ (16 - ct)) less (pow_pos (16 - ct)) in
    omega arith

code_least : (c l u v ct : ℕ) → ct ≤ 8 → c + l * 65536 ≡ v * 2 ^ (16 - ct) → (l + u) * 2 ^ ct ≤ v → u * 65536 ≤ c
code_least c l u v ct most code least =
    let e = sixteen (l + u) ct most in
    let f = mul-le ((l + u) * 2 ^ ct) (2 ^ (16 - ct)) v (2 ^ (16 - ct)) least (omega arith) in
    omega arith

pub follows_below : (w : MqWriter) (r : MqReader) (byte : ℕ → ℕ) (last v : ℕ) → IsCoding w → FitsIn w byte last → Follows w r byte last v → r.c < w.a * 65536
follows_below w r byte last v h fits f =
    let b = between w byte last r.place v r.ct h fits f.taken in
    code_below r.c (low w) w.a v r.ct f.ct f.code (taken_most (low w + w.a) v (scale w) r.ct b.most)

-- the lower part
lower_is_low : (w : MqWriter) (r : MqReader) (byte : ℕ → ℕ) (last v qe : ℕ) → IsCoding (mq_lower w qe) → FitsIn (mq_lower w qe) byte last → Follows w r byte last v → mq_is_low r qe ≡ true
lower_is_low w r byte last v qe h fits f =
    let b = between (mq_lower w qe) byte last r.place v r.ct h fits f.taken in
    let less : r.c < qe * 65536 = code_below r.c (low w) qe v r.ct f.ct f.code (taken_most (low w + qe) v (scale w) r.ct b.most) in
    lt-ltb (r.c / 65536) qe (omega arith)

lower_follows : (w : MqWriter) (r : MqReader) (byte : ℕ → ℕ) (last v qe : ℕ) → mq_is_low r qe ≡ true → Follows w r byte last v → Follows (mq_lower w qe) (mq_chosen r qe) byte last v
lower_follows w r byte last v qe is_low f = rw is_low (record { a = refl; code = f.code; ct = f.ct; taken = f.taken })

-- the upper part
upper_low : (w : MqWriter) (qe : ℕ) → low (mq_upper w qe) ≡ low w + qe
upper_low w qe = omega arith

upper_isnt_low : (w : MqWriter) (r : MqReader) (byte : ℕ → ℕ) (last v qe : ℕ) → IsCoding (mq_upper w qe) → FitsIn (mq_upper w qe) byte last → Follows w r byte last v → (qe * 65536 ≤ r.c) × (mq_is_low r qe ≡ false)
upper_isnt_low w r byte last v qe h fits f =
    let b = between (mq_upper w qe) byte last r.place v r.ct h fits f.taken in
    let least : (low w + qe) * 2 ^ r.ct ≤ v = taken_least (low w + qe) v (scale w) r.ct (rw (upper_low w qe) at b.least) in
    let more : qe * 65536 ≤ r.c = code_least r.c (low w) qe v r.ct f.ct f.code least in
    (more, le-ltb (r.c / 65536) qe (omega arith))

upper_follows : (w : MqWriter) (r : MqReader) (byte : ℕ → ℕ) (last v qe : ℕ) → qe * 65536 ≤ r.c → mq_is_low r qe ≡ false → Follows w r byte last v → Follows (mq_upper w qe) (mq_chosen r qe) byte last v
upper_follows w r byte last v qe more isnt f =
    let code = f.code in
    rw isnt (record { a = ap (λ (n : ℕ). n - qe) f.a; code = rw (upper_low w qe) (omega arith); ct = f.ct; taken = f.taken })

-- a decision is read as it was written
pub record Decides (w : MqWriter) (r : MqReader) (byte : ℕ → ℕ) (last v qe : ℕ) (is_mps : Bool) : Type 0 where
  pub decision : mq_reads_mps r qe ≡ is_mps
  pub follows : Follows (mq_part w qe is_mps) (mq_chosen r qe) byte last v

decides_lower : (w : MqWriter) (r : MqReader) (byte : ℕ → ℕ) (last v qe : ℕ) (is_mps : Bool) → ltb (w.a - qe) qe ≡ is_mps → mq_part w qe is_mps ≡ mq_lower w qe →
    IsCoding (mq_lower w qe) → FitsIn (mq_lower w qe) byte last → Follows w r byte last v → Decides w r byte last v qe is_mps
decides_lower w r byte last v qe is_mps test part h fits f =
    let is_low = lower_is_low w r byte last v qe h fits f in
    record { decision = rw (is_low, f.a) test; follows = rw part (lower_follows w r byte last v qe is_low f) }

decides_upper : (w : MqWriter) (r : MqReader) (byte : ℕ → ℕ) (last v qe : ℕ) (is_mps : Bool) → not (ltb (w.a - qe) qe) ≡ is_mps → mq_part w qe is_mps ≡ mq_upper w qe →
    IsCoding (mq_upper w qe) → FitsIn (mq_upper w qe) byte last → Follows w r byte last v → Decides w r byte last v qe is_mps
decides_upper w r byte last v qe is_mps test part h fits f =
    let isnt = upper_isnt_low w r byte last v qe h fits f in
    record { decision = rw (isnt.1, f.a) test; follows = rw part (upper_follows w r byte last v qe isnt.0 isnt.1 f) }

pub decides : (w : MqWriter) (r : MqReader) (byte : ℕ → ℕ) (last v qe : ℕ) (is_mps : Bool) → IsCoding (mq_part w qe is_mps) → FitsIn (mq_part w qe is_mps) byte last → Follows w r byte last v →
    Decides w r byte last v qe is_mps
decides w r byte last v qe true h fits f =
    elim (cases_lt (w.a - qe) qe) [
      | inl less ↦ let t = lt-ltb (w.a - qe) qe less in let e : mq_part w qe true ≡ mq_lower w qe = rw t refl in
          decides_lower w r byte last v qe true t e (rw e at h) (rw e at fits) f
      | inr more ↦ let t = le-ltb (w.a - qe) qe more in let e : mq_part w qe true ≡ mq_upper w qe = rw t refl in
          decides_upper w r byte last v qe true (rw t refl) e (rw e at h) (rw e at fits) f
    ]
decides w r byte last v qe false h fits f =
    elim (cases_lt (w.a - qe) qe) [
      | inl less ↦ let t = lt-ltb (w.a - qe) qe less in let e : mq_part w qe false ≡ mq_upper w qe = rw t refl in
          decides_upper w r byte last v qe false (rw t refl) e (rw e at h) (rw e at fits) f
      | inr more ↦ let t = le-ltb (w.a - qe) qe more in let e : mq_part w qe false ≡ mq_lower w qe = rw t refl in
          decides_lower w r byte last v qe false t e (rw e at h) (rw e at fits) f
    ]
