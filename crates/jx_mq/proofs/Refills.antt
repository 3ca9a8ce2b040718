-- The shifts that bring A back to bit 15.
use Rattle.std.proofs.Common.{◌≡◌, ◌<◌, ◌≤◌, ◌*◌, ◌^◌, ℕ, zero, suc, Bool, true, false, List, refl, ap, sym, ◌∙◌, arith, inl, inr, if◌then◌else◌, ◌==◌}
use Rattle.std.proofs.lemmas.Bool.{cases_lt, lt-leb, le-leb}
use Rattle.std.proofs.Math.Nat.{two-pow-succ}
use Rattle.jx_coder_specs.specs.MqReading.{MqReader, mq_byte_in, mq_shifted_in, mq_refilled}
use Rattle.jx_mq.specs.Decoding.{IsWithin, IsRefilling}

pub twice_is : (a n : ℕ) → 2 * a * 2 ^ n ≡ a * 2 ^ suc n
twice_is a n = rw two-pow-succ (grind arith)

-- the registers shifted, where A has no bit 15
pub refilled_more : (bytes : List ℕ) (n : ℕ) (r : MqReader) → r.a < 32768 → mq_refilled bytes (suc n) r ≡ mq_refilled bytes n (mq_shifted_in bytes r)
unfolding mq_refilled
refilled_more bytes n r less = rw (lt-leb 32768 r.a less) refl

pub refilled_done : (bytes : List ℕ) (n : ℕ) (r : MqReader) → 32768 ≤ r.a → mq_refilled bytes n r ≡ r
unfolding mq_refilled
refilled_done bytes zero r most = refl
refilled_done bytes (suc n) r most = rw (le-leb 32768 r.a most) refl

if_a : (test : Bool) (x y : MqReader) (a : ℕ) → x.a ≡ a → y.a ≡ a → (if test then x else y).a ≡ a
if_a true x y a p q = p
if_a false x y a p q = q

pub byte_in_a : (bytes : List ℕ) (r : MqReader) → (mq_byte_in bytes r).a ≡ r.a
byte_in_a bytes r = if_a _ _ _ r.a (if_a _ _ _ r.a refl refl) refl

pub shifted_a : (bytes : List ℕ) (r : MqReader) → (mq_shifted_in bytes r).a ≡ 2 * r.a
shifted_a bytes r = ap (λ (a : ℕ). 2 * a) (if_a (r.ct == 0) (mq_byte_in bytes r) r r.a (byte_in_a bytes r) refl)

-- as many shifts as A needs are enough
pub refilled_enough : (bytes : List ℕ) (n m : ℕ) (r : MqReader) → 32768 ≤ r.a * 2 ^ n → 32768 ≤ r.a * 2 ^ m → mq_refilled bytes n r ≡ mq_refilled bytes m r
unfolding mq_refilled
refilled_enough bytes zero m r p q = sym (refilled_done bytes m r (omega arith))
refilled_enough bytes (suc n) zero r p q = refilled_done bytes (suc n) r (omega arith)
refilled_enough bytes (suc n) (suc m) r p q =
    elim (cases_lt r.a 32768) [
      | inl less ↦
          let e = shifted_a bytes r in
          let p' : 32768 ≤ (mq_shifted_in bytes r).a * 2 ^ n = rw (e, twice_is r.a n) p in
          let q' : 32768 ≤ (mq_shifted_in bytes r).a * 2 ^ m = rw (e, twice_is r.a m) q in
          refilled_more bytes n r less ∙ refilled_enough bytes n m (mq_shifted_in bytes r) p' q' ∙ sym (refilled_more bytes m r less)
      | inr most ↦ refilled_done bytes (suc n) r most ∙ sym (refilled_done bytes (suc m) r most)
    ]

pub refilling_begins : (bytes : List ℕ) (r : MqReader) → IsWithin bytes r → 0 < r.a → r.a < 65536 → IsRefilling bytes r r
refilling_begins bytes r within some room = record {
  leads = λ n enough. refilled_enough bytes n 15 r enough (omega arith);
  within = within;
  some = some;
  room = room;
}
