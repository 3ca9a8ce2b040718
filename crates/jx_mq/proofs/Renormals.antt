-- The shifts that bring the encoder's A back to bit 15, and its last number.
use Rattle.std.proofs.Common.{◌≡◌, ◌<◌, ◌≤◌, ◌+◌, ◌-◌, ◌*◌, ◌/◌, ◌%◌, ◌^◌, ℕ, zero, suc, Bool, true, false, refl, ap, sym, ◌∙◌, arith, ltb, inl, inr, if◌then◌else◌, ◌==◌, bit_or}
use Rattle.std.proofs.lemmas.Bool.{cases_lt, lt-leb, le-leb}
use Rattle.std.proofs.lemmas.Nat.{or_block, or_comm, or_of_16, le_or_r}
use Rattle.jx_coder_specs.specs.MqWriting.{MqWriter, mq_newest, mq_plain, mq_stuffed, mq_carried, mq_by_newest, mq_byte_out, mq_shifted, mq_renormalized}
use Rattle.jx_mq.specs.Coding.{IsCoding, IsRenormalizing}
use Rattle.jx_mq.proofs.Refills.{twice_is}

pub renormalized_more : (n : ℕ) (w : MqWriter) → w.a < 32768 → mq_renormalized (suc n) w ≡ mq_renormalized n (mq_shifted w)
unfolding mq_renormalized
renormalized_more n w less = rw (lt-leb 32768 w.a less) refl

pub renormalized_done : (n : ℕ) (w : MqWriter) → 32768 ≤ w.a → mq_renormalized n w ≡ w
unfolding mq_renormalized
renormalized_done zero w most = refl
renormalized_done (suc n) w most = rw (le-leb 32768 w.a most) refl

if_a : (test : Bool) (x y : MqWriter) (a : ℕ) → x.a ≡ a → y.a ≡ a → (if test then x else y).a ≡ a
if_a true x y a p q = p
if_a false x y a p q = q

pub byte_out_a : (w : MqWriter) → (mq_byte_out w).a ≡ w.a
byte_out_a w =
    let carried : (mq_by_newest (mq_carried w)).a ≡ w.a =
    if_a (mq_newest (mq_carried w).bytes == 255) (mq_stuffed (mq_carried w)) (mq_plain (mq_carried w)) w.a refl refl in
    if_a (mq_newest w.bytes == 255) (mq_stuffed w) (if ltb w.c 134217728 then mq_plain w else mq_by_newest (mq_carried w)) w.a refl
    (if_a (ltb w.c 134217728) (mq_plain w) (mq_by_newest (mq_carried w)) w.a refl carried)

pub shifted_a : (w : MqWriter) → (mq_shifted w).a ≡ 2 * w.a
shifted_a w =
    let moved : MqWriter = record w { a = 2 * w.a; c = 2 * w.c; ct = w.ct - 1 } in
    if_a (w.ct - 1 == 0) (mq_byte_out moved) moved (2 * w.a) (byte_out_a moved) refl

-- as many shifts as A needs are enough
pub renormalized_enough : (n m : ℕ) (w : MqWriter) → 32768 ≤ w.a * 2 ^ n → 32768 ≤ w.a * 2 ^ m → mq_renormalized n w ≡ mq_renormalized m w
renormalized_enough zero m w p q = renormalized_done zero w (omega arith) ∙ sym (renormalized_done m w (omega arith))
renormalized_enough (suc n) zero w p q = renormalized_done (suc n) w (omega arith) ∙ sym (renormalized_done zero w (omega arith))
renormalized_enough (suc n) (suc m) w p q =
    elim (cases_lt w.a 32768) [
      | inl less ↦
          let e = shifted_a w in
          let p' : 32768 ≤ (mq_shifted w).a * 2 ^ n = rw (e, twice_is w.a n) p in
          let q' : 32768 ≤ (mq_shifted w).a * 2 ^ m = rw (e, twice_is w.a m) q in
          renormalized_more n w less ∙ renormalized_enough n m (mq_shifted w) p' q' ∙ sym (renormalized_more m w less)
      | inr most ↦ renormalized_done (suc n) w most ∙ sym (renormalized_done (suc m) w most)
    ]

pub renormalizing_begins : (w : MqWriter) → IsCoding w → w.a < 65536 → IsRenormalizing w w
renormalizing_begins w coding room = record {
  leads = λ n enough. renormalized_enough n 15 w enough (let some = coding.bounded.some in omega arith);
  coding = coding;
  room = room;
}

-- sixteen low bits set
pub filled : (c : ℕ) → bit_or c 65535 ≡ c / 65536 * 65536 + 65535
filled c =
    let split : c ≡ c / 65536 * 2 ^ 16 + c % 65536 = omega arith in
    let low : c % 65536 < 2 ^ 16 = omega arith in
    let parts : bit_or (c / 65536 * 2 ^ 16 + c % 65536) (0 * 2 ^ 16 + 65535) ≡ bit_or (c / 65536) 0 * 2 ^ 16 + bit_or (c % 65536) 65535 =
    or_block 16 (c / 65536) 0 (c % 65536) 65535 low (omega arith) in
    let most : bit_or (c % 65536) 65535 < 2 ^ 16 = or_of_16 (c % 65536) 65535 low (omega arith) in
    let least : 65535 ≤ bit_or (c % 65536) 65535 = le_or_r (c % 65536) 65535 in
    let all : bit_or (c % 65536) 65535 ≡ 65535 = omega arith in
    let high : bit_or (c / 65536) 0 ≡ c / 65536 = or_comm (c / 65536) 0 in
    ap (λ (n : ℕ). bit_or n 65535) split ∙ parts ∙ rw (all, high) refl
