-- Many shifts of the encoder's registers at once.
use Rattle.std.proofs.Common.{◌≡◌, ◌<◌, ◌≤◌, ◌+◌, ◌-◌, ◌*◌, ◌^◌, ℕ, zero, suc, refl, ap, sym, ◌∙◌, arith}
use Rattle.std.proofs.lemmas.Nat.{pow_pos, mul-le}
use Rattle.std.proofs.Math.Nat.{le-mul_of_pos_right, mul-pos, pow-le-pow_right}
use Rattle.std.proofs.lemmas.Bool.{eq-eqb, ne_eqb}
use Rattle.jx_coder_specs.specs.MqWriting.{MqWriter, mq_byte_out, mq_shifted, mq_renormalized}
use Rattle.jx_mq.specs.Coding.{IsBounded, IsCoding, IsCoder, IsRenormalizing}
use Rattle.jx_mq.specs.Shifting.{IsShort, mq_moved_by}
use Rattle.jx_mq.proofs.Bounds.{byte_out_coding}
use Rattle.jx_mq.proofs.Refills.{twice_is}
use Rattle.jx_mq.proofs.Renormals.{renormalized_more, renormalized_done, byte_out_a}
use Rattle.jx_mq.proofs.Shifts.{below_half, power_split}

-- a shift that gives out no byte
shifted_is : (w : MqWriter) → 1 < w.ct → mq_shifted w ≡ record w { a = 2 * w.a; c = 2 * w.c; ct = w.ct - 1 }
shifted_is w more = rw (ne_eqb (w.ct - 1) 0 (omega arith)) refl

by_none : (w : MqWriter) → mq_moved_by 0 w ≡ w
by_none w =
    let a : w.a * 2 ^ 0 ≡ w.a = omega arith in
    let c : w.c * 2 ^ 0 ≡ w.c = omega arith in
    let ct : w.ct - 0 ≡ w.ct = omega arith in
    rw (a, c, ct) refl

by_more : (k : ℕ) (w : MqWriter) → mq_moved_by k (record w { a = 2 * w.a; c = 2 * w.c; ct = w.ct - 1 }) ≡ mq_moved_by (suc k) w
by_more k w =
    let a : 2 * w.a * 2 ^ k ≡ w.a * 2 ^ suc k = twice_is w.a k in
    let c : 2 * w.c * 2 ^ k ≡ w.c * 2 ^ suc k = twice_is w.c k in
    let ct : w.ct - 1 - k ≡ w.ct - suc k = omega arith in
    rw (a, c, ct) refl

-- k shifts that give out no byte
pub renormalized_by : (k n : ℕ) (w : MqWriter) → k < w.ct → w.a * 2 ^ k < 65536 → mq_renormalized (k + n) w ≡ mq_renormalized n (mq_moved_by k w)
renormalized_by zero n w room less =
    let e : zero + n ≡ n = omega arith in
    rw (e, by_none w) refl
renormalized_by (suc k) n w room less =
    let e : suc k + n ≡ suc (k + n) = omega arith in
    let moved : MqWriter = record w { a = 2 * w.a; c = 2 * w.c; ct = w.ct - 1 } in
    let less' : 2 * w.a * 2 ^ k < 65536 = rw (twice_is w.a k) less in
    let more : mq_renormalized (suc (k + n)) w ≡ mq_renormalized (k + n) moved =
    renormalized_more (k + n) w (below_half w.a k less) ∙ ap (λ (x : MqWriter). mq_renormalized (k + n) x) (shifted_is w (omega arith)) in
    rw e (more ∙ renormalized_by k n moved (omega arith) less' ∙ rw (by_more k w) refl)

-- a shift that gives out a byte
shifted_out : (w : MqWriter) → w.ct - 1 ≡ 0 → mq_shifted w ≡ mq_byte_out (record w { a = 2 * w.a; c = 2 * w.c; ct = w.ct - 1 })
shifted_out w none = rw (eq-eqb (w.ct - 1) 0 none) refl

moved_once : (j : ℕ) (w : MqWriter) → record w { a = 2 * (w.a * 2 ^ j); c = 2 * (w.c * 2 ^ j); ct = w.ct - j - 1 } ≡ mq_moved_by (suc j) w
moved_once j w =
    let a : 2 * (w.a * 2 ^ j) ≡ w.a * 2 ^ suc j = (let p : 2 * (w.a * 2 ^ j) ≡ 2 * w.a * 2 ^ j = grind arith in p ∙ twice_is w.a j) in
    let c : 2 * (w.c * 2 ^ j) ≡ w.c * 2 ^ suc j = (let p : 2 * (w.c * 2 ^ j) ≡ 2 * w.c * 2 ^ j = grind arith in p ∙ twice_is w.c j) in
    let ct : w.ct - j - 1 ≡ w.ct - suc j = omega arith in
    rw (a, c, ct) refl

-- such a shift after j that give none
shifted_last : (j : ℕ) (w : MqWriter) → w.ct ≡ suc j → mq_shifted (mq_moved_by j w) ≡ mq_byte_out (mq_moved_by (suc j) w)
shifted_last j w e = shifted_out (mq_moved_by j w) (omega arith) ∙ ap (λ (x : MqWriter). mq_byte_out x) (moved_once j w)

given_at : (j n : ℕ) (w : MqWriter) → w.ct ≡ suc j → w.a * 2 ^ suc j < 65536 → mq_renormalized (suc j + n) w ≡ mq_renormalized n (mq_byte_out (mq_moved_by (suc j) w))
given_at j n w e less =
    let few : w.a * 2 ^ j < 32768 = (let p : 2 * w.a * 2 ^ j ≡ w.a * 2 ^ suc j = twice_is w.a j in let q : 2 * (w.a * 2 ^ j) ≡ 2 * w.a * 2 ^ j = grind arith in omega arith) in
    let sum : suc j + n ≡ j + suc n = omega arith in
    rw sum (renormalized_by j (suc n) w (omega arith) (omega arith) ∙ renormalized_more n (mq_moved_by j w) few ∙ ap (λ (x : MqWriter). mq_renormalized n x) (shifted_last j w e))

-- CT shifts, and the byte that they give out
pub renormalized_out : (ct n : ℕ) (w : MqWriter) → w.ct ≡ ct → 0 < ct → w.a * 2 ^ ct < 65536 → mq_renormalized (ct + n) w ≡ mq_renormalized n (mq_byte_out (mq_moved_by ct w))
renormalized_out zero n w e some less = absurd (omega arith)
renormalized_out (suc j) n w e some less = given_at j n w e less

pub few_of : (a ct left : ℕ) → ct ≤ left → IsShort a left → a * 2 ^ ct < 65536
few_of a ct left more short =
    let e : a * 2 ^ ct * 2 ^ (left - ct) ≡ a * 2 ^ left = power_split a ct (left - ct) left (omega arith) in
    let least : a * 2 ^ ct ≤ a * 2 ^ ct * 2 ^ (left - ct) = le-mul_of_pos_right (a * 2 ^ ct) (pow_pos (left - ct)) in
    let few = short.few in
    omega arith

moved_room : (c a k ct : ℕ) → k ≤ ct → (c * 2 ^ k + a * 2 ^ k) * 2 ^ (ct - k) ≡ (c + a) * 2 ^ ct
moved_room c a k ct most =
    let e : c * 2 ^ k + a * 2 ^ k ≡ (c + a) * 2 ^ k = grind arith in
    rw e (power_split (c + a) k (ct - k) ct (omega arith))

pub moved_bounded : (w : MqWriter) (k : ℕ) → k ≤ w.ct → w.a * 2 ^ k ≤ 65536 → IsCoding w → IsBounded (mq_moved_by k w)
moved_bounded w k most width h =
    let b = h.bounded in
    let ct = b.ct in
    let same : (w.c * 2 ^ k + w.a * 2 ^ k) * 2 ^ (w.ct - k) ≡ (w.c + w.a) * 2 ^ w.ct = moved_room w.c w.a k w.ct most in
    record {
      some = mul-pos b.some (pow_pos k);
      width = width;
      ct = omega arith;
      room = rw same b.room;
      given = b.given;
      tight = λ full. rw same (b.tight full);
    }

-- C has room for its shifts
pub c_room : (w : MqWriter) (k : ℕ) → k ≤ w.ct → IsCoding w → w.c * 2 ^ k < 268435456
c_room w k most h =
    let powers : 2 ^ k ≤ 2 ^ w.ct = pow-le-pow_right {n = 2} (omega arith) most in
    let fewer : w.c * 2 ^ k ≤ (w.c + w.a) * 2 ^ w.ct = mul-le w.c (2 ^ k) (w.c + w.a) (2 ^ w.ct) (omega arith) powers in
    let room = h.bounded.room in
    omega arith

-- shifts and a byte
pub renormalizing_by : (first w : MqWriter) (left : ℕ) → w.ct ≤ left → IsShort w.a left → IsRenormalizing first w → IsRenormalizing first (mq_byte_out (mq_moved_by w.ct w))
renormalizing_by first w left more short h =
    let few = few_of w.a w.ct left more short in
    let e : (mq_byte_out (mq_moved_by w.ct w)).a ≡ w.a * 2 ^ w.ct = byte_out_a (mq_moved_by w.ct w) in
    record {
      leads = λ n enough.
          let all : 32768 ≤ w.a * 2 ^ (w.ct + n) = rw (← power_split w.a w.ct n (w.ct + n) refl) (rw e at enough) in
          sym (renormalized_out w.ct n w refl h.coding.due few) ∙ h.leads (w.ct + n) all;
      coding = byte_out_coding (w.a * 2 ^ w.ct) (w.c * 2 ^ w.ct) (w.ct - w.ct) w.bytes (omega arith) (moved_bounded w w.ct (omega arith) (omega arith) h.coding);
      room = rw e few;
    }

-- the shifts that are left give out no byte
pub renormalized_last : (first w : MqWriter) (left : ℕ) → left < w.ct → IsShort w.a left → IsRenormalizing first w → mq_moved_by left w ≡ mq_renormalized 15 first
renormalized_last first w left room short h =
    let e : left + 0 ≡ left = omega arith in
    let all : 32768 ≤ w.a * 2 ^ (left + 0) = rw e short.enough in
    sym (renormalized_done 0 (mq_moved_by left w) short.enough) ∙ sym (renormalized_by left 0 w room short.few) ∙ h.leads (left + 0) all

pub coder_last : (first w : MqWriter) (left : ℕ) → left < w.ct → IsShort w.a left → IsRenormalizing first w → IsCoder (mq_moved_by left w)
coder_last first w left room short h =
    let few = short.few in
    record {
      coding = record { bounded = moved_bounded w left (omega arith) (omega arith) h.coding; due = omega arith };
      low = short.enough;
      high = short.few;
    }
