-- Many shifts of the decoder's registers at once.
use Rattle.std.proofs.Common.{◌≡◌, ◌<◌, ◌≤◌, ◌+◌, ◌-◌, ◌*◌, ◌/◌, ◌%◌, ◌^◌, ℕ, zero, suc, Bool, true, false, List, refl, ap, sym, ◌∙◌, arith, ltb, inl, inr, if◌then◌else◌, ◌==◌}
use Rattle.std.proofs.lemmas.Bool.{cases_lt, eq-eqb, ne_eqb}
use Rattle.std.proofs.lemmas.Bool.Decides.{nat_tests}
use Rattle.std.proofs.lemmas.Nat.{mul-mod_first, pow_pos, mul-le, leading_top, pow-add}
use Rattle.std.proofs.Math.Nat.{two-pow-succ, mul-le-mul_right, mul-lt-mul_of_pos_right, mul-pos}
use Rattle.std.specs.Int.Count.{count_leading_zeros}
use Rattle.jx_coder_specs.specs.MqReading.{MqReader, mq_byte, mq_byte_in, mq_shifted_in, mq_refilled}
use Rattle.jx_mq.specs.Decoding.{IsWithin, IsRefilling}
use Rattle.jx_mq.specs.Shifting.{mq_shifted_by, IsShort}
use Rattle.jx_mq.proofs.Refills.{refilled_more, refilled_done, byte_in_a, twice_is}

-- C shifted once and then k times, in a register of 32 bits
shifted_again : (c k : ℕ) → 2 * c % 4294967296 * 2 ^ k % 4294967296 ≡ c * 2 ^ suc k % 4294967296
shifted_again c k =
    let e : 2 * c * 2 ^ k ≡ c * 2 ^ suc k = rw two-pow-succ (grind arith) in
    mul-mod_first (2 * c) (2 ^ k) 4294967296 ∙ rw e refl

-- a shift where no byte is due
shifted_in_is : (bytes : List ℕ) (r : MqReader) → 0 < r.ct → mq_shifted_in bytes r ≡ record r { a = 2 * r.a; c = 2 * r.c % 4294967296; ct = r.ct - 1 }
shifted_in_is bytes r some = rw (ne_eqb r.ct 0 (omega arith)) refl

by_none : (r : MqReader) → r.c < 4294967296 → mq_shifted_by 0 r ≡ r
by_none r fits =
    let a : r.a * 2 ^ 0 ≡ r.a = omega arith in
    let c : r.c * 2 ^ 0 % 4294967296 ≡ r.c = omega arith in
    let ct : r.ct - 0 ≡ r.ct = omega arith in
    rw (a, c, ct) refl

by_more : (k : ℕ) (r : MqReader) → mq_shifted_by k (record r { a = 2 * r.a; c = 2 * r.c % 4294967296; ct = r.ct - 1 }) ≡ mq_shifted_by (suc k) r
by_more k r =
    let a : 2 * r.a * 2 ^ k ≡ r.a * 2 ^ suc k = twice_is r.a k in
    let ct : r.ct - 1 - k ≡ r.ct - suc k = omega arith in
    rw (a, shifted_again r.c k, ct) refl

pub below_half : (a k : ℕ) → a * 2 ^ suc k < 65536 → a < 32768
below_half a k less =
    let one = pow_pos k in
    let most : a * 1 ≤ a * 2 ^ k = mul-le a 1 a (2 ^ k) (omega arith) (omega arith) in
    let less' : 2 * a * 2 ^ k < 65536 = rw (twice_is a k) less in
    let e : 2 * a * 2 ^ k ≡ 2 * (a * 2 ^ k) = grind arith in
    omega arith

-- k shifts where CT has room for them
pub refilled_by : (bytes : List ℕ) (k n : ℕ) (r : MqReader) → r.c < 4294967296 → k ≤ r.ct → r.a * 2 ^ k < 65536 →
    mq_refilled bytes (k + n) r ≡ mq_refilled bytes n (mq_shifted_by k r)
refilled_by bytes zero n r fits room less =
    let e : zero + n ≡ n = omega arith in
    rw (e, by_none r fits) refl
refilled_by bytes (suc k) n r fits room less =
    let e : suc k + n ≡ suc (k + n) = omega arith in
    let moved : MqReader = record r { a = 2 * r.a; c = 2 * r.c % 4294967296; ct = r.ct - 1 } in
    let less' : 2 * r.a * 2 ^ k < 65536 = rw (twice_is r.a k) less in
    let more : mq_refilled bytes (suc (k + n)) r ≡ mq_refilled bytes (k + n) moved =
    refilled_more bytes (k + n) r (below_half r.a k less) ∙ ap (λ (x : MqReader). mq_refilled bytes (k + n) x) (shifted_in_is bytes r (omega arith)) in
    rw e (more ∙ refilled_by bytes k n moved (omega arith) (omega arith) less' ∙ rw (by_more k r) refl)

if_ct : (test : Bool) (x y : MqReader) → ltb 6 x.ct ≡ true → ltb 6 y.ct ≡ true → ltb 6 (if test then x else y).ct ≡ true
if_ct true x y p q = p
if_ct false x y p q = q

-- a byte has seven bits or eight
pub byte_in_ct : (bytes : List ℕ) (r : MqReader) → 6 < (mq_byte_in bytes r).ct
byte_in_ct bytes r =
    let next : ℕ = mq_byte bytes (r.place + 1) in
    let kept : MqReader = record r { c = (r.c + 65280) % 4294967296; ct = 8; looked = r.place + 2 } in
    let seven : MqReader = record r { c = (r.c + next * 512) % 4294967296; ct = 7; place = r.place + 1; looked = r.place + 2 } in
    let eight : MqReader = record r { c = (r.c + next * 256) % 4294967296; ct = 8; place = r.place + 1; looked = r.place + 2 } in
    let e : ltb 6 (mq_byte_in bytes r).ct ≡ true =
    if_ct (mq_byte bytes r.place == 255) (if ltb 143 next then kept else seven) eight (if_ct (ltb 143 next) kept seven refl refl) refl in
    grind (arith, nat_tests, e)

-- a byte that is due may be read before the shift
pub refilled_fed : (bytes : List ℕ) (n : ℕ) (r : MqReader) → r.ct ≡ 0 → r.a < 32768 → mq_refilled bytes (suc n) (mq_byte_in bytes r) ≡ mq_refilled bytes (suc n) r
refilled_fed bytes n r none less =
    let a = byte_in_a bytes r in
    let ct = byte_in_ct bytes r in
    let fed : mq_shifted_in bytes r ≡ mq_shifted_in bytes (mq_byte_in bytes r) =
    rw (eq-eqb r.ct 0 none, ne_eqb (mq_byte_in bytes r).ct 0 (omega arith)) refl in
    refilled_more bytes n (mq_byte_in bytes r) (omega arith) ∙ rw fed refl ∙ sym (refilled_more bytes n r less)

product_of : (i j n : ℕ) → i + j ≡ n → 2 ^ i * 2 ^ j ≡ 2 ^ n
product_of i j n e = sym (pow-add 2 i j) ∙ ap (λ (m : ℕ). 2 ^ m) e

-- shifts in two parts
pub power_split : (a i j n : ℕ) → i + j ≡ n → a * 2 ^ i * 2 ^ j ≡ a * 2 ^ n
power_split a i j n e =
    let p : a * 2 ^ i * 2 ^ j ≡ a * (2 ^ i * 2 ^ j) = grind arith in
    p ∙ ap (λ (m : ℕ). a * m) (product_of i j n e)

-- A number in the upper half of 32 bits, shifted
pub record IsWide (a by : ℕ) : Type 0 where
  pub whole : a * 2 ^ by % 4294967296 ≡ a * 2 ^ by
  pub upper : a * 2 ^ by / 65536 ≡ a / 65536 * 2 ^ by
  pub wide : a * 2 ^ by % 65536 ≡ 0

pub wide_shifted : (a by : ℕ) → a % 65536 ≡ 0 → a / 65536 * 2 ^ by < 65536 → IsWide a by
wide_shifted a by wide room =
    let e : a ≡ a / 65536 * 65536 = omega arith in
    let f : a / 65536 * 65536 * 2 ^ by ≡ a / 65536 * 2 ^ by * 65536 = grind arith in
    let g : a * 2 ^ by ≡ a / 65536 * 2 ^ by * 65536 = ap (λ (n : ℕ). n * 2 ^ by) e ∙ f in
    record { whole = omega arith; upper = omega arith; wide = omega arith }

-- how many shifts A needs, by the leading zeros of such a number
pub short_of : (a : ℕ) → a % 65536 ≡ 0 → 0 < a → a < 4294967296 → IsShort (a / 65536) (count_leading_zeros 32 a)
short_of a wide some room =
    let top = leading_top 32 a some room in
    let j : ℕ = top.0 in
    let sum = top.1 in
    let least = top.2 in
    let most = top.3 in
    let left : count_leading_zeros 32 a ≡ 31 - j = omega arith in
    let low : 2 ^ j * 2 ^ (31 - j) ≤ a * 2 ^ (31 - j) = mul-le-mul_right (2 ^ (31 - j)) least in
    let high : a * 2 ^ (31 - j) < 2 ^ suc j * 2 ^ (31 - j) = mul-lt-mul_of_pos_right most (pow_pos (31 - j)) in
    let low_is : 2 ^ j * 2 ^ (31 - j) ≡ 2147483648 = product_of j (31 - j) 31 (omega arith) in
    let high_is : 2 ^ suc j * 2 ^ (31 - j) ≡ 4294967296 = product_of (suc j) (31 - j) 32 (omega arith) in
    let e : a ≡ a / 65536 * 65536 = omega arith in
    let f : a / 65536 * 65536 * 2 ^ (31 - j) ≡ a / 65536 * 2 ^ (31 - j) * 65536 = grind arith in
    let g : a * 2 ^ (31 - j) ≡ a / 65536 * 2 ^ (31 - j) * 65536 = ap (λ (n : ℕ). n * 2 ^ (31 - j)) e ∙ f in
    let short : IsShort (a / 65536) (31 - j) = record { enough = omega (arith, low, low_is, g); few = omega (arith, high, high_is, g) } in
    rw left short

pub short_some : (a n : ℕ) → IsShort a n → (0 < a) × (a < 65536)
short_some a n short =
    let one = pow_pos n in
    let least : a * 1 ≤ a * 2 ^ n = mul-le a 1 a (2 ^ n) (omega arith) (omega arith) in
    let few = short.few in
    let some : 0 < a = elim (cases_lt 0 a) [
      | inl some ↦ some
      | inr none ↦ absurd (let e : a ≡ 0 = omega arith in let enough = rw e at short.enough in omega arith)
    ] in
    (some, omega arith)

-- A after fewer shifts than it needs
pub half_of : (a ct left : ℕ) → ct < left → IsShort a left → a * 2 ^ ct < 32768
half_of a ct left more short =
    let e : a * 2 ^ ct * 2 ^ suc (left - ct - 1) ≡ a * 2 ^ left = power_split a ct (suc (left - ct - 1)) left (omega arith) in
    below_half (a * 2 ^ ct) (left - ct - 1) (rw e short.few)

pub short_rest : (a ct left : ℕ) → ct ≤ left → IsShort a left → IsShort (a * 2 ^ ct) (left - ct)
short_rest a ct left more short =
    let e : a * 2 ^ ct * 2 ^ (left - ct) ≡ a * 2 ^ left = power_split a ct (left - ct) left (omega arith) in
    record { enough = rw e short.enough; few = rw e short.few }

leads_on : (bytes : List ℕ) (first r : MqReader) (n : ℕ) → r.c < 4294967296 → r.a * 2 ^ r.ct < 32768 → 32768 ≤ r.a * 2 ^ r.ct * 2 ^ n → IsRefilling bytes first r →
    mq_refilled bytes n (mq_byte_in bytes (mq_shifted_by r.ct r)) ≡ mq_refilled bytes 15 first
leads_on bytes first r zero fits half enough h = absurd (omega arith)
leads_on bytes first r (suc n) fits half enough h =
    let all : 32768 ≤ r.a * 2 ^ (r.ct + suc n) = rw (← power_split r.a r.ct (suc n) (r.ct + suc n) refl) enough in
    refilled_fed bytes n (mq_shifted_by r.ct r) (omega arith) half ∙ sym (refilled_by bytes r.ct (suc n) r fits (omega arith) (omega arith)) ∙ h.leads (r.ct + suc n) all

-- shifts for which no byte is due, and then a byte
pub refilling_by : (bytes : List ℕ) (first r : MqReader) (left : ℕ) → r.c < 4294967296 → r.ct < left → IsShort r.a left →
    IsWithin bytes (mq_byte_in bytes (mq_shifted_by r.ct r)) → IsRefilling bytes first r →
    IsRefilling bytes first (mq_byte_in bytes (mq_shifted_by r.ct r))
refilling_by bytes first r left fits more short within h =
    let e : (mq_byte_in bytes (mq_shifted_by r.ct r)).a ≡ r.a * 2 ^ r.ct = byte_in_a bytes (mq_shifted_by r.ct r) in
    let half : r.a * 2 ^ r.ct < 32768 = half_of r.a r.ct left more short in
    let some : 0 < r.a * 2 ^ r.ct = mul-pos h.some (pow_pos r.ct) in
    record {
      leads = λ n enough. leads_on bytes first r n fits half (rw e at enough) h;
      within = within;
      some = rw e some;
      room = rw e (omega arith);
    }

-- the shifts that are left need no byte
pub refilled_last : (bytes : List ℕ) (first r : MqReader) (left : ℕ) → r.c < 4294967296 → left ≤ r.ct → IsShort r.a left → IsRefilling bytes first r →
    mq_shifted_by left r ≡ mq_refilled bytes 15 first
refilled_last bytes first r left fits room short h =
    let e : left + 0 ≡ left = omega arith in
    let all : 32768 ≤ r.a * 2 ^ (left + 0) = rw e short.enough in
    sym (refilled_done bytes 0 (mq_shifted_by left r) short.enough) ∙ sym (refilled_by bytes left 0 r fits room short.few) ∙ h.leads (left + 0) all
