-- The flush chooses a number in the last interval, and gives it out whole.
use Rattle.std.proofs.Common.{◌≡◌, ◌<◌, ◌≤◌, ◌+◌, ◌-◌, ◌*◌, ◌/◌, ◌%◌, ◌^◌, ℕ, Bool, true, false, List, ◌∷◌, refl, ap, sym, subst, ◌∙◌, add_assoc, arith, leb, ltb, ◌⊎◌, inl, inr, if◌then◌else◌, ◌==◌}
use Rattle.std.proofs.lemmas.Bool.{cases_eq}
use Rattle.std.proofs.lemmas.Bool.Decides.{nat_tests}
use Rattle.std.proofs.lemmas.Nat.{pow_pos, pow-add, mul-le}
use Rattle.jx_coder_specs.specs.MqWriting.{MqWriter, mq_newest, mq_raised, mq_plain, mq_stuffed, mq_carried, mq_byte_out, mq_last_number, mq_given_out, mq_flushed}
use Rattle.jx_mq.specs.Coding.{AreGiven, IsBounded, IsCoding, IsCoder}
use Rattle.jx_mq.specs.Fraction.{value, size, low, front}
use Rattle.jx_mq.proofs.Bounds.{coder, byte_out_coding}
use Rattle.jx_mq.proofs.Renormals.{byte_out_a}
use Rattle.jx_mq.proofs.Ends.{HasGivenOut, gives_out}
use Rattle.jx_mq.proofs.Fitting.{Fits, FitsIn, fits_wider, fits_scaled, fits_given_out, fits_given_last}

free_at : (ff less more : Bool) (a b c ct dt : ℕ) (bytes : List ℕ) →
    (if ff then mq_stuffed (coder a c ct bytes) else if less then mq_plain (coder a c ct bytes)
    else if more then mq_stuffed (mq_carried (coder a c ct bytes)) else mq_plain (mq_carried (coder a c ct bytes)))
    ≡ record (if ff then mq_stuffed (coder b c dt bytes) else if less then mq_plain (coder b c dt bytes)
    else if more then mq_stuffed (mq_carried (coder b c dt bytes)) else mq_plain (mq_carried (coder b c dt bytes))) { a = a }
free_at true less more a b c ct dt bytes = refl
free_at false true more a b c ct dt bytes = refl
free_at false false true a b c ct dt bytes = refl
free_at false false false a b c ct dt bytes = refl

-- a byte given out depends on C and the newest byte alone
pub byte_out_free : (a b c ct dt : ℕ) (bytes : List ℕ) → mq_byte_out (coder a c ct bytes) ≡ record (mq_byte_out (coder b c dt bytes)) { a = a }
byte_out_free a b c ct dt bytes = free_at (mq_newest bytes == 255) (ltb c 134217728) (mq_newest (mq_raised bytes) == 255) a b c ct dt bytes

last_least : (c a : ℕ) → 32768 ≤ a → a < 65536 → c ≤ (if leb (c + a) (c / 65536 * 65536 + 65535) then c / 65536 * 65536 + 65535 - 32768 else c / 65536 * 65536 + 65535)
last_least c a least most = grind (arith, nat_tests)

last_most : (c a : ℕ) → 32768 ≤ a → a < 65536 → (if leb (c + a) (c / 65536 * 65536 + 65535) then c / 65536 * 65536 + 65535 - 32768 else c / 65536 * 65536 + 65535) + 1 ≤ c + a
last_most c a least most = grind (arith, nat_tests)

last_whole : (c a : ℕ) → ((if leb (c + a) (c / 65536 * 65536 + 65535) then c / 65536 * 65536 + 65535 - 32768 else c / 65536 * 65536 + 65535) + 1) % 32768 ≡ 0
last_whole c a = grind (arith, nat_tests)

-- C shifted by CT, and the width with it
abbrev pub widened : MqWriter → MqWriter
widened w = coder (w.a * 2 ^ w.ct) (w.c * 2 ^ w.ct) 0 w.bytes

widened_low : (v c k : ℕ) → k ≤ 27 → v * 2 ^ 27 + c * 2 ^ k ≡ (v * 2 ^ (27 - k) + c) * 2 ^ k
widened_low v c k most =
    let e : 27 - k + k ≡ 27 = omega arith in
    let f : 2 ^ (27 - k) * 2 ^ k ≡ 2 ^ 27 = rw (← pow-add 2 (27 - k) k, e) refl in
    rw (← f) (grind arith)

fits_widened : (w : MqWriter) (byte : ℕ → ℕ) (last : ℕ) → w.ct ≤ 12 → FitsIn (widened w) byte last → FitsIn w byte last
unfolding FitsIn
fits_widened w byte last most h =
    (h.0, (h.1.0, fits_scaled w (widened w) byte last h.0 w.ct refl (omega arith) (widened_low (value w.bytes) w.c w.ct (omega arith)) refl h.1.1))

-- what the flush gives out in two steps
unfoldable pub flushed_first : MqWriter → MqWriter
flushed_first w = mq_byte_out (widened (coder 1 (mq_last_number w) w.ct w.bytes))

unfoldable pub flushed_second : MqWriter → MqWriter
flushed_second w = mq_byte_out (widened (flushed_first w))

pub flushed_is : (w : MqWriter) → mq_flushed w ≡ (flushed_second w).bytes
unfolding flushed_first flushed_second
flushed_is w =
    let first : mq_given_out (record w { c = mq_last_number w }) ≡ record (flushed_first w) { a = w.a } =
    byte_out_free w.a (1 * 2 ^ w.ct) (mq_last_number w * 2 ^ w.ct) w.ct 0 w.bytes in
    let second : mq_given_out (record (flushed_first w) { a = w.a }) ≡ record (flushed_second w) { a = w.a } =
    byte_out_free w.a ((flushed_first w).a * 2 ^ (flushed_first w).ct) ((flushed_first w).c * 2 ^ (flushed_first w).ct) (flushed_first w).ct 0 (flushed_first w).bytes in
    ap (λ (x : MqWriter). (mq_given_out x).bytes) first ∙ ap (λ (x : MqWriter). x.bytes) second

enough_upper : (v c a s r : ℕ) → 2 ^ r ≤ c + a → (v + 1) * 2 ^ (s + r) ≤ (v * 2 ^ r + c + a) * 2 ^ s
enough_upper v c a s r enough =
    let e : (v + 1) * 2 ^ (s + r) ≡ ((v + 1) * 2 ^ r) * 2 ^ s = rw pow-add (grind arith) in
    let whole : (v + 1) * 2 ^ r ≡ v * 2 ^ r + 2 ^ r = grind arith in
    rw e (mul-le ((v + 1) * 2 ^ r) (2 ^ s) (v * 2 ^ r + c + a) (2 ^ s) (omega arith) (omega arith))

base : (w : MqWriter) (byte : ℕ → ℕ) (last newest : ℕ) (older : List ℕ) → w.bytes ≡ newest ∷ older → front byte last ≡ w.bytes → 2 ^ (27 - w.ct) ≤ w.c + w.a → Fits w byte last last
base w byte last newest older was is enough = record {
  grown = record { newest = newest; now = newest; older = older; was = was; is = is ∙ was; least = omega arith };
  lower = λ j more within. absurd (omega arith);
  upper = rw is (enough_upper (value w.bytes) w.c w.a (size w.bytes) (27 - w.ct) enough);
}

-- a multiple of 2 ^ 20 that is above v bytes' worth is a whole byte's worth above
room_left : (v c a r m : ℕ) → (r ≡ 19) ⊎ (r ≡ 20) → 0 < c + a → v * 2 ^ r + c + a ≡ 1048576 * m → 2 ^ r ≤ c + a
room_left v c a r m (inl e) some whole = let at : v * 2 ^ 19 + c + a ≡ 1048576 * m = rw e at whole in rw e (omega arith)
room_left v c a r m (inr e) some whole = let at : v * 2 ^ 20 + c + a ≡ 1048576 * m = rw e at whole in rw e (omega arith)

-- the number chosen, shifted by both steps, has twenty zeros after it
shifted_whole : (v q ct dt : ℕ) → 1 ≤ ct → ct ≤ 12 → 7 ≤ dt → (v * 2 ^ (27 - ct) + 32768 * q) * 2 ^ ct * 2 ^ dt ≡ 1048576 * (v * 128 * 2 ^ dt + q * 8 * 2 ^ (ct + dt - 8))
shifted_whole v q ct dt some most least =
    let e : 27 - ct + ct ≡ 27 = omega arith in
    let f : 2 ^ (27 - ct) * 2 ^ ct ≡ 2 ^ 27 = rw (← pow-add 2 (27 - ct) ct, e) refl in
    let g : 8 + (ct + dt - 8) ≡ ct + dt = omega arith in
    let h : 2 ^ ct * 2 ^ dt ≡ 2 ^ 8 * 2 ^ (ct + dt - 8) = rw (← pow-add 2 ct dt, ← pow-add 2 8 (ct + dt - 8), g) refl in
    let left : (v * 2 ^ (27 - ct) + 32768 * q) * 2 ^ ct * 2 ^ dt ≡ v * (2 ^ (27 - ct) * 2 ^ ct) * 2 ^ dt + 32768 * q * (2 ^ ct * 2 ^ dt) = grind arith in
    left ∙ rw (f, h) (grind arith)

mul_some : (x y : ℕ) → 0 < x → 0 < y → 0 < x * y
mul_some x y p q = let least = mul-le 1 1 x y p q in omega arith

widened_total : (w : MqWriter) → w.ct ≤ 12 → low (widened w) + (widened w).a ≡ (low w + w.a) * 2 ^ w.ct
widened_total w most = rw (widened_low (value w.bytes) w.c w.ct (omega arith)) (grind arith)

given_total : (w after : MqWriter) → HasGivenOut w after → low after + after.a ≡ low w + w.a
unfolding HasGivenOut
given_total w after g = let h = g.1.1.1.1 in rw (h.low_is, h.a) refl

given_width : (w after : MqWriter) → HasGivenOut w after → after.a ≡ w.a
unfolding HasGivenOut
given_width w after g = g.1.1.1.1.a

given_ct : (w after : MqWriter) → HasGivenOut w after → (7 ≤ after.ct) × (after.ct ≤ 8)
unfolding HasGivenOut
given_ct w after g = (g.1.1.1.1.ct_least, g.1.1.1.1.ct_most)

given_base : (w after : MqWriter) (byte : ℕ → ℕ) (last : ℕ) → HasGivenOut w after → front byte last ≡ after.bytes → 2 ^ (27 - after.ct) ≤ after.c + after.a → Fits after byte last last
unfolding HasGivenOut
given_base w after byte last g is enough = base after byte last g.1.0 (g.1.1.0 ∷ g.1.1.1.0) g.1.1.1.1.bytes is enough

chosen_bounded : (w : MqWriter) → IsCoder w → IsBounded (coder 1 (mq_last_number w * 2 ^ w.ct) 0 w.bytes)
chosen_bounded w h =
    let b = h.coding.bounded in
    let n : ℕ = mq_last_number w in
    let inside : mq_last_number w + 1 ≤ w.c + w.a = last_most w.c w.a h.low h.high in
    let most : (mq_last_number w + 1) * 2 ^ w.ct ≤ (w.c + w.a) * 2 ^ w.ct = mul-le (mq_last_number w + 1) (2 ^ w.ct) (w.c + w.a) (2 ^ w.ct) inside (omega arith) in
    let whole : (mq_last_number w + 1) * 2 ^ w.ct ≡ mq_last_number w * 2 ^ w.ct + 2 ^ w.ct = grind arith in
    let some = pow_pos w.ct in
    let room = b.room in
    record {
      some = omega arith;
      width = omega arith;
      ct = omega arith;
      room = omega arith;
      given = b.given;
      tight = λ full. let tight = b.tight full in omega arith;
    }

first_coding : (w : MqWriter) → IsCoder w → IsCoding (mq_byte_out (coder 1 (mq_last_number w * 2 ^ w.ct) 0 w.bytes))
first_coding w h = byte_out_coding 1 (mq_last_number w * 2 ^ w.ct) 0 w.bytes refl (chosen_bounded w h)

-- what follows a first byte out is bounded again
again_bounded : (x : MqWriter) → x.a ≡ 1 → IsCoding x → IsBounded (coder 1 (x.c * 2 ^ x.ct) 0 x.bytes)
again_bounded x one h =
    let b = h.bounded in
    let room : (x.c + 1) * 2 ^ x.ct ≤ 150994944 = rw one at b.room in
    let whole : (x.c + 1) * 2 ^ x.ct ≡ x.c * 2 ^ x.ct + 2 ^ x.ct = grind arith in
    let some = pow_pos x.ct in
    record {
      some = omega arith;
      width = omega arith;
      ct = omega arith;
      room = omega arith;
      given = b.given;
      tight = λ full. let tight : (x.c + 1) * 2 ^ x.ct ≤ 134217728 = rw one at (b.tight full) in omega arith;
    }

-- the registers after a first byte out, whose width is free
first_is : (w : MqWriter) → flushed_first w ≡ record (mq_byte_out (coder 1 (mq_last_number w * 2 ^ w.ct) 0 w.bytes)) { a = 1 * 2 ^ w.ct }
unfolding flushed_first
first_is w = byte_out_free (1 * 2 ^ w.ct) 1 (mq_last_number w * 2 ^ w.ct) 0 0 w.bytes

first_given : (w : MqWriter) → IsCoder w → AreGiven (flushed_first w).bytes
first_given w h = rw (first_is w) (first_coding w h).bounded.given

first_out : (w : MqWriter) → IsCoder w → HasGivenOut (widened (coder 1 (mq_last_number w) w.ct w.bytes)) (flushed_first w)
unfolding flushed_first
first_out w h = gives_out (1 * 2 ^ w.ct) (mq_last_number w * 2 ^ w.ct) 0 w.bytes refl h.coding.bounded.given

pub second_out : (w : MqWriter) → IsCoder w → HasGivenOut (widened (flushed_first w)) (flushed_second w)
unfolding flushed_second
second_out w h =
    gives_out ((flushed_first w).a * 2 ^ (flushed_first w).ct) ((flushed_first w).c * 2 ^ (flushed_first w).ct) 0 (flushed_first w).bytes refl (first_given w h)

again_given : (x : MqWriter) (a : ℕ) → x.a ≡ 1 → IsCoding x → AreGiven (mq_byte_out (widened (record x { a = a }))).bytes
again_given x a one h =
    let same = byte_out_free (a * 2 ^ x.ct) 1 (x.c * 2 ^ x.ct) 0 0 x.bytes in
    rw (ap (λ (y : MqWriter). y.bytes) same) (byte_out_coding 1 (x.c * 2 ^ x.ct) 0 x.bytes refl (again_bounded x one h)).bounded.given

second_given : (w : MqWriter) → IsCoder w → AreGiven (flushed_second w).bytes
unfolding flushed_second
second_given w h =
    let x : MqWriter = mq_byte_out (coder 1 (mq_last_number w * 2 ^ w.ct) 0 w.bytes) in
    let one : x.a ≡ 1 = byte_out_a (coder 1 (mq_last_number w * 2 ^ w.ct) 0 w.bytes) in
    rw (first_is w) (again_given x (1 * 2 ^ w.ct) one (first_coding w h))

pub flushed_given : (w : MqWriter) → IsCoder w → AreGiven (mq_flushed w)
flushed_given w h = let P : List ℕ → Type 0 = λ bytes. AreGiven bytes in subst P (sym (flushed_is w)) (second_given w h)

byte_ct : (ct : ℕ) → 7 ≤ ct → ct ≤ 8 → (27 - ct ≡ 19) ⊎ (27 - ct ≡ 20)
byte_ct ct least most = elim (cases_eq ct 8) [ inl e ↦ inl (omega arith) | inr ne ↦ inr (omega arith) ]

-- the width that is left after both steps is a whole byte's worth, since all that was shifted away was zeros
enough_at : (w first second : MqWriter) (n : ℕ) → 1 ≤ w.ct → w.ct ≤ 12 → (n + 1) % 32768 ≡ 0 →
    HasGivenOut (widened (coder 1 n w.ct w.bytes)) first → HasGivenOut (widened first) second → 2 ^ (27 - second.ct) ≤ second.c + second.a
enough_at w first second n some most whole out again =
    let near = given_ct (widened (coder 1 n w.ct w.bytes)) first out in
    let far = given_ct (widened first) second again in
    let start : MqWriter = coder 1 n w.ct w.bytes in
    let q : ℕ = (n + 1) / 32768 in
    let parts : n + 1 ≡ 32768 * ((n + 1) / 32768) = omega arith in
    let total : low first + first.a ≡ (value w.bytes * 2 ^ (27 - w.ct) + 32768 * ((n + 1) / 32768)) * 2 ^ w.ct =
    given_total (widened start) first out ∙ widened_total start most ∙ rw (← parts) (ap (λ (m : ℕ). m * 2 ^ w.ct) (add_assoc (value w.bytes * 2 ^ (27 - w.ct)) n 1)) in
    let all : low second + second.a ≡ 1048576 * (value w.bytes * 128 * 2 ^ first.ct + (n + 1) / 32768 * 8 * 2 ^ (w.ct + first.ct - 8)) =
    given_total (widened first) second again ∙ widened_total first (omega arith) ∙ rw total (shifted_whole (value w.bytes) ((n + 1) / 32768) w.ct first.ct some most near.0) in
    let width : second.a ≡ first.a * 2 ^ first.ct = given_width (widened first) second again in
    let wide : first.a ≡ 1 * 2 ^ w.ct = given_width (widened start) first out in
    let positive : 0 < second.a = rw (width, wide) (let a = pow_pos w.ct in let b = pow_pos first.ct in mul_some (1 * 2 ^ w.ct) (2 ^ first.ct) (omega arith) b) in
    room_left (value second.bytes) second.c second.a (27 - second.ct) (value w.bytes * 128 * 2 ^ first.ct + (n + 1) / 32768 * 8 * 2 ^ (w.ct + first.ct - 8))
    (byte_ct second.ct far.0 far.1) (omega arith) all

narrowed : (w : MqWriter) → IsCoder w → (byte : ℕ → ℕ) (last : ℕ) → FitsIn (coder 1 (mq_last_number w) w.ct w.bytes) byte last → FitsIn w byte last
unfolding FitsIn
narrowed w h byte last fits =
    let least : w.c ≤ mq_last_number w = last_least w.c w.a h.low h.high in
    let most : mq_last_number w + 1 ≤ w.c + w.a = last_most w.c w.a h.low h.high in
    (fits.0, (fits.1.0, fits_wider w (coder 1 (mq_last_number w) w.ct w.bytes) byte last fits.0 refl refl (omega arith) (omega arith) fits.1.1))

pub flush_fits : (w : MqWriter) → IsCoder w → (byte : ℕ → ℕ) (last : ℕ) → front byte last ≡ mq_flushed w → FitsIn w byte last
flush_fits w h byte last is =
    let n : ℕ = mq_last_number w in
    let start : MqWriter = coder 1 (mq_last_number w) w.ct w.bytes in
    let b = h.coding.bounded in
    let out = first_out w h in
    let again = second_out w h in
    let enough = enough_at w (flushed_first w) (flushed_second w) (mq_last_number w) h.coding.due b.ct (last_whole w.c w.a) out again in
    let bytes : front byte last ≡ (flushed_second w).bytes = is ∙ flushed_is w in
    let end = given_base (widened (flushed_first w)) (flushed_second w) byte last again bytes enough in
    let second = fits_given_last (widened (flushed_first w)) (flushed_second w) byte last last again (omega arith) end in
    let near = given_ct (widened start) (flushed_first w) out in
    let first = fits_widened (flushed_first w) byte last (let most = near.1 in omega arith) second in
    let shifted = fits_given_out (widened start) (flushed_first w) byte last out first in
    narrowed w h byte last (fits_widened start byte last b.ct shifted)
