-- Bits that are put into bytes.
use Rattle.std.proofs.Common.{◌≡◌, ℕ, zero, suc, ◌+◌, ◌-◌, ◌*◌, ◌/◌, ◌%◌, ◌^◌, ◌<◌, ◌≤◌, ◌==◌, nat_le, Bool, true, false, ◌&&◌, List, [], ◌∷◌, ◌++◌, length, drop, get_or, refl, sym, ap, ◌∙◌, subst, cond, arith, append_assoc, length-append, add-one, mod-eq_of_lt}
use Rattle.std.proofs.lemmas.List.{append-nil, drop_at, drop_all}
use Rattle.std.proofs.lemmas.Nat.{mod-pow-add, shr-shr, pow-add}
use Rattle.std.proofs.Math.Nat.{two-pow-succ, mod-eq_of_lt}
use Rattle.std.proofs.lemmas.Bool.Decides.{nat_tests}
use Rattle.jx_tagtree.specs.declared.BitFault.TheVariants.{Ended}
use Rattle.jx_tagtree.specs.Header.{Bits, room, is_stuffed, low_bits, bits_after, bits_of, number_of, bytes_from, bytes_of}
use Rattle.jx_tagtree.specs.Place.{Fills, given, closed}
use Rattle.jx_tagtree.proofs.HeaderLemmas.{length-low_bits, clean_first, bits_after-push}
use Rattle.jx_base.specs.Markers.{last_after}
use Rattle.jx_base.proofs.Markers.{last_push}

-- the number of a bit
abbrev pub as_number : Bool → ℕ
as_number b = cond b 1 0

one_bit : (b : Bool) → (as_number b == 1) ≡ b
one_bit true = refl
one_bit false = refl

as_number-lt : (b : Bool) → as_number b < 2
as_number-lt true = omega arith
as_number-lt false = omega arith

-- one more bit behind the others
pub low_bits-push : (n c : ℕ) (b : Bool) → low_bits (suc n) (2 * c + as_number b) ≡ low_bits n c ++ b ∷ []
low_bits-push zero c b =
    let small : as_number b < 2 = as_number-lt b in
    let e : (2 * c + as_number b) / 2 ^ 0 % 2 ≡ as_number b = omega arith in
    ap (λ (x : Bool). x ∷ []) (ap (λ (m : ℕ). m == 1) e ∙ one_bit b)
low_bits-push (suc n) c b =
    let small : as_number b < 2 = as_number-lt b in
    let half : (2 * c + as_number b) / 2 ^ 1 ≡ c = omega arith in
    let one : suc n ≡ 1 + n = omega arith in
    let e : (2 * c + as_number b) / 2 ^ suc n ≡ c / 2 ^ n =
    ap (λ (k : ℕ). (2 * c + as_number b) / 2 ^ k) one ∙ sym (shr-shr (2 * c + as_number b) 1 n) ∙ ap (λ (m : ℕ). m / 2 ^ n) half in
    ap (λ (m : ℕ). (m % 2 == 1) ∷ low_bits (suc n) (2 * c + as_number b)) e ∙ ap (λ (l : List Bool). (c / 2 ^ n % 2 == 1) ∷ l) (low_bits-push n c b)

-- a first bit has the highest weight
first_bit : (n x : ℕ) (l : List Bool) → x < 2 → number_of (suc n) ((x == 1) ∷ l) ≡ x * 2 ^ n + number_of n l
first_bit n zero l small = let e : number_of n l ≡ 0 * 2 ^ n + number_of n l = omega arith in e
first_bit n (suc zero) l small = let e : 2 ^ n + number_of n l ≡ 1 * 2 ^ n + number_of n l = omega arith in e
first_bit n (suc (suc x)) l small = absurd (omega arith)

-- the low bits of a number make its remainder
pub number_of-low_bits : (n b : ℕ) (tail : List Bool) → number_of n (low_bits n b ++ tail) ≡ b % 2 ^ n
number_of-low_bits zero b tail = let e : 0 ≡ b % 2 ^ 0 = omega arith in e
number_of-low_bits (suc n) b tail =
    let one : 1 + n ≡ suc n = omega arith in
    let small : b / 2 ^ n % 2 < 2 = omega arith in
    let split : b % 2 ^ suc n ≡ b / 2 ^ n % 2 * 2 ^ n + b % 2 ^ n = ap (λ (k : ℕ). b % 2 ^ k) (sym one) ∙ mod-pow-add b 1 n in
    first_bit n (b / 2 ^ n % 2) (low_bits n b ++ tail) small ∙ ap (λ (m : ℕ). b / 2 ^ n % 2 * 2 ^ n + m) (number_of-low_bits n b tail) ∙ sym split

number_of-nil : (n : ℕ) → number_of n [] ≡ 0
number_of-nil zero = refl
number_of-nil (suc n) = refl

-- fewer bits have zeros behind them
pub number_of-short : (k j c : ℕ) → number_of (k + j) (low_bits k c) ≡ c % 2 ^ k * 2 ^ j
number_of-short zero j c = let e : 0 ≡ c % 2 ^ 0 * 2 ^ j = let z : c % 2 ^ 0 ≡ 0 = omega arith in rw z (omega arith) in number_of-nil (0 + j) ∙ e
number_of-short (suc k) j c =
    let one : 1 + k ≡ suc k = omega arith in
    let e : suc k + j ≡ suc (k + j) = omega arith in
    let small : c / 2 ^ k % 2 < 2 = omega arith in
    let split : c % 2 ^ suc k ≡ c / 2 ^ k % 2 * 2 ^ k + c % 2 ^ k = ap (λ (i : ℕ). c % 2 ^ i) (sym one) ∙ mod-pow-add c 1 k in
    let power : 2 ^ (k + j) ≡ 2 ^ k * 2 ^ j = pow-add 2 k j in
    ap (λ (m : ℕ). number_of m (low_bits (suc k) c)) e
    ∙ first_bit (k + j) (c / 2 ^ k % 2) (low_bits k c) small
    ∙ ap (λ (m : ℕ). c / 2 ^ k % 2 * 2 ^ (k + j) + m) (number_of-short k j c)
    ∙ spread (c / 2 ^ k % 2) (2 ^ (k + j)) (2 ^ k) (2 ^ j) (c % 2 ^ k) power
    ∙ ap (λ (m : ℕ). m * 2 ^ j) (sym split)
  where
    spread : (x p q r y : ℕ) → p ≡ q * r → x * p + y * r ≡ (x * q + y) * r
    spread x p q r y h = rw h (omega arith)

-- a byte with no more bits than it has room for has no stuffed 1
pub not_stuffed : (last byte : ℕ) → byte < 2 ^ room last → is_stuffed last byte ≡ false
not_stuffed last byte small = by (last == 255) small
  where
    by : (x : Bool) → byte < 2 ^ (cond x 7 8) → (x && nat_le 128 byte) ≡ false
    by true h = let lt : byte < 128 = h in grind (arith, nat_tests)
    by false h = refl

-- one byte of some bits
bytes_from-step : (fuel before : ℕ) (bits : List Bool) → 0 < length bits →
    bytes_from (suc fuel) before bits ≡ number_of (room before) bits ∷ bytes_from fuel (number_of (room before) bits) (drop (room before) bits)
bytes_from-step fuel before [] some = absurd (omega arith)
bytes_from-step fuel before (bit ∷ bits) some = refl

pub room-pos : (before : ℕ) → 0 < room before
room-pos before = grind (arith, nat_tests)

-- a byte that isn't stuffed has no more bits than it has room for
byte_fits : (before byte : ℕ) → byte < 256 → is_stuffed before byte ≡ false → byte < 2 ^ room before
byte_fits before byte small plain = by (before == 255) plain
  where
    by : (x : Bool) → (x && nat_le 128 byte) ≡ false → byte < 2 ^ (cond x 7 8)
    by true h = let lt : byte < 128 = grind (arith, nat_tests) in lt
    by false h = small

-- whole bytes are written again as they are
pub bytes_from-whole : (fuel before : ℕ) (bytes : List ℕ) (tail : List Bool) → (bits_after before bytes).fault ≡ Ended → ((i : ℕ) → get_or bytes i 0 < 256) →
    length ((bits_after before bytes).bits ++ tail) < fuel →
    (k : ℕ) × (length tail < k) × (bytes_from fuel before ((bits_after before bytes).bits ++ tail) ≡ bytes ++ bytes_from k (last_after before bytes) tail)
bytes_from-whole fuel before [] tail clean small enough = (fuel, enough, refl)
bytes_from-whole zero before (b ∷ bytes) tail clean small enough = absurd (omega arith)
bytes_from-whole (suc fuel) before (b ∷ bytes) tail clean small enough =
    let h = clean_first before b bytes clean in
    let rest_clean : (bits_after b bytes).fault ≡ Ended = sym (ap (λ (r : Bits). r.fault) h.1) ∙ clean in
    let rest = (bits_after b bytes).bits ++ tail in
    let whole : (bits_after before (b ∷ bytes)).bits ++ tail ≡ low_bits (room before) b ++ rest =
    ap (λ (r : Bits). r.bits ++ tail) h.1 ∙ append_assoc (low_bits (room before) b) (bits_after b bytes).bits tail in
    let counted : length (low_bits (room before) b ++ rest) ≡ room before + length rest =
    length-append (low_bits (room before) b) rest ∙ ap (λ (n : ℕ). n + length rest) (length-low_bits (room before) b) in
    let some : 0 < room before = room-pos before in
    let long : length ((bits_after before (b ∷ bytes)).bits ++ tail) ≡ room before + length rest = ap length whole ∙ counted in
    let byte : number_of (room before) (low_bits (room before) b ++ rest) ≡ b =
    number_of-low_bits (room before) b rest ∙ mod-eq_of_lt (byte_fits before b (small 0) h.0) in
    let more : 0 < length (low_bits (room before) b ++ rest) = omega arith in
    let left : length rest < fuel = omega arith in
    let r = bytes_from-whole fuel b bytes tail rest_clean (λ i. small (suc i)) left in (
      r.0,
      r.1,
      ap (bytes_from (suc fuel) before) whole
          ∙ bytes_from-step fuel before (low_bits (room before) b ++ rest) more
          ∙ ap (λ (l : List Bool). number_of (room before) (low_bits (room before) b ++ rest) ∷ bytes_from fuel (number_of (room before) (low_bits (room before) b ++ rest)) l)
          (drop_at (low_bits (room before) b) rest (room before) (length-low_bits (room before) b))
          ∙ ap (λ (n : ℕ). n ∷ bytes_from fuel n rest) byte
          ∙ ap (λ (l : List ℕ). b ∷ l) r.2,
    )

-- a bit that doesn't fill the byte
pub given-short : (bytes : List ℕ) (current filled next : ℕ) (b : Bool) → next ≡ 2 * current + as_number b → given bytes next (filled + 1) ≡ given bytes current filled ++ b ∷ []
given-short bytes current filled next b e =
    ap (λ (n : ℕ). (bits_of bytes).bits ++ low_bits n next) (add-one filled)
    ∙ ap (λ (n : ℕ). (bits_of bytes).bits ++ low_bits (suc filled) n) e
    ∙ ap (λ (l : List Bool). (bits_of bytes).bits ++ l) (low_bits-push filled current b)
    ∙ sym (append_assoc (bits_of bytes).bits (low_bits filled current) (b ∷ []))

-- a bit that fills it
pub Fills-byte : (bytes : List ℕ) (last current filled next : ℕ) (b : Bool) → Fills bytes last current filled → room last ≤ filled + 1 → next ≡ 2 * current + as_number b → next < 256 →
    (Fills (bytes ++ next ∷ []) next 0 0) × (given (bytes ++ next ∷ []) 0 0 ≡ given bytes current filled ++ b ∷ [])
Fills-byte bytes last current filled next b w full e small =
    let bit : as_number b < 2 = as_number-lt b in
    let short : filled < room last = w.short in
    let fits : current < 2 ^ filled = w.fits in
    let exact : room last ≡ suc filled = omega arith in
    let twice : 2 ^ suc filled ≡ 2 ^ filled + 2 ^ filled = two-pow-succ filled in
    let lt : next < 2 ^ suc filled = omega arith in
    let plain : is_stuffed last next ≡ false = not_stuffed last next (subst (λ (n : ℕ). next < 2 ^ n) (sym exact) lt) in
    let pushed : bits_of (bytes ++ next ∷ []) ≡ record { bits = (bits_of bytes).bits ++ low_bits (room (last_after 0 bytes)) next; fault = Ended } =
    bits_after-push 0 bytes next w.clean (subst (λ (z : ℕ). is_stuffed z next ≡ false) w.is_last plain) in (
      record {
        is_last = sym (last_push 0 bytes next);
        clean = ap (λ (r : Bits). r.fault) pushed;
        are_bytes = λ i. bytes_more bytes next w.are_bytes small i;
        short = room-pos next;
        fits = omega arith;
      },
      append-nil (bits_of (bytes ++ next ∷ [])).bits
          ∙ ap (λ (r : Bits). r.bits) pushed
          ∙ ap (λ (z : ℕ). (bits_of bytes).bits ++ low_bits (room z) next) (sym w.is_last)
          ∙ ap (λ (n : ℕ). (bits_of bytes).bits ++ low_bits n next) (exact ∙ sym (add-one filled))
          ∙ given-short bytes current filled next b e,
    )
  where
    bytes_more : (bytes : List ℕ) (next : ℕ) → ((i : ℕ) → get_or bytes i 0 < 256) → next < 256 → (i : ℕ) → get_or (bytes ++ next ∷ []) i 0 < 256
    bytes_more [] next all small zero = small
    bytes_more [] next all small (suc i) = omega arith
    bytes_more (x ∷ xs) next all small zero = all 0
    bytes_more (x ∷ xs) next all small (suc i) = bytes_more xs next (λ j. all (suc j)) small i

-- where no bits are left over
pub closed-whole : (bytes : List ℕ) (last current filled : ℕ) → Fills bytes last current filled → filled ≡ 0 → closed bytes last ≡ bytes_of (given bytes current filled)
closed-whole bytes last current filled w none =
    let nil : given bytes current filled ≡ (bits_of bytes).bits ++ [] = ap (λ (n : ℕ). (bits_of bytes).bits ++ low_bits n current) none in
    let r = bytes_from-whole (suc (length ((bits_of bytes).bits ++ []))) 0 bytes [] w.clean w.are_bytes (omega arith) in
    sym (ap bytes_of nil ∙ r.2 ∙ ap (λ (l : List ℕ). bytes ++ l) (ended r.0 (last_after 0 bytes) r.1) ∙ ap (closed bytes) (sym w.is_last))
  where
    ended : (k before : ℕ) → 0 < k → bytes_from k before [] ≡ cond (before == 255) (0 ∷ []) []
    ended zero before some = absurd (omega arith)
    ended (suc k) before some = refl

-- where some are
pub closed-filled : (bytes : List ℕ) (last current filled byte : ℕ) → Fills bytes last current filled → 0 < filled → byte ≡ current * 2 ^ (room last - filled) →
    closed (bytes ++ byte ∷ []) byte ≡ bytes_of (given bytes current filled)
closed-filled bytes last current filled byte w some e =
    let tail = low_bits filled current in
    let r = bytes_from-whole (suc (length ((bits_of bytes).bits ++ tail))) 0 bytes tail w.clean w.are_bytes (omega arith) in
    let lead : last_after 0 bytes ≡ last = sym w.is_last in
    let long : length tail ≡ filled = length-low_bits filled current in
    let short : filled < room last = w.short in
    let apart : filled + (room last - filled) ≡ room last = omega arith in
    let some_bits : 0 < length tail = omega arith in
    let few_bits : length tail ≤ room last = omega arith in
    let whole : current % 2 ^ filled ≡ current = mod-eq_of_lt w.fits in
    let number : number_of (room last) tail ≡ byte =
    ap (λ (n : ℕ). number_of n tail) (sym apart) ∙ number_of-short filled (room last - filled) current ∙ ap (λ (n : ℕ). n * 2 ^ (room last - filled)) whole ∙ sym e in
    sym (r.2 ∙ ap (λ (z : ℕ). bytes ++ bytes_from r.0 z tail) lead
    ∙ ap (λ (l : List ℕ). bytes ++ l) (one r.0 (room last) last tail byte refl number some_bits r.1 few_bits)
    ∙ sym (append_assoc bytes (byte ∷ []) (cond (byte == 255) (0 ∷ []) [])))
  where
    one : (k n last : ℕ) (tail : List Bool) (byte : ℕ) → room last ≡ n → number_of n tail ≡ byte → 0 < length tail → length tail < k → length tail ≤ n →
        bytes_from k last tail ≡ byte ∷ cond (byte == 255) (0 ∷ []) []
    one zero n last tail byte er number some more few = absurd (omega arith)
    one (suc zero) n last tail byte er number some more few = absurd (omega arith)
    one (suc (suc k)) n last tail byte er number some more few =
        bytes_from-step (suc k) last tail some
        ∙ ap (λ (m : ℕ). number_of m tail ∷ bytes_from (suc k) (number_of m tail) (drop m tail)) er
        ∙ ap (λ (b : ℕ). b ∷ bytes_from (suc k) b (drop n tail)) number
        ∙ ap (λ (l : List Bool). byte ∷ bytes_from (suc k) byte l) (drop_all n tail few)
