-- Laws of written headers.
use Rattle.std.proofs.Common.{◌≡◌, ◌≢◌, ℕ, zero, suc, ◌+◌, ◌-◌, ◌*◌, ◌/◌, ◌%◌, ◌^◌, ◌<◌, ◌≤◌, ◌==◌, nat_le, Bool, true, false, List, [], ◌∷◌, ◌++◌, length, take, drop, get_or, replicate, refl, sym, ap, ◌∙◌, subst, cond, arith, append_assoc, length-append, length-drop, Ok, Err, Result, nat_lt, ◌&&◌, inl, inr}
use Rattle.std.proofs.lemmas.List.{append-nil, take_all, drop_all, drop_more, take-append-drop, take-append-le, length-take-le}
use Rattle.std.proofs.Math.Seq.{take-append-add}
use Rattle.std.proofs.lemmas.Nat.{pow_pos, shr_high}
use Rattle.std.proofs.lemmas.Nat.Bits.{bit_at_cat_low}
use Rattle.std.proofs.Math.Nat.{two-pow-succ}
use Rattle.std.proofs.lemmas.Bool.Decides.{nat_tests}
use Rattle.std.proofs.lemmas.Bool.{cases_eq, cases_lt}
use Rattle.jx_tagtree.specs.declared.BitFault.{BitFault}
use Rattle.jx_tagtree.specs.declared.BitFault.TheVariants.{Ended, Stuffed}
use Rattle.jx_tagtree.specs.Header.{Bits, room, is_stuffed, low_bits, before_all, none_after_stuffed, bits_after, bits_of, number_of, bytes_from, bytes_of, bytes_for, end_after, past_last_ff, IsWritten, ReadsBack, EndsAt}
use Rattle.jx_tagtree.proofs.HeaderLemmas.{length-low_bits, clean_first, bits_after-append, bits_after-push, bytes_for-cut, room-le, take-push}
use Rattle.jx_tagtree.proofs.WriterLemmas.{not_stuffed, room-pos}
use Rattle.jx_base.specs.Markers.{last_after}
use Rattle.jx_base.proofs.Markers.{last_push}

-- a number of n bits is below 2 to n
pub number_of-lt : (n : ℕ) (bits : List Bool) → number_of n bits < 2 ^ n
number_of-lt zero bits = omega arith
number_of-lt (suc n) [] = pow_pos (suc n)
number_of-lt (suc n) (true ∷ bits) = let lt : number_of n bits < 2 ^ n = number_of-lt n bits in let e : 2 ^ suc n ≡ 2 ^ n + 2 ^ n = two-pow-succ n in omega arith
number_of-lt (suc n) (false ∷ bits) = let lt : number_of n bits < 2 ^ n = number_of-lt n bits in let e : 2 ^ suc n ≡ 2 ^ n + 2 ^ n = two-pow-succ n in omega arith

-- the low bits see nothing of a higher one
low_bits-high : (n k v : ℕ) → n ≤ k → low_bits n (2 ^ k + v) ≡ low_bits n v
low_bits-high zero k v le = refl
low_bits-high (suc n) k v le =
    let lt : n < k = omega arith in
    let once : 2 ^ k + v ≡ 1 * 2 ^ k + v = omega arith in
    let bit : (2 ^ k + v) / 2 ^ n % 2 ≡ v / 2 ^ n % 2 = ap (λ (m : ℕ). m / 2 ^ n % 2) once ∙ bit_at_cat_low 1 k v n lt in
    let le' : n ≤ k = omega arith in
    ap (λ (m : ℕ). (m == 1) ∷ low_bits n (2 ^ k + v)) bit ∙ ap (λ (l : List Bool). (v / 2 ^ n % 2 == 1) ∷ l) (low_bits-high n k v le')

low_bits-zero : (n : ℕ) → low_bits n 0 ≡ replicate n false
low_bits-zero zero = refl
low_bits-zero (suc n) = let e : 0 / 2 ^ n % 2 ≡ 0 = let z : 0 / 2 ^ n ≡ 0 = div-zero n in rw z refl in
    ap (λ (m : ℕ). (m == 1) ∷ low_bits n 0) e ∙ ap (λ (l : List Bool). false ∷ l) (low_bits-zero n)
  where
    div-zero : (n : ℕ) → 0 / 2 ^ n ≡ 0
    div-zero n = let p : 0 < 2 ^ n = pow_pos n in let e : 0 ≡ 0 * 2 ^ n + 0 = omega arith in ap (λ (m : ℕ). m / 2 ^ n) e ∙ shr_high 0 n 0 p

-- the bits of the number of some bits are these bits, with zeros behind them
pub low_bits-number_of : (n : ℕ) (bits : List Bool) → low_bits n (number_of n bits) ≡ take n bits ++ replicate (n - length bits) false
low_bits-number_of zero bits = let e : 0 - length bits ≡ 0 = omega arith in ap (λ (k : ℕ). replicate k false) (sym e)
low_bits-number_of (suc n) [] = low_bits-zero (suc n) ∙ (let e : suc n ≡ suc n - 0 = omega arith in ap (λ (k : ℕ). replicate k false) e)
low_bits-number_of (suc n) (true ∷ bits) =
    let lt : number_of n bits < 2 ^ n = number_of-lt n bits in
    let once : 2 ^ n + number_of n bits ≡ 1 * 2 ^ n + number_of n bits = omega arith in
    let top : (2 ^ n + number_of n bits) / 2 ^ n ≡ 1 = ap (λ (m : ℕ). m / 2 ^ n) once ∙ shr_high 1 n (number_of n bits) lt in
    let less : n - length bits ≡ suc n - suc (length bits) = omega arith in
    ap (λ (m : ℕ). (m % 2 == 1) ∷ low_bits n (2 ^ n + number_of n bits)) top
    ∙ ap (λ (l : List Bool). true ∷ l) (low_bits-high n n (number_of n bits) (omega arith) ∙ low_bits-number_of n bits)
    ∙ ap (λ (k : ℕ). true ∷ (take n bits ++ replicate k false)) less
low_bits-number_of (suc n) (false ∷ bits) =
    let lt : number_of n bits < 2 ^ n = number_of-lt n bits in
    let none : number_of n bits ≡ 0 * 2 ^ n + number_of n bits = omega arith in
    let top : number_of n bits / 2 ^ n ≡ 0 = ap (λ (m : ℕ). m / 2 ^ n) none ∙ shr_high 0 n (number_of n bits) lt in
    let less : n - length bits ≡ suc n - suc (length bits) = omega arith in
    ap (λ (m : ℕ). (m % 2 == 1) ∷ low_bits n (number_of n bits)) top
    ∙ ap (λ (l : List Bool). false ∷ l) (low_bits-number_of n bits)
    ∙ ap (λ (k : ℕ). false ∷ (take n bits ++ replicate k false)) less

-- the first byte of these, which has no stuffed 1
opened : (before byte : ℕ) (bytes : List ℕ) → byte < 2 ^ room before → bits_after before (byte ∷ bytes) ≡ before_all (low_bits (room before) byte) (bits_after byte bytes)
opened before byte bytes lt = ap (λ (s : Bool). cond s none_after_stuffed (before_all (low_bits (room before) byte) (bits_after byte bytes))) (not_stuffed before byte lt)

pow-room : (before : ℕ) → 2 ^ room before ≤ 256
pow-room before = by (before == 255)
  where
    by : (x : Bool) → 2 ^ (cond x 7 8) ≤ 256
    by true = omega arith
    by false = omega arith

-- nothing stands after the last byte but 00 after FF
made_nil : (before : ℕ) → IsWritten before [] (cond (before == 255) (0 ∷ []) [])
made_nil before = by (before == 255) refl
  where
    by : (x : Bool) → (before == 255) ≡ x → IsWritten before [] (cond x (0 ∷ []) [])
    by true e = let is : before ≡ 255 = grind (arith, nat_tests) in subst (λ (b : ℕ). IsWritten b [] (0 ∷ [])) (sym is) (record {
      filling = 7;
      few = omega arith;
      are_bits = refl;
      clean = refl;
      last = λ h. absurd cc;
      are_bytes = λ i. one i;
    })
      where
        one : (i : ℕ) → get_or (0 ∷ []) i 0 < 256
        one zero = omega arith
        one (suc i) = omega arith
    by false e = record { filling = 0; few = omega arith; are_bits = refl; clean = refl; last = grind (arith, nat_tests); are_bytes = λ i. omega arith }

-- fewer bits than a byte has room for leave its lowest bit 0
even : (n : ℕ) (bits : List Bool) → length bits < n → (k : ℕ) × (number_of n bits ≡ k + k)
even zero bits few = absurd (omega arith)
even (suc n) [] few = (0, omega arith)
even (suc zero) (b ∷ bits) few = absurd (omega arith)
even (suc (suc n)) (true ∷ bits) few =
    let r = even (suc n) bits (omega arith) in
    let e : 2 ^ suc n ≡ 2 ^ n + 2 ^ n = two-pow-succ n in
    (2 ^ n + r.0, (let h : number_of (suc n) bits ≡ r.0 + r.0 = r.1 in omega arith))
even (suc (suc n)) (false ∷ bits) few = even (suc n) bits (omega arith)

-- a number of bits is below 256
byte_lt : (before : ℕ) (bits : List Bool) → number_of (room before) bits < 256
byte_lt before bits = let lt : number_of (room before) bits < 2 ^ room before = number_of-lt (room before) bits in let le : 2 ^ room before ≤ 256 = pow-room before in omega arith

more_bytes : (b : ℕ) (bytes : List ℕ) → b < 256 → ((i : ℕ) → get_or bytes i 0 < 256) → (i : ℕ) → get_or (b ∷ bytes) i 0 < 256
more_bytes b bytes lt all zero = lt
more_bytes b bytes lt all (suc i) = all i

-- the last byte of some bits, filled with zeros
made_last : (before : ℕ) (bits : List Bool) (bytes : List ℕ) → 0 < length bits → length bits < room before →
    ((drop (room before) bits ≡ []) × (number_of (room before) bits ≢ 255) → bytes ≡ []) →
    IsWritten before bits (number_of (room before) bits ∷ bytes)
made_last before bits bytes some short ended =
    let b = number_of (room before) bits in
    let fits : length bits ≤ room before = omega arith in
    let halves = even (room before) bits short in
    let odd : b ≢ 255 = λ (h : number_of (room before) bits ≡ 255). (let e : number_of (room before) bits ≡ halves.0 + halves.0 = halves.1 in omega arith) in
    let none : bytes ≡ [] = ended (drop_all (room before) bits fits, odd) in
    let first : bits_after before (b ∷ bytes) ≡ before_all (low_bits (room before) b) (bits_after b []) =
    opened before b bytes (number_of-lt (room before) bits) ∙ ap (λ (l : List ℕ). before_all (low_bits (room before) b) (bits_after b l)) none in
    let le : room before ≤ 8 = room-le before in
    record {
      filling = room before - length bits;
      few = omega arith;
      are_bits = ap (λ (r : Bits). r.bits) first ∙ append-nil (low_bits (room before) b) ∙ low_bits-number_of (room before) bits
          ∙ ap (λ (l : List Bool). l ++ replicate (room before - length bits) false) (take_all (room before) bits fits);
      clean = ap (λ (r : Bits). r.fault) first;
      last = subst (λ (l : List ℕ). last_after b l ≢ 255) (sym none) odd;
      are_bytes = more_bytes b bytes (byte_lt before bits) (subst (λ (l : List ℕ). (i : ℕ) → get_or l i 0 < 256) (sym none) (λ i. omega arith));
    }

-- a byte before the others
made_full : (before : ℕ) (bits : List Bool) (bytes : List ℕ) → room before ≤ length bits → IsWritten (number_of (room before) bits) (drop (room before) bits) bytes →
    IsWritten before bits (number_of (room before) bits ∷ bytes)
made_full before bits bytes long m =
    let b = number_of (room before) bits in
    let first : bits_after before (b ∷ bytes) ≡ before_all (low_bits (room before) b) (bits_after b bytes) = opened before b bytes (number_of-lt (room before) bits) in
    let none : room before - length bits ≡ 0 = omega arith in
    let front : low_bits (room before) b ≡ take (room before) bits =
    low_bits-number_of (room before) bits ∙ ap (λ (k : ℕ). take (room before) bits ++ replicate k false) none ∙ append-nil (take (room before) bits) in
    record {
      filling = m.filling;
      few = m.few;
      are_bits = ap (λ (r : Bits). r.bits) first ∙ ap (λ (l : List Bool). l ++ (bits_after b bytes).bits) front ∙ ap (λ (l : List Bool). take (room before) bits ++ l) m.are_bits
          ∙ sym (append_assoc (take (room before) bits) (drop (room before) bits) (replicate m.filling false))
          ∙ ap (λ (l : List Bool). l ++ replicate m.filling false) (take-append-drop (room before) bits);
      clean = ap (λ (r : Bits). r.fault) first ∙ m.clean;
      last = m.last;
      are_bytes = more_bytes b bytes (byte_lt before bits) m.are_bytes;
    }

made_byte : (before : ℕ) (bits : List Bool) (bytes : List ℕ) → 0 < length bits → IsWritten (number_of (room before) bits) (drop (room before) bits) bytes →
    ((drop (room before) bits ≡ []) × (number_of (room before) bits ≢ 255) → bytes ≡ []) →
    IsWritten before bits (number_of (room before) bits ∷ bytes)
made_byte before bits bytes some m ended = by (nat_lt (length bits) (room before)) refl
  where
    by : (x : Bool) → nat_lt (length bits) (room before) ≡ x → IsWritten before bits (number_of (room before) bits ∷ bytes)
    by true e = made_last before bits bytes some (let lt : length bits < room before = grind (arith, nat_tests) in lt) ended
    by false e = made_full before bits bytes (let le : room before ≤ length bits = grind (arith, nat_tests) in le) m

pub made : (fuel before : ℕ) (bits : List Bool) → length bits < fuel → IsWritten before bits (bytes_from fuel before bits)
made zero before bits enough = absurd (omega arith)
made (suc fuel) before [] enough = made_nil before
made (suc fuel) before (bit ∷ bits) enough =
    made_byte before (bit ∷ bits) (bytes_from fuel (number_of (room before) (bit ∷ bits)) (drop (room before) (bit ∷ bits))) (omega arith)
    (made fuel (number_of (room before) (bit ∷ bits)) (drop (room before) (bit ∷ bits))
    (let r : 0 < room before = room-pos before in omega (arith, length-drop (room before) (bit ∷ bits))))
    (λ none. ended fuel (number_of (room before) (bit ∷ bits)) (drop (room before) (bit ∷ bits)) none (omega arith))
  where
    ended : (fuel byte : ℕ) (tail : List Bool) → (tail ≡ []) × (byte ≢ 255) → 0 < fuel → bytes_from fuel byte tail ≡ []
    ended zero byte tail h some = absurd (omega arith)
    ended (suc fuel) byte tail h some = ap (bytes_from (suc fuel) byte) h.0 ∙ ap (λ (x : Bool). cond x (0 ∷ []) []) (let no : (byte == 255) ≡ false = grind (arith, nat_tests, h.1) in no)

-- no byte after FF has its top bit
pub clean_pair : (before : ℕ) (bytes : List ℕ) → (bits_after before bytes).fault ≡ Ended → (i : ℕ) → get_or bytes i 0 ≡ 255 → get_or bytes (suc i) 0 < 128
clean_pair before [] clean i h = omega arith
clean_pair before (x ∷ []) clean zero h = omega arith
clean_pair before (x ∷ []) clean (suc i) h = omega arith
clean_pair before (x ∷ y ∷ ys) clean zero h =
    let rest : (bits_after x (y ∷ ys)).fault ≡ Ended = sym (ap (λ (r : Bits). r.fault) (clean_first before x (y ∷ ys) clean).1) ∙ clean in
    let plain : is_stuffed x y ≡ false = (clean_first x y ys rest).0 in
    let test : nat_le 128 y ≡ false = subst (λ (z : ℕ). is_stuffed z y ≡ false) h plain in
    grind (arith, nat_tests)
clean_pair before (x ∷ y ∷ ys) clean (suc i) h =
    let rest : (bits_after x (y ∷ ys)).fault ≡ Ended = sym (ap (λ (r : Bits). r.fault) (clean_first before x (y ∷ ys) clean).1) ∙ clean in
    clean_pair x (y ∷ ys) rest i h

-- where bits end, with bytes counted from a number on
abbrev ends_from : ℕ → ℕ → List ℕ → ℕ → Result ℕ BitFault
ends_from before base bytes used = cond (last_after before (take used bytes) == 255) (past_last_ff (base + used) (drop used bytes)) (Ok (base + used))

-- they end where they were written to end
written_end : (fuel before base : ℕ) (bits : List Bool) (rest : List ℕ) → length bits < fuel →
    ends_from before base (bytes_from fuel before bits ++ rest) (bytes_for before (bytes_from fuel before bits ++ rest) (length bits)) ≡ Ok (base + length (bytes_from fuel before bits))
written_end zero before base bits rest enough = absurd (omega arith)
written_end (suc fuel) before base [] rest enough = by (before == 255)
  where
    by : (x : Bool) → cond x (past_last_ff (base + 0) (cond x (0 ∷ []) [] ++ rest)) (Ok (base + 0)) ≡ Ok (base + length {A = ℕ} (cond x (0 ∷ []) []))
    by true = let e : base + 0 + 1 ≡ base + 1 = omega arith in ap Ok e
    by false = refl
written_end (suc fuel) before base (bit ∷ bits) rest enough =
    let b = number_of (room before) (bit ∷ bits) in
    let tail = drop (room before) (bit ∷ bits) in
    let w = bytes_from fuel b tail ++ rest in
    let r : 0 < room before = room-pos before in
    let long : length tail ≡ suc (length bits) - room before = length-drop (room before) (bit ∷ bits) in
    let fewer : length tail < fuel = omega arith in
    let u = bytes_for b w (suc (length bits) - room before) in
    let next : base + suc u ≡ base + 1 + u = omega arith in
    let size : base + 1 + length (bytes_from fuel b tail) ≡ base + suc (length (bytes_from fuel b tail)) = omega arith in
    ap (λ (k : ℕ). cond (last_after b (take u w) == 255) (past_last_ff k (drop u w)) (Ok k)) next
    ∙ ap (λ (n : ℕ). ends_from b (base + 1) w (bytes_for b w n)) (sym long)
    ∙ written_end fuel b (base + 1) tail rest fewer
    ∙ ap Ok size

pub read_back : (bits : List Bool) (rest : List ℕ) → ReadsBack bits rest
read_back bits rest =
    let m : IsWritten 0 bits (bytes_of bits) = made (suc (length bits)) 0 bits (omega arith) in
    let tail = (bits_after (last_after 0 (bytes_of bits)) rest).bits in
    let u = bytes_for 0 (bytes_of bits ++ rest) (length bits) in
    let zero_base : 0 + u ≡ u = omega arith in
    let zero_size : 0 + length (bytes_of bits) ≡ length (bytes_of bits) = omega arith in
    record {
      more = replicate m.filling false ++ tail;
      first = ap (λ (r : Bits). r.bits) (bits_after-append 0 (bytes_of bits) rest m.clean) ∙ ap (λ (l : List Bool). l ++ tail) m.are_bits ∙ append_assoc bits (replicate m.filling false) tail;
      end = ap (λ (k : ℕ). cond (last_after 0 (take u (bytes_of bits ++ rest)) == 255) (past_last_ff k (drop u (bytes_of bits ++ rest))) (Ok k)) (sym zero_base)
          ∙ written_end (suc (length bits)) 0 0 bits rest (omega arith) ∙ ap Ok zero_size;
    }

-- the bytes that some bits take
pub record Cut (before : ℕ) (bytes : List ℕ) (n used : ℕ) : Type 0 where
  within : used ≤ length bytes
  filling : List Bool
  few : length filling < 8
  are_bits : (bits_after before (take used bytes)).bits ≡ take n (bits_after before bytes).bits ++ filling
  clean : (bits_after before (take used bytes)).fault ≡ Ended

plain_first : (s : Bool) (r : Bits) → 0 < length (cond s none_after_stuffed r).bits → (s ≡ false) × (cond s none_after_stuffed r ≡ r)
plain_first true r some = absurd (omega arith)
plain_first false r some = (refl, refl)

-- where they end in the first byte
cut_short : (before b : ℕ) (bytes : List ℕ) (n : ℕ) → is_stuffed before b ≡ false → 0 < n → n ≤ room before → Cut before (b ∷ bytes) n 1
cut_short before b bytes n plain some fits =
    let le : room before ≤ 8 = room-le before in
    let low = low_bits (room before) b in
    let long : length low ≡ room before = length-low_bits (room before) b in
    let within : n ≤ length low = omega arith in
    let all : bits_after before (b ∷ bytes) ≡ before_all low (bits_after b bytes) = ap (λ (s : Bool). cond s none_after_stuffed (before_all low (bits_after b bytes))) plain in
    let one : bits_after before (b ∷ []) ≡ before_all low (bits_after b []) = ap (λ (s : Bool). cond s none_after_stuffed (before_all low (bits_after b []))) plain in
    let front : take n (bits_after before (b ∷ bytes)).bits ≡ take n low = ap (λ (r : Bits). take n r.bits) all ∙ take-append-le n low (bits_after b bytes).bits within in
    record {
      within = omega arith;
      filling = drop n low;
      few = omega (arith, length-drop n low);
      are_bits = ap (λ (r : Bits). r.bits) one ∙ append-nil low ∙ sym (take-append-drop n low) ∙ ap (λ (l : List Bool). l ++ drop n low) (sym front);
      clean = ap (λ (r : Bits). r.fault) one;
    }

-- where they end in a later one
cut_long : (before b : ℕ) (bytes : List ℕ) (n u : ℕ) → is_stuffed before b ≡ false → room before ≤ n → Cut b bytes (n - room before) u → Cut before (b ∷ bytes) n (suc u)
cut_long before b bytes n u plain enough c =
    let low = low_bits (room before) b in
    let rest = (bits_after b bytes).bits in
    let long : length low ≡ room before = length-low_bits (room before) b in
    let sum : length low + (n - room before) ≡ n = omega arith in
    let all : bits_after before (b ∷ bytes) ≡ before_all low (bits_after b bytes) = ap (λ (s : Bool). cond s none_after_stuffed (before_all low (bits_after b bytes))) plain in
    let cut : bits_after before (b ∷ take u bytes) ≡ before_all low (bits_after b (take u bytes)) = ap (λ (s : Bool). cond s none_after_stuffed (before_all low (bits_after b (take u bytes)))) plain in
    let front : take n (bits_after before (b ∷ bytes)).bits ≡ low ++ take (n - room before) rest =
    ap (λ (r : Bits). take n r.bits) all ∙ ap (λ (k : ℕ). take k (low ++ rest)) (sym sum) ∙ take-append-add low rest (n - room before) in
    let inside : u ≤ length bytes = c.within in
    record {
      within = omega arith;
      filling = c.filling;
      few = c.few;
      are_bits = ap (λ (r : Bits). r.bits) cut ∙ ap (λ (l : List Bool). low ++ l) c.are_bits ∙ sym (append_assoc low (take (n - room before) rest) c.filling) ∙ ap (λ (l : List Bool). l ++ c.filling) (sym front);
      clean = ap (λ (r : Bits). r.fault) cut ∙ c.clean;
    }

cut_byte : (before b : ℕ) (bytes : List ℕ) (n u : ℕ) → is_stuffed before b ≡ false → 0 < n → Cut b bytes (n - room before) u → (n ≤ room before → u ≡ 0) → Cut before (b ∷ bytes) n (suc u)
cut_byte before b bytes n u plain some c zero_when = by (nat_le n (room before)) refl
  where
    by : (x : Bool) → nat_le n (room before) ≡ x → Cut before (b ∷ bytes) n (suc u)
    by true e = let le : n ≤ room before = grind (arith, nat_tests) in subst (λ (k : ℕ). Cut before (b ∷ bytes) n (suc k)) (sym (zero_when le)) (cut_short before b bytes n plain some le)
    by false e = let le : room before ≤ n = grind (arith, nat_tests) in cut_long before b bytes n u plain le c

pub cut_at : (before : ℕ) (bytes : List ℕ) (n : ℕ) → n ≤ length (bits_after before bytes).bits → Cut before bytes n (bytes_for before bytes n)
cut_at before bytes zero enough = record { within = omega arith; filling = []; few = omega arith; are_bits = refl; clean = refl }
cut_at before [] (suc n) enough = absurd (omega arith)
cut_at before (b ∷ bytes) (suc n) enough =
    let p = plain_first (is_stuffed before b) (before_all (low_bits (room before) b) (bits_after b bytes)) (omega arith) in
    let r : 0 < room before = room-pos before in
    let long : length (bits_after before (b ∷ bytes)).bits ≡ room before + length (bits_after b bytes).bits =
    ap (λ (x : Bits). length x.bits) p.1 ∙ length-append (low_bits (room before) b) (bits_after b bytes).bits ∙ ap (λ (k : ℕ). k + length (bits_after b bytes).bits) (length-low_bits (room before) b) in
    cut_byte before b bytes (suc n) (bytes_for b bytes (suc n - room before)) p.0 (omega arith) (cut_at b bytes (suc n - room before) (omega arith)) (λ (h : suc n ≤ room before). (let z : suc n - room before ≡ 0 = omega arith in ap (bytes_for b bytes) z))

past_ok : (u used : ℕ) (l : List ℕ) → past_last_ff u l ≡ Ok used → (b : ℕ) × (rest : List ℕ) × (l ≡ b ∷ rest) × (nat_le 128 b ≡ false) × (used ≡ u + 1)
past_ok u used [] h = absurd cc
past_ok u used (b ∷ rest) h = by (nat_le 128 b) refl h
  where
    by : (x : Bool) → nat_le 128 b ≡ x → cond x (Err Stuffed) (Ok (u + 1)) ≡ Ok used → (c : ℕ) × (more : List ℕ) × (b ∷ rest ≡ c ∷ more) × (nat_le 128 c ≡ false) × (used ≡ u + 1)
    by true e k = absurd cc
    by false e k = (b, rest, refl, e, (let same : used ≡ u + 1 = cc in same))

-- how much filling there may be
few_here : (k : ℕ) (b : Bool) → k < 8 → k < cond b 15 8
few_here k true lt = omega arith
few_here k false lt = lt

few_past : (k last : ℕ) → k < 15 → last ≡ 255 → k < cond (last == 255) 15 8
few_past k last lt e = let is : (last == 255) ≡ true = grind (arith, nat_tests) in subst (λ (b : Bool). k < cond b 15 8) (sym is) lt

-- behind a last FF one more byte
ends_past : (bytes : List ℕ) (n u b : ℕ) (rest : List ℕ) → Cut 0 bytes n u → last_after 0 (take u bytes) ≡ 255 → drop u bytes ≡ b ∷ rest → nat_le 128 b ≡ false → EndsAt bytes n (u + 1)
ends_past bytes n u b rest c is cut plain =
    let small : b < 128 = grind (arith, nat_tests) in
    let more : take (u + 1) bytes ≡ take u bytes ++ b ∷ [] = take-push u bytes b rest cut in
    let pushed : bits_of (take (u + 1) bytes) ≡ record { bits = (bits_of (take u bytes)).bits ++ low_bits (room (last_after 0 (take u bytes))) b; fault = Ended } =
    ap bits_of more ∙ bits_after-push 0 (take u bytes) b c.clean (subst (λ (z : ℕ). is_stuffed z b ≡ false) (sym is) plain) in
    let long : length (low_bits (room (last_after 0 (take u bytes))) b) ≡ 7 = length-low_bits (room (last_after 0 (take u bytes))) b ∙ ap room is in
    let last : last_after 0 (take (u + 1) bytes) ≡ b = ap (last_after 0) more ∙ last_push 0 (take u bytes) b in
    let some : 0 < length (drop u bytes) = rw cut (omega arith) in
    let few : length c.filling < 8 = c.few in
    record {
      within = omega (arith, length-drop u bytes);
      filling = c.filling ++ low_bits (room (last_after 0 (take u bytes))) b;
      few = few_past (length (c.filling ++ low_bits (room (last_after 0 (take u bytes))) b)) (last_after 0 (take (u + 1 - 1) bytes))
          (omega (arith, length-append c.filling (low_bits (room (last_after 0 (take u bytes))) b))) (ap (λ (k : ℕ). last_after 0 (take k bytes)) (let e : u + 1 - 1 ≡ u = omega arith in e) ∙ is);
      are_bits = ap (λ (r : Bits). r.bits) pushed ∙ ap (λ (l : List Bool). l ++ low_bits (room (last_after 0 (take u bytes))) b) c.are_bits
          ∙ append_assoc (take n (bits_of bytes).bits) c.filling (low_bits (room (last_after 0 (take u bytes))) b);
      clean = ap (λ (r : Bits). r.fault) pushed;
      last = rw last (λ (h : b ≡ 255). omega arith);
    }

pub ends_at : (bytes : List ℕ) (n used : ℕ) → n ≤ length (bits_of bytes).bits → end_after bytes n ≡ Ok used → EndsAt bytes n used
ends_at bytes n used enough h = by (last_after 0 (take (bytes_for 0 bytes n) bytes) == 255) refl h
  where
    by : (x : Bool) → (last_after 0 (take (bytes_for 0 bytes n) bytes) == 255) ≡ x → cond x (past_last_ff (bytes_for 0 bytes n) (drop (bytes_for 0 bytes n) bytes)) (Ok (bytes_for 0 bytes n)) ≡ Ok used → EndsAt bytes n used
    by true e k =
        let p = past_ok (bytes_for 0 bytes n) used (drop (bytes_for 0 bytes n) bytes) k in
        let is : last_after 0 (take (bytes_for 0 bytes n) bytes) ≡ 255 = grind (arith, nat_tests) in
        subst (λ (m : ℕ). EndsAt bytes n m) (sym p.4) (ends_past bytes n (bytes_for 0 bytes n) p.0 p.1 (cut_at 0 bytes n enough) is p.2 p.3)
    by false e k =
        let same : bytes_for 0 bytes n ≡ used = cc in
        let other : last_after 0 (take (bytes_for 0 bytes n) bytes) ≢ 255 = grind (arith, nat_tests) in
        let c = cut_at 0 bytes n enough in
        let few : length c.filling < 8 = c.few in
        subst (λ (m : ℕ). EndsAt bytes n m) same (record { within = c.within; filling = c.filling; few = few_here (length c.filling) (last_after 0 (take (bytes_for 0 bytes n - 1) bytes) == 255) few; are_bits = c.are_bits; clean = c.clean; last = other })

-- ---- no other place is the end
-- without a stuffed 1 among some bytes, there is none among those before the last, and the last's is 0
clean_last : (before : ℕ) (xs : List ℕ) (b : ℕ) → (bits_after before (xs ++ b ∷ [])).fault ≡ Ended → ((bits_after before xs).fault ≡ Ended) × (is_stuffed (last_after before xs) b ≡ false)
clean_last before [] b h = (refl, (clean_first before b [] h).0)
clean_last before (x ∷ xs) b h =
    let f = clean_first before x (xs ++ b ∷ []) h in
    let rest_clean : (bits_after x (xs ++ b ∷ [])).fault ≡ Ended = sym (ap (λ (r : Bits). r.fault) f.1) ∙ h in
    let again = clean_last x xs b rest_clean in
    (ap (λ (s : Bool). (cond s none_after_stuffed (before_all (low_bits (room before) x) (bits_after x xs))).fault) f.0 ∙ again.0, again.1)

-- the last of some bytes, and those before it
record LastByte (bytes : List ℕ) (u : ℕ) : Type 0 where
  byte : ℕ
  behind : List ℕ
  cut : drop u bytes ≡ byte ∷ behind
  whole : bytes ≡ take u bytes ++ byte ∷ behind
  more : take (u + 1) bytes ≡ take u bytes ++ byte ∷ []
  clean : (bits_of (take u bytes)).fault ≡ Ended
  plain : is_stuffed (last_after 0 (take u bytes)) byte ≡ false
  count : length (bits_of (take (u + 1) bytes)).bits ≡ length (bits_of (take u bytes)).bits + room (last_after 0 (take u bytes))
  front : length (take u bytes) ≡ u

last_byte : (bytes : List ℕ) (u : ℕ) → u + 1 ≤ length bytes → (bits_of (take (u + 1) bytes)).fault ≡ Ended → LastByte bytes u
last_byte bytes u within clean =
    let lt : u < length bytes = omega arith in
    let b = get_or bytes u 0 in
    let cut : drop u bytes ≡ b ∷ drop (u + 1) bytes = drop_more bytes u 0 lt in
    let more : take (u + 1) bytes ≡ take u bytes ++ b ∷ [] = take-push u bytes b (drop (u + 1) bytes) cut in
    let c = clean_last 0 (take u bytes) b (ap (λ (l : List ℕ). (bits_of l).fault) (sym more) ∙ clean) in
    record {
      byte = b;
      behind = drop (u + 1) bytes;
      cut = cut;
      whole = sym (take-append-drop u bytes) ∙ ap (λ (l : List ℕ). take u bytes ++ l) cut;
      more = more;
      clean = c.0;
      plain = c.1;
      count = ap (λ (l : List ℕ). length (bits_of l).bits) more ∙ ap (λ (r : Bits). length r.bits) (bits_after-push 0 (take u bytes) b c.0 c.1)
          ∙ length-append (bits_of (take u bytes)).bits (low_bits (room (last_after 0 (take u bytes))) b)
          ∙ ap (λ (k : ℕ). length (bits_of (take u bytes)).bits + k) (length-low_bits (room (last_after 0 (take u bytes))) b);
      front = length-take-le u bytes (omega arith);
    }

-- the byte that has the last of n bits
has_last : (bytes : List ℕ) (u n : ℕ) → u + 1 ≤ length bytes → (bits_of (take (u + 1) bytes)).fault ≡ Ended → length (bits_of (take u bytes)).bits < n → n ≤ length (bits_of (take (u + 1) bytes)).bits →
    bytes_for 0 bytes n ≡ u + 1
has_last bytes u n within clean some few =
    let l = last_byte bytes u within clean in
    ap (λ (b : List ℕ). bytes_for 0 b n) l.whole
    ∙ bytes_for-cut 0 (take u bytes) l.byte l.behind n (ap (λ (b : List ℕ). (bits_of b).fault) (sym l.more) ∙ clean) some (subst (λ (b : List ℕ). n ≤ length (bits_of b).bits) l.more few)
    ∙ ap (λ (k : ℕ). k + 1) l.front

room_ff : (last : ℕ) → last ≡ 255 → room last ≡ 7
room_ff last e = grind (arith, nat_tests)

room_other : (last : ℕ) → last ≢ 255 → room last ≡ 8
room_other last ne = grind (arith, nat_tests)

-- where a byte may be FF, the one before it isn't
before_ff : (last b : ℕ) → is_stuffed last b ≡ false → b ≡ 255 → last ≢ 255
before_ff last b plain e is = absurd (let a : (last == 255) ≡ true = grind (arith, nat_tests) in let c : nat_le 128 b ≡ true = grind (arith, nat_tests) in let x : true ≡ false = sym (ap (λ (y : Bool). y && nat_le 128 b) a ∙ c) ∙ plain in cc)

after_ff : (last b : ℕ) → is_stuffed last b ≡ false → last ≡ 255 → nat_le 128 b ≡ false
after_ff last b plain e = let a : (last == 255) ≡ true = grind (arith, nat_tests) in sym (ap (λ (y : Bool). y && nat_le 128 b) a) ∙ plain

pub ends_only : (bytes : List ℕ) (n used : ℕ) → n ≤ length (bits_of bytes).bits → EndsAt bytes n used → end_after bytes n ≡ Ok used
ends_only bytes n zero enough e =
    let none : length (take n (bits_of bytes).bits ++ e.filling) ≡ 0 = ap (λ (l : List Bool). length l) (sym e.are_bits) in
    let long : length (take n (bits_of bytes).bits ++ e.filling) ≡ length (take n (bits_of bytes).bits) + length e.filling = length-append (take n (bits_of bytes).bits) e.filling in
    let size : length (take n (bits_of bytes).bits) ≡ n = length-take-le n (bits_of bytes).bits enough in
    let zero_bits : n ≡ 0 = omega arith in
    ap (end_after bytes) zero_bits
ends_only bytes n (suc u) enough e =
    elim (cases_lt (length (bits_of (take u bytes)).bits) n) [
      | inl lt ↦ here lt
      | inr ge ↦ elim (cases_eq (last_after 0 (take u bytes)) 255) [ inl is ↦ past is ge | inr ne ↦ absurd (none ne ge) ]
    ]
  where
    add : suc u ≡ u + 1
    add = omega arith

    within : u + 1 ≤ length bytes
    within = subst (λ (k : ℕ). k ≤ length bytes) add e.within

    clean : (bits_of (take (u + 1) bytes)).fault ≡ Ended
    clean = ap (λ (k : ℕ). (bits_of (take k bytes)).fault) (sym add) ∙ e.clean

    l : LastByte bytes u
    l = last_byte bytes u within clean

    all : length (bits_of (take (u + 1) bytes)).bits ≡ n + length e.filling
    all = ap (λ (k : ℕ). length (bits_of (take k bytes)).bits) (sym add) ∙ ap (λ (bs : List Bool). length bs) e.are_bits
        ∙ length-append (take n (bits_of bytes).bits) e.filling ∙ ap (λ (k : ℕ). k + length e.filling) (length-take-le n (bits_of bytes).bits enough)

    few : length e.filling < cond (last_after 0 (take u bytes) == 255) 15 8
    few = subst (λ (k : ℕ). length e.filling < cond (last_after 0 (take k bytes) == 255) 15 8) (let s : suc u - 1 ≡ u = omega arith in s) e.few

    other : last_after 0 (take (u + 1) bytes) ≢ 255
    other = subst (λ (k : ℕ). last_after 0 (take k bytes) ≢ 255) add e.last

    here : length (bits_of (take u bytes)).bits < n → end_after bytes n ≡ Ok (suc u)
    here lt =
        let le : n ≤ length (bits_of (take (u + 1) bytes)).bits = (let a : length (bits_of (take (u + 1) bytes)).bits ≡ n + length e.filling = all in omega arith) in
        let at : bytes_for 0 bytes n ≡ u + 1 = has_last bytes u n within clean lt le in
        let no : (last_after 0 (take (u + 1) bytes) == 255) ≡ false = (let o : last_after 0 (take (u + 1) bytes) ≢ 255 = other in grind (arith, nat_tests)) in
        ap (λ (k : ℕ). cond (last_after 0 (take k bytes) == 255) (past_last_ff k (drop k bytes)) (Ok k)) at
        ∙ ap (λ (b : Bool). cond b (past_last_ff (u + 1) (drop (u + 1) bytes)) (Ok (u + 1))) no ∙ ap Ok (sym add)

    none : last_after 0 (take u bytes) ≢ 255 → n ≤ length (bits_of (take u bytes)).bits → ⊥
    none ne ge =
        let no : (last_after 0 (take u bytes) == 255) ≡ false = grind (arith, nat_tests) in
        let f : length e.filling < 8 = subst (λ (b : Bool). length e.filling < cond b 15 8) no few in
        let a : length (bits_of (take (u + 1) bytes)).bits ≡ n + length e.filling = all in
        let c : length (bits_of (take (u + 1) bytes)).bits ≡ length (bits_of (take u bytes)).bits + room (last_after 0 (take u bytes)) = l.count in
        let r : room (last_after 0 (take u bytes)) ≡ 8 = room_other (last_after 0 (take u bytes)) ne in
        omega arith

    past : last_after 0 (take u bytes) ≡ 255 → n ≤ length (bits_of (take u bytes)).bits → end_after bytes n ≡ Ok (suc u)
    past is ge = by u refl
      where
        by : (w : ℕ) → u ≡ w → end_after bytes n ≡ Ok (suc u)
        by zero z = absurd (let x : last_after 0 (take 0 bytes) ≡ 255 = subst (λ (k : ℕ). last_after 0 (take k bytes) ≡ 255) z is in let y : 0 ≡ 255 = x in omega arith)
        by (suc w) z =
            let at_w : u ≡ w + 1 = omega arith in
            let clean_w : (bits_of (take (w + 1) bytes)).fault ≡ Ended = subst (λ (k : ℕ). (bits_of (take k bytes)).fault ≡ Ended) at_w l.clean in
            let within_w : w + 1 ≤ length bytes = (let i : u + 1 ≤ length bytes = within in omega arith) in
            let m : LastByte bytes w = last_byte bytes w within_w clean_w in
            let ff : m.byte ≡ 255 = sym (last_push 0 (take w bytes) m.byte) ∙ ap (last_after 0) (sym m.more) ∙ ap (λ (k : ℕ). last_after 0 (take k bytes)) (sym at_w) ∙ is in
            let r : room (last_after 0 (take w bytes)) ≡ 8 = room_other (last_after 0 (take w bytes)) (before_ff (last_after 0 (take w bytes)) m.byte m.plain ff) in
            let yes : (last_after 0 (take u bytes) == 255) ≡ true = grind (arith, nat_tests) in
            let f : length e.filling < 15 = subst (λ (b : Bool). length e.filling < cond b 15 8) yes few in
            let a : length (bits_of (take (u + 1) bytes)).bits ≡ n + length e.filling = all in
            let c : length (bits_of (take (u + 1) bytes)).bits ≡ length (bits_of (take u bytes)).bits + room (last_after 0 (take u bytes)) = l.count in
            let s : room (last_after 0 (take u bytes)) ≡ 7 = room_ff (last_after 0 (take u bytes)) is in
            let c' : length (bits_of (take (w + 1) bytes)).bits ≡ length (bits_of (take w bytes)).bits + room (last_after 0 (take w bytes)) = m.count in
            let same : length (bits_of (take u bytes)).bits ≡ length (bits_of (take (w + 1) bytes)).bits = ap (λ (k : ℕ). length (bits_of (take k bytes)).bits) at_w in
            let at : bytes_for 0 bytes n ≡ w + 1 = has_last bytes w n within_w clean_w (omega arith) (omega arith) in
            let at' : bytes_for 0 bytes n ≡ u = omega arith in
            ap (λ (k : ℕ). cond (last_after 0 (take k bytes) == 255) (past_last_ff k (drop k bytes)) (Ok k)) at'
            ∙ ap (λ (b : Bool). cond b (past_last_ff u (drop u bytes)) (Ok u)) yes
            ∙ ap (past_last_ff u) l.cut
            ∙ ap (λ (b : Bool). cond b (Err Stuffed) (Ok (u + 1))) (after_ff (last_after 0 (take u bytes)) l.byte l.plain is)
            ∙ ap Ok (sym add)
