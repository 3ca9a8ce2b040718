-- The places that the first bytes of a segment have, and how many bytes have one of so many.
use Rattle.std.proofs.Common.{◌≡◌, ◌<◌, ◌≤◌, ◌+◌, ◌-◌, ℕ, zero, suc, false, List, [], ◌∷◌, length, drop, get_or, refl, arith, eqb}
use Rattle.std.proofs.lemmas.Bool.Decides.{nat_tests}
use Rattle.std.proofs.lemmas.Grind.{get_or_default_zero}
use Rattle.jx_coder_specs.specs.MqReading.{mq_byte}
use Rattle.jx_coder_specs.specs.MqWriting.{mq_newest}
use Rattle.jx_coder_specs.specs.RawBits.{raw_width, raw_looked_after}
use Rattle.jx_mq.specs.Fraction.{size, front}

-- how many places the first bytes after a byte have
abbrev pub places : ℕ → List ℕ → ℕ → ℕ
places before bytes zero = 0
places before [] (suc k) = 0
places before (byte ∷ rest) (suc k) = raw_width before + places byte rest k

pub widths : (before : ℕ) → (7 ≤ raw_width before) × (raw_width before ≤ 8)
widths before = (grind (arith, nat_tests), grind (arith, nat_tests))

pub places_next : (before : ℕ) (bytes : List ℕ) (k : ℕ) → k < length bytes → places before bytes (suc k) ≡ places before bytes k + raw_width (get_or (before ∷ bytes) k 0)
places_next before [] k less = absurd (omega arith)
places_next before (byte ∷ rest) zero less = omega arith
places_next before (byte ∷ rest) (suc k) less = let more = places_next byte rest k (omega arith) in omega arith

isnt_zero : (n : ℕ) → 0 < n → eqb n 0 ≡ false
isnt_zero n some = grind (arith, nat_tests)

looked_none : (before : ℕ) (bytes : List ℕ) → raw_looked_after before bytes 0 ≡ 0
looked_none before [] = refl
looked_none before (byte ∷ rest) = refl

-- the last place is one of the next byte
pub looked_within : (before : ℕ) (bytes : List ℕ) (n k : ℕ) → suc k ≤ length bytes → places before bytes k < n → n ≤ places before bytes (suc k) → raw_looked_after before bytes n ≡ suc k
looked_within before [] n k within over most = absurd (omega arith)
looked_within before (byte ∷ rest) n zero within over most =
    let none : n - raw_width before ≡ 0 = omega arith in
    rw (isnt_zero n over, none, looked_none byte rest) refl
looked_within before (byte ∷ rest) n (suc k) within over most =
    let w = widths before in
    rw (isnt_zero n (omega arith), looked_within byte rest (n - raw_width before) k (omega arith) (omega arith) (omega arith)) (omega arith)

-- or lies past the end
pub looked_all : (before : ℕ) (bytes : List ℕ) (n : ℕ) → places before bytes (length bytes) ≤ n → raw_looked_after before bytes n ≡ length bytes
looked_all before [] n over = refl
looked_all before (byte ∷ rest) n over =
    let w = widths before in
    rw (isnt_zero n (omega arith), looked_all byte rest (n - raw_width before) (omega arith)) (omega arith)

-- counted from a byte on
pub looked_behind : (before : ℕ) (bytes : List ℕ) (m n : ℕ) → m ≤ length bytes → raw_looked_after before bytes (places before bytes m + n) ≡ m + raw_looked_after (get_or (before ∷ bytes) m 0) (drop m bytes) n
looked_behind before bytes zero n within =
    let e : 0 + n ≡ n = omega arith in
    rw e (omega arith)
looked_behind before [] (suc m) n within = absurd (omega arith)
looked_behind before (byte ∷ rest) (suc m) n within =
    let w = widths before in
    let e : raw_width before + places byte rest m + n - raw_width before ≡ places byte rest m + n = omega arith in
    rw (isnt_zero (raw_width before + places byte rest m + n) (omega arith), e, looked_behind byte rest m n (omega arith)) (omega arith)

newest_front : (s : List ℕ) (m : ℕ) → m ≤ length s → mq_newest (front (mq_byte s) m) ≡ get_or (0 ∷ s) m 0
newest_front s zero within = refl
newest_front s (suc m) within = get_or_default_zero s m 255 (omega arith)

-- with the byte 0 before the first
pub front_places : (s : List ℕ) (m : ℕ) → m ≤ length s → size (front (mq_byte s) m) ≡ 8 + places 0 s m
front_places s zero within = refl
front_places s (suc m) within =
    let rest = front_places s m (omega arith) in
    let next = places_next 0 s m (omega arith) in
    rw (newest_front s m (omega arith)) (omega arith)
