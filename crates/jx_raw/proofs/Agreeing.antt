-- Segments that agree as far as a reader looks, a last FF that is left out, and how far a reader looks for more bits.
use Rattle.std.proofs.Common.{◌≡◌, ◌≤◌, ◌+◌, ◌-◌, ℕ, zero, suc, Bool, true, List, [], ◌∷◌, ◌++◌, length, take, drop, replicate, inl, inr, refl, ap, sym, ◌∙◌, arith, append_assoc, length-append}
use Rattle.std.proofs.lemmas.Bool.{cases_Bool, cond-true, cond-false}
use Rattle.std.specs.Prelude.{◌==◌, get_or}
use Rattle.jx_coder_specs.specs.RawBits.{raw_width, raw_bits_after, raw_bits, bits_of, raw_read, raw_looked_after, raw_looked}
use Rattle.jx_raw.proofs.Reading.{length-bits_of}
use Rattle.jx_raw.proofs.Looking.{looked_some, pads, cut_bits}

-- for more bits no fewer bytes are looked at
pub looked_grows : (before : ℕ) (bytes : List ℕ) (m n : ℕ) → m ≤ n → raw_looked_after before bytes m ≤ raw_looked_after before bytes n
looked_grows before [] m n le = omega arith
looked_grows before (byte ∷ rest) zero n le = omega arith
looked_grows before (byte ∷ rest) (suc m) n le =
    let less = looked_grows byte rest (suc m - raw_width before) (n - raw_width before) (omega arith) in
    let here = looked_some before byte rest (suc m) (omega arith) in
    let there = looked_some before byte rest n (omega arith) in
    omega arith

pub looked_more : (segment : List ℕ) (m n : ℕ) → m ≤ n → raw_looked segment m ≤ raw_looked segment n
looked_more segment m n le = looked_grows 0 segment m n le

-- lists that agree behind a front
behind : (front p q : List Bool) (n : ℕ) → ((m : ℕ) → m ≤ n → take m p ≡ take m q) → take n (front ++ p) ≡ take n (front ++ q)
behind [] p q n h = h n (omega arith)
behind (bit ∷ front) p q zero h = refl
behind (bit ∷ front) p q (suc n) h = ap (λ (rest : List Bool). bit ∷ rest) (behind front p q n (λ (m : ℕ) (le : m ≤ n). h m (omega arith)))

-- ones before ones
ones : (width n pad more : ℕ) → n ≤ pad → n ≤ more → take n (replicate width true ++ replicate pad true) ≡ take n (replicate more true)
ones zero n pad more p q = pads [] n pad more p q
ones (suc width) zero pad more p q = refl
ones (suc width) (suc n) pad zero p q = absurd (omega arith)
ones (suc width) (suc n) pad (suc more) p q = ap (λ (rest : List Bool). true ∷ rest) (ones width n pad more (omega arith) (omega arith))

all_ones : (before : ℕ) → bits_of (raw_width before) 255 ≡ replicate (raw_width before) true
all_ones before = elim (cases_Bool (before == 255)) [
  | inl t ↦ let e : raw_width before ≡ 7 = cond-true (before == 255) 7 8 t in rw e refl
  | inr f ↦ let e : raw_width before ≡ 8 = cond-false (before == 255) 7 8 f in rw e refl
]

dropped_after : (before : ℕ) (bytes : List ℕ) (n pad : ℕ) → n ≤ pad →
    take n (raw_bits_after before (bytes ++ 255 ∷ []) ++ replicate pad true) ≡ take n (raw_bits_after before bytes ++ replicate pad true)
dropped_after before [] n pad le =
    rw (append_assoc (bits_of (raw_width before) 255) [] (replicate pad true), all_ones before) (ones (raw_width before) n pad pad le le)
dropped_after before (byte ∷ rest) n pad le =
    rw (
      append_assoc (bits_of (raw_width before) byte) (raw_bits_after byte (rest ++ 255 ∷ [])) (replicate pad true),
      append_assoc (bits_of (raw_width before) byte) (raw_bits_after byte rest) (replicate pad true),
    )
    (behind (bits_of (raw_width before) byte) (raw_bits_after byte (rest ++ 255 ∷ []) ++ replicate pad true) (raw_bits_after byte rest ++ replicate pad true) n
    (λ (m : ℕ) (few : m ≤ n). dropped_after byte rest m pad (omega arith)))

pub dropped_bits : (segment : List ℕ) (n : ℕ) → raw_read (segment ++ 255 ∷ []) n ≡ raw_read segment n
dropped_bits segment n = dropped_after 0 segment n n (omega arith)

looked_step : (before byte : ℕ) (rest : List ℕ) (n : ℕ) → raw_looked_after before (byte ∷ rest) (suc n) ≡ suc (raw_looked_after byte rest (suc n - raw_width before))
looked_step before byte rest n = let some = looked_some before byte rest (suc n) (omega arith) in omega arith

-- a segment that agrees as far as is looked is looked at as far
looked_same : (before : ℕ) (s t : List ℕ) (n : ℕ) → n ≤ length (raw_bits_after before s) →
    take (raw_looked_after before s n) t ≡ take (raw_looked_after before s n) s → raw_looked_after before t n ≡ raw_looked_after before s n
looked_same before [] [] n le same = refl
looked_same before [] (other ∷ t) zero le same = refl
looked_same before [] (other ∷ t) (suc n) le same = absurd (omega arith)
looked_same before (byte ∷ s) [] zero le same = refl
looked_same before (byte ∷ s) [] (suc n) le same =
    let both = rw (looked_step before byte s n) at same in
    let long : 0 ≡ suc (length (take (raw_looked_after byte s (suc n - raw_width before)) s)) = ap (λ (l : List ℕ). length l) both in
    absurd (omega arith)
looked_same before (byte ∷ s) (other ∷ t) zero le same = refl
looked_same before (byte ∷ s) (other ∷ t) (suc n) le same =
    let here = looked_step before byte s n in
    let there = looked_step before other t n in
    let long : length (raw_bits_after before (byte ∷ s)) ≡ raw_width before + length (raw_bits_after byte s) = rw length-append (rw length-bits_of refl) in
    let both = rw here at same in
    let first : other ≡ byte = ap (λ (l : List ℕ). get_or l 0 0) both in
    let rest : take (raw_looked_after byte s (suc n - raw_width before)) t ≡ take (raw_looked_after byte s (suc n - raw_width before)) s = ap (λ (l : List ℕ). drop 1 l) both in
    let more : raw_looked_after byte t (suc n - raw_width before) ≡ raw_looked_after byte s (suc n - raw_width before) = looked_same byte s t (suc n - raw_width before) (omega arith) rest in
    there ∙ ap (λ (b : ℕ). suc (raw_looked_after b t (suc n - raw_width before))) first ∙ ap suc more ∙ sym here

pub same_bits : (s t : List ℕ) (n : ℕ) → n ≤ length (raw_bits s) → take (raw_looked s n) t ≡ take (raw_looked s n) s → raw_read t n ≡ raw_read s n
same_bits s t n le same =
    let e = looked_same 0 s t n le same in
    sym (cut_bits t n (raw_looked s n) (omega arith)) ∙ ap (λ (l : List ℕ). raw_read l n) same ∙ cut_bits s n (raw_looked s n) (omega arith)
