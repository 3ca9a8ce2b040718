-- Raw bits one by one, and the bytes that they depend on.
use Rattle.std.proofs.Common.{◌≡◌, ◌<◌, ◌≤◌, ◌+◌, ◌-◌, ℕ, zero, suc, Bool, true, false, List, [], ◌∷◌, ◌++◌, length, take, drop, replicate, refl, ap, sym, ◌∙◌, add-one, arith, eqb, inl, inr, append_assoc, length-append, length-drop}
use Rattle.std.proofs.lemmas.Bool.{cases_lt}
use Rattle.std.proofs.lemmas.Bool.Decides.{nat_tests}
use Rattle.std.proofs.lemmas.List.{take-append-le}
use Rattle.std.proofs.Math.Seq.{take-append-add}
use Rattle.jx_coder_specs.specs.RawBits.{raw_width, raw_bits_after, raw_bits, bits_of, raw_read, raw_looked_after, raw_looked}
use Rattle.jx_raw.specs.RawReading.{first_or_one}
use Rattle.jx_raw.proofs.Reading.{length-bits_of, room}

nothing_left : (n : ℕ) → drop {A = Bool} n [] ≡ []
nothing_left zero = refl
nothing_left (suc n) = refl

-- the next of a list's items and of the ones after them
next_of : (bits : List Bool) (n pad : ℕ) → n < pad → take (suc n) (bits ++ replicate pad true) ≡ take n (bits ++ replicate pad true) ++ first_or_one (drop n bits) ∷ []
next_of [] zero zero less = absurd (omega arith)
next_of [] zero (suc pad) less = refl
next_of [] (suc n) zero less = absurd (omega arith)
next_of [] (suc n) (suc pad) less =
    let none : drop {A = Bool} n [] ≡ [] = nothing_left n in
    let rest : take (suc n) (replicate pad true) ≡ take n (replicate pad true) ++ true ∷ [] = rw none at (next_of [] n pad (omega arith)) in
    ap (λ (tail : List Bool). true ∷ tail) rest
next_of (bit ∷ bits) zero pad less = refl
next_of (bit ∷ bits) (suc n) pad less = ap (λ (rest : List Bool). bit ∷ rest) (next_of bits n pad (omega arith))

-- the ones after the bits may be any number that is enough
pub pads : (bits : List Bool) (n pad more : ℕ) → n ≤ pad → n ≤ more → take n (bits ++ replicate pad true) ≡ take n (bits ++ replicate more true)
pads bits zero pad more p q = refl
pads [] (suc n) zero more p q = absurd (omega arith)
pads [] (suc n) (suc pad) zero p q = absurd (omega arith)
pads [] (suc n) (suc pad) (suc more) p q = ap (λ (rest : List Bool). true ∷ rest) (pads [] n pad more (omega arith) (omega arith))
pads (bit ∷ bits) (suc n) pad more p q = ap (λ (rest : List Bool). bit ∷ rest) (pads bits n pad more (omega arith) (omega arith))

pub read_next : (segment : List ℕ) (n : ℕ) → raw_read segment (n + 1) ≡ raw_read segment n ++ first_or_one (drop n (raw_bits segment)) ∷ []
read_next segment n =
    rw add-one (next_of (raw_bits segment) n (suc n) (omega arith) ∙ ap (λ (front : List Bool). front ++ first_or_one (drop n (raw_bits segment)) ∷ [])
    (pads (raw_bits segment) n (suc n) n (omega arith) (omega arith)))

isnt_zero : (n : ℕ) → 0 < n → eqb n 0 ≡ false
isnt_zero n some = grind (arith, nat_tests)

-- bits past the end look at no more bytes
looked_total : (before : ℕ) (bytes : List ℕ) (n : ℕ) → length (raw_bits_after before bytes) ≤ n → raw_looked_after before bytes n ≡ length bytes
looked_total before [] n most = refl
looked_total before (byte ∷ rest) n most =
    let whole : length (raw_bits_after before (byte ∷ rest)) ≡ raw_width before + length (raw_bits_after byte rest) = rw length-append (rw length-bits_of refl) in
    let w = room before in
    rw (isnt_zero n (omega arith), looked_total byte rest (n - raw_width before) (omega arith)) (omega arith)

pub looked_most : (segment : List ℕ) (n : ℕ) → raw_looked segment (length (raw_bits segment) - length (drop n (raw_bits segment))) ≡ raw_looked segment n
looked_most segment n =
    elim (cases_lt n (length (raw_bits segment))) [
      | inl less ↦ let e : length (raw_bits segment) - (length (raw_bits segment) - n) ≡ n = omega arith in rw (length-drop, e) refl
      | inr more ↦
          let e : length (raw_bits segment) - (length (raw_bits segment) - n) ≡ length (raw_bits segment) = omega arith in
          rw (length-drop, e) (looked_total 0 segment (length (raw_bits segment)) (omega arith) ∙ sym (looked_total 0 segment n more))
    ]

pub looked_some : (before byte : ℕ) (rest : List ℕ) (n : ℕ) → 0 < n → raw_looked_after before (byte ∷ rest) n ≡ 1 + raw_looked_after byte rest (n - raw_width before)
looked_some before byte rest n some = rw (isnt_zero n some) refl

-- the first bits depend on the bytes looked at alone
cut_after : (before : ℕ) (bytes : List ℕ) (n k pad : ℕ) → raw_looked_after before bytes n ≤ k → n ≤ pad →
    take n (raw_bits_after before (take k bytes) ++ replicate pad true) ≡ take n (raw_bits_after before bytes ++ replicate pad true)
cut_after before [] n zero pad most enough = refl
cut_after before [] n (suc k) pad most enough = refl
cut_after before (byte ∷ rest) zero k pad most enough = refl
cut_after before (byte ∷ rest) (suc n) zero pad most enough = absurd (let some = looked_some before byte rest (suc n) (omega arith) in omega arith)
cut_after before (byte ∷ rest) (suc n) (suc k) pad most enough =
    let some = looked_some before byte rest (suc n) (omega arith) in
    let long : length (bits_of (raw_width before) byte) ≡ raw_width before = length-bits_of (raw_width before) byte in
    let short : List Bool = raw_bits_after byte (take k rest) ++ replicate pad true in
    let whole : List Bool = raw_bits_after byte rest ++ replicate pad true in
    rw (append_assoc (bits_of (raw_width before) byte) (raw_bits_after byte (take k rest)) (replicate pad true), append_assoc (bits_of (raw_width before) byte) (raw_bits_after byte rest) (replicate pad true))
    (elim (cases_lt (suc n) (raw_width before)) [
      | inl less ↦
          let inside : suc n ≤ length (bits_of (raw_width before) byte) = omega arith in
          take-append-le (suc n) (bits_of (raw_width before) byte) short inside ∙ sym (take-append-le (suc n) (bits_of (raw_width before) byte) whole inside)
      | inr more ↦
          let m : ℕ = suc n - raw_width before in
          let e : suc n ≡ length (bits_of (raw_width before) byte) + (suc n - raw_width before) = omega arith in
          let rest_same : take (suc n - raw_width before) (raw_bits_after byte (take k rest) ++ replicate pad true) ≡ take (suc n - raw_width before) (raw_bits_after byte rest ++ replicate pad true) =
          cut_after byte rest (suc n - raw_width before) k pad (omega arith) (omega arith) in
          ap (λ (i : ℕ). take i (bits_of (raw_width before) byte ++ short)) e
          ∙ take-append-add (bits_of (raw_width before) byte) short (suc n - raw_width before)
          ∙ ap (λ (tail : List Bool). bits_of (raw_width before) byte ++ tail) rest_same
          ∙ sym (take-append-add (bits_of (raw_width before) byte) whole (suc n - raw_width before))
          ∙ ap (λ (i : ℕ). take i (bits_of (raw_width before) byte ++ whole)) (sym e)
    ])

pub cut_bits : (segment : List ℕ) (n k : ℕ) → raw_looked segment n ≤ k → raw_read (take k segment) n ≡ raw_read segment n
cut_bits segment n k most = cut_after 0 segment n k n most (omega arith)
