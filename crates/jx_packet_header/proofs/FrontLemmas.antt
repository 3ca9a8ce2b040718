-- Bits that are too few, or that have a length which is too large: where the words of a header don't stand, some word that
-- begins with the bits goes on.
use Rattle.std.proofs.Common.{◌≡◌, ℕ, zero, suc, ◌+◌, ◌-◌, ◌<◌, ◌≤◌, ◌^◌, nat_lt, Bool, true, false, List, [], ◌∷◌, ◌++◌, length, take, drop, replicate, refl, sym, ap, ◌∙◌, subst, cond, arith, append_assoc, length-append, pow_mono, Some, None, inl, inr, ◌⊎◌}
use Rattle.std.specs.Prelude.{Option, option_map, option_and_then}
use Rattle.std.proofs.lemmas.Bool.{cases_lt}
use Rattle.std.proofs.Math.Nat.{mod-eq_of_lt}
use Rattle.std.proofs.lemmas.List.{take-append-drop, append-nil, length-replicate, length-drop}
use Rattle.jx_tagtree.specs.Header.{low_bits, number_of}
use Rattle.jx_tagtree.proofs.WriterLemmas.{number_of-low_bits}
use Rattle.jx_tagtree.proofs.LawLemmas.{number_of-lt, low_bits-number_of}
use Rattle.jx_packet_header.specs.declared.HeaderPart.{HeaderPart}
use Rattle.jx_packet_header.specs.Words.{IsCount, pass_word}
use Rattle.jx_packet_header.specs.Parts.{width, AreHeaderParts, length_bits}
use Rattle.jx_packet_header.specs.Unread.{IsCutOf, IsLong, LengthsStop, PassesStop}
use Rattle.jx_packet_header.specs.Scan.{Found, scan_number, scan_passes, scan_passes_2, scan_passes_4, scan_raise, scan_parts, header_part, behind, plus}
use Rattle.jx_packet_header.proofs.WordLemmas.{found, number_read, NumberRead, number_made, number_whole, number_ended, number_large, passes_made, passes_read, one_word, PassesRead}

-- ---- what two lists begin with
pub front_of : (bits whole more rest : List Bool) → bits ++ more ≡ whole ++ rest → IsCutOf whole bits ⊎ ((left : List Bool) × (bits ≡ whole ++ left))
front_of bits [] more rest h = inr (bits, refl)
front_of [] (w ∷ whole) more rest h = inl (record { missing = w ∷ whole; some = omega arith; begins = refl })
front_of (b ∷ bits) (w ∷ whole) more rest h = by (front_of bits whole more rest cc)
  where
    same : b ≡ w
    same = cc

    by : IsCutOf whole bits ⊎ ((left : List Bool) × (bits ≡ whole ++ left)) → IsCutOf (w ∷ whole) (b ∷ bits) ⊎ ((left : List Bool) × (b ∷ bits ≡ (w ∷ whole) ++ left))
    by (inl c) = inl (record { missing = c.missing; some = c.some; begins = ap (λ (x : Bool). x ∷ whole) (sym same) ∙ ap (λ (l : List Bool). b ∷ l) c.begins })
    by (inr p) = inr (p.0, ap (λ (x : Bool). x ∷ bits) same ∙ ap (λ (l : List Bool). w ∷ l) p.1)

pub none_left : (rest missing : List Bool) → 0 < length missing → [] ≡ rest ++ missing → ⊥
none_left rest missing some h =
    let l : 0 ≡ length rest + length missing = ap (λ (x : List Bool). length x) h ∙ length-append rest missing in
    omega arith

-- bits behind which as many zeros stand as are asked for
pub padded : ℕ → List Bool → List Bool
padded n bits = bits ++ replicate n false

pub padded_long : (n : ℕ) (bits : List Bool) → n ≤ length (padded n bits)
unfolding padded
padded_long n bits =
    let a : length (bits ++ replicate n false) ≡ length bits + length (replicate n false) = length-append bits (replicate n false) in
    let r : length (replicate n false) ≡ n = length-replicate n false in
    omega arith

pub padded_split : (n : ℕ) (bits q rest : List Bool) → padded n bits ≡ q ++ rest → bits ++ replicate n false ≡ q ++ rest
unfolding padded
padded_split n bits q rest e = e

-- ---- numbers
pub number_none : (n : ℕ) (bits : List Bool) → scan_number n bits ≡ None → (length bits < n) ⊎ IsLong n bits
number_none n bits h = elim (cases_lt (length bits) n) [
  | inl lt ↦ inl lt
  | inr long ↦ elim (cases_lt (number_of n bits) (2 ^ 32)) [
    | inl short ↦ absurd (let e : Some (found (number_of n bits) (drop n bits)) ≡ None = sym (number_whole n bits long short) ∙ h in cc)
    | inr large ↦ inr (
        let none : n - length bits ≡ 0 = omega arith in
        let front : low_bits n (number_of n bits) ≡ take n bits =
        low_bits-number_of n bits ∙ ap (λ (k : ℕ). take n bits ++ replicate k false) none ∙ append-nil (take n bits) in
        record {
          number = number_of n bits;
          fits = number_of-lt n bits;
          long = large;
          behind = drop n bits;
          stands = sym (take-append-drop n bits) ∙ ap (λ (l : List Bool). l ++ drop n bits) (sym front);
        })
  ]
]

long_none : (n : ℕ) (bits : List Bool) → IsLong n bits → scan_number n bits ≡ None
long_none n bits x =
    let is : number_of n bits ≡ x.number = ap (number_of n) x.stands ∙ number_of-low_bits n x.number x.behind ∙ mod-eq_of_lt x.fits in
    number_large n n bits (let le : n ≤ n = omega arith in le) (subst (λ (m : ℕ). 2 ^ 32 ≤ m) (sym is) x.long)

pub number_stops : (n : ℕ) (bits : List Bool) → (length bits < n) ⊎ IsLong n bits → scan_number n bits ≡ None
number_stops n bits (inl lt) = number_ended n bits lt
number_stops n bits (inr x) = long_none n bits x

-- ---- the number of passes
scan_found : (n : ℕ) (bits : List Bool) → n ≤ length bits → n ≤ 32 → scan_number n bits ≡ Some (found (number_of n bits) (drop n bits))
scan_found n bits long few =
    let lt : number_of n bits < 2 ^ n = number_of-lt n bits in
    let le : 2 ^ n ≤ 2 ^ 32 = pow_mono few in
    number_whole n bits long (omega arith)

-- nine ones and seven bits more are enough for each code word
four_long : (bits : List Bool) → 12 ≤ length bits → (f : Found ℕ) × (scan_passes_4 bits ≡ Some f)
four_long bits long = by (nat_lt (number_of 5 bits) 31) refl
  where
    rest : List Bool
    rest = drop 5 bits

    few : 7 ≤ length (drop 5 bits)
    few = let e : length (drop 5 bits) ≡ length bits - 5 = length-drop 5 bits in omega arith

    step : (b : Bool) → nat_lt (number_of 5 bits) 31 ≡ b →
        scan_passes_4 bits ≡ cond b (Some (plus 6 (found (number_of 5 bits) (drop 5 bits)))) (option_map (plus 37) (scan_number 7 (drop 5 bits)))
    step b e =
        ap (option_and_then (λ (f : Found ℕ). cond (nat_lt f.value 31) (Some (plus 6 f)) (option_map (plus 37) (scan_number 7 f.rest)))) (scan_found 5 bits (omega arith) (omega arith))
        ∙ ap (λ (c : Bool). cond c (Some (plus 6 (found (number_of 5 bits) (drop 5 bits)))) (option_map (plus 37) (scan_number 7 (drop 5 bits)))) e

    by : (b : Bool) → nat_lt (number_of 5 bits) 31 ≡ b → (f : Found ℕ) × (scan_passes_4 bits ≡ Some f)
    by true e = (plus 6 (found (number_of 5 bits) (drop 5 bits)), step true e)
    by false e = (
      plus 37 (found (number_of 7 (drop 5 bits)) (drop 7 (drop 5 bits))),
      step false e ∙ ap (option_map (plus 37)) (scan_found 7 (drop 5 bits) few (omega arith)),
    )

two_long : (bits : List Bool) → 14 ≤ length bits → (f : Found ℕ) × (scan_passes_2 bits ≡ Some f)
two_long bits long = by (nat_lt (number_of 2 bits) 3) refl
  where
    few : 12 ≤ length (drop 2 bits)
    few = let e : length (drop 2 bits) ≡ length bits - 2 = length-drop 2 bits in omega arith

    step : (b : Bool) → nat_lt (number_of 2 bits) 3 ≡ b →
        scan_passes_2 bits ≡ cond b (Some (plus 3 (found (number_of 2 bits) (drop 2 bits)))) (scan_passes_4 (drop 2 bits))
    step b e =
        ap (option_and_then (λ (f : Found ℕ). cond (nat_lt f.value 3) (Some (plus 3 f)) (scan_passes_4 f.rest))) (scan_found 2 bits (omega arith) (omega arith))
        ∙ ap (λ (c : Bool). cond c (Some (plus 3 (found (number_of 2 bits) (drop 2 bits)))) (scan_passes_4 (drop 2 bits))) e

    by : (b : Bool) → nat_lt (number_of 2 bits) 3 ≡ b → (f : Found ℕ) × (scan_passes_2 bits ≡ Some f)
    by true e = (plus 3 (found (number_of 2 bits) (drop 2 bits)), step true e)
    by false e = let r = four_long (drop 2 bits) few in (r.0, step false e ∙ r.1)

passes_long : (bits : List Bool) → 16 ≤ length bits → (f : Found ℕ) × (scan_passes bits ≡ Some f)
unfolding scan_passes
passes_long [] long = absurd (omega arith)
passes_long (false ∷ bits) long = (found 1 bits, refl)
passes_long (true ∷ []) long = absurd (omega arith)
passes_long (true ∷ false ∷ bits) long = (found 2 bits, refl)
passes_long (true ∷ true ∷ bits) long = two_long bits (omega arith)

pub passes_none_of : (bits : List Bool) → scan_passes bits ≡ None → PassesStop bits
unfolding padded
passes_none_of bits h =
    let s = passes_long (padded 16 bits) (padded_long 16 bits) in
    let r : PassesRead (padded 16 bits) s.0 = passes_read (padded 16 bits) s.0 s.1 in
    by s.0.value r.count (front_of bits (pass_word s.0.value) (replicate 16 false) s.0.rest r.bits_are)
  where
    by : (n : ℕ) → IsCount n → IsCutOf (pass_word n) bits ⊎ ((left : List Bool) × (bits ≡ pass_word n ++ left)) → PassesStop bits
    by n is (inl c) = record { passes = n; count = is; cut_off = c }
    by n is (inr p) = absurd (let e : Some (found n p.0) ≡ None = sym (passes_made n p.0 is) ∙ sym (ap scan_passes p.1) ∙ h in cc)

pub passes_stop : (bits : List Bool) → PassesStop bits → scan_passes bits ≡ None
passes_stop bits s = by (scan_passes bits) refl
  where
    by : (o : Option (Found ℕ)) → scan_passes bits ≡ o → o ≡ None
    by None eq = refl
    by (Some f) eq =
        let r : PassesRead bits f = passes_read bits f eq in
        let whole : pass_word s.passes ++ [] ≡ pass_word f.value ++ (f.rest ++ s.cut_off.missing) =
        append-nil (pass_word s.passes) ∙ s.cut_off.begins ∙ ap (λ (l : List Bool). l ++ s.cut_off.missing) r.bits_are ∙ append_assoc (pass_word f.value) f.rest s.cut_off.missing in
        absurd (none_left f.rest s.cut_off.missing s.cut_off.some (one_word s.passes f.value [] (f.rest ++ s.cut_off.missing) s.count r.count whole).rests)

-- ---- the raise
pub raise_none : (bits : List Bool) → scan_raise bits ≡ None → bits ≡ replicate (length bits) true
raise_none [] h = refl
raise_none (false ∷ bits) h = absurd cc
raise_none (true ∷ bits) h = ap (λ (l : List Bool). true ∷ l) (raise_none bits (by (scan_raise bits) h))
  where
    by : (o : Option (Found ℕ)) → option_map (plus 1) o ≡ None → o ≡ None
    by None h = refl
    by (Some f) h = absurd cc

pub raise_stops : (n : ℕ) → scan_raise (replicate n true) ≡ None
raise_stops zero = refl
raise_stops (suc n) = ap (option_map (plus 1)) (raise_stops n)

-- ---- the lengths
pub parts_none : (lblock block first : ℕ) (runs : List ℕ) (bits : List Bool) → scan_parts lblock block first runs bits ≡ None → LengthsStop lblock block first runs bits
parts_none lblock block first [] bits h = absurd cc
parts_none lblock block first (run ∷ runs) bits h =
    by (λ (l : List Bool) (e : scan_parts lblock block (first + run) runs l ≡ None). parts_none lblock block (first + run) runs l e) (scan_number (width lblock run) bits) refl h
  where
    more : ((l : List Bool) → scan_parts lblock block (first + run) runs l ≡ None → LengthsStop lblock block (first + run) runs l) →
        (g : Found ℕ) → NumberRead (width lblock run) bits g → (o : Option (Found (List HeaderPart))) → scan_parts lblock block (first + run) runs g.rest ≡ o →
        option_map (behind (header_part block first run g.value ∷ [])) o ≡ None → LengthsStop lblock block first (run ∷ runs) bits
    more again g r (Some k) eq h = absurd cc
    more again g r None eq h =
        let s : LengthsStop lblock block (first + run) runs g.rest = again g.rest eq in
        record {
          front = run ∷ s.front;
          run = s.run;
          others = s.others;
          runs_are = ap (λ (l : List ℕ). run ∷ l) s.runs_are;
          parts = header_part block first run g.value ∷ s.parts;
          are = (record { of = refl; begins = refl; has = refl; fits = r.fits; short = r.short }, s.are);
          behind = s.behind;
          stands = r.bits_are ∙ ap (λ (l : List Bool). low_bits (width lblock run) g.value ++ l) s.stands
              ∙ sym (append_assoc (low_bits (width lblock run) g.value) (length_bits lblock s.parts) s.behind);
          stops = s.stops;
        }

    by : ((l : List Bool) → scan_parts lblock block (first + run) runs l ≡ None → LengthsStop lblock block (first + run) runs l) →
        (o : Option (Found ℕ)) → scan_number (width lblock run) bits ≡ o →
        option_and_then (λ (x : Found ℕ). option_map (behind (header_part block first run x.value ∷ [])) (scan_parts lblock block (first + run) runs x.rest)) o ≡ None →
        LengthsStop lblock block first (run ∷ runs) bits
    by again None eq h =
        record { front = []; run = run; others = runs; runs_are = refl; parts = []; are = tt; behind = bits; stands = refl; stops = number_none (width lblock run) bits eq }
    by again (Some g) eq h = more again g (number_read (width lblock run) bits g eq) (scan_parts lblock block (first + run) runs g.rest) refl h

stops_at : (lblock block first : ℕ) (front : List ℕ) (run : ℕ) (others : List ℕ) (parts : List HeaderPart) (rest : List Bool) → AreHeaderParts lblock block first front parts →
    (length rest < width lblock run) ⊎ IsLong (width lblock run) rest →
    scan_parts lblock block first (front ++ (run ∷ others)) (length_bits lblock parts ++ rest) ≡ None
stops_at lblock block first [] run others [] rest are stops =
    ap (option_and_then (λ (x : Found ℕ). option_map (behind (header_part block first run x.value ∷ [])) (scan_parts lblock block (first + run) others x.rest))) (number_stops (width lblock run) rest stops)
stops_at lblock block first [] run others (p ∷ ps) rest are stops = absurd are
stops_at lblock block first (x ∷ xs) run others [] rest are stops = absurd are
stops_at lblock block first (x ∷ xs) run others (p ∷ ps) rest are stops =
    let front = low_bits (width lblock p.passes) p.length in
    let runs = xs ++ (run ∷ others) in
    let next : List Bool → Option (Found (List HeaderPart)) = λ (l : List Bool). scan_parts lblock block (first + x) runs l in
    ap (λ (l : List Bool). scan_parts lblock block first (x ∷ runs) l) (append_assoc front (length_bits lblock ps) rest)
    ∙ ap (λ (m : ℕ). scan_parts lblock block first (x ∷ runs) (low_bits (width lblock m) p.length ++ (length_bits lblock ps ++ rest))) are.0.has
    ∙ ap (option_and_then (λ (f : Found ℕ). option_map (behind (header_part block first x f.value ∷ [])) (next f.rest)))
    (number_made (width lblock x) p.length (length_bits lblock ps ++ rest) are.0.fits are.0.short)
    ∙ ap (option_map (behind (header_part block first x p.length ∷ []))) (stops_at lblock block (first + x) xs run others ps rest are.1 stops)

pub parts_stop : (lblock block first : ℕ) (runs : List ℕ) (bits : List Bool) → LengthsStop lblock block first runs bits → scan_parts lblock block first runs bits ≡ None
parts_stop lblock block first runs bits s =
    ap (λ (r : List ℕ). scan_parts lblock block first r bits) s.runs_are
    ∙ ap (λ (l : List Bool). scan_parts lblock block first (s.front ++ (s.run ∷ s.others)) l) s.stands
    ∙ stops_at lblock block first s.front s.run s.others s.parts s.behind s.are s.stops
