-- Laws of the code words.
use Rattle.std.proofs.Common.{◌≡◌, ℕ, zero, suc, ◌+◌, ◌-◌, ◌*◌, ◌^◌, ◌<◌, ◌≤◌, ◌==◌, nat_le, nat_lt, Bool, true, false, ◌&&◌, List, [], ◌∷◌, ◌++◌, length, take, drop, replicate, refl, sym, ap, ◌∙◌, subst, cond, arith, append_assoc, length-append, pow_mono, Some, None, inl, inr}
use Rattle.std.specs.Prelude.{Option, option_map, option_and_then}
use Rattle.std.proofs.lemmas.List.{take-append-drop, append-nil}
use Rattle.std.proofs.Math.Seq.{drop-append_seam}
use Rattle.std.proofs.Math.Nat.{mod-eq_of_lt, two-pow-succ}
use Rattle.std.proofs.lemmas.Bool.Decides.{nat_tests}
use Rattle.std.proofs.lemmas.Bool.{cases_lt}
use Rattle.jx_tagtree.specs.Header.{low_bits, number_of}
use Rattle.jx_tagtree.proofs.HeaderLemmas.{length-low_bits}
use Rattle.jx_tagtree.proofs.WriterLemmas.{number_of-low_bits}
use Rattle.jx_tagtree.proofs.LawLemmas.{number_of-lt, low_bits-number_of}
use Rattle.jx_packet_header.specs.declared.HeaderPart.{HeaderPart}
use Rattle.jx_packet_header.specs.Words.{IsCount, pass_word, raise_word, OneWord}
use Rattle.jx_packet_header.specs.Parts.{width, IsHeaderPart, AreHeaderParts, length_bits}
use Rattle.jx_packet_header.specs.Scan.{Found, scan_number, scan_passes, scan_passes_2, scan_passes_4, scan_raise, scan_parts, header_part, behind, plus}

-- ---- numbers
abbrev pub found : {A : Type 0} → A → List Bool → Found A
found x rest = record { value = x; rest = rest }

pub number_made : (n v : ℕ) (rest : List Bool) → v < 2 ^ n → v < 2 ^ 32 → scan_number n (low_bits n v ++ rest) ≡ Some (found v rest)
unfolding scan_number
number_made n v rest fits short =
    let long : length (low_bits n v) ≡ n = length-low_bits n v in
    let whole : length (low_bits n v ++ rest) ≡ length (low_bits n v) + length rest = length-append (low_bits n v) rest in
    let number : number_of n (low_bits n v ++ rest) ≡ v = number_of-low_bits n v rest ∙ mod-eq_of_lt fits in
    let behind : drop n (low_bits n v ++ rest) ≡ rest = ap (λ (k : ℕ). drop k (low_bits n v ++ rest)) (sym long) ∙ drop-append_seam (low_bits n v) rest in
    let is_long : nat_le n (length (low_bits n v ++ rest)) ≡ true = (let le : n ≤ length (low_bits n v ++ rest) = omega arith in grind (arith, nat_tests)) in
    let is_short : nat_lt (number_of n (low_bits n v ++ rest)) (2 ^ 32) ≡ true = (let lt : number_of n (low_bits n v ++ rest) < 2 ^ 32 = omega arith in grind (arith, nat_tests)) in
    made (nat_le n (length (low_bits n v ++ rest))) (nat_lt (number_of n (low_bits n v ++ rest)) (2 ^ 32)) (number_of n (low_bits n v ++ rest)) (drop n (low_bits n v ++ rest)) is_long is_short number behind
  where
    made : (a b : Bool) (m : ℕ) (l : List Bool) → a ≡ true → b ≡ true → m ≡ v → l ≡ rest → (cond (a && b) (Some (found m l)) None) ≡ Some (found v rest)
    made a b m l e f g h = cc

pub record NumberRead (n : ℕ) (bits : List Bool) (f : Found ℕ) : Type 0 where
  pub fits : f.value < 2 ^ n
  pub short : f.value < 2 ^ 32
  pub bits_are : bits ≡ low_bits n f.value ++ f.rest

pub number_read : (n : ℕ) (bits : List Bool) (f : Found ℕ) → scan_number n bits ≡ Some f → NumberRead n bits f
unfolding scan_number
number_read n bits f h = by (nat_le n (length bits)) (nat_lt (number_of n bits) (2 ^ 32)) refl refl h
  where
    by : (a b : Bool) → nat_le n (length bits) ≡ a → nat_lt (number_of n bits) (2 ^ 32) ≡ b → cond (a && b) (Some (found (number_of n bits) (drop n bits))) None ≡ Some f → NumberRead n bits f
    by false b e g h = absurd cc
    by true false e g h = absurd cc
    by true true e g h =
        let is : found (number_of n bits) (drop n bits) ≡ f = cc in
        let long : n ≤ length bits = grind (arith, nat_tests) in
        let none : n - length bits ≡ 0 = omega arith in
        let front : low_bits n (number_of n bits) ≡ take n bits =
        low_bits-number_of n bits ∙ ap (λ (k : ℕ). take n bits ++ replicate k false) none ∙ append-nil (take n bits) in
        subst (λ (r : Found ℕ). NumberRead n bits r) is (record {
          fits = number_of-lt n bits;
          short = grind (arith, nat_tests);
          bits_are = sym (take-append-drop n bits) ∙ ap (λ (l : List Bool). l ++ drop n bits) (sym front);
        })

-- ---- numbers of passes
pub word_few : (n : ℕ) → 3 ≤ n → n ≤ 5 → pass_word n ≡ true ∷ true ∷ low_bits 2 (n - 3)
unfolding pass_word
word_few n ge le =
    let a : (n == 1) ≡ false = grind (arith, nat_tests) in
    let b : (n == 2) ≡ false = grind (arith, nat_tests) in
    let c : nat_le n 5 ≡ true = grind (arith, nat_tests) in
    rw (a, b, c) refl

pub word_some : (n : ℕ) → 6 ≤ n → n ≤ 36 → pass_word n ≡ true ∷ true ∷ true ∷ true ∷ low_bits 5 (n - 6)
unfolding pass_word
word_some n ge le =
    let a : (n == 1) ≡ false = grind (arith, nat_tests) in
    let b : (n == 2) ≡ false = grind (arith, nat_tests) in
    let c : nat_le n 5 ≡ false = grind (arith, nat_tests) in
    let d : nat_le n 36 ≡ true = grind (arith, nat_tests) in
    rw (a, b, c, d) refl

pub word_many : (n : ℕ) → 37 ≤ n → pass_word n ≡ true ∷ true ∷ true ∷ true ∷ true ∷ true ∷ true ∷ true ∷ true ∷ low_bits 7 (n - 37)
unfolding pass_word
word_many n ge =
    let a : (n == 1) ≡ false = grind (arith, nat_tests) in
    let b : (n == 2) ≡ false = grind (arith, nat_tests) in
    let c : nat_le n 5 ≡ false = grind (arith, nat_tests) in
    let d : nat_le n 36 ≡ false = grind (arith, nat_tests) in
    rw (a, b, c, d) refl

pub word_one : pass_word 1 ≡ false ∷ []
unfolding pass_word
word_one = refl

pub word_two : pass_word 2 ≡ true ∷ false ∷ []
unfolding pass_word
word_two = refl

few_made : (n : ℕ) (rest : List Bool) → 3 ≤ n → n ≤ 5 → scan_passes (pass_word n ++ rest) ≡ Some (found n rest)
unfolding scan_passes
few_made n rest ge le =
    let lt : n - 3 < 2 ^ 2 = omega arith in
    let short : n - 3 < 2 ^ 32 = omega arith in
    let small : nat_lt (n - 3) 3 ≡ true = (let s : n - 3 < 3 = omega arith in grind (arith, nat_tests)) in
    let back : 3 + (n - 3) ≡ n = omega arith in
    ap (λ (l : List Bool). scan_passes (l ++ rest)) (word_few n ge le)
    ∙ ap (option_and_then (λ (f : Found ℕ). cond (nat_lt f.value 3) (Some (plus 3 f)) (scan_passes_4 f.rest))) (number_made 2 (n - 3) rest lt short)
    ∙ ap (λ (b : Bool). cond b (Some (found (3 + (n - 3)) rest)) (scan_passes_4 rest)) small
    ∙ ap (λ (m : ℕ). Some (found m rest)) back

four_ones : (bits : List Bool) → scan_passes (true ∷ true ∷ true ∷ true ∷ bits) ≡ scan_passes_4 bits
unfolding scan_passes
four_ones bits =
    let lt : 3 < 2 ^ 2 = omega arith in
    let short : 3 < 2 ^ 32 = omega arith in
    ap (option_and_then (λ (f : Found ℕ). cond (nat_lt f.value 3) (Some (plus 3 f)) (scan_passes_4 f.rest))) (number_made 2 3 bits lt short)

some_made : (n : ℕ) (rest : List Bool) → 6 ≤ n → n ≤ 36 → scan_passes (pass_word n ++ rest) ≡ Some (found n rest)
some_made n rest ge le =
    let lt : n - 6 < 2 ^ 5 = omega arith in
    let short : n - 6 < 2 ^ 32 = omega arith in
    let small : nat_lt (n - 6) 31 ≡ true = (let s : n - 6 < 31 = omega arith in grind (arith, nat_tests)) in
    let back : 6 + (n - 6) ≡ n = omega arith in
    ap (λ (l : List Bool). scan_passes (l ++ rest)) (word_some n ge le)
    ∙ four_ones (low_bits 5 (n - 6) ++ rest)
    ∙ ap (option_and_then (λ (f : Found ℕ). cond (nat_lt f.value 31) (Some (plus 6 f)) (option_map (plus 37) (scan_number 7 f.rest)))) (number_made 5 (n - 6) rest lt short)
    ∙ ap (λ (b : Bool). cond b (Some (found (6 + (n - 6)) rest)) (option_map (plus 37) (scan_number 7 rest))) small
    ∙ ap (λ (m : ℕ). Some (found m rest)) back

nine_ones : (bits : List Bool) → scan_passes_4 (true ∷ true ∷ true ∷ true ∷ true ∷ bits) ≡ option_map (plus 37) (scan_number 7 bits)
nine_ones bits =
    let lt : 31 < 2 ^ 5 = omega arith in
    let short : 31 < 2 ^ 32 = omega arith in
    ap (option_and_then (λ (f : Found ℕ). cond (nat_lt f.value 31) (Some (plus 6 f)) (option_map (plus 37) (scan_number 7 f.rest)))) (number_made 5 31 bits lt short)

many_made : (n : ℕ) (rest : List Bool) → 37 ≤ n → n ≤ 164 → scan_passes (pass_word n ++ rest) ≡ Some (found n rest)
many_made n rest ge le =
    let lt : n - 37 < 2 ^ 7 = omega arith in
    let short : n - 37 < 2 ^ 32 = omega arith in
    let back : 37 + (n - 37) ≡ n = omega arith in
    ap (λ (l : List Bool). scan_passes (l ++ rest)) (word_many n ge)
    ∙ four_ones (true ∷ true ∷ true ∷ true ∷ true ∷ (low_bits 7 (n - 37) ++ rest))
    ∙ nine_ones (low_bits 7 (n - 37) ++ rest)
    ∙ ap (option_map (plus 37)) (number_made 7 (n - 37) rest lt short)
    ∙ ap (λ (m : ℕ). Some (found m rest)) back

pub passes_made : (n : ℕ) (rest : List Bool) → IsCount n → scan_passes (pass_word n ++ rest) ≡ Some (found n rest)
unfolding scan_passes
passes_made zero rest is = absurd (let s : 1 ≤ 0 = is.some in omega arith)
passes_made (suc zero) rest is = ap (λ (l : List Bool). scan_passes (l ++ rest)) word_one
passes_made (suc (suc zero)) rest is = ap (λ (l : List Bool). scan_passes (l ++ rest)) word_two
passes_made (suc (suc (suc m))) rest is =
    let few : suc (suc (suc m)) ≤ 164 = is.few in
    elim (cases_lt (suc (suc (suc m))) 6) [
      | inl lt ↦ few_made (suc (suc (suc m))) rest (omega arith) (omega arith)
      | inr ge ↦ elim (cases_lt (suc (suc (suc m))) 37) [
        | inl lt ↦ some_made (suc (suc (suc m))) rest ge (omega arith)
        | inr big ↦ many_made (suc (suc (suc m))) rest big few
      ]
    ]

-- no code word begins another
pub one_word : (n m : ℕ) (rest others : List Bool) → IsCount n → IsCount m → pass_word n ++ rest ≡ pass_word m ++ others → OneWord n m rest others
one_word n m rest others is also same =
    let e : Some (found n rest) ≡ Some (found m others) = sym (passes_made n rest is) ∙ ap scan_passes same ∙ passes_made m others also in
    let f : found n rest ≡ found m others = cc in
    record { number = ap (λ (r : Found ℕ). r.value) f; rests = ap (λ (r : Found ℕ). r.rest) f }

pub record PassesRead (bits : List Bool) (f : Found ℕ) : Type 0 where
  pub count : IsCount f.value
  pub bits_are : bits ≡ pass_word f.value ++ f.rest

read_4 : (bits : List Bool) (f : Found ℕ) → scan_passes_4 bits ≡ Some f → PassesRead (true ∷ true ∷ true ∷ true ∷ bits) f
read_4 bits f h = by (scan_number 5 bits) refl h
  where
    last : (g : Found ℕ) → NumberRead 5 bits g → nat_lt g.value 31 ≡ false → (o : Option (Found ℕ)) → scan_number 7 g.rest ≡ o → option_map (plus 37) o ≡ Some f → PassesRead (true ∷ true ∷ true ∷ true ∷ bits) f
    last g r e None eq h = absurd cc
    last g r e (Some k) eq h =
        let is : plus 37 k ≡ f = cc in
        let s = number_read 7 g.rest k eq in
        let lt : k.value < 2 ^ 7 = s.fits in
        let ge : 37 ≤ 37 + k.value = omega arith in
        let less : 37 + k.value - 37 ≡ k.value = omega arith in
        let fit : g.value < 2 ^ 5 = r.fits in
        let top : g.value ≡ 31 = (let big : 31 ≤ g.value = grind (arith, nat_tests) in omega arith) in
        subst (λ (x : Found ℕ). PassesRead (true ∷ true ∷ true ∷ true ∷ bits) x) is (record {
          count = record { some = omega arith; few = omega arith };
          bits_are = ap (λ (l : List Bool). true ∷ true ∷ true ∷ true ∷ l) (r.bits_are ∙ ap (λ (m : ℕ). low_bits 5 m ++ g.rest) top
              ∙ ap (λ (l : List Bool). true ∷ true ∷ true ∷ true ∷ true ∷ l) (s.bits_are ∙ ap (λ (m : ℕ). low_bits 7 m ++ k.rest) (sym less)))
              ∙ ap (λ (l : List Bool). l ++ k.rest) (sym (word_many (37 + k.value) ge));
        })

    choose : (g : Found ℕ) → NumberRead 5 bits g → (b : Bool) → nat_lt g.value 31 ≡ b → cond b (Some (plus 6 g)) (option_map (plus 37) (scan_number 7 g.rest)) ≡ Some f →
        PassesRead (true ∷ true ∷ true ∷ true ∷ bits) f
    choose g r true e h =
        let is : plus 6 g ≡ f = cc in
        let lt : g.value < 31 = grind (arith, nat_tests) in
        let less : 6 + g.value - 6 ≡ g.value = omega arith in
        let ge : 6 ≤ 6 + g.value = omega arith in
        let le : 6 + g.value ≤ 36 = omega arith in
        subst (λ (x : Found ℕ). PassesRead (true ∷ true ∷ true ∷ true ∷ bits) x) is (record {
          count = record { some = omega arith; few = omega arith };
          bits_are = ap (λ (l : List Bool). true ∷ true ∷ true ∷ true ∷ l) (r.bits_are ∙ ap (λ (m : ℕ). low_bits 5 m ++ g.rest) (sym less))
              ∙ ap (λ (l : List Bool). l ++ g.rest) (sym (word_some (6 + g.value) ge le));
        })
    choose g r false e h = last g r e (scan_number 7 g.rest) refl h

    by : (o : Option (Found ℕ)) → scan_number 5 bits ≡ o →
        option_and_then (λ (x : Found ℕ). cond (nat_lt x.value 31) (Some (plus 6 x)) (option_map (plus 37) (scan_number 7 x.rest))) o ≡ Some f → PassesRead (true ∷ true ∷ true ∷ true ∷ bits) f
    by None eq h = absurd cc
    by (Some g) eq h = choose g (number_read 5 bits g eq) (nat_lt g.value 31) refl h

read_2 : (bits : List Bool) (f : Found ℕ) → scan_passes_2 bits ≡ Some f → PassesRead (true ∷ true ∷ bits) f
read_2 bits f h = by (scan_number 2 bits) refl h
  where
    choose : (g : Found ℕ) → NumberRead 2 bits g → (b : Bool) → nat_lt g.value 3 ≡ b → cond b (Some (plus 3 g)) (scan_passes_4 g.rest) ≡ Some f → PassesRead (true ∷ true ∷ bits) f
    choose g r true e h =
        let is : plus 3 g ≡ f = cc in
        let lt : g.value < 3 = grind (arith, nat_tests) in
        let less : 3 + g.value - 3 ≡ g.value = omega arith in
        let ge : 3 ≤ 3 + g.value = omega arith in
        let le : 3 + g.value ≤ 5 = omega arith in
        subst (λ (x : Found ℕ). PassesRead (true ∷ true ∷ bits) x) is (record {
          count = record { some = omega arith; few = omega arith };
          bits_are = ap (λ (l : List Bool). true ∷ true ∷ l) (r.bits_are ∙ ap (λ (m : ℕ). low_bits 2 m ++ g.rest) (sym less))
              ∙ ap (λ (l : List Bool). l ++ g.rest) (sym (word_few (3 + g.value) ge le));
        })
    choose g r false e h =
        let p = read_4 g.rest f h in
        let fit : g.value < 2 ^ 2 = r.fits in
        let top : g.value ≡ 3 = (let big : 3 ≤ g.value = grind (arith, nat_tests) in omega arith) in
        record {
          count = p.count;
          bits_are = ap (λ (l : List Bool). true ∷ true ∷ l) (r.bits_are ∙ ap (λ (m : ℕ). low_bits 2 m ++ g.rest) top) ∙ p.bits_are;
        }

    by : (o : Option (Found ℕ)) → scan_number 2 bits ≡ o →
        option_and_then (λ (x : Found ℕ). cond (nat_lt x.value 3) (Some (plus 3 x)) (scan_passes_4 x.rest)) o ≡ Some f → PassesRead (true ∷ true ∷ bits) f
    by None eq h = absurd cc
    by (Some g) eq h = choose g (number_read 2 bits g eq) (nat_lt g.value 3) refl h

pub passes_read : (bits : List Bool) (f : Found ℕ) → scan_passes bits ≡ Some f → PassesRead bits f
unfolding scan_passes
passes_read [] f h = absurd cc
passes_read (false ∷ bits) f h =
    let is : found 1 bits ≡ f = cc in
    subst (λ (x : Found ℕ). PassesRead (false ∷ bits) x) is (record { count = record { some = omega arith; few = omega arith }; bits_are = ap (λ (l : List Bool). l ++ bits) (sym word_one) })
passes_read (true ∷ []) f h = absurd cc
passes_read (true ∷ false ∷ bits) f h =
    let is : found 2 bits ≡ f = cc in
    subst (λ (x : Found ℕ). PassesRead (true ∷ false ∷ bits) x) is (record { count = record { some = omega arith; few = omega arith }; bits_are = ap (λ (l : List Bool). l ++ bits) (sym word_two) })
passes_read (true ∷ true ∷ bits) f h = read_2 bits f h

-- ---- by how much Lblock is raised
pub raise_made : (k : ℕ) (rest : List Bool) → scan_raise (raise_word k ++ rest) ≡ Some (found k rest)
raise_made zero rest = refl
raise_made (suc k) rest = ap (option_map (plus 1)) (raise_made k rest) ∙ (let e : 1 + k ≡ suc k = omega arith in ap (λ (m : ℕ). Some (found m rest)) e)

pub raise_read : (bits : List Bool) (f : Found ℕ) → scan_raise bits ≡ Some f → bits ≡ raise_word f.value ++ f.rest
raise_read [] f h = absurd cc
raise_read (false ∷ bits) f h = let is : found 0 bits ≡ f = cc in ap (λ (x : Found ℕ). raise_word x.value ++ x.rest) is
raise_read (true ∷ bits) f h = by (λ (g : Found ℕ) (eq : scan_raise bits ≡ Some g). raise_read bits g eq) (scan_raise bits) refl h
  where
    by : ((g : Found ℕ) → scan_raise bits ≡ Some g → bits ≡ raise_word g.value ++ g.rest) →
        (o : Option (Found ℕ)) → scan_raise bits ≡ o → option_map (plus 1) o ≡ Some f → true ∷ bits ≡ raise_word f.value ++ f.rest
    by again None eq h = absurd cc
    by again (Some g) eq h =
        let is : plus 1 g ≡ f = cc in
        let e : suc g.value ≡ 1 + g.value = omega arith in
        ap (λ (l : List Bool). true ∷ l) (again g eq) ∙ ap (λ (m : ℕ). raise_word m ++ g.rest) e ∙ ap (λ (x : Found ℕ). raise_word x.value ++ x.rest) is

-- ---- the parts
part_is : (lblock block first run : ℕ) (p : HeaderPart) → IsHeaderPart lblock block first run p → header_part block first run p.length ≡ p
part_is lblock block first run p is =
    ap (λ (b : ℕ). header_part b first run p.length) (sym is.of) ∙ ap (λ (b : ℕ). header_part p.block b run p.length) (sym is.begins) ∙ ap (λ (b : ℕ). header_part p.block p.first b p.length) (sym is.has)

pub parts_made : (lblock block first : ℕ) (runs : List ℕ) (parts : List HeaderPart) (rest : List Bool) → AreHeaderParts lblock block first runs parts →
    scan_parts lblock block first runs (length_bits lblock parts ++ rest) ≡ Some (found parts rest)
parts_made lblock block first [] [] rest are = refl
parts_made lblock block first [] (p ∷ ps) rest are = absurd are
parts_made lblock block first (run ∷ runs) [] rest are = absurd are
parts_made lblock block first (run ∷ runs) (p ∷ ps) rest are =
    let front = low_bits (width lblock p.passes) p.length in
    let next : List Bool → Option (Found (List HeaderPart)) = λ (l : List Bool). scan_parts lblock block (first + run) runs l in
    ap (λ (l : List Bool). scan_parts lblock block first (run ∷ runs) l) (append_assoc front (length_bits lblock ps) rest)
    ∙ ap (λ (m : ℕ). scan_parts lblock block first (run ∷ runs) (low_bits (width lblock m) p.length ++ (length_bits lblock ps ++ rest))) are.0.has
    ∙ ap (option_and_then (λ (f : Found ℕ). option_map (behind (header_part block first run f.value ∷ [])) (next f.rest)))
    (number_made (width lblock run) p.length (length_bits lblock ps ++ rest) are.0.fits are.0.short)
    ∙ ap (option_map (behind (header_part block first run p.length ∷ []))) (parts_made lblock block (first + run) runs ps rest are.1)
    ∙ ap (λ (q : HeaderPart). Some (found (q ∷ ps) rest)) (part_is lblock block first run p are.0)

pub record PartsRead (lblock block first : ℕ) (runs : List ℕ) (bits : List Bool) (f : Found (List HeaderPart)) : Type 0 where
  pub are : AreHeaderParts lblock block first runs f.value
  pub bits_are : bits ≡ length_bits lblock f.value ++ f.rest

pub parts_read : (lblock block first : ℕ) (runs : List ℕ) (bits : List Bool) (f : Found (List HeaderPart)) → scan_parts lblock block first runs bits ≡ Some f →
    PartsRead lblock block first runs bits f
parts_read lblock block first [] bits f h = let is : found [] bits ≡ f = cc in subst (λ (x : Found (List HeaderPart)). PartsRead lblock block first [] bits x) is (record { are = tt; bits_are = refl })
parts_read lblock block first (run ∷ runs) bits f h =
    by (λ (l : List Bool) (k : Found (List HeaderPart)) (eq : scan_parts lblock block (first + run) runs l ≡ Some k). parts_read lblock block (first + run) runs l k eq) (scan_number (width lblock run) bits) refl h
  where
    more : ((l : List Bool) (k : Found (List HeaderPart)) → scan_parts lblock block (first + run) runs l ≡ Some k → PartsRead lblock block (first + run) runs l k) →
        (g : Found ℕ) → NumberRead (width lblock run) bits g → (o : Option (Found (List HeaderPart))) → scan_parts lblock block (first + run) runs g.rest ≡ o →
        option_map (behind (header_part block first run g.value ∷ [])) o ≡ Some f → PartsRead lblock block first (run ∷ runs) bits f
    more again g r None eq h = absurd cc
    more again g r (Some k) eq h =
        let is : behind (header_part block first run g.value ∷ []) k ≡ f = cc in
        let p : PartsRead lblock block (first + run) runs g.rest k = again g.rest k eq in
        subst (λ (x : Found (List HeaderPart)). PartsRead lblock block first (run ∷ runs) bits x) is (record {
          are = (record { of = refl; begins = refl; has = refl; fits = r.fits; short = r.short }, p.are);
          bits_are = r.bits_are ∙ ap (λ (l : List Bool). low_bits (width lblock run) g.value ++ l) p.bits_are
              ∙ sym (append_assoc (low_bits (width lblock run) g.value) (length_bits lblock k.value) k.rest);
        })

    by : ((l : List Bool) (k : Found (List HeaderPart)) → scan_parts lblock block (first + run) runs l ≡ Some k → PartsRead lblock block (first + run) runs l k) →
        (o : Option (Found ℕ)) → scan_number (width lblock run) bits ≡ o →
        option_and_then (λ (x : Found ℕ). option_map (behind (header_part block first run x.value ∷ [])) (scan_parts lblock block (first + run) runs x.rest)) o ≡ Some f →
        PartsRead lblock block first (run ∷ runs) bits f
    by again None eq h = absurd cc
    by again (Some g) eq h = more again g (number_read (width lblock run) bits g eq) (scan_parts lblock block (first + run) runs g.rest) refl h

-- ---- a number, bit by bit
pub number_step : (n : ℕ) (bits : List Bool) (b : Bool) (rest : List Bool) → drop n bits ≡ b ∷ rest → number_of (n + 1) bits ≡ 2 * number_of n bits + cond b 1 0
number_step zero [] b rest h = absurd cc
number_step zero (x ∷ bits) b rest h =
    let e : x ≡ b = cc in
    first x ∙ ap (λ (y : Bool). 2 * 0 + cond y 1 0) e
  where
    first : (x : Bool) → number_of (0 + 1) (x ∷ bits) ≡ 2 * 0 + cond x 1 0
    first true = refl
    first false = refl
number_step (suc n) [] b rest h = absurd cc
number_step (suc n) (x ∷ bits) b rest h = let e : suc n + 1 ≡ suc (n + 1) = omega arith in ap (λ (k : ℕ). number_of k (x ∷ bits)) e ∙ by x (number_step n bits b rest h)
  where
    by : (x : Bool) → number_of (n + 1) bits ≡ 2 * number_of n bits + cond b 1 0 → number_of (suc (n + 1)) (x ∷ bits) ≡ 2 * number_of (suc n) (x ∷ bits) + cond b 1 0
    by true i = let p : 2 ^ (n + 1) ≡ 2 ^ n + 2 ^ n = ap (λ (k : ℕ). 2 ^ k) (let s : n + 1 ≡ suc n = omega arith in s) ∙ two-pow-succ n in omega arith
    by false i = i

pub number_grows : (n k : ℕ) (bits : List Bool) → number_of n bits ≤ number_of (n + k) bits
number_grows zero k bits = omega arith
number_grows (suc n) k [] = omega arith
number_grows (suc n) k (x ∷ bits) = let e : suc n + k ≡ suc (n + k) = omega arith in
    subst (λ (m : ℕ). number_of (suc n) (x ∷ bits) ≤ number_of m (x ∷ bits)) (sym e) (by x (number_grows n k bits))
  where
    by : (x : Bool) → number_of n bits ≤ number_of (n + k) bits → number_of (suc n) (x ∷ bits) ≤ number_of (suc (n + k)) (x ∷ bits)
    by true i = let p : 2 ^ n ≤ 2 ^ (n + k) = pow_mono (let s : n ≤ n + k = omega arith in s) in omega arith
    by false i = i

pub number_whole : (n : ℕ) (bits : List Bool) → n ≤ length bits → number_of n bits < 2 ^ 32 → scan_number n bits ≡ Some (found (number_of n bits) (drop n bits))
unfolding scan_number
number_whole n bits long short =
    let a : nat_le n (length bits) ≡ true = grind (arith, nat_tests) in
    let b : nat_lt (number_of n bits) (2 ^ 32) ≡ true = grind (arith, nat_tests) in
    rw (a, b) refl

pub number_ended : (n : ℕ) (bits : List Bool) → length bits < n → scan_number n bits ≡ None
unfolding scan_number
number_ended n bits short =
    let a : nat_le n (length bits) ≡ false = grind (arith, nat_tests) in
    rw a refl

pub number_large : (n m : ℕ) (bits : List Bool) → n ≤ m → 2 ^ 32 ≤ number_of n bits → scan_number m bits ≡ None
unfolding scan_number
number_large n m bits le large =
    let g : number_of n bits ≤ number_of (n + (m - n)) bits = number_grows n (m - n) bits in
    let e : n + (m - n) ≡ m = omega arith in
    let g' : number_of n bits ≤ number_of m bits = subst (λ (k : ℕ). number_of n bits ≤ number_of k bits) e g in
    let b : nat_lt (number_of m bits) (2 ^ 32) ≡ false = grind (arith, nat_tests) in
    by (nat_le m (length bits)) (nat_lt (number_of m bits) (2 ^ 32)) b
  where
    by : (x y : Bool) → y ≡ false → (cond (x && y) (Some (found (number_of m bits) (drop m bits))) None) ≡ None
    by true y e = ap (λ (z : Bool). cond z (Some (found (number_of m bits) (drop m bits))) None) e
    by false y e = refl

pub drop_step : (n : ℕ) (bits : List Bool) (b : Bool) (rest : List Bool) → drop n bits ≡ b ∷ rest → (drop (n + 1) bits ≡ rest) × (n + 1 ≤ length bits)
drop_step zero [] b rest h = absurd cc
drop_step zero (x ∷ bits) b rest h = (cc, omega arith)
drop_step (suc n) [] b rest h = absurd cc
drop_step (suc n) (x ∷ bits) b rest h =
    let again = drop_step n bits b rest h in
    let e : suc n + 1 ≡ suc (n + 1) = omega arith in
    let le : n + 1 ≤ length bits = again.1 in
    (ap (λ (k : ℕ). drop k (x ∷ bits)) e ∙ again.0, omega arith)

pub drop_end : (n : ℕ) (bits : List Bool) → drop n bits ≡ [] → length bits ≤ n
drop_end zero [] h = omega arith
drop_end zero (x ∷ bits) h = absurd cc
drop_end (suc n) [] h = omega arith
drop_end (suc n) (x ∷ bits) h = let le : length bits ≤ n = drop_end n bits h in omega arith

-- of a number, what was taken of its bits
pub record Taking (width taken value : ℕ) (bits left : List Bool) : Type 0 where
  pub within : taken ≤ width
  pub left_is : drop taken bits ≡ left
  pub there : taken ≤ length bits
  pub value_is : value ≡ number_of taken bits
  pub short : value < 2 ^ 32

pub taking_bit : (width taken value next : ℕ) (bits left : List Bool) (b : Bool) (rest : List Bool) → Taking width taken value bits left → taken < width → left ≡ b ∷ rest → next ≡ 2 * value + cond b 1 0 →
    (next ≡ number_of (taken + 1) bits) × (next < 2 ^ 32 → Taking width (taken + 1) next bits rest)
taking_bit width taken value next bits left b rest t lt is e =
    let s = drop_step taken bits b rest (t.left_is ∙ is) in
    let n : next ≡ number_of (taken + 1) bits = e ∙ ap (λ (m : ℕ). 2 * m + cond b 1 0) t.value_is ∙ sym (number_step taken bits b rest (t.left_is ∙ is)) in
    (n, λ small. record { within = omega arith; left_is = s.0; there = s.1; value_is = n; short = small })

pub taking_large : (width taken value next : ℕ) (bits left : List Bool) (b : Bool) (rest : List Bool) → Taking width taken value bits left → taken < width → left ≡ b ∷ rest → next ≡ 2 * value + cond b 1 0 →
    2 ^ 32 ≤ next → scan_number width bits ≡ None
taking_large width taken value next bits left b rest t lt is e large =
    let n : next ≡ number_of (taken + 1) bits = (taking_bit width taken value next bits left b rest t lt is e).0 in
    number_large (taken + 1) width bits (omega arith) (subst (λ (m : ℕ). 2 ^ 32 ≤ m) n large)

pub taking_end : (width taken value : ℕ) (bits left : List Bool) → Taking width taken value bits left → width ≤ taken → scan_number width bits ≡ Some (found value left)
taking_end width taken value bits left t ge =
    let within : taken ≤ width = t.within in
    let e : taken ≡ width = omega arith in
    let v : number_of width bits ≡ value = ap (λ (k : ℕ). number_of k bits) (sym e) ∙ sym t.value_is in
    let l : drop width bits ≡ left = ap (λ (k : ℕ). drop k bits) (sym e) ∙ t.left_is in
    number_whole width bits (subst (λ (k : ℕ). k ≤ length bits) e t.there) (subst (λ (m : ℕ). m < 2 ^ 32) (sym v) t.short)
    ∙ ap (λ (m : ℕ). Some (found m (drop width bits))) v ∙ ap (λ (q : List Bool). Some (found value q)) l

pub taking_none : (width taken value : ℕ) (bits left : List Bool) → Taking width taken value bits left → taken < width → left ≡ [] → scan_number width bits ≡ None
taking_none width taken value bits left t lt none =
    let le : length bits ≤ taken = drop_end taken bits (t.left_is ∙ none) in
    number_ended width bits (omega arith)

-- ---- what the reader's functions answer
pub passes_none : (bits : List Bool) → bits ≡ [] → scan_passes bits ≡ None
unfolding scan_passes
passes_none bits e = ap scan_passes e

pub passes_one : (bits rest : List Bool) → bits ≡ false ∷ rest → scan_passes bits ≡ Some (found 1 rest)
unfolding scan_passes
passes_one bits rest e = ap scan_passes e

pub passes_half : (bits rest : List Bool) → bits ≡ true ∷ rest → rest ≡ [] → scan_passes bits ≡ None
unfolding scan_passes
passes_half bits rest e f = ap scan_passes (e ∙ ap (λ (l : List Bool). true ∷ l) f)

pub passes_two : (bits rest more : List Bool) → bits ≡ true ∷ rest → rest ≡ false ∷ more → scan_passes bits ≡ Some (found 2 more)
unfolding scan_passes
passes_two bits rest more e f = ap scan_passes (e ∙ ap (λ (l : List Bool). true ∷ l) f)

pub passes_more : (bits rest more : List Bool) → bits ≡ true ∷ rest → rest ≡ true ∷ more → scan_passes bits ≡ scan_passes_2 more
unfolding scan_passes
passes_more bits rest more e f = ap scan_passes (e ∙ ap (λ (l : List Bool). true ∷ l) f)

pub taking_fits : (width taken value : ℕ) (bits left : List Bool) → Taking width taken value bits left → value < 2 ^ width
taking_fits width taken value bits left t =
    let lt : number_of taken bits < 2 ^ taken = number_of-lt taken bits in
    let le : 2 ^ taken ≤ 2 ^ width = pow_mono t.within in
    let e : value ≡ number_of taken bits = t.value_is in
    omega arith
