-- Which texts say numbers, and which numbers.
use Rattle.std.proofs.Common.{◌≡◌, ◌<◌, ◌≤◌, ◌+◌, ◌/◌, ◌%◌, ◌∙◌, ap, sym, subst, refl, arith, ℕ, zero, suc, nat_lt, eqb, true, false, List, [], ◌∷◌, ◌++◌, Option, None, Some, inl, inr, length, map}
use Rattle.std.specs.Str.{bytes_eq}
use Rattle.std.specs.List.{All, join_with_byte}
use Rattle.std.specs.Option.{option_map, option_and_then}
use Rattle.std.specs.Fmt.{decimal}
use Rattle.std.proofs.lemmas.Bool.{cases_Bool, cases_lt, ne_eqb}
use Rattle.std.proofs.lemmas.Bool.Decides.{nat_tests}
use Rattle.std.proofs.lemmas.Fmt.{decimal_injective, decimal_digit}
use Rattle.std.proofs.lemmas.List.Elements.{All-nil, All-cons}
use Rattle.std.proofs.lemmas.List.Splits.{join_with_byte-slice_split, length-slice_split, slice_split_at, slice_split_none}
use Rattle.std.proofs.lemmas.Slice.Eq.{bytes_eq-Decides}
use Rattle.std.specs.Prelude.{codes}
use Rattle.std.proofs.lemmas.List.{length-map}
use Rattle.std.proofs.lemmas.Option.{none-some, same_Some}
use Rattle.jx_base.specs.Numbers.{ceil_of}
use Rattle.jx_base.proofs.Ceilings.{ceil_of_is_ceiling}
use Rattle.jx_layers.specs.declared.StreamFacts.{StreamFacts}
use Rattle.jx_layers.specs.Rule.Rule.{Cuts, Planes}
use Rattle.jx_layers.specs.Planners.{cuts_of, planes_of, where_fits}
use Rattle.jx_layers.proofs.TextLemmas.{two_digits, three_digits}
use Rattle.jx_layers.specs.Texts.{AreRising, AreCuts, if_above, in_front, rising_in, parts_of, cuts_after, cuts_in, cuts_text, planes_in, planes_text}
use Rattle.jx_base.proofs.Lists.{find_first}
use Rattle.jx_base.specs.Texts.{after, number_in}
use Rattle.jx_base.proofs.Texts.{after_read, number_read}

-- ---- a number and its digits
pub number_spelled : (most n : ℕ) → most < 1000 → 1 ≤ n → n ≤ most → number_in most (decimal n) ≡ Some n
unfolding number_in
number_spelled most n small some within =
    find_first (λ m. bytes_eq (decimal m) (decimal n)) 1 most n some (omega arith) ((bytes_eq-Decides (decimal n) (decimal n)).1 refl)
    (λ m lt test. let same = decimal_injective m n (omega arith) (omega arith) ((bytes_eq-Decides (decimal m) (decimal n)).0 test) in omega (arith, same))

-- ---- digits are no commas
abbrev AreWhole : List ℕ → Type 0
AreWhole text = All (λ b. eqb b 44 ≡ false) text

whole_on : (b : ℕ) (text : List ℕ) → 48 ≤ b → AreWhole text → AreWhole (b ∷ text)
whole_on b text low more = All-cons (λ x. eqb x 44 ≡ false) b text (ne_eqb b 44 (λ e. omega (arith, e))) more

whole_none : AreWhole []
whole_none = All-nil (λ x. eqb x 44 ≡ false)

digits_whole : (n : ℕ) → n < 1000 → AreWhole (decimal n)
digits_whole n small = elim (cases_lt n 10) [
  | inl one ↦ subst AreWhole (sym (decimal_digit n one)) (whole_on (48 + n) [] (omega arith) whole_none)
  | inr more ↦ elim (cases_lt n 100) [
    | inl two ↦ subst AreWhole (two_digits n more two) (whole_on (48 + n / 10) ((48 + n % 10) ∷ []) (omega arith) (whole_on (48 + n % 10) [] (omega arith) whole_none))
    | inr three ↦ subst AreWhole (three_digits n three small)
        (whole_on (48 + n / 100) ((48 + n / 10 % 10) ∷ (48 + n % 10) ∷ []) (omega arith)
        (whole_on (48 + n / 10 % 10) ((48 + n % 10) ∷ []) (omega arith) (whole_on (48 + n % 10) [] (omega arith) whole_none)))
  ]
]

-- ---- numbers with commas between them
parts_spelled : (last n : ℕ) (list : List ℕ) → AreRising last (n ∷ list) → parts_of (join_with_byte 44 (map decimal (n ∷ list))) ≡ map decimal (n ∷ list)
unfolding parts_of
parts_spelled last n [] rising = slice_split_none (λ b. eqb b 44) (decimal n) (digits_whole n (omega (arith, rising.1)))
parts_spelled last n (m ∷ list) rising =
    slice_split_at (λ b. eqb b 44) (decimal n) 44 (join_with_byte 44 (map decimal (m ∷ list))) (digits_whole n (omega (arith, rising.1))) refl
    ∙ ap (λ parts. decimal n ∷ parts) (parts_spelled n m list rising.2)

rising_spelled : (last room : ℕ) (list : List ℕ) → AreRising last list → length list ≤ room → rising_in last room (map decimal list) ≡ Some list
rising_spelled last room [] rising few = refl
rising_spelled last zero (n ∷ list) rising few = absurd (omega (arith, few))
rising_spelled last (suc room) (n ∷ list) rising few =
    let number : number_in 220 (decimal n) ≡ Some n = number_spelled 220 n (omega arith) (omega (arith, rising.0)) rising.1 in
    let above : nat_lt last n ≡ true = grind (arith, nat_tests) in
    let more : rising_in n room (map decimal list) ≡ Some list = rising_spelled n room list rising.2 (omega (arith, few)) in
    rw (number, above, more) refl

-- what is read of texts
pub record IsRead (last room : ℕ) (parts : List (List ℕ)) (list : List ℕ) : Type 0 where
  pub rising : AreRising last list
  pub few : length list ≤ room
  pub parts_are : parts ≡ map decimal list

rising_read : (last room : ℕ) (parts : List (List ℕ)) (list : List ℕ) → rising_in last room parts ≡ Some list → IsRead last room parts list
rising_read last room [] list e = subst (IsRead last room []) (same_Some [] list e) (record { rising = tt; few = omega arith; parts_are = refl })
rising_read last zero (text ∷ parts) list e = absurd (none-some list e)
rising_read last (suc room) (text ∷ parts) list e = with_number (number_in 220 text) refl e (λ n more f. rising_read n room parts more f)
  where
    with_more : (n : ℕ) (o : Option (List ℕ)) → rising_in n room parts ≡ o → last < n → n ≤ 220 → text ≡ decimal n → option_map (λ tail. n ∷ tail) o ≡ Some list → ((more : List ℕ) → rising_in n room parts ≡ Some more → IsRead n room parts more)
        → IsRead last (suc room) (text ∷ parts) list
    with_more n None is lt le digits f next = absurd (none-some list f)
    with_more n (Some more) is lt le digits f next =
        let r = next more is in
        subst (IsRead last (suc room) (text ∷ parts)) (same_Some (n ∷ more) list f)
        (record { rising = (lt, le, r.rising); few = omega (arith, r.few); parts_are = ap (λ t. t ∷ parts) digits ∙ ap (λ p. decimal n ∷ p) r.parts_are })

    with_number : (o : Option ℕ) → number_in 220 text ≡ o → in_front (if_above last o) (λ n. rising_in n room parts) ≡ Some list → ((n : ℕ) (more : List ℕ) → rising_in n room parts ≡ Some more → IsRead n room parts more)
        → IsRead last (suc room) (text ∷ parts) list
    with_number None is f next = absurd (none-some list f)
    with_number (Some n) is f next = elim (cases_Bool (nat_lt last n)) [
      | inl t ↦
          let r = number_read 220 n text is in
          let lt : last < n = grind (arith, nat_tests) in
          with_more n (rising_in n room parts) refl lt r.1 r.2 (rw t at f) (next n)
      | inr t ↦ let g : None ≡ Some list = rw t at f in absurd (none-some list g)
    ]

-- ---- beginnings
-- what follows a beginning, where something is made of it
pub record Follows {X : Type 0} (start text : List ℕ) (made : List ℕ → Option X) (x : X) : Type 0 where
  pub rest : List ℕ
  pub text_is : text ≡ start ++ rest
  pub made_is : made rest ≡ Some x

follows : {X : Type 0} (start text : List ℕ) (made : List ℕ → Option X) (x : X) → option_and_then made (after start text) ≡ Some x → Follows start text made x
follows {X} start text made x e = by (after start text) refl e
  where
    by : (o : Option (List ℕ)) → after start text ≡ o → option_and_then made o ≡ Some x → Follows start text made x
    by None is f = absurd (none-some x f)
    by (Some rest) is f = record { rest = rest; text_is = after_read start text rest is; made_is = f }

-- ---- all of it
pub cuts_spelled : (list : List ℕ) → AreCuts list → cuts_after (join_with_byte 44 (map decimal list)) ≡ Some list
unfolding cuts_after
cuts_spelled [] cuts = absurd (omega (arith, cuts.some))
cuts_spelled (n ∷ list) cuts = ap (rising_in 0 32) (parts_spelled 0 n list cuts.rising) ∙ rising_spelled 0 32 (n ∷ list) cuts.rising cuts.few

some_part : (text : List ℕ) → 1 ≤ length (parts_of text)
unfolding parts_of
some_part text = omega (arith, length-slice_split (λ b. eqb b 44) text)

joined_parts : (text : List ℕ) → join_with_byte 44 (parts_of text) ≡ text
unfolding parts_of
joined_parts text = join_with_byte-slice_split 44 text

after_cuts : (text list : List ℕ) → cuts_after text ≡ Some list → AreCuts list × (text ≡ join_with_byte 44 (map decimal list))
unfolding cuts_after
after_cuts text list e =
    let r = rising_read 0 32 (parts_of text) list e in
    let many : length list ≡ length (parts_of text) = sym (length-map list decimal) ∙ ap length (sym r.parts_are) in
    (record { some = omega (arith, many, some_part text); few = r.few; rising = r.rising }, sym (joined_parts text) ∙ ap (join_with_byte 44) r.parts_are)

pub cuts_read : (text list : List ℕ) → cuts_in text ≡ Some list → AreCuts list × (text ≡ cuts_text list)
cuts_read text list e =
    let f = follows (codes "cuts:") text cuts_after list e in
    let r = after_cuts f.rest list f.made_is in
    (r.0, f.text_is ∙ ap (λ rest. codes "cuts:" ++ rest) r.1)

pub planes_read : (text : List ℕ) (q : ℕ) → planes_in text ≡ Some q → (1 ≤ q) × (q ≤ 74) × (text ≡ planes_text q)
planes_read text q e =
    let f = follows (codes "planes:") text (number_in 74) q e in
    let r = number_read 74 q f.rest f.made_is in
    (r.0, r.1, f.text_is ∙ ap (λ rest. codes "planes:" ++ rest) r.2)

-- ---- each such rule makes some layers, and few
pub cuts_fit : (text : List ℕ) (facts : StreamFacts) → cuts_of text facts ≡ option_map Cuts (cuts_in text)
cuts_fit text facts = by (cuts_in text) refl
  where
    by : (o : Option (List ℕ)) → cuts_in text ≡ o → where_fits facts (option_map Cuts o) ≡ option_map Cuts o
    by None is = refl
    by (Some list) is =
        let cuts = (cuts_read text list is).0 in
        let few = cuts.few in
        grind (arith, nat_tests)

ceil_few : (a b : ℕ) → 1 ≤ b → ceil_of a b ≤ a
ceil_few a b some = (ceil_of_is_ceiling a b some).least a (grind arith)

pub planes_fit : (text : List ℕ) (facts : StreamFacts) → facts.planes < 256 → planes_of text facts ≡ option_map Planes (planes_in text)
planes_fit text facts small = by (planes_in text) refl
  where
    by : (o : Option ℕ) → planes_in text ≡ o → where_fits facts (option_map Planes o) ≡ option_map Planes o
    by None is = refl
    by (Some q) is =
        let r = planes_read text q is in
        let some = r.0 in
        let most : ceil_of facts.planes q ≤ facts.planes = ceil_few facts.planes q some in
        grind (arith, nat_tests)
