-- Which texts say precincts, and which precincts.
use Rattle.std.proofs.Common.{◌≡◌, ◌<◌, ◌≤◌, ◌+◌, ◌/◌, ◌%◌, ◌∙◌, ap, sym, subst, refl, arith, ℕ, zero, suc, eqb, false, List, [], ◌∷◌, Option, None, Some, inl, inr, length, map, slice_index_or}
use Rattle.std.specs.Str.{bytes_eq}
use Rattle.std.specs.List.{All, join_with_byte, slice_split}
use Rattle.std.specs.Option.{option_map}
use Rattle.std.specs.Fmt.{decimal}
use Rattle.std.proofs.lemmas.Bool.{cases_lt, ne_eqb}
use Rattle.std.proofs.lemmas.Fmt.{decimal_injective, decimal_digit}
use Rattle.std.proofs.lemmas.List.{length-map}
use Rattle.std.proofs.lemmas.List.Elements.{All-nil, All-cons, All-append}
use Rattle.std.proofs.lemmas.List.Splits.{join_with_byte-slice_split, slice_split_at, slice_split_none}
use Rattle.std.proofs.lemmas.Slice.Eq.{bytes_eq-Decides}
use Rattle.std.proofs.lemmas.Option.{none-some, same_Some}
use Rattle.jx_marker.specs.Ranges.{AreBytes}
use Rattle.jx_options.specs.Values.{ArePrecincts, all_in, in_front, item_in, item_text, items_in, parts_of, precincts_in, precincts_text}
use Rattle.jx_options.proofs.ItemLemmas.{two_digits}
use Rattle.jx_options.proofs.ListLemmas.{some_part}
use Rattle.jx_base.proofs.Lists.{find_first, find_in}

-- ---- digits are neither commas nor `x`
abbrev HasNo : ℕ → List ℕ → Type 0
HasNo c text = All (λ b. eqb b c ≡ false) text

-- a byte that is no digit
abbrev IsNoDigit : ℕ → Type 0
IsNoDigit c = (b : ℕ) → 48 ≤ b → b ≤ 57 → b ≡ c → ⊥

no_more : (c b : ℕ) (text : List ℕ) → IsNoDigit c → 48 ≤ b → b ≤ 57 → HasNo c text → HasNo c (b ∷ text)
no_more c b text apart low high more = All-cons (λ x. eqb x c ≡ false) b text (ne_eqb b c (apart b low high)) more

digits_only : (c n : ℕ) → IsNoDigit c → n < 16 → HasNo c (decimal n)
digits_only c n apart small = elim (cases_lt n 10) [
  | inl one ↦ subst (HasNo c) (sym (decimal_digit n one)) (no_more c (48 + n) [] apart (omega arith) (omega arith) (All-nil (λ x. eqb x c ≡ false)))
  | inr two ↦ subst (HasNo c) (two_digits n two small)
      (no_more c 49 ((38 + n) ∷ []) apart (omega arith) (omega arith) (no_more c (38 + n) [] apart (omega arith) (omega arith) (All-nil (λ x. eqb x c ≡ false))))
]

comma_apart : IsNoDigit 44
comma_apart b low high e = omega (arith, e)

x_apart : IsNoDigit 120
x_apart b low high e = omega (arith, e)

item_whole : (byte : ℕ) → byte < 256 → HasNo 44 (item_text byte)
item_whole byte small =
    let no_comma : eqb 120 44 ≡ false = refl in
    All-append (λ x. eqb x 44 ≡ false) (decimal (byte % 16)) (120 ∷ decimal (byte / 16)) (digits_only 44 (byte % 16) comma_apart (omega arith))
    (All-cons (λ x. eqb x 44 ≡ false) 120 (decimal (byte / 16)) no_comma (digits_only 44 (byte / 16) comma_apart (omega arith)))

-- ---- a byte and its spelling
halves : (byte : ℕ) → byte < 256 → slice_split (λ b. eqb b 120) (item_text byte) ≡ decimal (byte % 16) ∷ decimal (byte / 16) ∷ []
halves byte small =
    slice_split_at (λ b. eqb b 120) (decimal (byte % 16)) 120 (decimal (byte / 16)) (digits_only 120 (byte % 16) x_apart (omega arith)) refl
    ∙ ap (λ parts. decimal (byte % 16) ∷ parts) (slice_split_none (λ b. eqb b 120) (decimal (byte / 16)) (digits_only 120 (byte / 16) x_apart (omega arith)))

one_byte : (a b : ℕ) → a < 256 → b < 256 → item_text a ≡ item_text b → a ≡ b
one_byte a b small_a small_b same =
    let parts : decimal (a % 16) ∷ decimal (a / 16) ∷ [] ≡ decimal (b % 16) ∷ decimal (b / 16) ∷ [] = sym (halves a small_a) ∙ ap (slice_split (λ x. eqb x 120)) same ∙ halves b small_b in
    let low : a % 16 ≡ b % 16 = decimal_injective (a % 16) (b % 16) (omega arith) (omega arith) (ap (λ ps. slice_index_or ps 0 []) parts) in
    let high : a / 16 ≡ b / 16 = decimal_injective (a / 16) (b / 16) (omega arith) (omega arith) (ap (λ ps. slice_index_or ps 1 []) parts) in
    omega (arith, low, high)

pub item_read : (byte : ℕ) (text : List ℕ) → item_in text ≡ Some byte → (byte < 256) × (text ≡ item_text byte)
unfolding item_in
item_read byte text e =
    let at = find_in (λ m. bytes_eq text (item_text m)) 0 256 byte e in
    (omega (arith, at.1), (bytes_eq-Decides text (item_text byte)).0 at.2)

pub item_spelled : (byte : ℕ) → byte < 256 → item_in (item_text byte) ≡ Some byte
unfolding item_in
item_spelled byte small =
    find_first (λ m. bytes_eq (item_text byte) (item_text m)) 0 256 byte (omega arith) (omega arith) ((bytes_eq-Decides (item_text byte) (item_text byte)).1 refl)
    (λ m lt test. let same = one_byte byte m small (omega arith) ((bytes_eq-Decides (item_text byte) (item_text m)).0 test) in omega (arith, same))

-- ---- with commas between them
rest_bytes : (byte : ℕ) (bytes : List ℕ) → AreBytes (byte ∷ bytes) → AreBytes bytes
rest_bytes byte bytes each = λ k d lt. each (suc k) d (omega arith)

pub first_byte : (byte : ℕ) (bytes : List ℕ) → AreBytes (byte ∷ bytes) → byte < 256
first_byte byte bytes each = each 0 0 (omega arith)

parts_spelled : (byte : ℕ) (bytes : List ℕ) → AreBytes (byte ∷ bytes) → parts_of 44 (precincts_text (byte ∷ bytes)) ≡ map item_text (byte ∷ bytes)
unfolding parts_of
parts_spelled byte [] each = slice_split_none (λ b. eqb b 44) (item_text byte) (item_whole byte (first_byte byte [] each))
parts_spelled byte (next ∷ bytes) each =
    slice_split_at (λ b. eqb b 44) (item_text byte) 44 (precincts_text (next ∷ bytes)) (item_whole byte (first_byte byte (next ∷ bytes) each)) refl
    ∙ ap (λ parts. item_text byte ∷ parts) (parts_spelled next bytes (rest_bytes byte (next ∷ bytes) each))

items_spelled : (room : ℕ) (bytes : List ℕ) → AreBytes bytes → length bytes ≤ room → items_in room (map item_text bytes) ≡ Some bytes
unfolding all_in
items_spelled room [] each few = refl
items_spelled zero (byte ∷ bytes) each few = absurd (omega (arith, few))
items_spelled (suc room) (byte ∷ bytes) each few =
    let item : item_in (item_text byte) ≡ Some byte = item_spelled byte (first_byte byte bytes each) in
    let more : items_in room (map item_text bytes) ≡ Some bytes = items_spelled room bytes (rest_bytes byte bytes each) (omega (arith, few)) in
    rw (item, more) refl

-- what is read of texts
record IsRead (room : ℕ) (parts : List (List ℕ)) (bytes : List ℕ) : Type 0 where
  each : AreBytes bytes
  few : length bytes ≤ room
  parts_are : parts ≡ map item_text bytes

items_read : (room : ℕ) (parts : List (List ℕ)) (bytes : List ℕ) → items_in room parts ≡ Some bytes → IsRead room parts bytes
unfolding all_in
items_read room [] bytes e = subst (IsRead room []) (same_Some [] bytes e) (record { each = All-nil (λ b. b < 256); few = omega arith; parts_are = refl })
items_read zero (text ∷ parts) bytes e = absurd (none-some bytes e)
items_read (suc room) (text ∷ parts) bytes e = with_byte (item_in text) refl e (λ more f. items_read room parts more f)
  where
    with_more : (byte : ℕ) (o : Option (List ℕ)) → items_in room parts ≡ o → byte < 256 → text ≡ item_text byte → option_map (λ tail. byte ∷ tail) o ≡ Some bytes → ((more : List ℕ) → items_in room parts ≡ Some more → IsRead room parts more)
        → IsRead (suc room) (text ∷ parts) bytes
    with_more byte None is small spelled f next = absurd (none-some bytes f)
    with_more byte (Some more) is small spelled f next =
        let r = next more is in
        subst (IsRead (suc room) (text ∷ parts)) (same_Some (byte ∷ more) bytes f)
        (record { each = All-cons (λ b. b < 256) byte more small r.each; few = omega (arith, r.few); parts_are = ap (λ t. t ∷ parts) spelled ∙ ap (λ p. item_text byte ∷ p) r.parts_are })

    with_byte : (o : Option ℕ) → item_in text ≡ o → in_front o (items_in room parts) ≡ Some bytes → ((more : List ℕ) → items_in room parts ≡ Some more → IsRead room parts more)
        → IsRead (suc room) (text ∷ parts) bytes
    with_byte None is f next = absurd (none-some bytes f)
    with_byte (Some byte) is f next =
        let r = item_read byte text is in
        with_more byte (items_in room parts) refl r.0 r.1 f next

-- ---- all of it
pub precincts_spelled : (bytes : List ℕ) → ArePrecincts bytes → precincts_in (precincts_text bytes) ≡ Some bytes
unfolding precincts_in
precincts_spelled [] are = absurd (omega (arith, are.some))
precincts_spelled (byte ∷ bytes) are = ap (items_in 33) (parts_spelled byte bytes are.each) ∙ items_spelled 33 (byte ∷ bytes) are.each are.few

joined_parts : (text : List ℕ) → join_with_byte 44 (parts_of 44 text) ≡ text
unfolding parts_of
joined_parts text = join_with_byte-slice_split 44 text

pub precincts_read : (text bytes : List ℕ) → precincts_in text ≡ Some bytes → ArePrecincts bytes × (text ≡ precincts_text bytes)
unfolding precincts_in
precincts_read text bytes e =
    let r = items_read 33 (parts_of 44 text) bytes e in
    let many : length bytes ≡ length (parts_of 44 text) = sym (length-map bytes item_text) ∙ ap length (sym r.parts_are) in
    (record { some = omega (arith, many, some_part 44 text); few = r.few; each = r.each }, sym (joined_parts text) ∙ ap (join_with_byte 44) r.parts_are)
