-- The words of values that are neither listed nor numbers from 1 up: precincts, styles, and resolutions that are left out.
use Rattle.std.proofs.Common.{◌≡◌, ◌<◌, ◌≤◌, ◌⊎◌, ◌∙◌, ◌/◌, ◌%◌, ap, sym, subst, arith, ℕ, List, [], ◌∷◌, ◌++◌, ◌==◌, false, refl, codes, get_or, if◌then◌else◌, Option, None, Some, IfSome, inl, inr, slice_index_or, length}
use Rattle.std.specs.Str.{bytes_eq}
use Rattle.std.specs.Option.{option_map, option_or}
use Rattle.std.specs.Fmt.{decimal}
use Rattle.std.proofs.lemmas.Bool.{cases_Bool, cases_lt, ne_eqb}
use Rattle.std.proofs.lemmas.List.{append_assoc}
use Rattle.std.proofs.lemmas.Slice.Eq.{bytes_eq-Decides}
use Rattle.std.proofs.lemmas.Fmt.{decimal_digit, decimal_injective}
use Rattle.jx_base.specs.declared.style.Style.{Style}
use Rattle.jx_marker.specs.declared.Progression.{Progression}
use Rattle.jx_options.specs.Names.{reduce_said, thread_count}
use Rattle.jx_options.specs.Values.{ArePrecincts, precincts_in, precincts_said, precincts_text, style_said, style_text, value_in, whole_choices}
use Rattle.jx_options.specs.Volumes.{AreVolumes, poc_choices, parse_poc, volumes_in, volumes_text}
use Rattle.jx_options.specs.Wanted.{MayBeStyle}
use Rattle.jx_options.proofs.ItemLemmas.{two_digits}
use Rattle.jx_options.proofs.NumberLemmas.{first_digit, number_spelled}
use Rattle.jx_options.proofs.SpellLemmas.{first_byte, precincts_spelled}
use Rattle.jx_options.proofs.StyleLemmas.{style_spelled}
use Rattle.jx_options.proofs.VolumeLemmas.{volumes_first, volumes_spelled}
use Rattle.jx_cli.specs.Words.{Text}

abbrev pub precincts_word : Option (List ℕ) → Text
precincts_word None = codes "keep"
precincts_word (Some []) = codes "max"
precincts_word (Some (byte ∷ bytes)) = precincts_text (byte ∷ bytes)

-- precincts begin with a digit
digit_first : (n : ℕ) (more : List ℕ) → n < 16 → slice_index_or (decimal n ++ more) 0 0 ≤ 57
digit_first n more small = elim (cases_lt n 10) [
  | inl one ↦ subst (λ text. slice_index_or (text ++ more) 0 0 ≤ 57) (sym (decimal_digit n one)) (omega arith)
  | inr two ↦ subst (λ text. slice_index_or (text ++ more) 0 0 ≤ 57) (two_digits n two small) (omega arith)
]

text_first : (byte : ℕ) (bytes : List ℕ) → byte < 256 → slice_index_or (precincts_text (byte ∷ bytes)) 0 0 ≤ 57
text_first byte [] small = digit_first (byte % 16) (120 ∷ decimal (byte / 16)) (omega arith)
text_first byte (next ∷ bytes) small =
    subst (λ text. slice_index_or text 0 0 ≤ 57) (sym (append_assoc (decimal (byte % 16)) (120 ∷ decimal (byte / 16)) (44 ∷ precincts_text (next ∷ bytes))))
    (digit_first (byte % 16) ((120 ∷ decimal (byte / 16)) ++ 44 ∷ precincts_text (next ∷ bytes)) (omega arith))

-- so they are no words
no_word : (text word : List ℕ) → slice_index_or text 0 0 ≤ 57 → 57 < slice_index_or word 0 0 → bytes_eq text word ≡ false
no_word text word low high = elim (cases_Bool (bytes_eq text word)) [
  | inl t ↦
      let same : slice_index_or text 0 0 ≡ slice_index_or word 0 0 = ap (λ t. slice_index_or t 0 0) ((bytes_eq-Decides text word).0 t) in
      absurd (omega (arith, same, low, high))
  | inr t ↦ t
]

not_listed : (text : List ℕ) → slice_index_or text 0 0 ≤ 57 → value_in whole_choices text ≡ None
not_listed text low = rw (no_word text (codes "keep") low (omega arith), no_word text (codes "max") low (omega arith)) refl

pub precincts_back : (precincts : Option (List ℕ)) → IfSome precincts (λ bytes. (bytes ≡ []) ⊎ ArePrecincts bytes) → precincts_said (precincts_word precincts) ≡ Some precincts
precincts_back None may = refl
precincts_back (Some []) may = refl
precincts_back (Some (byte ∷ bytes)) (inl none) = absurd (omega (arith, ap length none))
precincts_back (Some (byte ∷ bytes)) (inr are) =
    ap (λ o. option_or o (option_map Some (precincts_in (precincts_text (byte ∷ bytes))))) (not_listed (precincts_text (byte ∷ bytes)) (text_first byte bytes (first_byte byte bytes are.each)))
    ∙ ap (option_map Some) (precincts_spelled (byte ∷ bytes) are)

-- volumes too
abbrev pub poc_word : Option (List Progression) → Text
poc_word None = codes "keep"
poc_word (Some []) = codes "none"
poc_word (Some (entry ∷ entries)) = volumes_text (entry ∷ entries)

not_chosen : (text : List ℕ) → slice_index_or text 0 0 ≤ 57 → value_in poc_choices text ≡ None
not_chosen text low = rw (no_word text (codes "none") low (omega arith), no_word text (codes "keep") low (omega arith)) refl

pub poc_back : (changes : Option (List Progression)) → IfSome changes (λ entries. (entries ≡ []) ⊎ AreVolumes entries) → parse_poc (poc_word changes) ≡ Some changes
poc_back None may = refl
poc_back (Some []) may = refl
poc_back (Some (entry ∷ entries)) (inl none) = absurd (omega (arith, ap length none))
poc_back (Some (entry ∷ entries)) (inr are) =
    ap (λ o. option_or o (option_map Some (volumes_in (volumes_text (entry ∷ entries))))) (not_chosen (volumes_text (entry ∷ entries)) (volumes_first entry entries are))
    ∙ ap (option_map Some) (volumes_spelled (entry ∷ entries) are)

pub style_word : Option Style → Text
style_word None = codes "keep"
style_word (Some style) = style_text style

pub style_back : (style : Option Style) → IfSome style MayBeStyle → style_said (style_word style) ≡ Some style
unfolding style_word
style_back None may = refl
style_back (Some style) may = style_spelled style may

-- 0 is the one number that begins with its digit
pub reduce_back : (n : ℕ) → n ≤ 32 → reduce_said (decimal n) ≡ Some n
reduce_back n few = elim (cases_lt 0 n) [
  | inl some ↦
      let other : bytes_eq (decimal n) (codes "0") ≡ false = elim (cases_Bool (bytes_eq (decimal n) (codes "0"))) [
        | inl t ↦
            let same : decimal n ≡ decimal 0 = (bytes_eq-Decides (decimal n) (codes "0")).0 t ∙ sym (decimal_digit 0 (omega arith)) in
            let none : n ≡ 0 = decimal_injective n 0 (omega arith) (omega arith) same in
            absurd (omega (arith, none, some))
        | inr t ↦ t
      ] in
      rw other (number_spelled 32 n (omega arith) some few)
  | inr none ↦
      let is : n ≡ 0 = omega arith in
      let digit : decimal n ≡ codes "0" = ap decimal is ∙ decimal_digit 0 (omega arith) in
      rw digit (ap Some (sym is))
]

abbrev pub threads_word : ℕ → Text
threads_word n = if n == 0 then codes "auto" else decimal n

-- digits aren't `auto`
pub threads_back : (n : ℕ) → n ≤ 64 → thread_count (threads_word n) ≡ Some n
threads_back n few = elim (cases_lt 0 n) [
  | inl some ↦
      let other : bytes_eq (decimal n) (codes "auto") ≡ false = elim (cases_Bool (bytes_eq (decimal n) (codes "auto"))) [
        | inl t ↦
            let same : get_or (decimal n) 0 0 ≡ 97 = ap (λ text. get_or text 0 0) ((bytes_eq-Decides (decimal n) (codes "auto")).0 t) in
            absurd (omega (arith, same, (first_digit n some (omega arith)).1))
        | inr t ↦ t
      ] in
      let numbered : (n == 0) ≡ false = ne_eqb n 0 (λ is. omega (arith, is, some)) in
      rw (numbered, other) (number_spelled 64 n (omega arith) some few)
  | inr none ↦
      let is : n ≡ 0 = omega arith in
      rw is refl
]
