-- What the values of options say that are neither listed nor numbers, and the numbers of `make`.
use Rattle.std.specs.Prelude.{◌≡◌, ◌≤◌, ◌/◌, ◌%◌, ◌^◌, ◌-◌, ◌==◌, ℕ, zero, suc, eqb, Bool, true, not, ◌&&◌, if◌then◌else◌, List, [], ◌∷◌, ◌++◌, length, map, filter, find, sum, Option, None, Some, codes}
use Rattle.std.specs.Str.{bytes_eq}
use Rattle.std.specs.List.{join_with_byte, list_any, range_with_len, slice_split}
use Rattle.std.specs.Option.{option_map, option_or}
use Rattle.std.specs.Fmt.{decimal}
use Rattle.jx_base.specs.declared.style.Style.{Style}
use Rattle.jx_base.specs.Passes.{bypasses, has_symbols, is_causal, resets, terminates}
use Rattle.jx_marker.specs.Ranges.{AreBytes}
use Rattle.jx_base.specs.Texts.{number_in}

-- what stands beside a text in a list
abbrev pub value_in : {X : Type 0} → List (List ℕ × X) → List ℕ → Option X
value_in list text = option_map (λ p. p.1) (find (λ p. bytes_eq text p.0) list)

-- the words that name no precinct: they are kept, or every exponent is 15 and no byte is written
abbrev pub whole_choices : List (List ℕ × Option (List ℕ))
whole_choices = (codes "keep", None) ∷ (codes "max", Some []) ∷ []

-- ---- precincts from resolution 0 up, as bytes (Table A.21)

-- the width's exponent, which a byte has in its low four bits, `x` (120), and the height's
abbrev pub item_text : ℕ → List ℕ
item_text byte = decimal (byte % 16) ++ 120 ∷ decimal (byte / 16)

-- with commas (44) between them
abbrev pub precincts_text : List ℕ → List ℕ
precincts_text bytes = join_with_byte 44 (map item_text bytes)

-- precincts of 1 to 33 resolutions
pub record ArePrecincts (bytes : List ℕ) : Type 0 where
  pub some : 1 ≤ length bytes
  pub few : length bytes ≤ 33
  pub each : AreBytes bytes

-- the byte that is spelled so
unfoldable pub item_in : List ℕ → Option ℕ
item_in text = find (λ byte. bytes_eq text (item_text byte)) (range_with_len 0 256)

-- a value in front of others, where it and they are there
abbrev pub in_front : {X : Type 0} → Option X → Option (List X) → Option (List X)
in_front None more = None
in_front (Some x) more = option_map (λ list. x ∷ list) more

-- the values of some texts, where each text has one and there are so many at most
unfoldable pub all_in : {X : Type 0} → (List ℕ → Option X) → ℕ → List (List ℕ) → Option (List X)
all_in value_of room [] = Some []
all_in value_of zero (text ∷ texts) = None
all_in value_of (suc room) (text ∷ texts) = in_front (value_of text) (all_in value_of room texts)

-- the bytes that are spelled by some texts
abbrev pub items_in : ℕ → List (List ℕ) → Option (List ℕ)
items_in room texts = all_in item_in room texts

-- what stands in a text between the bytes that separate
unfoldable pub parts_of : ℕ → List ℕ → List (List ℕ)
parts_of separator text = slice_split (λ b. eqb b separator) text

-- the precincts that are spelled so
unfoldable pub precincts_in : List ℕ → Option (List ℕ)
precincts_in text = items_in 33 (parts_of 44 text)

-- ---- styles of code-blocks by their names

-- the names of a style's bits (Table A.19); bit 4, predictable termination, can't be asked
abbrev pub style_names : List (List ℕ × ℕ)
style_names = (codes "bypass", 1) ∷ (codes "reset", 2) ∷ (codes "terminate", 4) ∷ (codes "causal", 8) ∷ (codes "segment", 32) ∷ []

-- the words that name no bit: each component keeps its style, or every bit is 0
abbrev pub whole_styles : List (List ℕ × Option Style)
whole_styles = (codes "keep", None) ∷ (codes "none", Some (record { bits = 0 })) ∷ []

-- the names of the bits that a style has, with plus signs (43) between them
abbrev pub style_text : Style → List ℕ
style_text style = if style.bits == 0 then codes "none" else join_with_byte 43 (map (λ (p : List ℕ × ℕ). p.0) (filter (λ (p : List ℕ × ℕ). style.bits / p.1 % 2 == 1) style_names))

-- the bits of some texts, where each is a name
unfoldable pub bits_in : List (List ℕ) → Option (List ℕ)
bits_in [] = Some []
bits_in (name ∷ names) = in_front (value_in style_names name) (bits_in names)

-- no two of some texts are the same
abbrev pub are_apart : List (List ℕ) → Bool
are_apart [] = true
are_apart (text ∷ texts) = not (list_any (bytes_eq text) texts) && are_apart texts

-- the style of which some texts are the names, each once
abbrev pub style_of : List (List ℕ) → Option Style
style_of names = if are_apart names then option_map (λ bits. record { bits = sum bits }) (bits_in names) else None

-- the style that is named so, by at least one name
unfoldable pub style_in : List ℕ → Option Style
style_in text = style_of (parts_of 43 text)

-- a style has the bits that some texts name
pub record HasNamed (names : List (List ℕ)) (style : Style) : Type 0 where
  pub bypass : bypasses style.bits ≡ list_any (bytes_eq (codes "bypass")) names
  pub reset : resets style.bits ≡ list_any (bytes_eq (codes "reset")) names
  pub terminate : terminates style.bits ≡ list_any (bytes_eq (codes "terminate")) names
  pub causal : is_causal style.bits ≡ list_any (bytes_eq (codes "causal")) names
  pub segment : has_symbols style.bits ≡ list_any (bytes_eq (codes "segment")) names

-- ---- what a value says, where it is one of its option's values

abbrev pub precincts_said : List ℕ → Option (Option (List ℕ))
precincts_said text = option_or (value_in whole_choices text) (option_map Some (precincts_in text))

abbrev pub style_said : List ℕ → Option (Option Style)
style_said text = option_or (value_in whole_styles text) (option_map Some (style_in text))

-- ---- the numbers of `make`

-- a number below 2^64 in its decimal digits, 0 among them
abbrev pub seed_said : List ℕ → Option ℕ
seed_said text = if bytes_eq text (codes "0") then Some 0 else number_in (2 ^ 64 - 1) text

abbrev pub side_said : List ℕ → Option ℕ
side_said text = number_in 4096 text
