-- Words as they may be shown: a control character as a backslash, x and two digits.
use Rattle.std.specs.Prelude.{ℕ, ◌/◌, ◌%◌, List, [], ◌∷◌, map, flat_map, chars, encode_utf8_all, if◌then◌else◌}
use Rattle.std.specs.Char.{digit_char, is_control}
use Rattle.jx_messages.specs.Text.{Text}

-- a hexadecimal digit
abbrev pub digit_of : ℕ → ℕ
digit_of value = digit_char value

-- the characters that stand for one
abbrev pub shown_char : ℕ → List ℕ
shown_char c = if is_control c then 92 ∷ 120 ∷ digit_of (c / 16 % 16) ∷ digit_of (c % 16) ∷ [] else c ∷ []

-- a word
abbrev pub shown : Text → Text
shown word = encode_utf8_all (flat_map shown_char (chars word))

-- the words of a command line
abbrev pub shown_all : List Text → List Text
shown_all words = map shown words
