-- The names, and the values of options, among the words of a command line.
use Rattle.std.specs.Prelude.{ℕ, ◌==◌, nat_lt, Bool, true, false, not, ◌&&◌, ◌||◌, List, [], ◌∷◌, ◌++◌, length, drop, slice_get, slice_index_or, Option, Some, None, is_some, unwrap_or, codes, if◌then◌else◌}
use Rattle.std.specs.List.{list_any, position_or_len, before_first, after_first}
use Rattle.std.specs.Str.{bytes_eq}
use Rattle.jx_options.specs.declared.names.OptionName.{OptionName}
use Rattle.jx_options.specs.Names.{all_names, is_flag, name_of}
use Rattle.jx_messages.specs.Text.{Text}

-- a word that begins with two dashes
abbrev pub is_option : Text → Bool
is_option word = (slice_index_or word 0 0 == 45) && (slice_index_or word 1 0 == 45)

-- an option has this name and stands alone
abbrev pub is_flag_named : Text → OptionName → Bool
is_flag_named name option = is_flag option && bytes_eq (name_of option) name

abbrev pub names_flag : Text → Bool
names_flag name = list_any (is_flag_named name) all_names

-- an option without a value
abbrev pub stands_alone : Text → Bool
stands_alone word = is_option word && names_flag (drop 2 word)

-- an option has a value of its own, behind `=`
abbrev pub has_value : Text → Bool
has_value word = list_any (λ byte. byte == 61) word

-- an option whose value is the word behind it
abbrev pub takes_value : Text → Bool
takes_value word = not (stands_alone word) && not (has_value word)

-- the words that are neither options nor the values of options, from the second word on where the first one is a value; behind `--` each
-- word is a name
abbrev pub names : Bool → List Text → List Text
names skip [] = []
names true (word ∷ words) = names false words
names false (word ∷ words) =
    if bytes_eq word (codes "--") then words else
    if is_option word then names (takes_value word) words else word ∷ names false words

-- the name of a number behind the command: 0 for the input, 1 for the output
abbrev pub name_in : List Text → ℕ → Text
name_in words number =
    unwrap_or (slice_get (names false (drop 2 words)) number) (if number == 0 then codes "the input" else codes "the output")

-- the command is `make`
abbrev pub names_make : List Text → Bool
names_make words = bytes_eq (slice_index_or words 1 []) (codes "make")

-- the command is `same`, which reads two files
abbrev pub names_same : List Text → Bool
names_same words = bytes_eq (slice_index_or words 1 []) (codes "same")

-- the command writes to standard output alone: it is `make`, `boxes`, `same` or `show`
abbrev pub writes_nowhere : List Text → Bool
writes_nowhere words =
    names_make words || (bytes_eq (slice_index_or words 1 []) (codes "boxes") || (names_same words || bytes_eq (slice_index_or words 1 []) (codes "show")))

-- the files that are read
abbrev pub inputs_in : List Text → Text
inputs_in words = if names_same words then name_in words 0 ++ (codes " or " ++ name_in words 1) else name_in words 0

-- what stands behind the `=` of a word that begins with an option and `=`
abbrev pub own_value : Text → Text → Option Text
own_value option word =
    if nat_lt (position_or_len (λ byte. byte == 61) word) (length word) && bytes_eq (before_first (λ byte. byte == 61) word) option
    then Some (after_first (λ byte. byte == 61) word) else None

-- the value of an option among some words, before `--`
abbrev pub value_among : Text → List Text → Option Text
value_among option [] = None
value_among option (word ∷ words) =
    if bytes_eq word (codes "--") then None else
    if bytes_eq word option then slice_get words 0 else
    if is_some (own_value option word) then own_value option word else value_among option words

-- the value of an option behind the command; `keep` where there is none
abbrev pub value_in : List Text → Text → Text
value_in words option = unwrap_or (value_among option (drop 2 words)) (codes "keep")
