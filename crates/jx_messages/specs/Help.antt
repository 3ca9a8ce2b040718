-- Words that ask for help or the version.
use Rattle.std.specs.Prelude.{Bool, false, true, ◌||◌, ◌&&◌, List, [], ◌∷◌, drop, slice_index_or, codes, if◌then◌else◌}
use Rattle.std.specs.Str.{bytes_eq}
use Rattle.jx_messages.specs.Text.{Text}

-- behind a command
abbrev pub is_help : Text → Bool
is_help word = bytes_eq word (codes "--help") || bytes_eq word (codes "-h")

-- in a command's place
abbrev pub asks : Text → Bool
asks word = is_help word || (bytes_eq word (codes "--version") || (bytes_eq word (codes "-V") || bytes_eq word (codes "help")))

abbrev pub is_command : Text → Bool
is_command word = bytes_eq word (codes "transcode") || (bytes_eq word (codes "make") || (bytes_eq word (codes "boxes") || (bytes_eq word (codes "same") || bytes_eq word (codes "show"))))

-- one of some words behind a command asks for its help, before `--`
abbrev pub asks_among : List Text → Bool
asks_among [] = false
asks_among (word ∷ words) = if bytes_eq word (codes "--") then false else if is_help word then true else asks_among words

-- the words of a command line ask for help or the version
abbrev pub asks_help : List Text → Bool
asks_help words = asks (slice_index_or words 1 []) || (is_command (slice_index_or words 1 []) && asks_among (drop 2 words))
