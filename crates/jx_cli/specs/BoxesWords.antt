-- What the words of `jx boxes` ask for: the boxes of a file.
use Rattle.std.specs.Prelude.{◌≡◌, ℕ, true, ◌&&◌, Bool, List, [], length, drop, slice_index_or, codes, eqb, is_some, Option, unwrap_or}
use Rattle.std.specs.Str.{bytes_eq}
use Rattle.clap.specs.Words.{App, fault_of, new_app}
use Rattle.jx_cli.specs.Command.{with_options, with_place}
use Rattle.jx_cli.specs.MakeFound.{texts_of, under}
use Rattle.jx_cli.specs.Words.{Text, limit_in}
use Rattle.jx_options.specs.Names.{boxes_names}

-- the name of a file, and the most bytes that it may have
pub record Boxes : Type 0 where
  pub name : Text
  pub limit : ℕ

-- the command as clap is told of it: one word that has to be there, and its options
unfoldable pub boxes : App
boxes = with_options boxes_names (with_place (codes "in") (new_app (codes "boxes")))

abbrev pub names_boxes : List Text → Bool
names_boxes words = bytes_eq (slice_index_or words 1 []) (codes "boxes")

-- clap refuses none of the words from the command's name on
abbrev pub is_taken : List Text → Bool
is_taken words = eqb (length (fault_of boxes words)) 0

-- by the text that clap finds under each name
unfoldable pub boxes_by : (Text → Option Text) → Boxes
boxes_by found = record { name = under found (codes "in"); limit = unwrap_or (limit_in found) 268435456 }

-- clap takes the words from the command's name on, and they say how many bytes
abbrev pub is_asked : List Text → Bool
is_asked words = is_taken words && is_some (limit_in (texts_of boxes words))

-- the words are the program's name, `boxes`, the name of a file, and perhaps how many bytes it may have
unfoldable pub is_boxes : List Text → Bool
is_boxes words = names_boxes words && is_asked (drop 1 words)

-- what they ask for
unfoldable pub boxes_of : List Text → Boxes
boxes_of words = boxes_by (texts_of boxes (drop 1 words))

-- good words that ask for it
pub record AsksBoxes (asked : Boxes) : Type 0 where
  pub words : List Text
  pub good : is_boxes words ≡ true
  pub made : boxes_of words ≡ asked
