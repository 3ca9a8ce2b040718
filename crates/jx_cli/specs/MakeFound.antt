-- What clap finds in the words of `jx make`, and the words that ask for a codestream.
use Rattle.std.specs.Prelude.{◌≡◌, true, ◌&&◌, Bool, List, [], codes, is_some, Option, unwrap_or}
use Rattle.clap.specs.Words.{App, first_of, matches_of}
use Rattle.jx_cli.specs.MakeWords.{Make, is_make, is_taken, make, make_of}
use Rattle.jx_options.specs.Values.{seed_said, side_said}
use Rattle.jx_cli.specs.Words.{Text, text_of}

-- the text that clap finds under each name, in words for a command
abbrev pub texts_of : App → List Text → Text → Option Text
texts_of app words name = first_of name (matches_of app words)

-- the text that stands under a name, which clap refuses to leave out
abbrev pub under : (Text → Option Text) → Text → Text
under found name = text_of found name []

-- each of the three texts says a number
unfoldable pub are_said : (Text → Option Text) → Bool
are_said found = is_some (seed_said (under found (codes "seed"))) && (is_some (side_said (under found (codes "width"))) && is_some (side_said (under found (codes "height"))))

unfoldable pub make_by : (Text → Option Text) → Make
make_by found = record {
  seed = unwrap_or (seed_said (under found (codes "seed"))) 0;
  width = unwrap_or (side_said (under found (codes "width"))) 1;
  height = unwrap_or (side_said (under found (codes "height"))) 1;
}

-- clap takes the words from the command's name on, and they say numbers
abbrev pub is_asked : List Text → Bool
is_asked words = is_taken words && are_said (texts_of make words)

-- good words that ask for a codestream
pub record AsksMake (m : Make) : Type 0 where
  pub words : List Text
  pub good : is_make words ≡ true
  pub made : make_of words ≡ m
