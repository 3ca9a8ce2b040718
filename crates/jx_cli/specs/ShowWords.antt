-- What the words of `jx show` ask for: what a file's codestream is, in lines or as a JSON object.
use Rattle.std.specs.Prelude.{◌≡◌, ℕ, true, ◌&&◌, Bool, List, [], length, drop, slice_index_or, codes, eqb, is_some, Option, unwrap_or}
use Rattle.std.specs.Str.{bytes_eq}
use Rattle.clap.specs.Words.{App, fault_of, new_app}
use Rattle.jx_cli.specs.Command.{with_options, with_place}
use Rattle.jx_cli.specs.MakeFound.{texts_of, under}
use Rattle.jx_cli.specs.Words.{Text, flag_of, limit_in}
use Rattle.jx_options.specs.declared.names.OptionName.TheVariants as option
use Rattle.jx_options.specs.Names.{show_names}

-- the name of a file, whether JSON is said, and the most bytes that the file may have
pub record Show : Type 0 where
  pub name : Text
  pub json : Bool
  pub limit : ℕ

-- the command as clap is told of it: one word that has to be there, and its options
unfoldable pub show : App
show = with_options show_names (with_place (codes "in") (new_app (codes "show")))

abbrev pub names_show : List Text → Bool
names_show words = bytes_eq (slice_index_or words 1 []) (codes "show")

-- clap refuses none of the words from the command's name on
abbrev pub is_taken : List Text → Bool
is_taken words = eqb (length (fault_of show words)) 0

-- by the text that clap finds under each name
unfoldable pub show_by : (Text → Option Text) → Show
show_by found = record {
  name = under found (codes "in");
  json = flag_of found option.Json;
  limit = unwrap_or (limit_in found) 268435456;
}

-- clap takes the words from the command's name on, and they say how many bytes
abbrev pub is_asked : List Text → Bool
is_asked words = is_taken words && is_some (limit_in (texts_of show words))

-- the words are the program's name, `show`, the name of a file, `--json` or not, and perhaps how many bytes the file may have
unfoldable pub is_show : List Text → Bool
is_show words = names_show words && is_asked (drop 1 words)

-- what they ask for
unfoldable pub show_of : List Text → Show
show_of words = show_by (texts_of show (drop 1 words))

-- good words that ask for this
pub record AsksShow (asked : Show) : Type 0 where
  pub words : List Text
  pub good : is_show words ≡ true
  pub made : show_of words ≡ asked
