-- What the words of `jx make` ask for: the codestream of a seed, of so many columns and rows.
use Rattle.std.specs.Prelude.{◌≤◌, ◌<◌, ◌^◌, ℕ, ◌&&◌, Bool, List, [], length, drop, slice_index_or, codes, eqb, is_some, unwrap_or}
use Rattle.std.specs.Str.{bytes_eq}
use Rattle.clap.specs.Words.{App, fault_of, first_of, matches_of, new_app}
use Rattle.jx_cli.specs.Command.{with_place}
use Rattle.jx_cli.specs.Words.{Text}
use Rattle.jx_options.specs.Values.{seed_said, side_said}

pub record Make : Type 0 where
  pub seed : ℕ
  pub width : ℕ
  pub height : ℕ

-- what words can ask for
pub record MayBeMade (m : Make) : Type 0 where
  pub seed : m.seed < 2 ^ 64
  pub some_width : 1 ≤ m.width
  pub few_width : m.width ≤ 4096
  pub some_height : 1 ≤ m.height
  pub few_height : m.height ≤ 4096

-- the command as clap is told of it: three words that have to be there
unfoldable pub make : App
make = with_place (codes "height") (with_place (codes "width") (with_place (codes "seed") (new_app (codes "make"))))

-- the text that clap finds under a name
abbrev pub made_in : List Text → Text → Text
made_in words name = unwrap_or (first_of name (matches_of make words)) []

abbrev pub names_make : List Text → Bool
names_make words = bytes_eq (slice_index_or words 1 []) (codes "make")

abbrev pub is_taken : List Text → Bool
is_taken words = eqb (length (fault_of make words)) 0

abbrev pub are_numbers : List Text → Bool
are_numbers words = is_some (seed_said (made_in words (codes "seed"))) && (is_some (side_said (made_in words (codes "width"))) && is_some (side_said (made_in words (codes "height"))))

-- the words are the program's name, `make`, and three numbers in their ranges
unfoldable pub is_make : List Text → Bool
is_make words = names_make words && (is_taken (drop 1 words) && are_numbers (drop 1 words))

-- what they ask for
unfoldable pub make_of : List Text → Make
make_of words = record {
  seed = unwrap_or (seed_said (made_in (drop 1 words) (codes "seed"))) 0;
  width = unwrap_or (side_said (made_in (drop 1 words) (codes "width"))) 1;
  height = unwrap_or (side_said (made_in (drop 1 words) (codes "height"))) 1;
}
