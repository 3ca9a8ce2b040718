-- What the words of `jx same` ask for: whether two files have the same coefficients, by so many threads.
use Rattle.std.specs.Prelude.{◌≡◌, ◌≤◌, ℕ, true, ◌&&◌, Bool, List, [], length, drop, slice_index_or, codes, eqb, is_some, Option, unwrap_or}
use Rattle.std.specs.Str.{bytes_eq}
use Rattle.clap.specs.Words.{App, fault_of, new_app}
use Rattle.jx_cli.specs.Command.{with_options, with_place}
use Rattle.jx_cli.specs.MakeFound.{texts_of, under}
use Rattle.jx_cli.specs.Words.{Text, limit_in, said_of}
use Rattle.jx_options.specs.declared.names.OptionName.TheVariants as option
use Rattle.jx_options.specs.Names.{same_names, thread_count}
use Rattle.jx_options.specs.Work.{MayBeLimit}

-- the names of two files, how many threads compare them (0: as many as the system has free), and the most bytes that each may have
pub record Pair : Type 0 where
  pub first : Text
  pub second : Text
  pub threads : ℕ
  pub limit : ℕ

-- what words can ask for; a name may be any text
pub record MayBeCompared (p : Pair) : Type 0 where
  pub few_threads : p.threads ≤ 64
  pub limit : MayBeLimit p.limit

-- the command as clap is told of it: two words that have to be there, and its options
unfoldable pub same : App
same = with_options same_names (with_place (codes "b") (with_place (codes "a") (new_app (codes "same"))))

abbrev pub names_same : List Text → Bool
names_same words = bytes_eq (slice_index_or words 1 []) (codes "same")

-- clap refuses none of the words from the command's name on
abbrev pub is_taken : List Text → Bool
is_taken words = eqb (length (fault_of same words)) 0

-- ---- by the text that clap finds under each name
abbrev pub threads_in : (Text → Option Text) → Option ℕ
threads_in found = thread_count (said_of found option.CompareThreads)

-- both texts say a number, or that of the threads `auto`
abbrev pub are_numbers : (Text → Option Text) → Bool
are_numbers found = is_some (threads_in found) && is_some (limit_in found)

unfoldable pub pair_by : (Text → Option Text) → Pair
pair_by found = record {
  first = under found (codes "a");
  second = under found (codes "b");
  threads = unwrap_or (threads_in found) 0;
  limit = unwrap_or (limit_in found) 268435456;
}

-- clap takes the words from the command's name on, and they say how many threads and how many bytes
abbrev pub is_asked : List Text → Bool
is_asked words = is_taken words && are_numbers (texts_of same words)

-- the words are the program's name, `same`, the names of two files, and perhaps how many threads and how many bytes
unfoldable pub is_same : List Text → Bool
is_same words = names_same words && is_asked (drop 1 words)

-- what they ask for
unfoldable pub same_of : List Text → Pair
same_of words = pair_by (texts_of same (drop 1 words))

-- good words that ask for it
pub record AsksSame (names : Pair) : Type 0 where
  pub words : List Text
  pub good : is_same words ≡ true
  pub named : same_of words ≡ names
