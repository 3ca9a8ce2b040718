-- What the words of the command line ask for.
use Rattle.std.specs.Prelude.{◌≡◌, ◌≤◌, ◌⊎◌, IfSome, true, ℕ, ◌&&◌, Bool, List, [], length, drop, slice_index_or, codes, eqb, Option, is_some, None, Some, unwrap_or}
use Rattle.std.specs.Str.{bytes_eq}
use Rattle.clap.specs.Words.{fault_of, first_of, matches_of}
use Rattle.jx_base.specs.OrderNumbers.{IsOrderNumber}
use Rattle.jx_options.specs.Wanted.{MayBeStyle, Wanted}
use Rattle.jx_options.specs.Work.{MayBeLimit, MayBeWork, Work, default_work}
use Rattle.jx_options.specs.declared.FormChoice.{FormChoice}
use Rattle.jx_options.specs.declared.FormChoice.TheVariants as form
use Rattle.jx_options.specs.declared.PartChoice.TheVariants as parts
use Rattle.jx_options.specs.declared.RsizChoice.TheVariants as rsiz
use Rattle.jx_cli.specs.Command.{transcode}
use Rattle.jx_options.specs.declared.names.OptionName.{OptionName}
use Rattle.jx_options.specs.declared.names.OptionName.TheVariants as option
use Rattle.jx_options.specs.Names.{form_said, name_of, number_said, parts_said, reduce_said, rsiz_said, thread_count}
use Rattle.jx_options.specs.Orders.{order_said}
use Rattle.jx_options.specs.Values.{ArePrecincts, precincts_said, style_said}
use Rattle.jx_options.specs.Volumes.{AreVolumes, parse_poc}

-- the bytes of a word
abbrev pub Text : Type 0
Text = List ℕ

-- the input's name and the output's, how the codestream is to be written, what is written of a JP2 file, how many of the highest resolutions are
-- left out, the most bytes that the input may have, and how the work is done
pub record Request : Type 0 where
  pub from : Text
  pub to : Text
  pub wanted : Wanted
  pub form : FormChoice
  pub reduce : ℕ
  pub limit : ℕ
  pub work : Work

-- what clap finds in the words from the command's name on, with the values of options that aren't among them
pub record Given : Type 0 where
  pub from : Text
  pub to : Text
  pub order : Text
  pub poc : Text
  pub precincts : Text
  pub layers : Text
  pub style : Text
  pub parts : Text
  pub sop : Bool
  pub eph : Bool
  pub plt : Bool
  pub tlm : Bool
  pub rsiz : Text
  pub form : Text
  pub reduce : Text
  pub limit_bytes : Text
  pub threads : Text
  pub window : Text
  pub window_bytes : Text

-- the text that stands under a name, else a default
abbrev pub text_of : (Text → Option Text) → Text → Text → Text
text_of found name default = unwrap_or (found name) default

-- the text of an option; where it isn't among the words clap gives the one that stands for it
abbrev pub said_of : (Text → Option Text) → OptionName → Text
said_of found name = text_of found (name_of name) []

-- clap gives a flag the text `true` where it is among the words
abbrev pub flag_of : (Text → Option Text) → OptionName → Bool
flag_of found name = bytes_eq (said_of found name) (codes "true")

-- the most bytes that an input may have, where its text says a number
abbrev pub limit_in : (Text → Option Text) → Option ℕ
limit_in found = number_said option.LimitBytes (said_of found option.LimitBytes)

-- clap refuses words without `in` and `out`
unfoldable pub given_by : (Text → Option Text) → Given
given_by found = record {
  from = text_of found (codes "in") [];
  to = text_of found (codes "out") [];
  order = said_of found option.Order;
  poc = said_of found option.Poc;
  precincts = said_of found option.Precincts;
  layers = said_of found option.Layers;
  style = said_of found option.Style;
  parts = said_of found option.TileParts;
  sop = flag_of found option.Sop;
  eph = flag_of found option.Eph;
  plt = flag_of found option.Plt;
  tlm = flag_of found option.Tlm;
  rsiz = said_of found option.Rsiz;
  form = said_of found option.Form;
  reduce = said_of found option.Reduce;
  limit_bytes = said_of found option.LimitBytes;
  threads = said_of found option.Threads;
  window = said_of found option.Window;
  window_bytes = said_of found option.WindowBytes;
}

-- the text that clap finds under a name
abbrev pub found_in : List Text → Text → Option Text
found_in words name = first_of name (matches_of transcode words)

abbrev pub given_in : List Text → Given
given_in words = given_by (found_in words)

-- the values that say how the work is done
abbrev pub is_work : Given → Bool
is_work g =
    is_some (thread_count g.threads) && (is_some (number_said option.Window g.window) && is_some (number_said option.WindowBytes g.window_bytes))

-- each value is one of its option's
unfoldable pub are_values : Given → Bool
are_values g =
    is_some (order_said g.order) && (is_some (parse_poc g.poc) && (is_some (precincts_said g.precincts) && (is_some (parts_said g.parts) && (is_some (style_said g.style)
    && (is_some (rsiz_said g.rsiz) && (is_some (form_said g.form) && (is_some (reduce_said g.reduce) && (is_some (number_said option.LimitBytes g.limit_bytes) && is_work g))))))))

unfoldable pub wanted_by : Given → Wanted
wanted_by g = record {
  order = unwrap_or (order_said g.order) None;
  changes = unwrap_or (parse_poc g.poc) (Some []);
  precincts = unwrap_or (precincts_said g.precincts) None;
  style = unwrap_or (style_said g.style) None;
  layers = g.layers;
  marks = record { sop = g.sop; eph = g.eph; plt = g.plt; tlm = g.tlm; parts = unwrap_or (parts_said g.parts) parts.None };
  rsiz = unwrap_or (rsiz_said g.rsiz) rsiz.Zero;
}

unfoldable pub work_by : Given → Work
work_by g = record {
  threads = unwrap_or (thread_count g.threads) default_work.threads;
  window = unwrap_or (number_said option.Window g.window) default_work.window;
  most = unwrap_or (number_said option.WindowBytes g.window_bytes) default_work.most;
}

abbrev pub request_by : Given → Request
request_by g = record { from = g.from; to = g.to; wanted = wanted_by g; form = unwrap_or (form_said g.form) form.Keep; reduce = unwrap_or (reduce_said g.reduce) 0; limit = unwrap_or (number_said option.LimitBytes g.limit_bytes) 268435456; work = work_by g }

abbrev pub names_command : List Text → Bool
names_command words = bytes_eq (slice_index_or words 1 []) (codes "transcode")

-- clap refuses none of the words from the command's name on
abbrev pub are_taken : List Text → Bool
are_taken words = eqb (length (fault_of transcode words)) 0

-- the words are the program's name, the command's, and words that clap takes, with values that are their options'
unfoldable pub is_good : List Text → Bool
is_good words = names_command words && (are_taken (drop 1 words) && are_values (given_in (drop 1 words)))

-- what good words ask for
unfoldable pub request_of : List Text → Request
request_of words = request_by (given_in (drop 1 words))

-- a request that words can make: by one of the five orders, with 1 to 32 volumes or none, the precincts of 1 to 33 resolutions and a style of five bits, without 0 to 32
-- resolutions, of an input of 1 to 2^32 - 1 bytes; the words for the planners of layers are any text
pub record MayBeAsked (r : Request) : Type 0 where
  pub order : IfSome r.wanted.order IsOrderNumber
  pub changes : IfSome r.wanted.changes (λ entries. (entries ≡ []) ⊎ AreVolumes entries)
  pub precincts : IfSome r.wanted.precincts (λ bytes. (bytes ≡ []) ⊎ ArePrecincts bytes)
  pub style : IfSome r.wanted.style MayBeStyle
  pub reduce : r.reduce ≤ 32
  pub limit : MayBeLimit r.limit
  pub work : MayBeWork r.work

-- good words that make a request
pub record Asks (r : Request) : Type 0 where
  pub words : List Text
  pub good : is_good words ≡ true
  pub made : request_of words ≡ r
