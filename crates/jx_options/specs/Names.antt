-- The table of the options of all commands: what each is called, what stands for it where it isn't among the words, which words are its
-- values, and what the help says of it.
use Rattle.std.specs.Prelude.{ℕ, Bool, true, false, List, [], ◌∷◌, ◌++◌, Option, Some, map, codes, if◌then◌else◌, is_some}
use Rattle.std.specs.Str.{bytes_eq}
use Rattle.jx_base.specs.Limits.{most_bytes}
use Rattle.jx_base.specs.Texts.{number_in}
use Rattle.jx_options.specs.declared.FormChoice.{FormChoice}
use Rattle.jx_options.specs.declared.FormChoice.TheVariants as form
use Rattle.jx_options.specs.declared.Marks.{Marks}
use Rattle.jx_options.specs.declared.PartChoice.{PartChoice}
use Rattle.jx_options.specs.declared.PartChoice.TheVariants as parts
use Rattle.jx_options.specs.declared.RsizChoice.{RsizChoice}
use Rattle.jx_options.specs.declared.RsizChoice.TheVariants as rsiz
use Rattle.jx_options.specs.declared.names.OptionName.{OptionName}
use Rattle.jx_options.specs.declared.names.OptionName.TheVariants as name
use Rattle.jx_options.specs.Orders.{order_help, order_said, order_words}
use Rattle.jx_options.specs.Values.{precincts_said, style_said, value_in}
use Rattle.jx_options.specs.Volumes.{parse_poc}

-- those of `transcode`, in the order of its help
abbrev pub transcode_names : List OptionName
transcode_names =
    name.Order ∷ name.Poc ∷ name.Precincts ∷ name.Layers ∷ name.TileParts ∷ name.Sop ∷ name.Eph ∷ name.Plt ∷ name.Tlm
    ∷ name.Rsiz ∷ name.Form ∷ name.Style ∷ name.Reduce ∷ name.LimitBytes ∷ name.Threads ∷ name.Window ∷ name.WindowBytes ∷ []

abbrev pub boxes_names : List OptionName
boxes_names = name.LimitBytes ∷ []

abbrev pub same_names : List OptionName
same_names = name.CompareThreads ∷ name.LimitBytes ∷ []

abbrev pub show_names : List OptionName
show_names = name.Json ∷ name.LimitBytes ∷ []

abbrev pub all_names : List OptionName
all_names = transcode_names ++ name.CompareThreads ∷ name.Json ∷ []

abbrev pub name_of : OptionName → List ℕ
name_of name.Order = codes "order"
name_of name.Poc = codes "poc"
name_of name.Precincts = codes "precincts"
name_of name.Layers = codes "layers"
name_of name.TileParts = codes "tile-parts"
name_of name.Sop = codes "sop"
name_of name.Eph = codes "eph"
name_of name.Plt = codes "plt"
name_of name.Tlm = codes "tlm"
name_of name.Rsiz = codes "rsiz"
name_of name.Form = codes "form"
name_of name.Style = codes "style"
name_of name.Reduce = codes "reduce"
name_of name.LimitBytes = codes "limit-bytes"
name_of name.Threads = codes "threads"
name_of name.Window = codes "window"
name_of name.WindowBytes = codes "window-bytes"
name_of name.CompareThreads = codes "threads"
name_of name.Json = codes "json"

-- a flag that is among the words has the text `true`
abbrev pub default_of : OptionName → List ℕ
default_of name.Order = codes "keep"
default_of name.Poc = codes "none"
default_of name.Precincts = codes "keep"
default_of name.Layers = codes "keep"
default_of name.TileParts = codes "none"
default_of name.Sop = codes "false"
default_of name.Eph = codes "false"
default_of name.Plt = codes "false"
default_of name.Tlm = codes "false"
default_of name.Rsiz = codes "zero"
default_of name.Form = codes "keep"
default_of name.Style = codes "keep"
default_of name.Reduce = codes "0"
default_of name.LimitBytes = codes "268435456"
default_of name.Threads = codes "auto"
default_of name.Window = codes "64"
default_of name.WindowBytes = codes "268435456"
default_of name.CompareThreads = codes "auto"
default_of name.Json = codes "false"

-- it stands alone
abbrev pub is_flag : OptionName → Bool
is_flag name.Sop = true
is_flag name.Eph = true
is_flag name.Plt = true
is_flag name.Tlm = true
is_flag name.Json = true
is_flag _ = false

-- where tile-parts begin: between packets of different resolutions, layers or components
abbrev pub part_choices : List (List ℕ × PartChoice)
part_choices = (codes "none", parts.None) ∷ (codes "r", parts.Resolution) ∷ (codes "l", parts.Layer) ∷ (codes "c", parts.Component) ∷ []

-- what profile is claimed (Rsiz, Table A.10): none, or the input's
abbrev pub rsiz_choices : List (List ℕ × RsizChoice)
rsiz_choices = (codes "zero", rsiz.Zero) ∷ (codes "keep", rsiz.Keep) ∷ []

-- what is written of a JP2 file: one again, or the codestream alone (Annex I)
abbrev pub form_choices : List (List ℕ × FormChoice)
form_choices = (codes "keep", form.Keep) ∷ (codes "j2k", form.Codestream) ∷ []

abbrev pub parts_said : List ℕ → Option PartChoice
parts_said = value_in part_choices

abbrev pub rsiz_said : List ℕ → Option RsizChoice
rsiz_said = value_in rsiz_choices

abbrev pub form_said : List ℕ → Option FormChoice
form_said = value_in form_choices

-- ---- those that are numbers

-- the greatest; 0 where the values are no numbers
abbrev pub greatest_of : OptionName → ℕ
greatest_of name.Reduce = 32
greatest_of name.LimitBytes = most_bytes
greatest_of name.Threads = 64
greatest_of name.Window = 1024
greatest_of name.WindowBytes = most_bytes
greatest_of name.CompareThreads = 64
greatest_of _ = 0

-- from 1 up
abbrev pub number_said : OptionName → List ℕ → Option ℕ
number_said name = number_in (greatest_of name)

-- resolutions that are left out, 0 among them
abbrev pub reduce_said : List ℕ → Option ℕ
reduce_said word = if bytes_eq word (codes "0") then Some 0 else number_said name.Reduce word

-- how many threads: 1 to 64; 0 for as many as the system has free
abbrev pub thread_count : List ℕ → Option ℕ
thread_count word = if bytes_eq word (codes "auto") then Some 0 else number_said name.Threads word

-- ---- values of all

-- all the values, where these are few words
abbrev pub listed_of : OptionName → List (List ℕ)
listed_of name.Order = order_words
listed_of name.TileParts = map (λ p. p.0) part_choices
listed_of name.Rsiz = map (λ p. p.0) rsiz_choices
listed_of name.Form = map (λ p. p.0) form_choices
listed_of _ = []

-- a word is a value of an option: to the planners of layers any text may be one, and a flag has none
abbrev pub is_value : OptionName → List ℕ → Bool
is_value name.Order word = is_some (order_said word)
is_value name.Poc word = is_some (parse_poc word)
is_value name.Precincts word = is_some (precincts_said word)
is_value name.Layers word = true
is_value name.TileParts word = is_some (parts_said word)
is_value name.Rsiz word = is_some (rsiz_said word)
is_value name.Form word = is_some (form_said word)
is_value name.Style word = is_some (style_said word)
is_value name.Reduce word = is_some (reduce_said word)
is_value name.LimitBytes word = is_some (number_said name.LimitBytes word)
is_value name.Threads word = is_some (thread_count word)
is_value name.Window word = is_some (number_said name.Window word)
is_value name.WindowBytes word = is_some (number_said name.WindowBytes word)
is_value name.CompareThreads word = is_some (thread_count word)
is_value _ word = false

-- what stands there where no option is among the words
abbrev pub no_marks : Marks
no_marks = record { sop = false; eph = false; plt = false; tlm = false; parts = parts.None }

-- ---- what the help says beside that

-- the heading under which the help of `transcode` has it
abbrev pub heading_of : OptionName → List ℕ
heading_of name.Style = codes "How code-blocks are coded"
heading_of name.Reduce = codes "How much of the picture is written"
heading_of name.LimitBytes = codes "How large a file is taken"
heading_of name.Threads = codes "How the work is done (the file doesn't depend on it)"
heading_of name.Window = codes "How the work is done (the file doesn't depend on it)"
heading_of name.WindowBytes = codes "How the work is done (the file doesn't depend on it)"
heading_of name.CompareThreads = []
heading_of name.Json = []
heading_of _ = codes "How the file is packed"

-- the word that stands for a value; a flag has none
abbrev pub placeholder_of : OptionName → List ℕ
placeholder_of name.Order = codes "ORDER"
placeholder_of name.Poc = codes "VOLUMES"
placeholder_of name.Precincts = codes "LIST"
placeholder_of name.Layers = codes "RULE"
placeholder_of name.TileParts = codes "BY"
placeholder_of name.Rsiz = codes "PROFILE"
placeholder_of name.Form = codes "FORM"
placeholder_of name.Style = codes "NAMES"
placeholder_of name.Reduce = codes "D"
placeholder_of name.LimitBytes = codes "N"
placeholder_of name.Threads = codes "N"
placeholder_of name.Window = codes "N"
placeholder_of name.WindowBytes = codes "N"
placeholder_of name.CompareThreads = codes "N"
placeholder_of _ = []

-- what it does, its values and its default, and an example
abbrev pub what_of : OptionName → List ℕ
what_of name.Order = order_help
what_of name.Poc = codes "none, keep, or volumes with / between them, each\nRS,CS,LYE,RE,CE,ORDER: the packets of a volume\nstand together, in its order\ndefault none; as in --poc 0,0,1,33,3,rpcl"
what_of name.Precincts = codes "keep, max, or exponents from resolution 0 up:\n7x7 is 128 by 128, the last one is for all above\ndefault keep; as in --precincts 7x7,8x8"
what_of name.Layers = codes "keep, one, cuts:N,N.. (a new layer at each of\nthese coding passes, 1 to 220, rising), or\nplanes:N (one for each N bit-planes, 1 to 74)\ndefault keep; as in --layers planes:2"
what_of name.TileParts = codes "none, r, l or c: a new tile-part for each\nresolution, layer or component\ndefault none; as in --tile-parts r"
what_of name.Sop = codes "an SOP segment before each packet"
what_of name.Eph = codes "an EPH marker behind each packet header"
what_of name.Plt = codes "packet lengths in the tile-parts' headers"
what_of name.Tlm = codes "tile-part lengths in the main header"
what_of name.Rsiz = codes "zero or keep: no profile is claimed, or that of\nthe input, where the file meets it\ndefault zero; as in --rsiz keep"
what_of name.Form = codes "keep or j2k: of a JP2 file a JP2 file again, or\nthe codestream alone\ndefault keep; as in --form j2k"
what_of name.Style = codes "keep, none, or names with + between them:\nbypass, reset, terminate, causal, segment\ndefault keep; as in --style terminate+reset"
what_of name.Reduce = codes "leave out the D highest resolutions: the picture\nis 2^D times smaller both ways\n0 to 32, default 0; as in --reduce 1"
what_of name.LimitBytes = codes "the most bytes that an input may have (limit 1)\n1 to 4294967295, default 268435456"
what_of name.Threads = codes "workers that code blocks anew: 1 to 64, or auto,\nas many as the system has free\ndefault auto; as in --threads 4"
what_of name.Window = codes "blocks that are in work or wait for their turn\n1 to 1024, default 64; as in --window 16"
what_of name.WindowBytes = codes "bytes of several such blocks together\n1 to 4294967295, default 268435456"
what_of name.CompareThreads = codes "threads that compare code-blocks: 1 to 64, or\nauto, as many as the system has free\ndefault auto; as in --threads 4"
what_of name.Json = codes "say a JSON object in place of lines"

-- the least and the greatest of values that are numbers
abbrev pub range_of : OptionName → List ℕ
range_of name.Reduce = codes "0 to 32"
range_of name.LimitBytes = codes "1 to 4294967295"
range_of name.Threads = codes "1 to 64"
range_of name.Window = codes "1 to 1024"
range_of name.WindowBytes = codes "1 to 4294967295"
range_of name.CompareThreads = codes "1 to 64"
range_of _ = []

-- what a value has to be that is neither a number, nor listed, nor any text
abbrev pub form_of : OptionName → List ℕ
form_of name.Poc = codes "none, keep, or 1 to 32 volumes RS,CS,LYE,RE,CE,ORDER with / between them:\n  RS 0 to 32, CS 0 to 16383, LYE 1 to 65535, RE 1 to 33, CE 1 to 16384,\n  RS below RE, CS below CE, ORDER lrcp, rlcp, rpcl, pcrl or cprl in any case"
form_of name.Precincts = codes "keep, max, or 1 to 33 items XxY with commas, X and Y from 0 to 15;\n  exponents: 8x8 is 256 by 256"
form_of name.Style = codes "keep, none, or names with + between them, each at most once:\n  bypass, reset, terminate, causal, segment"
form_of name.Threads = codes "auto, or a number from 1 to 64, without a sign or leading zeros"
form_of name.CompareThreads = codes "auto, or a number from 1 to 64, without a sign or leading zeros"
form_of _ = []
