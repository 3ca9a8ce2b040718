-- Words that make a request.
use Rattle.std.proofs.Common.{◌≡◌, ◌∙◌, ap, arith, ℕ, List, [], ◌∷◌, ◌++◌, Bool, true, false, refl, codes, Option, None, Some, length, eqb, if◌then◌else◌, is_some, option_and_then, slice_get, unwrap_or}
use Rattle.std.specs.Str.{bytes_eq}
use Rattle.std.specs.Option.{option_map_or, option_or}
use Rattle.std.specs.Fmt.{decimal}
use Rattle.std.proofs.Math.Path.{fun_ext}
use Rattle.clap.specs.declared.builder.value_parser.ValueParser.TheVariants as parser
use Rattle.clap.specs.declared.parser.matches.ValueSource.TheVariants.{CommandLine, DefaultValue}
use Rattle.clap.specs.Facts.{explicit_source}
use Rattle.clap.specs.Faults.{check_fault, defaults_fault, entered_fault, fault_of, settle_fault}
use Rattle.clap.specs.Kinds.{Kinds, or_else}
use Rattle.clap.specs.Simple.{built, entered}
use Rattle.clap.specs.Takes.{is_given}
use Rattle.clap.specs.Values.{reading_of}
use Rattle.clap.specs.Walk.{Held, Row, Walk, finished, settled, with_values, without}
use Rattle.clap.proofs.OnLiterals.{clap_on_literals}
use Rattle.jx_options.specs.declared.FormChoice.{FormChoice}
use Rattle.jx_options.specs.declared.FormChoice.TheVariants as form
use Rattle.jx_options.specs.declared.PartChoice.{PartChoice}
use Rattle.jx_options.specs.declared.PartChoice.TheVariants as parts
use Rattle.jx_options.specs.declared.RsizChoice.{RsizChoice}
use Rattle.jx_options.specs.declared.RsizChoice.TheVariants as rsiz
use Rattle.jx_cli.specs.Command.{transcode, with_flag, with_option, with_place}
use Rattle.jx_options.specs.Names.{form_said, parts_said, rsiz_said}
use Rattle.jx_cli.specs.Words.{Asks, Given, MayBeAsked, Request, Text, are_values, flag_of, found_in, given_by, given_in, is_good, request_of, wanted_by, work_by}
use Rattle.jx_base.specs.Limits.{most_bytes}
use Rattle.jx_options.specs.Work.{MayBeLimit, MayBeWork, Work}
use Rattle.jx_options.proofs.NumberLemmas.{number_spelled}
use Rattle.jx_options.proofs.OrderWords.{order_back, order_word}
use Rattle.jx_base.specs.Texts.{number_in}
use Rattle.jx_options.specs.declared.names.OptionName.TheVariants as option
use Rattle.jx_cli.proofs.FlagLemmas.{AreAbsent, AreFlags, Flags, IsFlag, all_marked, at_rows, fault_on, flag_row, flag_words, flagged, flags_taken, flags_walked, look_all_marked, shape, walk_on}
use Rattle.jx_cli.proofs.ValueLemmas.{poc_back, poc_word, precincts_back, precincts_word, reduce_back, style_back, style_word, threads_back, threads_word}
use Rattle.jx_cli.proofs.RowLemmas.{default_of, defaulted, has_looked, look, look_added, no_default_fault, row_with, values_added}

-- ---- each flag
sop_is_flag : IsFlag (codes "sop")
unfolding clap_on_literals transcode with_flag with_option with_place
sop_is_flag rows none = (ap at_rows (values_added (codes "sop") (reading_of parser.Bool) CommandLine (codes "true" ∷ []) rows none), rw (has_looked (codes "sop") rows, none) refl)

eph_is_flag : IsFlag (codes "eph")
unfolding clap_on_literals transcode with_flag with_option with_place
eph_is_flag rows none = (ap at_rows (values_added (codes "eph") (reading_of parser.Bool) CommandLine (codes "true" ∷ []) rows none), rw (has_looked (codes "eph") rows, none) refl)

plt_is_flag : IsFlag (codes "plt")
unfolding clap_on_literals transcode with_flag with_option with_place
plt_is_flag rows none = (ap at_rows (values_added (codes "plt") (reading_of parser.Bool) CommandLine (codes "true" ∷ []) rows none), rw (has_looked (codes "plt") rows, none) refl)

tlm_is_flag : IsFlag (codes "tlm")
unfolding clap_on_literals transcode with_flag with_option with_place
tlm_is_flag rows none = (ap at_rows (values_added (codes "tlm") (reading_of parser.Bool) CommandLine (codes "true" ∷ []) rows none), rw (has_looked (codes "tlm") rows, none) refl)

abbrev flags_of : Bool → Bool → Bool → Bool → Flags
flags_of sop eph plt tlm = (codes "sop", sop) ∷ (codes "eph", eph) ∷ (codes "plt", plt) ∷ (codes "tlm", tlm) ∷ []

are_flags : (sop eph plt tlm : Bool) → AreFlags (flags_of sop eph plt tlm)
are_flags sop eph plt tlm = (sop_is_flag, (refl, (eph_is_flag, (refl, (plt_is_flag, (refl, (tlm_is_flag, (refl, tt))))))))

-- ---- words, and what clap makes of them
abbrev value_words : Given → List Text → List Text
value_words g words =
    (codes "--order=" ++ g.order) ∷ (codes "--poc=" ++ g.poc) ∷ (codes "--precincts=" ++ g.precincts) ∷ (codes "--layers=" ++ g.layers) ∷ (codes "--style=" ++ g.style) ∷ (codes "--tile-parts=" ++ g.parts)
    ∷ (codes "--rsiz=" ++ g.rsiz) ∷ (codes "--form=" ++ g.form) ∷ (codes "--reduce=" ++ g.reduce) ∷ (codes "--limit-bytes=" ++ g.limit_bytes) ∷ (codes "--threads=" ++ g.threads)
    ∷ (codes "--window=" ++ g.window) ∷ (codes "--window-bytes=" ++ g.window_bytes) ∷ words

abbrev name_words : Given → List Text
name_words g = codes "--" ∷ g.from ∷ g.to ∷ []

abbrev flags_in : Given → Flags
flags_in g = flags_of g.sop g.eph g.plt g.tlm

-- the words from the command's name on
abbrev made_words : Given → List Text
made_words g = codes "transcode" ∷ value_words g (flag_words (flags_in g) (name_words g))

-- the rows after the values, after the flags, and after the names
abbrev value_rows : Given → List Row
value_rows g = (walk_on [] (value_words g [])).held.rows

abbrev flag_rows : Given → List Row
flag_rows g = all_marked (flags_in g) (value_rows g)

abbrev place_row : Text → Text → Row
place_row name text = row_with name (reading_of parser.String) CommandLine (text ∷ [])

abbrev all_rows : Given → List Row → List Row
all_rows g rows = (rows ++ place_row (codes "in") g.from ∷ []) ++ place_row (codes "out") g.to ∷ []

none_flagged : (g : Given) → AreAbsent (flags_in g) (value_rows g)
unfolding clap_on_literals transcode with_flag with_option with_place
none_flagged g = (refl, (refl, (refl, (refl, tt))))

no_input : (g : Given) → look (codes "in") (flag_rows g) ≡ None
unfolding clap_on_literals transcode with_flag with_option with_place
no_input g = look_all_marked (codes "in") (flags_in g) (value_rows g)

no_output : (g : Given) → look (codes "out") (flag_rows g) ≡ None
unfolding clap_on_literals transcode with_flag with_option with_place
no_output g = look_all_marked (codes "out") (flags_in g) (value_rows g)

still_no_output : (g : Given) (rows : List Row) → look (codes "out") rows ≡ None → look (codes "out") (rows ++ place_row (codes "in") g.from ∷ []) ≡ None
still_no_output g rows none = look_added (codes "out") rows (place_row (codes "in") g.from) ∙ ap (λ (o : Option Row). option_or o None) none

flags_met : (g : Given) → walk_on [] (value_words g (flag_words (flags_in g) (name_words g))) ≡ walk_on (flag_rows g) (name_words g)
unfolding clap_on_literals transcode with_flag with_option with_place
flags_met g = flags_walked (flags_in g) (value_rows g) (name_words g) (are_flags g.sop g.eph g.plt g.tlm) (none_flagged g)

flags_passed : (g : Given) → fault_on [] (value_words g (flag_words (flags_in g) (name_words g))) ≡ fault_on (flag_rows g) (name_words g)
unfolding clap_on_literals transcode with_flag with_option with_place
flags_passed g = flags_taken (flags_in g) (value_rows g) (name_words g) (are_flags g.sop g.eph g.plt g.tlm) (none_flagged g)

-- the names are met last
abbrev end_of : Given → List Row → Held
end_of g rows = (walk_on rows (name_words g)).held

names_met : (g : Given) (rows : List Row) → look (codes "in") rows ≡ None → look (codes "out") rows ≡ None → (settled shape.rules (end_of g rows)).rows ≡ all_rows g rows
unfolding clap_on_literals transcode with_flag with_option with_place
names_met g rows no_in no_out =
    ap (λ (all : List Row). with_values (codes "out") (reading_of parser.String) CommandLine (g.to ∷ []) (without (codes "out") all))
    (values_added (codes "in") (reading_of parser.String) CommandLine (g.from ∷ []) rows no_in)
    ∙ values_added (codes "out") (reading_of parser.String) CommandLine (g.to ∷ []) (rows ++ place_row (codes "in") g.from ∷ []) (still_no_output g rows no_out)

names_passed : (g : Given) (rows : List Row) → look (codes "in") rows ≡ None → fault_on rows (name_words g) ≡ []
unfolding clap_on_literals transcode with_flag with_option with_place
names_passed g rows no_in = rw (has_looked (codes "in") rows, no_in) refl

end_passed : (g : Given) (rows : List Row) → look (codes "in") rows ≡ None → look (codes "out") rows ≡ None → settle_fault shape.rules shape.args_override_self (end_of g rows) ≡ []
unfolding clap_on_literals transcode with_flag with_option with_place
end_passed g rows no_in no_out =
    rw (values_added (codes "in") (reading_of parser.String) CommandLine (g.from ∷ []) rows no_in, has_looked (codes "out") (rows ++ place_row (codes "in") g.from ∷ []), still_no_output g rows no_out) refl

defaults_passed : (rows : List Row) → defaults_fault rows shape.rules ≡ []
unfolding clap_on_literals transcode with_flag with_option with_place
defaults_passed rows = no_default_fault shape.rules rows refl

-- what stands under a name in the end
abbrev row_in : Given → Text → Option Row
row_in g name =
    option_or (option_or (option_or (option_or (look name (value_rows g)) (flagged name (flags_in g))) (if bytes_eq (codes "in") name then Some (place_row (codes "in") g.from) else None))
    (if bytes_eq (codes "out") name then Some (place_row (codes "out") g.to) else None)) (default_of name shape.rules)

row_found : (g : Given) (name : Text) → look name (finished shape.rules (end_of g (flag_rows g))) ≡ row_in g name
row_found g name =
    defaulted name shape.rules (settled shape.rules (end_of g (flag_rows g))).rows
    ∙ ap (λ (all : List Row). option_or (look name all) (default_of name shape.rules)) (names_met g (flag_rows g) (no_input g) (no_output g))
    ∙ ap (λ (o : Option Row). option_or o (default_of name shape.rules))
    (look_added name (flag_rows g ++ place_row (codes "in") g.from ∷ []) (place_row (codes "out") g.to)
    ∙ ap (λ (o : Option Row). option_or o (if bytes_eq (codes "out") name then Some (place_row (codes "out") g.to) else None))
    (look_added name (flag_rows g) (place_row (codes "in") g.from)
    ∙ ap (λ (o : Option Row). option_or o (if bytes_eq (codes "in") name then Some (place_row (codes "in") g.from) else None)) (look_all_marked name (flags_in g) (value_rows g))))

-- both names are given
abbrev is_explicit_row : Option Row → Bool
is_explicit_row o = option_map_or (λ r. explicit_source r.source) o false

input_explicit : (g : Given) → is_explicit_row (row_in g (codes "in")) ≡ true
unfolding clap_on_literals transcode with_flag with_option with_place
input_explicit g = refl

input_given : (g : Given) → is_given (codes "in") (finished shape.rules (end_of g (flag_rows g))) ≡ true
input_given g = ap is_explicit_row (row_found g (codes "in")) ∙ input_explicit g

output_explicit : (g : Given) → is_explicit_row (row_in g (codes "out")) ≡ true
unfolding clap_on_literals transcode with_flag with_option with_place
output_explicit g = refl

output_given : (g : Given) → is_given (codes "out") (finished shape.rules (end_of g (flag_rows g))) ≡ true
output_given g = ap is_explicit_row (row_found g (codes "out")) ∙ output_explicit g

checks_passed : (rows : List Row) → is_given (codes "in") rows ≡ true → is_given (codes "out") rows ≡ true → check_fault shape rows false ≡ []
unfolding clap_on_literals transcode with_flag with_option with_place
checks_passed rows input output = rw (input, output) refl

all_none : (a b c d : Kinds) → a ≡ [] → b ≡ [] → c ≡ [] → d ≡ [] → or_else a (or_else [] (or_else b (or_else c d))) ≡ []
all_none a b c d no_a no_b no_c no_d = rw (no_a, no_b, no_c, no_d) refl

abbrev fault_after : Kinds → Walk → Kinds
fault_after kinds w =
    or_else kinds (or_else (entered_fault (built transcode) w.stopped) (or_else (settle_fault shape.rules shape.args_override_self w.held)
    (or_else (defaults_fault (settled shape.rules w.held).rows shape.rules) (check_fault shape (finished shape.rules w.held) (is_some (entered (built transcode) w.stopped))))))

made_taken : (g : Given) → fault_of transcode (made_words g) ≡ []
unfolding clap_on_literals transcode with_flag with_option with_place
made_taken g =
    ap (λ (kinds : Kinds). fault_after kinds (walk_on [] (value_words g (flag_words (flags_in g) (name_words g))))) (flags_passed g)
    ∙ ap (fault_after (fault_on (flag_rows g) (name_words g))) (flags_met g)
    ∙ all_none (fault_on (flag_rows g) (name_words g)) (settle_fault shape.rules shape.args_override_self (end_of g (flag_rows g)))
    (defaults_fault (settled shape.rules (end_of g (flag_rows g))).rows shape.rules) (check_fault shape (finished shape.rules (end_of g (flag_rows g))) false)
    (names_passed g (flag_rows g) (no_input g)) (end_passed g (flag_rows g) (no_input g) (no_output g)) (defaults_passed (settled shape.rules (end_of g (flag_rows g))).rows)
    (checks_passed (finished shape.rules (end_of g (flag_rows g))) (input_given g) (output_given g))

abbrev text_in : Option Row → Option Text
text_in o = option_and_then (λ r. slice_get r.values 0) o

abbrev text_found_in : Given → Text → Option Text
text_found_in g name = text_in (row_in g name)

text_found : (g : Given) (name : Text) → found_in (made_words g) name ≡ text_found_in g name
unfolding transcode with_flag with_option with_place
text_found g name = ap (λ (w : Walk). text_in (look name (finished shape.rules w.held))) (flags_met g) ∙ ap text_in (row_found g name)

-- the text of a flag says whether it is among the words
flag_back : (name : Text) (given : Bool)
    → bytes_eq (unwrap_or (text_in (option_or (option_or (option_or (option_or (if given then Some (flag_row name) else None) None) None) None) (Some (row_with name (reading_of parser.Bool) DefaultValue (codes "false" ∷ []))))) []) (codes "true") ≡ given
flag_back name true = refl
flag_back name false = refl

sop_back : (g : Given) → flag_of (text_found_in g) option.Sop ≡ g.sop
unfolding clap_on_literals transcode with_flag with_option with_place
sop_back g = flag_back (codes "sop") g.sop

eph_back : (g : Given) → flag_of (text_found_in g) option.Eph ≡ g.eph
unfolding clap_on_literals transcode with_flag with_option with_place
eph_back g = flag_back (codes "eph") g.eph

plt_back : (g : Given) → flag_of (text_found_in g) option.Plt ≡ g.plt
unfolding clap_on_literals transcode with_flag with_option with_place
plt_back g = flag_back (codes "plt") g.plt

tlm_back : (g : Given) → flag_of (text_found_in g) option.Tlm ≡ g.tlm
unfolding clap_on_literals transcode with_flag with_option with_place
tlm_back g = flag_back (codes "tlm") g.tlm

abbrev with_flags : Given → Bool → Bool → Bool → Bool → Given
with_flags g sop eph plt tlm = record g { sop = sop; eph = eph; plt = plt; tlm = tlm }

same_flags : (g : Given) (sop eph plt tlm : Bool) → sop ≡ g.sop → eph ≡ g.eph → plt ≡ g.plt → tlm ≡ g.tlm → with_flags g sop eph plt tlm ≡ with_flags g g.sop g.eph g.plt g.tlm
same_flags g sop eph plt tlm is_sop is_eph is_plt is_tlm = rw (is_sop, is_eph, is_plt, is_tlm) refl

values_back : (g : Given) → given_by (text_found_in g)
    ≡ with_flags g (flag_of (text_found_in g) option.Sop) (flag_of (text_found_in g) option.Eph) (flag_of (text_found_in g) option.Plt) (flag_of (text_found_in g) option.Tlm)
unfolding clap_on_literals transcode with_flag with_option with_place given_by
values_back g = refl

made_found : (g : Given) → given_in (made_words g) ≡ with_flags g g.sop g.eph g.plt g.tlm
made_found g = ap given_by (fun_ext (text_found g)) ∙ values_back g ∙ same_flags g _ _ _ _ (sop_back g) (eph_back g) (plt_back g) (tlm_back g)

-- ---- the words of values
abbrev parts_word : PartChoice → Text
parts_word parts.None = codes "none"
parts_word parts.Resolution = codes "r"
parts_word parts.Layer = codes "l"
parts_word parts.Component = codes "c"

parts_back : (choice : PartChoice) → parts_said (parts_word choice) ≡ Some choice
parts_back parts.None = refl
parts_back parts.Resolution = refl
parts_back parts.Layer = refl
parts_back parts.Component = refl

abbrev rsiz_word : RsizChoice → Text
rsiz_word rsiz.Zero = codes "zero"
rsiz_word rsiz.Keep = codes "keep"

rsiz_back : (choice : RsizChoice) → rsiz_said (rsiz_word choice) ≡ Some choice
rsiz_back rsiz.Zero = refl
rsiz_back rsiz.Keep = refl

abbrev form_word : FormChoice → Text
form_word form.Keep = codes "keep"
form_word form.Codestream = codes "j2k"

form_back : (choice : FormChoice) → form_said (form_word choice) ≡ Some choice
form_back form.Keep = refl
form_back form.Codestream = refl

-- ---- all of it
abbrev given_for : Request → Given
given_for r = record {
  from = r.from;
  to = r.to;
  order = order_word r.wanted.order;
  poc = poc_word r.wanted.changes;
  precincts = precincts_word r.wanted.precincts;
  layers = r.wanted.layers;
  style = style_word r.wanted.style;
  parts = parts_word r.wanted.marks.parts;
  sop = r.wanted.marks.sop;
  eph = r.wanted.marks.eph;
  plt = r.wanted.marks.plt;
  tlm = r.wanted.marks.tlm;
  rsiz = rsiz_word r.wanted.rsiz;
  form = form_word r.form;
  reduce = decimal r.reduce;
  limit_bytes = decimal r.limit;
  threads = threads_word r.work.threads;
  window = decimal r.work.window;
  window_bytes = decimal r.work.most;
}

abbrev words_for : Request → List Text
words_for r = made_words (given_for r)

found_for : (r : Request) → given_in (words_for r) ≡ given_for r
found_for r = made_found (given_for r)

window_back : (w : Work) → MayBeWork w → number_in 1024 (decimal w.window) ≡ Some w.window
window_back w may = number_spelled 1024 w.window (omega arith) may.some_window may.few_window

pub limit_back : (n : ℕ) → MayBeLimit n → number_in most_bytes (decimal n) ≡ Some n
limit_back n may = number_spelled most_bytes n (omega arith) may.some may.few

most_back : (w : Work) → MayBeWork w → number_in most_bytes (decimal w.most) ≡ Some w.most
most_back w may = number_spelled most_bytes w.most (omega arith) may.some_most may.few_most

values_good : (r : Request) → MayBeAsked r → are_values (given_for r) ≡ true
unfolding are_values
values_good r may =
    rw (order_back r.wanted.order may.order, poc_back r.wanted.changes may.changes, precincts_back r.wanted.precincts may.precincts, parts_back r.wanted.marks.parts, style_back r.wanted.style may.style, rsiz_back r.wanted.rsiz, form_back r.form, reduce_back r.reduce may.reduce, limit_back r.limit may.limit, threads_back r.work.threads may.work.few_threads, window_back r.work may.work, most_back r.work may.work) refl

values_made : (r : Request) → MayBeAsked r → wanted_by (given_for r) ≡ r.wanted
unfolding wanted_by
values_made r may =
    rw (order_back r.wanted.order may.order, poc_back r.wanted.changes may.changes, precincts_back r.wanted.precincts may.precincts, parts_back r.wanted.marks.parts, style_back r.wanted.style may.style, rsiz_back r.wanted.rsiz) refl

work_made : (r : Request) → MayBeAsked r → work_by (given_for r) ≡ r.work
unfolding work_by
work_made r may = rw (threads_back r.work.threads may.work.few_threads, window_back r.work may.work, most_back r.work may.work) refl

made_good : (r : Request) → MayBeAsked r → is_good ([] ∷ words_for r) ≡ true
unfolding is_good
made_good r may =
    let none : eqb (length (fault_of transcode (words_for r))) 0 ≡ true = rw (made_taken (given_for r)) refl in
    let values : are_values (given_in (words_for r)) ≡ true = rw (found_for r) (values_good r may) in
    rw (none, values) refl

made_request : (r : Request) → MayBeAsked r → request_of ([] ∷ words_for r) ≡ r
unfolding request_of
made_request r may = rw (found_for r, values_made r may, form_back r.form, reduce_back r.reduce may.reduce, limit_back r.limit may.limit, work_made r may) refl

pub has_words : (r : Request) → MayBeAsked r → Asks r
has_words r may = record { words = [] ∷ words_for r; good = made_good r may; made = made_request r may }
