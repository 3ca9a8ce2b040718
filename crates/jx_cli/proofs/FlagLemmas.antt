-- Flags among the words of `transcode`: what clap finds with each and without it.
use Rattle.std.proofs.Common.{◌≡◌, ◌∙◌, ◌++◌, ◌&&◌, ap, refl, not, true, false, Bool, List, [], ◌∷◌, Option, Some, None, fold, if◌then◌else◌, codes, sym, true≢false}
use Rattle.std.specs.Option.{option_or}
use Rattle.std.specs.Str.{bytes_eq}
use Rattle.std.proofs.lemmas.Bool.{and_parts}
use Rattle.clap.specs.declared.builder.value_parser.ValueParser.TheVariants as parser
use Rattle.clap.specs.declared.parser.matches.ValueSource.TheVariants.{CommandLine}
use Rattle.clap.specs.Faults.{turn_fault, walk_fault}
use Rattle.clap.specs.Kinds.{Kinds, or_else}
use Rattle.clap.specs.Simple.{Shape, built}
use Rattle.clap.specs.Values.{reading_of}
use Rattle.clap.specs.Walk.{Row, Text, Walk, walk_from, walked}
use Rattle.jx_cli.specs.Command.{transcode}
use Rattle.jx_cli.proofs.RowLemmas.{look, look_added, or_nothing, row_with}

-- the command as clap builds it
abbrev pub shape : Shape
shape = (built transcode).top

-- the walk between two words, with these rows
abbrev pub at_rows : List Row → Walk
at_rows rows = walk_from (record { rows = rows; pending = None; skip = 0 })

abbrev pub walk_on : List Row → List Text → Walk
walk_on rows words = fold (walked shape.rules []) (at_rows rows) words

abbrev pub flag_row : Text → Row
flag_row name = row_with name (reading_of parser.Bool) CommandLine (codes "true" ∷ [])

-- clap takes the flag where it has no row, and gives it one
abbrev pub IsFlag : Text → Type 0
IsFlag name = (rows : List Row) → look name rows ≡ None
    → (walked shape.rules [] (at_rows rows) (codes "--" ++ name) ≡ at_rows (rows ++ flag_row name ∷ []))
    × (turn_fault shape [] (at_rows rows) (codes "--" ++ name) ≡ [])

-- ---- flags by their names, each with whether it is among the words
abbrev pub Flags : Type 0
Flags = List (Text × Bool)

-- each is a flag of the command, no two are the same, and none has a row
abbrev pub apart : Text → Flags → Bool
apart name [] = true
apart name (f ∷ flags) = not (bytes_eq name f.0) && apart name flags

abbrev pub AreFlags : Flags → Type 0
AreFlags [] = Unit {0}
AreFlags (f ∷ flags) = IsFlag f.0 × ((apart f.0 flags ≡ true) × AreFlags flags)

abbrev pub AreAbsent : Flags → List Row → Type 0
AreAbsent [] rows = Unit {0}
AreAbsent (f ∷ flags) rows = (look f.0 rows ≡ None) × AreAbsent flags rows

-- the words of flags before others
abbrev pub flag_word : Text → Bool → List Text → List Text
flag_word name true words = (codes "--" ++ name) ∷ words
flag_word name false words = words

abbrev pub flag_words : Flags → List Text → List Text
flag_words [] words = words
flag_words (f ∷ flags) words = flag_word f.0 f.1 (flag_words flags words)

-- the rows after them
abbrev pub marked : Text → Bool → List Row → List Row
marked name true rows = rows ++ flag_row name ∷ []
marked name false rows = rows

abbrev pub all_marked : Flags → List Row → List Row
all_marked [] rows = rows
all_marked (f ∷ flags) rows = all_marked flags (marked f.0 f.1 rows)

-- what stands under a name then
abbrev pub flag_in : Text → Text → Bool → Option Row
flag_in other name given = if bytes_eq name other && given then Some (flag_row name) else None

abbrev pub flagged : Text → Flags → Option Row
flagged other [] = None
flagged other (f ∷ flags) = option_or (flag_in other f.0 f.1) (flagged other flags)

look_marked : (other name : Text) (given : Bool) (rows : List Row) → look other (marked name given rows) ≡ option_or (look other rows) (flag_in other name given)
look_marked other name true rows = look_added other rows (flag_row name) ∙ ap (option_or (look other rows)) (by (bytes_eq name other))
  where
    by : (b : Bool) → (if b then Some (flag_row name) else None) ≡ (if b && true then Some (flag_row name) else None)
    by true = refl
    by false = refl
look_marked other name false rows = or_nothing (look other rows) ∙ ap (option_or (look other rows)) (by (bytes_eq name other))
  where
    by : (b : Bool) → None ≡ (if b && false then Some (flag_row name) else None)
    by true = refl
    by false = refl

or_assoc : (a b c : Option Row) → option_or (option_or a b) c ≡ option_or a (option_or b c)
or_assoc None b c = refl
or_assoc (Some r) b c = refl

pub look_all_marked : (other : Text) (flags : Flags) (rows : List Row) → look other (all_marked flags rows) ≡ option_or (look other rows) (flagged other flags)
look_all_marked other [] rows = or_nothing (look other rows)
look_all_marked other (f ∷ flags) rows =
    look_all_marked other flags (marked f.0 f.1 rows)
    ∙ ap (λ (o : Option Row). option_or o (flagged other flags)) (look_marked other f.0 f.1 rows)
    ∙ or_assoc (look other rows) (flag_in other f.0 f.1) (flagged other flags)

not_false : (b : Bool) → not b ≡ true → b ≡ false
not_false true is = absurd (true≢false (sym is))
not_false false is = refl

absent_marked : (name : Text) (given : Bool) (flags : Flags) (rows : List Row) → apart name flags ≡ true → AreAbsent flags rows → AreAbsent flags (marked name given rows)
absent_marked name given [] rows are none = tt
absent_marked name given (f ∷ flags) rows are none =
    let parts = and_parts (not (bytes_eq name f.0)) (apart name flags) are in
    let other : bytes_eq name f.0 ≡ false = not_false (bytes_eq name f.0) parts.0 in
    let here : option_or (look f.0 rows) (flag_in f.0 name given) ≡ None = rw (none.0, other) refl in
    (look_marked f.0 name given rows ∙ here, absent_marked name given flags rows parts.1 none.1)

-- ---- the walk over them
one_walked : (name : Text) (given : Bool) (rows : List Row) (words : List Text) → IsFlag name → look name rows ≡ None → walk_on rows (flag_word name given words) ≡ walk_on (marked name given rows) words
one_walked name true rows words is none = ap (λ (w : Walk). fold (walked shape.rules []) w words) (is rows none).0
one_walked name false rows words is none = refl

pub flags_walked : (flags : Flags) (rows : List Row) (words : List Text) → AreFlags flags → AreAbsent flags rows → walk_on rows (flag_words flags words) ≡ walk_on (all_marked flags rows) words
flags_walked [] rows words are none = refl
flags_walked (f ∷ flags) rows words are none =
    one_walked f.0 f.1 rows (flag_words flags words) are.0 none.0
    ∙ flags_walked flags (marked f.0 f.1 rows) words are.1.1 (absent_marked f.0 f.1 flags rows are.1.0 none.1)

abbrev pub fault_on : List Row → List Text → Kinds
fault_on rows words = walk_fault shape [] (at_rows rows) words

one_taken : (name : Text) (given : Bool) (rows : List Row) (words : List Text) → IsFlag name → look name rows ≡ None → fault_on rows (flag_word name given words) ≡ fault_on (marked name given rows) words
unfolding walk_fault
one_taken name true rows words is none =
    ap (λ (kinds : Kinds). or_else kinds (walk_fault shape [] (walked shape.rules [] (at_rows rows) (codes "--" ++ name)) words)) (is rows none).1
    ∙ ap (λ (w : Walk). walk_fault shape [] w words) (is rows none).0
one_taken name false rows words is none = refl

pub flags_taken : (flags : Flags) (rows : List Row) (words : List Text) → AreFlags flags → AreAbsent flags rows → fault_on rows (flag_words flags words) ≡ fault_on (all_marked flags rows) words
flags_taken [] rows words are none = refl
flags_taken (f ∷ flags) rows words are none =
    one_taken f.0 f.1 rows (flag_words flags words) are.0 none.0
    ∙ flags_taken flags (marked f.0 f.1 rows) words are.1.1 (absent_marked f.0 f.1 flags rows are.1.0 none.1)
