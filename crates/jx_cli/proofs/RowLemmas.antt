-- The rows that clap finds, by the names under which they are looked up: a row that is added, and defaults.
use Rattle.std.proofs.Common.{◌≡◌, ◌∙◌, ◌++◌, ◌&&◌, ◌||◌, ap, refl, sym, subst, true≢false, true, false, Bool, List, [], ◌∷◌, Option, Some, None, find, fold, is_some, inl, inr, if◌then◌else◌, append-nil}
use Rattle.std.specs.Option.{option_or}
use Rattle.std.specs.Str.{bytes_eq}
use Rattle.std.specs.List.{list_all}
use Rattle.std.proofs.lemmas.Bool.{and_parts, cases_Bool}
use Rattle.std.proofs.lemmas.List.Folds.{find-append}
use Rattle.std.proofs.lemmas.Slice.Eq.{bytes_eq-Decides}
use Rattle.clap.specs.declared.builder.value_parser.Reading.{Reading}
use Rattle.clap.specs.declared.parser.matches.ValueSource.{ValueSource}
use Rattle.clap.specs.declared.parser.matches.ValueSource.TheVariants.{DefaultValue}
use Rattle.clap.specs.Faults.{default_fault, defaults_fault, given_default_fault}
use Rattle.clap.specs.Kinds.{Kinds}
use Rattle.clap.specs.Walk.{Row, Rule, Text, at_row, default_rows, has_row, is_empty, more_values, reading_by, with_default, with_values, without}

abbrev pub look : Text → List Row → Option Row
look name rows = find (λ r. bytes_eq r.id name) rows

-- the row of an argument with these values
abbrev pub row_with : Text → Reading → ValueSource → List Text → Row
row_with id how source values = record { id = id; values = values; count = None; source = Some source; reading = how }

pub has_looked : (id : Text) (rows : List Row) → has_row id rows ≡ is_some (look id rows)
has_looked id [] = refl
has_looked id (r ∷ rows) = by (bytes_eq r.id id) (has_looked id rows)
  where
    by : (b : Bool) → has_row id rows ≡ is_some (look id rows) → (b || has_row id rows) ≡ is_some (if b then Some r else look id rows)
    by true more = refl
    by false more = more

-- a row that isn't there goes to the end
pub row_added : (id : Text) (change : Row → List Row) (missing rows : List Row) → look id rows ≡ None → at_row id change missing rows ≡ rows ++ missing
row_added id change missing [] none = refl
row_added id change missing (r ∷ rows) none = by (bytes_eq r.id id) none (row_added id change missing rows)
  where
    by : (b : Bool) → (if b then Some r else look id rows) ≡ None → (look id rows ≡ None → at_row id change missing rows ≡ rows ++ missing)
        → (if b then change r ++ rows else r ∷ at_row id change missing rows) ≡ r ∷ (rows ++ missing)
    by true none more = absurd (true≢false (ap is_some none))
    by false none more = ap (λ rest. r ∷ rest) (more none)

pub values_added : (id : Text) (how : Reading) (source : ValueSource) (values : List Text) (rows : List Row) → look id rows ≡ None
    → with_values id how source values (without id rows) ≡ rows ++ row_with id how source values ∷ []
values_added id how source values rows none =
    let same : without id rows ≡ rows = row_added id (λ _. []) [] rows none ∙ append-nil rows in
    ap (with_values id how source values) same ∙ row_added id (more_values source values) (row_with id how source values ∷ []) rows none

pub look_added : (name : Text) (rows : List Row) (r : Row) → look name (rows ++ r ∷ []) ≡ option_or (look name rows) (if bytes_eq r.id name then Some r else None)
look_added name rows r = find-append (λ (row : Row). bytes_eq row.id name) rows (r ∷ [])

-- ---- defaults of arguments that aren't among the words
abbrev pub default_row : Rule → Row
default_row a = row_with a.id (reading_by a) DefaultValue a.defaults

abbrev pub has_values : List Text → Bool
has_values [] = false
has_values (v ∷ vs) = true

abbrev pub default_of : Text → List Rule → Option Row
default_of name [] = None
default_of name (a ∷ rules) = if bytes_eq a.id name && has_values a.defaults then Some (default_row a) else default_of name rules

some_first : (o x y : Option Row) → is_some o ≡ true → option_or o x ≡ option_or o y
some_first None x y some = absurd (true≢false (sym some))
some_first (Some r) x y some = refl

-- where a row is there, its default doesn't matter
present : (name : Text) (a : Rule) (rules : List Rule) (rows : List Row) → has_row a.id rows ≡ true → option_or (look name rows) (default_of name rules) ≡ option_or (look name rows) (default_of name (a ∷ rules))
present name a rules rows has = elim (cases_Bool (bytes_eq a.id name)) [
  | inl t ↦
      let same : a.id ≡ name = (bytes_eq-Decides a.id name).0 t in
      some_first (look name rows) (default_of name rules) (default_of name (a ∷ rules))
      (subst (λ (n : Text). is_some (look n rows) ≡ true) same (sym (has_looked a.id rows) ∙ has))
  | inr t ↦ rw t refl
]

absent : (name id : Text) (how : Reading) (values : List Text) (rows : List Row) (more : Option Row) → look id rows ≡ None
    → option_or (look name (default_rows id how values rows)) more
    ≡ option_or (look name rows) (if bytes_eq id name && has_values values then Some (row_with id how DefaultValue values) else more)
absent name id how [] rows more none = ap (option_or (look name rows)) (by (bytes_eq id name))
  where
    by : (b : Bool) → more ≡ (if b && false then Some (row_with id how DefaultValue []) else more)
    by true = refl
    by false = refl
absent name id how (v ∷ vs) rows more none =
    let r = row_with id how DefaultValue (v ∷ vs) in
    ap (λ (all : List Row). option_or (look name all) more) (row_added id (more_values DefaultValue (v ∷ vs)) (r ∷ []) rows none)
    ∙ ap (λ (o : Option Row). option_or o more) (look_added name rows r)
    ∙ by (look name rows) (bytes_eq id name) r
  where
    by : (o : Option Row) (b : Bool) (r : Row) → option_or (option_or o (if b then Some r else None)) more ≡ option_or o (if b && true then Some r else more)
    by (Some x) b r = refl
    by None true r = refl
    by None false r = refl

not_there : (o : Option Row) → is_some o ≡ false → o ≡ None
not_there None none = refl
not_there (Some r) none = absurd (true≢false none)

pub or_nothing : (o : Option Row) → o ≡ option_or o None
or_nothing None = refl
or_nothing (Some r) = refl

-- what stands under a name after all defaults
pub defaulted : (name : Text) (rules : List Rule) (rows : List Row) → look name (fold with_default rows rules) ≡ option_or (look name rows) (default_of name rules)
defaulted name [] rows = or_nothing (look name rows)
defaulted name (a ∷ rules) rows = defaulted name rules (with_default rows a) ∙ elim (cases_Bool (has_row a.id rows)) [
  | inl t ↦ rw t (present name a rules rows t)
  | inr t ↦
      let none : look a.id rows ≡ None = not_there (look a.id rows) (sym (has_looked a.id rows) ∙ t) in
      rw t (absent name a.id (reading_by a) a.defaults rows (default_of name rules) none)
]

-- ---- no default is refused
abbrev no_kinds : Kinds → Bool
no_kinds [] = true
no_kinds (kind ∷ kinds) = false

abbrev pub may_default : Rule → Bool
may_default a = is_empty a.defaults || no_kinds (given_default_fault a a.defaults)

pub no_default_fault : (rules : List Rule) (rows : List Row) → list_all may_default rules ≡ true → defaults_fault rows rules ≡ []
unfolding defaults_fault
no_default_fault [] rows may = refl
no_default_fault (a ∷ rules) rows may =
    let parts = and_parts (may_default a) (list_all may_default rules) may in
    let here : default_fault rows a ≡ [] = by (has_row a.id rows) (is_empty a.defaults) (given_default_fault a a.defaults) parts.0 in
    rw here (no_default_fault rules (with_default rows a) parts.1)
  where
    by : (has empty : Bool) (kinds : Kinds) → (empty || no_kinds kinds) ≡ true → (if has || empty then [] else kinds) ≡ []
    by true empty kinds may = refl
    by false true kinds may = refl
    by false false [] may = refl
    by false false (kind ∷ kinds) may = absurd (true≢false (sym may))
