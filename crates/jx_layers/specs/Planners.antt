-- What the planners of this crate make of words: the rule that they say, where it makes 1 to 65,535 layers.
use Rattle.std.specs.Prelude.{ℕ, nat_le, eqb, Bool, ◌&&◌, List, Option, None, Some, codes, if◌then◌else◌}
use Rattle.std.specs.Option.{option_map}
use Rattle.std.specs.Str.{bytes_eq}
use Rattle.std.specs.List.{starts_with}
use Rattle.jx_layers.specs.declared.StreamFacts.{StreamFacts}
use Rattle.jx_layers.specs.Rule.{Rule, layers_by}
use Rattle.jx_layers.specs.Rule.Rule.{Keep, One, Cuts, Planes, Table}
use Rattle.jx_layers.specs.Texts.{cuts_in, planes_in}

-- a rule that makes 1 to 65,535 layers
abbrev pub fits : StreamFacts → Rule → Bool
fits facts r = nat_le 1 (layers_by r facts) && nat_le (layers_by r facts) 65535

abbrev pub where_fits : StreamFacts → Option Rule → Option Rule
where_fits facts None = None
where_fits facts (Some r) = if fits facts r then Some r else None

-- the words that a planner serves: one text, or those with a beginning
abbrev pub is_text : List ℕ → List ℕ → Bool
is_text own words = bytes_eq words own

abbrev pub begins_with : List ℕ → List ℕ → Bool
begins_with start words = starts_with eqb words start

-- a rule that is said by one text
abbrev pub said_by : List ℕ → Rule → List ℕ → Option Rule
said_by own r words = if is_text own words then Some r else None

abbrev pub keep_of : List ℕ → StreamFacts → Option Rule
keep_of words facts = where_fits facts (said_by (codes "keep") Keep words)

abbrev pub one_of : List ℕ → StreamFacts → Option Rule
one_of words facts = where_fits facts (said_by (codes "one") One words)

abbrev pub cuts_of : List ℕ → StreamFacts → Option Rule
cuts_of words facts = where_fits facts (option_map Cuts (cuts_in words))

abbrev pub planes_of : List ℕ → StreamFacts → Option Rule
planes_of words facts = where_fits facts (option_map Planes (planes_in words))

abbrev pub table_of : List ℕ → List ℕ → List ℕ → StreamFacts → Option Rule
table_of own list words facts = where_fits facts (said_by own (Table list) words)

-- a rule that was chosen
abbrev pub if_begun : Bool → Rule → Option Rule
if_begun begun r = if begun then Some r else None
