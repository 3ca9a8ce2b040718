-- The progression orders (ITU-T T.800, Table A.16): the words that ask for them, and their names.
use Rattle.std.specs.Prelude.{ℕ, ◌+◌, List, [], ◌∷◌, Option, None, Some, map, codes, slice_get, unwrap_or}
use Rattle.jx_options.specs.Values.{value_in}

-- the names, in the order of the numbers
abbrev pub order_names : List (List ℕ)
order_names = codes "LRCP" ∷ codes "RLCP" ∷ codes "RPCL" ∷ codes "PCRL" ∷ codes "CPRL" ∷ []

-- the name of a number; none where it is reserved
abbrev pub order_name : ℕ → Option (List ℕ)
order_name number = slice_get order_names number

-- a name in small letters; nothing where there is none
abbrev pub word_named : ℕ → List ℕ
word_named number = map (λ letter. letter + 32) (unwrap_or (order_name number) [])

-- what the words ask for: the order of a number; with `keep` each tile keeps its own
abbrev pub orders : List (List ℕ × Option ℕ)
orders =
    (codes "keep", None) ∷ (codes "lrcp", Some 0) ∷ (codes "rlcp", Some 1) ∷ (codes "rpcl", Some 2) ∷ (codes "pcrl", Some 3)
    ∷ (codes "cprl", Some 4) ∷ []

abbrev pub order_said : List ℕ → Option (Option ℕ)
order_said = value_in orders

abbrev pub order_words : List (List ℕ)
order_words = map (λ p. p.0) orders

-- what the help says of them
abbrev pub order_help : List ℕ
order_help = codes "keep, lrcp, rlcp, rpcl, pcrl or cprl\ndefault keep; as in --order rpcl"
