-- Texts that are cut.
use Rattle.std.specs.Prelude.{ℕ, ◌+◌, ◌==◌, bit_and, bit_or, List, [], ◌∷◌, length, Option, None, Some, if◌then◌else◌, ◌++◌, option_and_then, option_map}
use Rattle.std.specs.Borrow.{Bor}
use Rattle.jx_options.specs.Values.{all_in, parts_of, style_names, value_in}

-- what stands between the separators of what is left of a text
abbrev pub more_parts : ℕ → Option (Bor (List ℕ)) → List (List ℕ)
more_parts separator None = []
more_parts separator (Some rest) = parts_of separator rest.now

-- the bytes that are left, and one for there being a text
abbrev pub left_of : Option (Bor (List ℕ)) → ℕ
left_of None = 0
left_of (Some rest) = length rest.now + 1

-- values, and those of further texts, where each text has one and there are so many at most
abbrev pub goes_on : {X : Type 0} → (List ℕ → Option X) → List X → ℕ → List (List ℕ) → Option (List X)
goes_on value_of done room texts = option_map (λ more. done ++ more) (all_in value_of room texts)

-- some bits and one that isn't among them
abbrev pub with_bit : ℕ → Option ℕ → Option ℕ
with_bit bits None = None
with_bit bits (Some bit) = if bit_and bits bit == 0 then Some (bit_or bits bit) else None

-- some bits and those of further names, where each is one that isn't among those before
unfoldable pub with_names : List (List ℕ) → ℕ → Option ℕ
with_names [] bits = Some bits
with_names (name ∷ names) bits = option_and_then (with_names names) (with_bit bits (value_in style_names name))
