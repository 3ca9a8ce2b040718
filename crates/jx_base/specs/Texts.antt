-- What a text begins with, and the number that it spells.
use Rattle.std.specs.Prelude.{ℕ, eqb, List, length, drop, find, Option, None, Some, if◌then◌else◌}
use Rattle.std.specs.Str.{bytes_eq}
use Rattle.std.specs.List.{range_with_len, starts_with}
use Rattle.std.specs.Fmt.{decimal}

-- what stands after a beginning
abbrev pub after : List ℕ → List ℕ → Option (List ℕ)
after start text = if starts_with eqb text start then Some (drop (length start) text) else None

-- the number from 1 to `most` of which the digits are a text
unfoldable pub number_in : ℕ → List ℕ → Option ℕ
number_in most text = find (λ n. bytes_eq (decimal n) text) (range_with_len 1 most)
