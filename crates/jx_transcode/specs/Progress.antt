-- A file that is partly read.
use Rattle.std.specs.Prelude.{◌≡◌, ℕ, List, ◌++◌, Option}
use Rattle.std.specs.Option.{option_map}
use Rattle.jx_io.specs.Device.{Meaning}

-- all but what is left to be read is as before
abbrev pub SameButLeft : Meaning → Meaning → Type 0
SameButLeft old new = record new { left = old.left } ≡ old

-- what was left before is these bytes and what is left now
abbrev pub HasRead : Option (List ℕ) → Option (List ℕ) → List ℕ → Type 0
HasRead old new bytes = old ≡ option_map (λ rest. bytes ++ rest) new
