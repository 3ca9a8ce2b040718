-- Bytes that a writer has taken.
use Rattle.std.specs.Prelude.{◌≡◌, ℕ, List, ◌++◌, Option}
use Rattle.std.specs.Option.{option_map}

-- the bytes written so far, where they are told, with more at their end
abbrev pub followed_by : List ℕ → Option (List ℕ) → Option (List ℕ)
followed_by more written = option_map (λ bytes. bytes ++ more) written

-- the writer has taken a front of these bytes, and this is the rest
pub record HasTaken (old new : Option (List ℕ)) (bytes rest : List ℕ) : Type 0 where
  pub front : List ℕ
  pub whole : bytes ≡ front ++ rest
  pub written : new ≡ followed_by front old

-- the writer has taken a front of these bytes
abbrev pub SomeFront : Option (List ℕ) → Option (List ℕ) → List ℕ → Type 0
SomeFront old new bytes = (rest : List ℕ) × HasTaken old new bytes rest
