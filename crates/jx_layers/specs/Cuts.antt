-- The numbers that a planner keeps, and what comes of them with the numbers of further texts.
use Rattle.std.specs.Prelude.{◌≡◌, ◌≤◌, ◌+◌, ◌-◌, ℕ, List, [], ◌∷◌, ◌++◌, take, Option, None, Some}
use Rattle.std.specs.Borrow.{Bor}
use Rattle.std.specs.Option.{option_map}
use Rattle.jx_layers.specs.declared.texts.Cuts.{Cuts}
use Rattle.jx_layers.specs.Texts.{parts_of, rising_in}

abbrev pub list_of : Cuts → List ℕ
list_of c = take c.count c.numbers

-- they, and the numbers of which the digits are these texts, where all of them are cuts
abbrev pub goes_on : Cuts → List (List ℕ) → Option (List ℕ)
goes_on c texts = option_map (λ more. list_of c ++ more) (rising_in c.last (32 - c.count) texts)

-- a text isn't the next of them, whatever follows
abbrev pub AreRefused : Cuts → List ℕ → Type 0
AreRefused c text = (texts : List (List ℕ)) → goes_on c (text ∷ texts) ≡ None

-- with a text there are these, whatever follows
pub record GoOn (c : Cuts) (text : List ℕ) (more : Cuts) : Type 0 where
  pub count : more.count ≡ c.count + 1
  pub few : more.count ≤ 32
  pub same : (texts : List (List ℕ)) → goes_on c (text ∷ texts) ≡ goes_on more texts

-- what stands between the commas of what is left of a text
abbrev pub more_parts : Option (Bor (List ℕ)) → List (List ℕ)
more_parts None = []
more_parts (Some rest) = parts_of rest.now
