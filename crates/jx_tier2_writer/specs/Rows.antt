-- Inner: rows of items kept one behind another, with the place where each ends.
use Rattle.std.specs.Prelude.{◌≡◌, ◌≤◌, ◌-◌, ℕ, List, [], ◌∷◌, take, drop}

-- places that don't fall, from one on up to another
abbrev pub AreEnds : ℕ → List ℕ → ℕ → Type 0
AreEnds start [] stop = start ≡ stop
AreEnds start (e ∷ ends) stop = (start ≤ e) × AreEnds e ends stop

abbrev pub rows_from : {X : Type 0} → ℕ → List ℕ → List X → List (List X)
rows_from start [] items = []
rows_from start (e ∷ ends) items = take (e - start) (drop start items) ∷ rows_from e ends items
