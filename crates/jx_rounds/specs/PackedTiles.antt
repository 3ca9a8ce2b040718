-- Inner: a tile as it waits for its round, as pieces that are written one by one.
use Rattle.std.specs.Prelude.{ℕ, List, [], ◌∷◌, map}
use Rattle.jx_rounds.specs.declared.packed.Form.{Form}
use Rattle.jx_rounds.specs.declared.packed.Form.TheVariants.{Laid, Whole}

-- each tile-part that is whole is one piece
abbrev pub pieces_of : Form → List (List (List ℕ))
pieces_of (Laid out) = out
pieces_of (Whole parts) = map (λ v. v.items ∷ []) parts.items
