-- Where no precinct that is written would have an exponent 0 above resolution 0.
use Rattle.std.proofs.Common.{◌≡◌, ℕ, Bool, true, false, cond, List, refl, Option, None, Some}
use Rattle.std.specs.List.{All, list_any, position}
use Rattle.jx_codestream.specs.declared.Stream.{Stream}
use Rattle.jx_codestream.specs.declared.Tile.{Tile}
use Rattle.jx_plan.specs.Fits.{first_zero, has_zero, tile_has_zero}
use Rattle.jx_plan.proofs.CausalLemmas.{none_at}

-- neither in the main header nor in a tile's
pub record IsClear (ps : Option (List ℕ)) (s : Stream) : Type 0 where
  pub main : list_any (has_zero ps) s.main ≡ false
  pub tiles : All (λ (t : Tile). tile_has_zero ps t ≡ false) s.tiles

either_none : (test : Bool) (o : Option ℕ) → (cond test (Some 0) o) ≡ None → (test ≡ false) × (o ≡ None)
either_none true o h = absurd (cc)
either_none false o h = (refl, h)

pub is_clear : (ps : Option (List ℕ)) (s : Stream) → first_zero ps s ≡ None → IsClear ps s
is_clear ps s h =
    let both = either_none (list_any (has_zero ps) s.main) (position (tile_has_zero ps) s.tiles) h in
    record { main = both.0; tiles = none_at (tile_has_zero ps) s.tiles both.1 }
