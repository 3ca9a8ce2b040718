-- Inner: a precinct of which no block has a part (ITU-T T.800, B.10.3).
use Rattle.std.specs.Prelude.{◌≡◌, ◌<◌, ℕ, List, [], ◌∷◌, slice_get}
use Rattle.jx_base.specs.declared.pieces.Block.{Block}
use Rattle.jx_geom.specs.Geometry.{Geometry}
use Rattle.jx_geom.specs.Precincts.{leaf_number, leaves}
use Rattle.jx_tier2_reader.specs.Carries.{pieces_of}

abbrev pub AreSilent : Geometry → List Block → ℕ → ℕ → ℕ → Type 0
AreSilent g own c r k = (j : ℕ) → j < leaves g c r k → pieces_of (slice_get own (leaf_number g c r k j)) ≡ []

-- the header of an empty packet, of whatever layer
abbrev pub empty_header : ℕ → List ℕ
empty_header layer = 0 ∷ []
