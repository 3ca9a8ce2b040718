-- Inner: the precincts of a tile one after another, by name, and what is sent of each.
use Rattle.std.specs.Prelude.{ℕ, ◌+◌, List, [], ◌∷◌, length}
use Rattle.jx_base.specs.declared.pieces.Block.{Block}
use Rattle.jx_base.specs.Joined.{joined}
use Rattle.jx_base.specs.Places.{size_of}
use Rattle.jx_geom.specs.Geometry.{Geometry, precincts_in, shape_of}
use Rattle.jx_progression.specs.Steps.{name_of}
use Rattle.jx_progression.specs.declared.names.PacketName.{PacketName}
use Rattle.jx_codestream.specs.declared.Stream.{Stream}
use Rattle.jx_tier2_writer.specs.Own.{IsSending}
use Rattle.jx_tier2_writer.specs.Sendings.{Sending}

abbrev pub one_name : ℕ → ℕ → ℕ → List PacketName
one_name c r k = name_of 0 r c k ∷ []

unfoldable pub resolution_names : Geometry → ℕ → ℕ → List PacketName
resolution_names g c r = joined (one_name c r) 0 (size_of (precincts_in g c r))

unfoldable pub component_names : Geometry → ℕ → List PacketName
component_names g c = joined (resolution_names g c) 0 ((shape_of g c).levels + 1)

unfoldable pub tile_names : Geometry → List PacketName
tile_names g = joined (component_names g) 0 (length g.shapes)

-- what is sent of each
abbrev pub AreSendings : Stream → Geometry → List Block → List (List ℕ) → List PacketName → List Sending → Type 0
AreSendings s g own datas [] [] = Unit {0}
AreSendings s g own datas [] (p ∷ ps) = ⊥
AreSendings s g own datas (n ∷ ns) [] = ⊥
AreSendings s g own datas (n ∷ ns) (p ∷ ps) = IsSending s g own datas n.comp n.res n.precinct p × AreSendings s g own datas ns ps
