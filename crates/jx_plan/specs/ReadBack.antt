-- Tile-parts that have the headers of a tile that is written.
use Rattle.std.specs.Prelude.{◌≡◌, ℕ, true, List, ◌++◌, drop}
use Rattle.std.specs.List.{All}
use Rattle.jx_marker.specs.declared.Segment.{Segment}
use Rattle.jx_codestream.specs.declared.parts.PlacedPart.{PlacedPart}
use Rattle.jx_codestream.specs.declared.Tile.{Tile}
use Rattle.jx_codestream.specs.Tiles.{headers_of, first_header}
use Rattle.jx_plan.specs.Changes.{MainOrder}
use Rattle.jx_plan.specs.Headers.{HeaderOptions, tile_header}
use Rattle.jx_plan.specs.Asides.{is_plt, IsAside}

-- the first has the tile's header, and perhaps COM and PLT segments after it; the later ones have PLT segments alone
pub record HaveHeaders (a : HeaderOptions) (comps : ℕ) (m : MainOrder) (t : Tile) (own : List PlacedPart) : Type 0 where
  pub more : List Segment
  pub asides : All (IsAside comps) more
  pub first : first_header own ≡ tile_header a comps m t ++ more
  pub later : All (λ (s : Segment). is_plt s ≡ true) (headers_of (drop 1 own))
