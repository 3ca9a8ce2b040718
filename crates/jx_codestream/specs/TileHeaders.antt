-- The headers that say a tile's parameters (T.800, A.3 and A.6).
use Rattle.std.specs.Prelude.{List}
use Rattle.jx_marker.specs.declared.Siz.{Siz}
use Rattle.jx_marker.specs.declared.Segment.{Segment}

-- what all tiles of a picture have in common: SIZ, and the main header's segments after it
pub record MainHeaders : Type 0 where
  pub siz : Siz
  pub main : List Segment

-- the same, and the segments of the header of the tile's first tile-part
pub record TileHeaders : Type 0 where
  pub siz : Siz
  pub main : List Segment
  pub own : List Segment

abbrev pub with_own : MainHeaders → List Segment → TileHeaders
with_own m own = record { siz = m.siz; main = m.main; own = own }
