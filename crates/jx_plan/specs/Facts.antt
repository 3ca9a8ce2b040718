-- What a planner is told of a stream and its code-blocks.
use Rattle.std.specs.Prelude.{◌≡◌, ◌≤◌, ◌<◌, ℕ, List, length, map}
use Rattle.std.specs.List.{range_with_len}
use Rattle.jx_base.specs.declared.pieces.Block.{Block}
use Rattle.jx_codestream.specs.declared.Stream.{Stream}
use Rattle.jx_codestream.specs.First.{tile_number}
use Rattle.jx_codestream.specs.Shapes.{layers_of}
use Rattle.jx_layers.specs.declared.StreamFacts.{StreamFacts}
use Rattle.jx_layers.specs.Rule.{greatest}

-- the layers of tiles from one on
abbrev pub tile_layers : Stream → ℕ → ℕ → List ℕ
tile_layers s tile count = map (layers_of s) (range_with_len tile count)

-- the greatest number of layers of any tile
unfoldable pub most_layers : Stream → ℕ
most_layers s = greatest (tile_layers s 0 (tile_number s.siz))

-- the greatest number of planes of any block, and so of any band that has one
abbrev pub most_planes : List Block → ℕ
most_planes blocks = greatest (map (λ (b : Block). b.planes) blocks)

abbrev pub facts_of : Stream → List Block → StreamFacts
facts_of s blocks = record { layers = most_layers s; planes = most_planes blocks; blocks = length blocks }

-- a value of a function at some place from one on and below another
pub record IsReached (f : ℕ → ℕ) (a b value : ℕ) : Type 0 where
  pub at : ℕ
  pub from : a ≤ at
  pub below : at < b
  pub is : f at ≡ value
