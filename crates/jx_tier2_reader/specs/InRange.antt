-- Inner: what holds of the tile data and packed headers of a stream that was read.
use Rattle.std.specs.Prelude.{◌≤◌, ◌+◌, ℕ, List, length, sum_by}
use Rattle.std.specs.List.{All}
use Rattle.jx_codestream.specs.declared.Body.{Body}
use Rattle.jx_codestream.specs.PackedHeaders.{LieIn, together}

-- a tile's data lie in the file, and no byte in two tile-parts
pub record DataInRange (b : List ℕ) (bodies : List Body) : Type 0 where
  pub inside : All (λ (body : Body). body.at + body.length ≤ length b) bodies
  pub together : sum_by (λ (body : Body). body.length) bodies ≤ length b

-- the pieces of the file that are a tile's packed headers lie in the file, and no byte in two of them
pub record HeadsInRange (b : List ℕ) (pieces : List Body) : Type 0 where
  pub inside : LieIn b pieces
  pub few : together pieces ≤ length b
