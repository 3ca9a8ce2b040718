-- Where the pieces of a block begin in its bytes.
use Rattle.std.specs.Prelude.{ℕ, ◌≡◌, ◌<◌, ◌≤◌, List, length, take}
use Rattle.jx_base.specs.Pieces.{PieceValue, bytes_in}
use Rattle.jx_codeblock.specs.Tables.{at_place}

-- some first pieces, each told by the bytes of the pieces before it; of a block with few pieces none need be told
pub record AreStarts (pieces : List PieceValue) (starts : List ℕ) : Type 0 where
  pub few : length starts ≤ length pieces
  pub each : (i : ℕ) → i < length starts → at_place starts i ≡ bytes_in (take i pieces)
