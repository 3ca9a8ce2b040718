-- The coded bytes of a code-block that is written, and the parts that packets have of them (ITU-T T.800, B.10).
use Rattle.std.specs.Prelude.{◌≡◌, ◌<◌, ℕ, List, length, map, Option, Some, None}
use Rattle.std.specs.List.{All}
use Rattle.jx_base.specs.declared.pieces.Block.{Block}
use Rattle.jx_base.specs.Pieces.{PieceValue}
use Rattle.jx_codeblock.specs.declared.LayerPart.{LayerPart}
use Rattle.jx_codeblock.specs.Laws.{IsWithin}
use Rattle.jx_codeblock.specs.Recoding.{piece_of}

-- a part lies within the bytes
abbrev pub IsInside : List ℕ → LayerPart → Type 0
IsInside bytes p = IsWithin (length bytes) p

-- the parts of a block with these coded bytes
pub record ArePartsOf (block : Block) (bytes : List ℕ) (parts : List LayerPart) : Type 0 where
  pub pieces : block.pieces ≡ map (piece_of bytes) parts
  pub inside : All (IsInside bytes) parts

-- each piece of a block is in one of so many layers
abbrev pub HasLayers : ℕ → Option Block → Type 0
HasLayers layers None = Unit {0}
HasLayers layers (Some block) = All (λ (q : PieceValue). q.layer < layers) block.pieces
