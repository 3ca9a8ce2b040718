-- Inner: pieces put to their blocks one after another.
use Rattle.std.specs.Prelude.{◌+◌, ◌==◌, ◌++◌, List, [], ◌∷◌, Option, None, Some, slice_get, slice_set, length, if◌then◌else◌}
use Rattle.jx_base.specs.declared.pieces.Block.{Block}
use Rattle.jx_tier2_reader.specs.Blocks.{FoundPiece}

-- the zero planes stay those that the first piece told
abbrev pub put_to : Block → FoundPiece → Block
put_to block f = record block {
  zero = if length block.pieces == 0 then f.zero else block.zero;
  passes = block.passes + f.piece.passes;
  pieces = block.pieces ++ f.piece ∷ [];
}

abbrev pub put_at : Option Block → List Block → FoundPiece → List Block
put_at None blocks f = blocks
put_at (Some block) blocks f = slice_set blocks f.number (put_to block f)

unfoldable pub put_one : List Block → FoundPiece → List Block
put_one blocks f = put_at (slice_get blocks f.number) blocks f

abbrev pub put_all : List Block → List FoundPiece → List Block
put_all blocks [] = blocks
put_all blocks (f ∷ founds) = put_all (put_one blocks f) founds
