-- The code-blocks that can be recoded or kept.
use Rattle.std.specs.Prelude.{◌-◌, ◌*◌, ◌≤◌}
use Rattle.jx_base.specs.declared.names.Rect.{Rect}
use Rattle.jx_base.specs.declared.pieces.Block.{Block}
use Rattle.jx_base.specs.Places.{length_of}
use Rattle.jx_base.specs.Pieces.{ArePieces, bytes_in}
use Rattle.jx_base.specs.Limits.{most_bytes}

-- A.6.1, Table A.18: sides of 1 to 1,024 and at most 4,096 places
pub record HasBlockSize (r : Rect) : Type 0 where
  pub wide : 1 ≤ length_of r.x
  pub high : 1 ≤ length_of r.y
  pub most_wide : length_of r.x ≤ 1024
  pub most_high : length_of r.y ≤ 1024
  pub most : length_of r.x * length_of r.y ≤ 4096

-- its size; at most 74 planes, not more of them 0 and no more passes than the others allow; its pieces in order of
-- layers and passes, each pass in one of them, none across the end of a segment, no marker in their bytes, and no
-- more bytes than a file
pub record IsSound (b : Block) : Type 0 where
  pub size : HasBlockSize b.rect
  pub planes : b.planes ≤ 74
  pub zero : b.zero ≤ b.planes
  pub few : b.passes ≤ 3 * (b.planes - b.zero) - 2
  pub pieces : ArePieces b.style.bits 0 0 b.passes b.pieces
  pub bytes : bytes_in b.pieces ≤ most_bytes
