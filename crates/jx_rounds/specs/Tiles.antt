-- The code-blocks of a tile, those of them that can't be coded anew (T.800, D.5), and the rounds in which tiles are written.
use Rattle.std.specs.Prelude.{◌≡◌, ◌<◌, ◌≤◌, ◌+◌, ◌^◌, ◌||◌, ℕ, zero, suc, nat_le, nat_lt, Bool, true, List, length, map, slice_get, Option, None, Some, if◌then◌else◌}
use Rattle.std.specs.List.{sum}
use Rattle.jx_base.specs.declared.pieces.Block.{Block}
use Rattle.jx_geom.specs.Counts.{tile_blocks}
use Rattle.jx_geom.specs.Numbering.{blocks_below}
use Rattle.jx_geom.specs.Rects.{tile_rect}
use Rattle.jx_marker.specs.declared.Segment.{Segment}
use Rattle.jx_marker.specs.declared.Segment.TheVariants as segment
use Rattle.jx_codestream.specs.declared.Body.{Body}
use Rattle.jx_codestream.specs.declared.Stream.{Stream}
use Rattle.jx_codestream.specs.declared.Tile.{Tile}
use Rattle.jx_codestream.specs.First.{canvas_of}
use Rattle.jx_codestream.specs.Shapes.{shapes_of, tile_at}
use Rattle.jx_tier2_reader.specs.Data.{packed_pieces}
use Rattle.jx_codeblock.specs.Written.{is_wrong}
use Rattle.jx_options.specs.Wanted.{Wanted}

-- the blocks of a tile: the number of the first, and how many there are
abbrev pub first_in_tile : Stream → ℕ → ℕ
first_in_tile s t = blocks_below (canvas_of s.siz) (shapes_of s) t

abbrev pub blocks_in_tile : Stream → ℕ → ℕ
blocks_in_tile s t = tile_blocks (tile_rect (canvas_of s.siz) t) (shapes_of s t)

-- D.5: a block that is coded anew, and of which a segmentation symbol is wrong
abbrev pub IsWrongBlock : Wanted → Option Block → Type 0
IsWrongBlock w None = ⊥
IsWrongBlock w (Some b) = is_wrong w.style b ≡ true

-- the lowest one of a tile
pub record IsWrongAt (w : Wanted) (s : Stream) (blocks : List Block) (t number : ℕ) : Type 0 where
  pub from : first_in_tile s t ≤ number
  pub below : number < first_in_tile s t + blocks_in_tile s t
  pub wrong : IsWrongBlock w (slice_get blocks number)
  pub lowest : (n : ℕ) → first_in_tile s t ≤ n → n < number → IsWrongBlock w (slice_get blocks n) → ⊥

-- a tile that has none
abbrev pub IsRight : Wanted → Stream → List Block → ℕ → Type 0
IsRight w s blocks t = (n : ℕ) → first_in_tile s t ≤ n → n < first_in_tile s t + blocks_in_tile s t → IsWrongBlock w (slice_get blocks n) → ⊥

-- about how many bytes a segment of a tile's header takes: those of a comment (A.9.2); of any other 256, which are as
-- many as one that is written may have
abbrev pub segment_size : Segment → ℕ
segment_size (segment.Com bytes) = length bytes
segment_size _ = 256

-- how many bytes pieces of the file have together
abbrev pub bytes_of_pieces : List Body → ℕ
bytes_of_pieces pieces = sum (map (λ (b : Body). b.length) pieces)

-- about how many bytes a tile has as it was read: the data of its tile-parts, its packed packet headers and the segments
-- of the tile-parts' headers (A.4.2, A.7.4, A.7.5)
abbrev pub size_of_tile : Tile → ℕ
size_of_tile t =
    bytes_of_pieces t.bodies + (bytes_of_pieces (packed_pieces t.heads) + (sum (map segment_size t.header) + sum (map segment_size t.notes)))

abbrev pub tile_size : Stream → ℕ → ℕ
tile_size s t = size_of_tile (tile_at s t)

-- rounds: tiles are written in rounds, of which each ends with the first tile at which it has 4,096 blocks or tiles of more than 8,388,608
-- bytes as they were read, or with the last tile
abbrev pub most_of_round : ℕ
most_of_round = 4096

abbrev pub most_read : ℕ
most_read = 2 ^ 23

-- the round of a tile: where it begins, and the blocks and the bytes that it has before the tile
pub record Round : Type 0 where
  pub start : ℕ
  pub blocks : ℕ
  pub bytes : ℕ

abbrev pub begin_round : ℕ → Round
begin_round t = record { start = t; blocks = 0; bytes = 0 }

abbrev pub with_tile : ℕ → ℕ → Round → Round
with_tile count size r = record { start = r.start; blocks = r.blocks + count; bytes = r.bytes + size }

abbrev pub is_full : Round → Bool
is_full r = nat_le most_of_round r.blocks || nat_lt most_read r.bytes

abbrev pub next_round : (ℕ → ℕ) → (ℕ → ℕ) → ℕ → Round → Round
next_round counts sizes t r = if is_full (with_tile (counts t) (sizes t) r) then begin_round (t + 1) else with_tile (counts t) (sizes t) r

-- where tiles have so many blocks and so many bytes
abbrev pub round_of : (ℕ → ℕ) → (ℕ → ℕ) → ℕ → Round
round_of counts sizes zero = begin_round 0
round_of counts sizes (suc t) = next_round counts sizes t (round_of counts sizes t)

-- the first tile of a tile's round
abbrev pub round_start : Stream → ℕ → ℕ
round_start s t = (round_of (blocks_in_tile s) (tile_size s) t).start
