-- A tile's tile-parts as bytes, made of a plan and of the tile's blocks as they are written.
use Rattle.std.specs.Prelude.{◌≡◌, ◌+◌, ◌<◌, ◌≤◌, ℕ, List, [], ◌∷◌, ◌++◌, length, map, Some, slice_get}
use Rattle.std.specs.List.{All}
use Rattle.jx_base.specs.declared.pieces.Block.{Block}
use Rattle.jx_base.specs.Pieces.{PieceValue}
use Rattle.jx_base.specs.Sound.{IsSound}
use Rattle.jx_geom.specs.Counts.{tile_blocks}
use Rattle.jx_geom.specs.Numbering.{blocks_below}
use Rattle.jx_geom.specs.Rects.{tile_rect}
use Rattle.jx_marker.specs.declared.Segment.TheVariants as segment
use Rattle.jx_marker.specs.Segments.{spelling}
use Rattle.jx_codestream.specs.declared.Stream.{Stream}
use Rattle.jx_codestream.specs.First.{canvas_of}
use Rattle.jx_codestream.specs.Shapes.{shapes_of}
use Rattle.jx_codestream.specs.Spells.{TilePart, all_bytes, part_bytes}
use Rattle.jx_codeblock.specs.Recoded.{WrittenBlock}
use Rattle.jx_codeblock.specs.Written.{block_with}
use Rattle.jx_store.specs.declared.event.Taped.{Taped}
use Rattle.jx_store.specs.declared.work.Named.{Named}
use Rattle.jx_store.specs.declared.work.Named.TheVariants.{Made, Bad, Short}
use Rattle.jx_plan.specs.Plan.{Plan, headers_of}
use Rattle.jx_tier2_writer.specs.TileParts.{AreTilePartsOf}

-- A.2: the main header
abbrev pub main_bytes : Stream → List ℕ
main_bytes s = spelling 1 segment.Soc ++ (spelling 1 (segment.Siz s.siz) ++ all_bytes (length s.siz.comps) s.main)

-- a block as it is written
abbrev pub block_written : WrittenBlock → Block
block_written r = block_with r.job.block.now (Some r.recoding)

-- the blocks of a tape's entries
abbrev pub made_before : Named WrittenBlock → List WrittenBlock → List WrittenBlock
made_before (Made r) values = r ∷ values
made_before (Bad number) values = values
made_before (Short number) values = values

abbrev pub made_in : List (Taped (Named WrittenBlock)) → List WrittenBlock
made_in [] = []
made_in (t ∷ entries) = made_before t.named (made_in entries)

-- an entry has one
abbrev pub IsMade : Named WrittenBlock → Type 0
IsMade (Made r) = Unit {0}
IsMade (Bad number) = ⊥
IsMade (Short number) = ⊥

abbrev pub AreMade : List (Taped (Named WrittenBlock)) → Type 0
AreMade entries = All (λ (t : Taped (Named WrittenBlock)). IsMade t.named) entries

-- the number of a tile's first block, and how many it has
abbrev pub first_block : Plan → ℕ → ℕ
first_block p t = blocks_below (canvas_of p.stream.siz) (shapes_of p.stream) t

abbrev pub blocks_in : Plan → ℕ → ℕ
blocks_in p t = tile_blocks (tile_rect (canvas_of p.stream.siz) t) (shapes_of p.stream t)

-- a tile's blocks: one for each of its jobs, in their order, sound ones with pieces in the layers that are written
pub record AreValuesOf (p : Plan) (t : ℕ) (values : List WrittenBlock) : Type 0 where
  pub count : length values ≡ blocks_in p t
  pub each : (i : ℕ) (r : WrittenBlock) → slice_get values i ≡ Some r → slice_get p.jobs (first_block p t + i) ≡ Some r.job
  pub sound : All IsSound (map block_written values)
  pub layers : All (λ (b : Block). All (λ (q : PieceValue). q.layer < p.layers) b.pieces) (map block_written values)

-- among the blocks of all tiles these are the tile's
abbrev pub StandIn : List Block → Plan → ℕ → List WrittenBlock → Type 0
StandIn blocks p t values = (i : ℕ) (r : WrittenBlock) → slice_get values i ≡ Some r → slice_get blocks (first_block p t + i) ≡ Some (block_written r)

-- tile-parts of at most so many bytes
abbrev pub AreAtMost : ℕ → List TilePart → Type 0
AreAtMost most parts = All (λ (part : TilePart). part.sot.psot ≤ most) parts

-- the tile-parts that a tile is written as
pub record IsTile (p : Plan) (blocks : List Block) (t : ℕ) (most : ℕ) (bytes : List (List ℕ)) : Type 0 where
  pub parts : List TilePart
  pub are : AreTilePartsOf p.wanted.marks (headers_of p) blocks t parts
  pub short : AreAtMost most parts
  pub bytes_are : bytes ≡ map (part_bytes (length p.stream.siz.comps)) parts

-- one of them is longer
pub record IsTooLong (p : Plan) (blocks : List Block) (t : ℕ) (most : ℕ) : Type 0 where
  pub parts : List TilePart
  pub are : AreTilePartsOf p.wanted.marks (headers_of p) blocks t parts
  pub long : AreAtMost most parts → ⊥
