-- What stands before the first tile-part, what was found out for it: how long all tile-parts are (T.800, A.7.1), and the whole codestream.
use Rattle.std.specs.Prelude.{◌≡◌, ◌⊎◌, ℕ, true, false, List, ◌++◌, length}
use Rattle.jx_codestream.specs.First.{tile_number}
use Rattle.jx_codestream.specs.Spells.{all_bytes}
use Rattle.jx_plan.specs.Plan.{Plan, headers_of}
use Rattle.jx_tier2_writer.specs.Index.{index_segments}
use Rattle.jx_tier2_writer.specs.Tile.{main_bytes}
use Rattle.jx_tier2_writer.specs.declared.index.PartLength.{PartLength}
use Rattle.jx_rounds.specs.Rounds.{IsShortFront, IsSpoiledTile, IsWholeFile}
use Rattle.jx_rounds.specs.Sent.{PartSent, bytes_sent, lengths_sent}
use Rattle.jx_rounds.specs.declared.halt.Halt.{Halt}
use Rattle.jx_rounds.specs.declared.halt.Halt.TheVariants as halt

-- the lengths of all tile-parts
pub record AreMeasured (p : Plan) (lengths : List PartLength) : Type 0 where
  pub sent : List PartSent
  pub front : IsShortFront p (tile_number p.stream.siz) sent
  pub lengths_are : lengths ≡ lengths_sent sent

-- the bytes of all tile-parts
pub record IsHeld (p : Plan) (bytes : List ℕ) : Type 0 where
  pub sent : List PartSent
  pub front : IsShortFront p (tile_number p.stream.siz) sent
  pub bytes_are : bytes ≡ bytes_sent sent

-- why they aren't found: a tile isn't written, or want of memory
abbrev pub IsUnmeasured : Plan → Halt → Type 0
IsUnmeasured p (halt.Bad tile number) = IsSpoiledTile p (halt.Bad tile number) tile
IsUnmeasured p (halt.TooLong tile) = IsSpoiledTile p (halt.TooLong tile) tile
IsUnmeasured p halt.Failed = ⊥
IsUnmeasured p halt.NoMemory = Unit {0}

-- the main header with the index of all tile-parts behind it
pub record IsIndexed (p : Plan) (head : List ℕ) : Type 0 where
  pub lengths : List PartLength
  pub are : AreMeasured p lengths
  pub head_is : head ≡ main_bytes (headers_of p) ++ all_bytes (length p.stream.siz.comps) (index_segments lengths)

-- what stands before the first tile-part: the main header, and the index where it is asked
abbrev pub IsHead : Plan → List ℕ → Type 0
IsHead p head = ((p.wanted.marks.tlm ≡ false) × (head ≡ main_bytes (headers_of p))) ⊎ ((p.wanted.marks.tlm ≡ true) × IsIndexed p head)

-- the bytes of a plan's codestream: a head, all tiles and EOC
pub record IsCodestreamOf (p : Plan) (bytes : List ℕ) : Type 0 where
  pub head : List ℕ
  pub is : IsHead p head
  pub whole : IsWholeFile p head bytes
