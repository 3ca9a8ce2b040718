-- The file to which an input is rewritten: its headers as they are written, and its code-blocks, each kept byte for byte or coded anew in
-- the style that is asked, packed anew in the layers of a rule (ITU-T T.800, A, B and D); the headers and the code-blocks are those that are left
-- without the highest resolutions, as many as are asked. And what stands of it where the run ends early.
use Rattle.std.specs.Prelude.{◌≡◌, ◌<◌, ◌≤◌, ◌+◌, ◌⊎◌, ℕ, false, List, ◌++◌, length, None, Some}
use Rattle.std.specs.List.{All, flat_map}
use Rattle.jx_base.specs.declared.pieces.Block.{Block}
use Rattle.jx_base.specs.Joined.{joined}
use Rattle.jx_codestream.specs.declared.Stream.{Stream}
use Rattle.jx_codestream.specs.First.{tile_number}
use Rattle.jx_codestream.specs.Read.{IsRead}
use Rattle.jx_codestream.specs.Spells.{TilePart, part_bytes}
use Rattle.jx_tier2_reader.specs.Gathered.{IsGathered}
use Rattle.jx_tile.specs.Totals.{totals_fault}
use Rattle.jx_plan.specs.declared.faults.PlanFault.{PlanFault}
use Rattle.jx_codeblock.specs.Written.{is_wrong}
use Rattle.jx_layers.specs.Rule.{Rule}
use Rattle.jx_plan.specs.Plan.{headers_with}
use Rattle.jx_plan.specs.Planned.{HasPlanCause, IsFreeBy, MakesLayers, blocks_written, layers_of_rule}
use Rattle.jx_options.specs.Wanted.{Wanted}
use Rattle.jx_plan.specs.Meaning.{meaning_of}
use Rattle.jx_reduce.specs.Left.{IsLeft}
use Rattle.jx_reduce.specs.Reduction.{blocks_left, stream_left}
use Rattle.jx_reduce.specs.Unreducible.{first_choice}
use Rattle.jx_reduce.specs.declared.faults.ReduceFault.TheVariants as unreduced
use Rattle.jx_tier2_writer.specs.Kept.{IsKeptIn}
use Rattle.jx_tier2_writer.specs.Ready.{AllShort, AreShort}
use Rattle.jx_tier2_writer.specs.Tile.{main_bytes}
use Rattle.jx_tier2_writer.specs.TileParts.{AreTilePartsOf, IsOutput}
use Rattle.jx_rounds.specs.Tiles.{IsRight, IsWrongAt, blocks_in_tile, first_in_tile, round_start}
use Rattle.jx_transcode.specs.Aims.{Aim, rule_in}

-- an input that is read whole: a well-formed codestream within the limits, with its blocks
pub record Reads (input : List ℕ) (s : Stream) (blocks : List Block) : Type 0 where
  pub read : IsRead input s
  pub totals : totals_fault s ≡ None
  pub gathered : IsGathered input s blocks

-- such an input without its d highest resolutions: the stream and the blocks that are left, all with 0
pub record ReadsLeft (d : ℕ) (input : List ℕ) (s : Stream) (blocks : List Block) : Type 0 where
  pub whole : Stream
  pub all : List Block
  pub reads : Reads input whole all
  -- neither choice 8 nor choice 9
  pub free : first_choice d whole ≡ None
  pub stream : s ≡ stream_left d whole
  pub blocks_are : blocks ≡ blocks_left d whole all

-- choice 8 or choice 9: so many can't be left out of such an input
pub record IsIrreducible (d : ℕ) (input : List ℕ) (number place : ℕ) : Type 0 where
  pub stream : Stream
  pub blocks : List Block
  pub reads : Reads input stream blocks
  pub cause : first_choice d stream ≡ Some (unreduced.Choice number place)

-- the headers that are written, with the layers of a rule
abbrev pub headers_of : Wanted → Rule → Stream → List Block → Stream
headers_of w r s blocks = headers_with w (layers_of_rule r s blocks) s

-- there is a rule, and nothing is in the way of a plan by it
pub record CanBePlanned (aim : Aim) (s : Stream) (blocks : List Block) : Type 0 where
  pub by : Rule
  pub is : rule_in aim s blocks ≡ Some by
  pub layers : MakesLayers (Some by) s blocks
  pub free : IsFreeBy by s blocks aim.wanted

-- why an input isn't planned: choice 1, choice 3, choice 2, choice 6, limit 7, choice 4 or choice 5
pub record IsUnplanned (aim : Aim) (input : List ℕ) (why : PlanFault) : Type 0 where
  pub stream : Stream
  pub blocks : List Block
  pub reads : ReadsLeft aim.reduce input stream blocks
  pub cause : HasPlanCause (rule_in aim stream blocks) stream blocks aim.wanted why

-- such a tile that has a tile-part of 2^32 bytes or more
pub record IsLong (w : Wanted) (r : Rule) (s : Stream) (blocks : List Block) (t : ℕ) : Type 0 where
  pub right : IsRight w s blocks t
  pub parts : List TilePart
  pub are : AreTilePartsOf w.marks (headers_of w r s blocks) (blocks_written w r s blocks) t parts
  pub long : AreShort parts → ⊥

-- a tile that isn't written
abbrev pub IsSpoiled : Wanted → Rule → Stream → List Block → ℕ → Type 0
IsSpoiled w r s blocks t = ((number : ℕ) × IsWrongAt w s blocks t number) ⊎ IsLong w r s blocks t

-- the lowest one has a block that is wrong
pub record IsBad (aim : Aim) (input : List ℕ) (number : ℕ) : Type 0 where
  pub stream : Stream
  pub blocks : List Block
  pub reads : ReadsLeft aim.reduce input stream blocks
  pub can : CanBePlanned aim stream blocks
  pub tile : ℕ
  pub inside : tile < tile_number stream.siz
  pub is : IsWrongAt aim.wanted stream blocks tile number
  pub lowest : (n : ℕ) → n < tile → IsSpoiled aim.wanted can.by stream blocks n → ⊥

-- the lowest one is too long
pub record IsTooLongAt (aim : Aim) (input : List ℕ) (t : ℕ) : Type 0 where
  pub stream : Stream
  pub blocks : List Block
  pub reads : ReadsLeft aim.reduce input stream blocks
  pub can : CanBePlanned aim stream blocks
  pub inside : t < tile_number stream.siz
  pub is : IsLong aim.wanted can.by stream blocks t
  pub lowest : (n : ℕ) → n < t → IsSpoiled aim.wanted can.by stream blocks n → ⊥

-- the file that is written of an input: the one that its blocks, as they are written, make with its headers
pub record IsRewritten (aim : Aim) (input out : List ℕ) : Type 0 where
  pub stream : Stream
  pub blocks : List Block
  pub reads : ReadsLeft aim.reduce input stream blocks
  pub can : CanBePlanned aim stream blocks
  pub right : All (λ (b : Block). is_wrong aim.wanted.style b ≡ false) blocks
  pub output : IsOutput aim.wanted.marks (headers_of aim.wanted can.by stream blocks) (blocks_written aim.wanted can.by stream blocks) out
  pub short : AllShort output.parts (tile_number stream.siz)

-- the main header and the tile-parts of the first tiles, in which no block is wrong, where no index stands between them
pub record IsFront (w : Wanted) (r : Rule) (s : Stream) (blocks : List Block) (tiles : ℕ) (bytes : List ℕ) : Type 0 where
  pub unindexed : w.marks.tlm ≡ false
  pub parts : ℕ → List TilePart
  pub right : (t : ℕ) → t < tiles → IsRight w s blocks t
  pub are : (t : ℕ) → t < tiles → AreTilePartsOf w.marks (headers_of w r s blocks) (blocks_written w r s blocks) t (parts t)
  pub bytes_are : bytes ≡ main_bytes (headers_of w r s blocks) ++ flat_map (part_bytes (length s.siz.comps)) (joined parts 0 tiles)

-- what a run without an index may have written of an input before it is done: whole rounds, of which none has a tile that isn't written
pub record IsFrontOf (aim : Aim) (input bytes : List ℕ) : Type 0 where
  pub stream : Stream
  pub blocks : List Block
  pub reads : ReadsLeft aim.reduce input stream blocks
  pub can : CanBePlanned aim stream blocks
  pub tiles : ℕ
  pub inside : tiles ≤ tile_number stream.siz
  pub front : IsFront aim.wanted can.by stream blocks tiles bytes
  pub before : (t : ℕ) → t < tile_number stream.siz → IsSpoiled aim.wanted can.by stream blocks t → tiles ≤ round_start stream t

-- what it has written where a tile is too long: the rounds before that tile's
pub record IsCut (aim : Aim) (input : List ℕ) (t : ℕ) (bytes : List ℕ) : Type 0 where
  pub stream : Stream
  pub blocks : List Block
  pub reads : ReadsLeft aim.reduce input stream blocks
  pub can : CanBePlanned aim stream blocks
  pub front : IsFront aim.wanted can.by stream blocks (round_start stream t) bytes

-- and where a block is wrong: the rounds before that of its tile
pub record IsCutByBlock (aim : Aim) (input : List ℕ) (number : ℕ) (bytes : List ℕ) : Type 0 where
  pub stream : Stream
  pub blocks : List Block
  pub reads : ReadsLeft aim.reduce input stream blocks
  pub can : CanBePlanned aim stream blocks
  pub tile : ℕ
  pub from : first_in_tile stream tile ≤ number
  pub below : number < first_in_tile stream tile + blocks_in_tile stream tile
  pub front : IsFront aim.wanted can.by stream blocks (round_start stream tile) bytes

-- how many blocks are left of an input without its d highest resolutions; how many it has, with 0
pub record HasBlocks (d : ℕ) (input : List ℕ) (count : ℕ) : Type 0 where
  pub stream : Stream
  pub blocks : List Block
  pub reads : ReadsLeft d input stream blocks
  pub count_is : count ≡ length blocks

-- what the written file keeps: it is a well-formed codestream, and strictly made; it has the blocks that are left, each with its name, place,
-- planes, zero planes and passes, and with its style and coded bytes where it isn't coded anew, in the layers of the rule; SIZ but for Rsiz;
-- each component's parameters but for the order, the layers, the precincts and the style, and steps; and it means what is left of the input's
-- meaning, all of it with 0; the first layers of a block give its passes their final values
pub record IsKept (aim : Aim) (input out : List ℕ) : Type 0 where
  pub before : Stream
  pub after : Stream
  pub blocks : List Block
  pub reads : ReadsLeft aim.reduce input before blocks
  pub by : Rule
  pub is : rule_in aim before blocks ≡ Some by
  pub kept : IsKeptIn aim.wanted by before after blocks out
  pub left : IsLeft aim.reduce (meaning_of reads.whole reads.all) (meaning_of after (blocks_written aim.wanted by before blocks))
