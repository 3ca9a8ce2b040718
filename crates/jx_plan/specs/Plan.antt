-- What is planned of a codestream before a byte of it is written: its headers, the number of layers, and what is asked of each
-- code-block.
use Rattle.std.specs.Prelude.{◌≡◌, ◌<◌, ◌≤◌, ◌^◌, ℕ, List, length, Option, None, Some, slice_get}
use Rattle.std.specs.List.{All}
use Rattle.jx_base.specs.declared.pieces.Block.{Block}
use Rattle.jx_base.specs.declared.style.Style.{Style}
use Rattle.jx_base.specs.Sound.{IsSound}
use Rattle.jx_codestream.specs.declared.Stream.{Stream}
use Rattle.jx_codestream.specs.InRange.{StreamInRange}
use Rattle.jx_tier2_reader.specs.BlockOf.{AreBlocksOf}
use Rattle.jx_tile.specs.Totals.{packet_total, totals_fault}
use Rattle.jx_codeblock.specs.declared.job.Job.{Job}
use Rattle.jx_codeblock.specs.declared.LayerEnd.{LayerEnd}
use Rattle.jx_codeblock.specs.Jobs.{IsAsked}
use Rattle.jx_codeblock.specs.Written.{style_for}
use Rattle.jx_codestream.specs.First.{tile_number}
use Rattle.jx_plan.specs.Causal.{first_broken}
use Rattle.jx_plan.specs.Crowded.{IsLowestCrowded}
use Rattle.jx_plan.specs.Fits.{Fits}
use Rattle.jx_tile_parts.specs.Groups.{HasFewEntries, HasFewParts}
use Rattle.jx_plan.specs.Headers.{stream_written, with_layers}
use Rattle.jx_options.specs.Wanted.{MayBeWanted, Wanted}
use Rattle.jx_plan.specs.Profile.{unclaimed}
use Rattle.jx_plan.specs.Standing.{HeadersStand}
use Rattle.jx_plan.specs.Strays.{HasNoStray}

-- a stream that was read, with its blocks
pub record MayBePlanned (s : Stream) (blocks : List Block) : Type 0 where
  pub headers : HeadersStand s
  pub range : StreamInRange s
  pub totals : totals_fault s ≡ None
  pub blocks_are : AreBlocksOf s blocks
  pub sound : All IsSound blocks

-- the headers that are written
abbrev pub headers_with : Wanted → ℕ → Stream → Stream
headers_with w layers s = stream_written (with_layers w layers) s

-- limit 7: the packets that are written
abbrev pub most_packets : ℕ
most_packets = 2 ^ 22

pub record Plan : Type 0 where
  pub stream : Stream
  pub blocks : List Block
  pub wanted : Wanted
  pub layers : ℕ
  pub jobs : List Job

abbrev pub headers_of : Plan → Stream
headers_of p = headers_with p.wanted p.layers p.stream

-- what is asked of a block of a number
pub record IsJob (style : Option Style) (blocks : List Block) (number : ℕ) (job : Job) : Type 0 where
  pub number_is : job.number ≡ number
  pub block_is : slice_get blocks number ≡ Some job.block.now
  pub style_is : job.style ≡ style_for style job.block.now
  pub asked : IsAsked job.block.now job.style job.ends

pub record IsPlan (p : Plan) : Type 0 where
  pub may : MayBePlanned p.stream p.blocks
  pub wanted : MayBeWanted p.wanted
  -- choice 1
  pub whole : first_broken p.wanted.style p.blocks ≡ None
  -- choices 3 and 2
  pub fits : Fits p.wanted.precincts p.stream
  pub some : 1 ≤ p.layers
  pub few : p.layers < 2 ^ 16
  pub packets : packet_total (headers_of p) ≤ most_packets
  -- choice 12
  pub placed : HasNoStray p.stream p.wanted p.layers
  pub all : length p.jobs ≡ length p.blocks
  pub each : (number : ℕ) (job : Job) → slice_get p.jobs number ≡ Some job → IsJob p.wanted.style p.blocks number job
  pub below : (number : ℕ) (job : Job) → slice_get p.jobs number ≡ Some job → All (λ (e : LayerEnd). e.layer < p.layers) job.ends
  -- choice 4
  pub uncrowded : IsLowestCrowded p.jobs None
  -- choice 5
  pub parts : (t : ℕ) → t < tile_number p.stream.siz → HasFewParts p.wanted.marks.parts (headers_of p) t
  -- choice 10
  pub entries : HasFewEntries p.wanted.marks (headers_of p)
  -- choice 11
  pub claimed : unclaimed p.wanted.marks (headers_of p) ≡ None
