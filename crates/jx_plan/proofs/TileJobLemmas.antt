-- The jobs of a tile stand together, since blocks are numbered tile by tile.
use Rattle.std.proofs.Common.{◌≡◌, ◌∙◌, ◌<◌, ◌≤◌, ◌+◌, ℕ, List, length, Some, ap, sym, subst, arith, inl, inr, slice_index_or}
use Rattle.std.specs.List.{slice_get}
use Rattle.std.proofs.lemmas.Bool.{cases_lt}
use Rattle.std.proofs.lemmas.Option.{slice_get-get_or, slice_get_within}
use Rattle.jx_base.proofs.Sums.{sum_below_grows, sum_below_more, sum_below_next}
use Rattle.jx_base.specs.declared.names.BlockName.{BlockName}
use Rattle.jx_base.specs.declared.pieces.Block.{Block}
use Rattle.jx_codeblock.specs.declared.job.Job.{Job}
use Rattle.jx_geom.specs.Counts.{tile_blocks}
use Rattle.jx_geom.specs.Numbering.{IsBlock, block_number, blocks_below, geometry_of}
use Rattle.jx_geom.specs.Rects.{tile_rect}
use Rattle.jx_geom.proofs.NumberLemmas.{block_number_taken, number_in_tile_below}
use Rattle.jx_codestream.specs.declared.Stream.{Stream}
use Rattle.jx_codestream.specs.First.{canvas_of, tile_number}
use Rattle.jx_codestream.specs.Shapes.{shapes_of}
use Rattle.jx_tier2_reader.specs.BlockOf.{AreBlocksOf, IsBlockOf, IsFoundOf}
use Rattle.jx_plan.specs.Plan.{IsPlan, Plan}
use Rattle.jx_plan.specs.TileJobs.{AreJobsBelow, AreTileJobs}
use Rattle.jx_plan.proofs.BlockLemmas.{blocks_are}
use Rattle.jx_plan.proofs.PlanLemmas.{few_blocks}
use Rattle.jx_base.specs.Limits.{most_blocks}

abbrev before_tile : Stream → ℕ → ℕ
before_tile s t = blocks_below (canvas_of s.siz) (shapes_of s) t

abbrev in_tile : Stream → ℕ → ℕ
in_tile s t = tile_blocks (tile_rect (canvas_of s.siz) t) (shapes_of s t)

-- ---- the tile of the block of a number
record IsOfTile (s : Stream) (n t : ℕ) : Type 0 where
  from : before_tile s t ≤ n
  below : n < before_tile s t + in_tile s t

of_name : (s : Stream) (name : BlockName) → IsBlock (canvas_of s.siz) (shapes_of s) name → IsOfTile s (block_number (canvas_of s.siz) (shapes_of s) name) name.tile
unfolding block_number
of_name s name is =
    let inner = number_in_tile_below (geometry_of (canvas_of s.siz) (shapes_of s) name.tile) name is.1 in
    record { from = omega arith; below = omega (arith, inner) }

of_block : (s : Stream) (blocks : List Block) (n : ℕ) (b : Block) → AreBlocksOf s blocks → slice_get blocks n ≡ Some b → IsOfTile s n b.name.tile
of_block s blocks n b are at =
    let inside : n < length blocks = slice_get_within blocks n b at in
    let name = block_number_taken (canvas_of s.siz) (shapes_of s) n (omega (arith, inside, are.all, blocks_are s)) in
    let found : IsFoundOf s name.0 (slice_get blocks (block_number (canvas_of s.siz) (shapes_of s) name.0)) = are.each name.0 name.1.0 in
    let block : IsBlockOf s name.0 b = subst (IsFoundOf s name.0) (ap (λ (k : ℕ). slice_get blocks k) name.1.1 ∙ at) found in
    let here : IsOfTile s n name.0.tile = subst (λ (k : ℕ). IsOfTile s k name.0.tile) name.1.1 (of_name s name.0 name.1.0) in
    subst (IsOfTile s n) (ap (λ (x : BlockName). x.tile) (sym block.name)) here

of_job : (p : Plan) (n : ℕ) (job : Job) → IsPlan p → slice_get p.jobs n ≡ Some job → IsOfTile p.stream n job.block.now.name.tile
of_job p n job plan at = of_block p.stream p.blocks n job.block.now plan.may.blocks_are (plan.each n job at).block_is

-- ---- the jobs of the tiles below one, and of one
pub jobs_below : (p : Plan) (tile : ℕ) → IsPlan p → tile ≤ tile_number p.stream.siz → AreJobsBelow p.jobs tile (blocks_below (canvas_of p.stream.siz) (shapes_of p.stream) tile)
jobs_below p tile plan inside =
    let most : before_tile p.stream tile ≤ before_tile p.stream (tile_number p.stream.siz) = sum_below_grows (in_tile p.stream) tile (tile_number p.stream.siz) inside in
    record {
      inside = omega (arith, most, blocks_are p.stream, plan.all, plan.may.blocks_are.all);
      before = λ n job at below. elim (cases_lt job.block.now.name.tile tile) [
        | inl less ↦ less
        | inr later ↦
            let grows : before_tile p.stream tile ≤ before_tile p.stream job.block.now.name.tile = sum_below_grows (in_tile p.stream) tile job.block.now.name.tile later in
            absurd (omega (arith, below, grows, (of_job p n job plan at).from))
      ];
      behind = λ n job at from. elim (cases_lt job.block.now.name.tile tile) [
        | inl less ↦
            let more : before_tile p.stream job.block.now.name.tile + in_tile p.stream job.block.now.name.tile ≤ before_tile p.stream tile = sum_below_more (in_tile p.stream) job.block.now.name.tile tile less in
            absurd (omega (arith, from, more, (of_job p n job plan at).below))
        | inr later ↦ later
      ];
    }

-- ---- where a search stands
there : (jobs : List Job) (n : ℕ) (job : Job) → n < length jobs → job ≡ slice_index_or jobs n job → slice_get jobs n ≡ Some job
there jobs n job inside is = slice_get-get_or jobs n job inside ∙ ap Some (sym is)

pub not_behind : (jobs : List Job) (tile n : ℕ) (job : Job) → n < length jobs → job ≡ slice_index_or jobs n job → job.block.now.name.tile < tile
    → (count : ℕ) → AreJobsBelow jobs tile count → n < count
not_behind jobs tile n job inside is less count are = elim (cases_lt n count) [
  | inl below ↦ below
  | inr past ↦ absurd (omega (arith, less, are.behind n job (there jobs n job inside is) past))
]

pub not_before : (jobs : List Job) (tile n : ℕ) (job : Job) → n < length jobs → job ≡ slice_index_or jobs n job → tile ≤ job.block.now.name.tile
    → (count : ℕ) → AreJobsBelow jobs tile count → count ≤ n
not_before jobs tile n job inside is later count are = elim (cases_lt n count) [
  | inl below ↦ absurd (omega (arith, later, are.before n job (there jobs n job inside is) below))
  | inr past ↦ past
]

-- ---- those of one tile
pub tile_own : (jobs : List Job) (tile own first end : ℕ) → own ≡ tile → AreJobsBelow jobs own first → AreJobsBelow jobs (own + 1) end → first ≤ end → AreTileJobs jobs tile first end
tile_own jobs tile own first end same before behind order = record {
  order = order;
  inside = behind.inside;
  own = λ n job at. (
    (λ between. let low = before.behind n job at between.0 in let high = behind.before n job at between.1 in omega (arith, low, high, same)),
    (λ is. (
      elim (cases_lt n first) [
        | inl less ↦ absurd (let low = before.before n job at less in omega (arith, low, is, same))
        | inr from ↦ from
      ],
      elim (cases_lt n end) [
        | inl below ↦ below
        | inr past ↦ absurd (let high = behind.behind n job at past in omega (arith, high, is, same))
      ],
    )),
  );
}

pub tile_count : (s : Stream) (tile own first end : ℕ) → own ≡ tile → first ≡ before_tile s own → end ≡ before_tile s (own + 1) → end ≡ first + in_tile s tile
tile_count s tile own first end same from to =
    let next : before_tile s (own + 1) ≡ before_tile s own + in_tile s own = sum_below_next (in_tile s) own in
    let there : in_tile s own ≡ in_tile s tile = ap (in_tile s) same in
    omega (arith, from, to, next, there)

-- ---- how many there are at most
pub few_below : (p : Plan) (tile : ℕ) → IsPlan p → tile ≤ tile_number p.stream.siz → blocks_below (canvas_of p.stream.siz) (shapes_of p.stream) tile ≤ most_blocks
few_below p tile plan inside = omega (arith, (jobs_below p tile plan inside).inside, plan.all, few_blocks p.stream p.blocks plan.may)
