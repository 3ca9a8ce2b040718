-- What is known of code-blocks in the layers that a rule gives them: the laws of the crates below, by their names.
use Rattle.std.proofs.Common.{◌≡◌, ◌<◌, ◌≤◌, ℕ, false, List, [], length, map, Option, None, Some}
use Rattle.std.specs.List.{All, slice_get}
use Rattle.std.specs.Option.{option_map}
use Rattle.jx_base.specs.declared.pieces.Block.{Block}
use Rattle.jx_base.specs.declared.style.Style.{Style}
use Rattle.jx_base.specs.Pieces.{PieceValue, passes_at}
use Rattle.jx_base.specs.Sound.{IsSound}
use Rattle.jx_codeblock.specs.declared.LayerEnd.{LayerEnd}
use Rattle.jx_codeblock.specs.declared.job.Job.{Job}
use Rattle.jx_codeblock.specs.Jobs.{IsAsked}
use Rattle.jx_codeblock.specs.Laws.{AreCutInLayers, asked_at}
use Rattle.jx_codeblock.specs.Recoding.{layer_ends}
use Rattle.jx_codeblock.specs.Written.{block_asked, is_wrong, own_cells, style_for, written_as, written_in}
use Rattle.jx_plan.specs.Causal.{breaks_plane}
use Rattle.jx_plan.specs.Crowded.{IsLowestCrowded, IsLowestCrowdedBlock}
use Rattle.jx_plan.specs.Layers.{AreJobs, ends_of, written_by}
use Rattle.jx_layers.specs.Rule.{Rule}
use Rattle.jx_layers.specs.Rule.Rule.{Keep}

-- of a block that is written in layers that are asked of it
pub record InLayers : Type 0 where
  pub own : (asked : Option Style) (b : Block) → written_as asked b ≡ written_in asked (layer_ends b.pieces) b
  pub sound : (asked : Option Style) (list : List LayerEnd) (b : Block) → IsAsked b (style_for asked b) list → IsSound (written_in asked list b)
  pub name : (asked : Option Style) (list : List LayerEnd) (b : Block) → (written_in asked list b).name ≡ b.name
  pub rect : (asked : Option Style) (list : List LayerEnd) (b : Block) → (written_in asked list b).rect ≡ b.rect
  pub planes : (asked : Option Style) (list : List LayerEnd) (b : Block) → (written_in asked list b).planes ≡ b.planes
  pub zero : (asked : Option Style) (list : List LayerEnd) (b : Block) → (written_in asked list b).zero ≡ b.zero
  pub style : (asked : Style) (list : List LayerEnd) (b : Block) → is_wrong (Some asked) b ≡ false → (written_in (Some asked) list b).style ≡ asked
  pub kept : (list : List LayerEnd) (b : Block) → (written_in None list b).style ≡ b.style
  pub empty : (asked : Option Style) (list : List LayerEnd) (b : Block) → IsAsked b (style_for asked b) list → (written_in asked list b).pieces ≡ [] → b.pieces ≡ []
  pub layers : (asked : Option Style) (list : List LayerEnd) (b : Block) (most : ℕ) → IsAsked b (style_for asked b) list → is_wrong asked b ≡ false
      → All (λ (e : LayerEnd). e.layer < most) list → All (λ (p : PieceValue). p.layer < most) (written_in asked list b).pieces
  pub each : (asked : Option Style) (list : List LayerEnd) (b : Block) (layer : ℕ) → IsAsked b (style_for asked b) list → is_wrong asked b ≡ false
      → passes_at layer (written_in asked list b).pieces ≡ asked_at layer 0 list
  pub cuts : (asked : Option Style) (list : List LayerEnd) (b : Block) → IsAsked b (style_for asked b) list → is_wrong asked b ≡ false
      → AreCutInLayers (written_in asked list b).style.bits (written_in asked list b).pieces

-- that it keeps its place, its passes and its coefficients
pub record CellLaws : Type 0 where
  pub name : (asked : Option Style) (list : List LayerEnd) (b : Block) → (written_in asked list b).name ≡ b.name
  pub rect : (asked : Option Style) (list : List LayerEnd) (b : Block) → (written_in asked list b).rect ≡ b.rect
  pub zero : (asked : Option Style) (list : List LayerEnd) (b : Block) → (written_in asked list b).zero ≡ b.zero
  pub passes : (asked : Option Style) (list : List LayerEnd) (b : Block) → (written_in asked list b).passes ≡ b.passes
  pub cells : (asked : Option Style) (list : List LayerEnd) (b : Block) → IsAsked b (style_for asked b) list → own_cells (written_in asked list b) ≡ own_cells b

-- of a block in its own layers, where no style is asked
abbrev pub KeepsOwn : Type 0
KeepsOwn = (b : Block) → IsSound b → AreCutInLayers b.style.bits b.pieces → written_as None b ≡ b

-- of the layers that a rule gives a block
pub record EndLaws : Type 0 where
  pub asked : (style : Option Style) (rule : Rule) (layers : ℕ) (blocks : List Block) (number : ℕ) (b : Block) → 1 ≤ layers → IsSound b
      → breaks_plane style b ≡ false → IsAsked b (style_for style b) (ends_of rule layers blocks number b)
  pub written : (rule : Rule) (layers : ℕ) (blocks : List Block) (number : ℕ) (b : Block) → 1 ≤ layers → All (λ (e : LayerEnd). e.layer < layers) (ends_of rule layers blocks number b)
  pub kept : (layers : ℕ) (blocks : List Block) (number : ℕ) (b : Block) → 1 ≤ layers → IsSound b
      → All (λ (p : PieceValue). p.layer < layers) b.pieces → ends_of Keep layers blocks number b ≡ layer_ends b.pieces

-- of all blocks as they are written
pub record WrittenLaws : Type 0 where
  pub count : (style : Option Style) (rule : Rule) (layers : ℕ) (blocks : List Block) → length (written_by style rule layers blocks) ≡ length blocks
  pub each : (style : Option Style) (rule : Rule) (layers : ℕ) (blocks : List Block) (n : ℕ)
      → slice_get (written_by style rule layers blocks) n ≡ option_map (λ (b : Block). written_in style (ends_of rule layers blocks n b) b) (slice_get blocks n)
  pub jobs : (style : Option Style) (rule : Rule) (layers : ℕ) (blocks : List Block) (list : List Job) → 1 ≤ layers → AreJobs style rule layers blocks list
      → map block_asked list ≡ written_by style rule layers blocks

-- of the lowest block of which a layer has too many passes
pub record CrowdLaws : Type 0 where
  pub jobs : (style : Option Style) (rule : Rule) (layers : ℕ) (blocks : List Block) (list : List Job) (lowest : Option ℕ) → 1 ≤ layers → AreJobs style rule layers blocks list
      → IsLowestCrowded list lowest → IsLowestCrowdedBlock rule layers blocks lowest
  pub some : (rule : Rule) (layers : ℕ) (blocks : List Block) → (lowest : Option ℕ) × IsLowestCrowdedBlock rule layers blocks lowest
  pub one : (rule : Rule) (layers : ℕ) (blocks : List Block) (a b : Option ℕ) → IsLowestCrowdedBlock rule layers blocks a → IsLowestCrowdedBlock rule layers blocks b → a ≡ b
  pub few : (rule : Rule) (layers : ℕ) (blocks : List Block) (n : ℕ) (b : Block) (layer : ℕ) → IsLowestCrowdedBlock rule layers blocks None → slice_get blocks n ≡ Some b
      → asked_at layer 0 (ends_of rule layers blocks n b) ≤ 164
