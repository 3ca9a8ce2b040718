-- The layers in which the passes of all code-blocks are sent, by a rule that is asked once for each pass, in the order of blocks and
-- passes: a pass lies in the greatest layer that was answered so far for its block.
use Rattle.std.specs.Prelude.{◌≡◌, ◌⊎◌, ◌<◌, ◌≤◌, ℕ, zero, suc, ◌+◌, ◌-◌, ◌/◌, ◌==◌, min, max, nat_le, nat_lt, Bool, List, [], ◌∷◌, count_by, length, map, take, sum_by, if◌then◌else◌, Option, Some, slice_get}
use Rattle.std.specs.List.{filter, list_any, range_with_len}
use Rattle.jx_base.specs.declared.pieces.Block.{Block}
use Rattle.jx_base.specs.declared.style.Style.{Style}
use Rattle.jx_base.specs.Pieces.{PieceValue}
use Rattle.jx_codeblock.specs.declared.job.Job.{Job}
use Rattle.jx_codeblock.specs.declared.LayerEnd.{LayerEnd}
use Rattle.jx_codeblock.specs.Jobs.{AreEnds}
use Rattle.jx_codeblock.specs.Written.{style_for, written_in}
use Rattle.jx_layers.specs.declared.PassFacts.{PassFacts}
use Rattle.jx_layers.specs.Rule.{Rule, answer}

-- D.3: the coded plane of a pass: a cleanup pass is alone in plane 0, in each other plane there are three passes
abbrev pub plane_of : ℕ → ℕ
plane_of pass = (pass + 2) / 3

-- the layer of the input in which a pass is sent: that of its piece
abbrev pub layer_in : List PieceValue → ℕ → ℕ
layer_in [] pass = 0
layer_in (p ∷ pieces) pass = if nat_lt pass (p.first + p.passes) then p.layer else layer_in pieces pass

abbrev pub facts_of : ℕ → Block → ℕ → PassFacts
facts_of number b pass = record { block = number; pass = pass; plane = plane_of pass; zero = b.zero; layer = layer_in b.pieces pass }

-- how many passes the blocks before one have: so often a planner was asked
abbrev pub asked_before : List Block → ℕ → ℕ
asked_before blocks number = sum_by (λ (b : Block). b.passes) (take number blocks)

-- what is answered for a pass, cut down to the last layer
abbrev pub answer_at : Rule → ℕ → List Block → ℕ → Block → ℕ → ℕ
answer_at rule layers blocks number b pass = min (answer rule (asked_before blocks number + pass) (facts_of number b pass)) (layers - 1)

-- the greatest that was answered up to a pass
abbrev pub greatest_to : (ℕ → ℕ) → ℕ → ℕ
greatest_to answered zero = answered 0
greatest_to answered (suc pass) = max (greatest_to answered pass) (answered (suc pass))

-- the layer of each pass of a block
abbrev pub layer_at : Rule → ℕ → List Block → ℕ → Block → ℕ → ℕ
layer_at rule layers blocks number b pass = greatest_to (answer_at rule layers blocks number b) pass

-- how many of the first n passes lie in layers up to one
abbrev pub passes_to : (ℕ → ℕ) → ℕ → ℕ → ℕ
passes_to layer n l = count_by (λ pass. nat_le (layer pass) l) (range_with_len 0 n)

-- some of them lie in a layer
abbrev pub has_pass : (ℕ → ℕ) → ℕ → ℕ → Bool
has_pass layer n l = list_any (λ pass. layer pass == l) (range_with_len 0 n)

-- the layers in which they lie, of so many, each with the passes that are sent by its end
unfoldable pub ends_by : (ℕ → ℕ) → ℕ → ℕ → List LayerEnd
ends_by layer n layers = map (λ l. record { layer = l; passes = passes_to layer n l }) (filter (has_pass layer n) (range_with_len 0 layers))

-- the layers that a rule gives a block
abbrev pub ends_of : Rule → ℕ → List Block → ℕ → Block → List LayerEnd
ends_of rule layers blocks number b = ends_by (layer_at rule layers blocks number b) b.passes layers

-- blocks from a number on as they are written, in one style, and in the layers that a rule gives them
abbrev pub written_from : Option Style → Rule → ℕ → List Block → ℕ → List Block → List Block
written_from style rule layers blocks number [] = []
written_from style rule layers blocks number (b ∷ more) =
    written_in style (ends_of rule layers blocks number b) b ∷ written_from style rule layers blocks (number + 1) more

-- all blocks as they are written
unfoldable pub written_by : Option Style → Rule → ℕ → List Block → List Block
written_by style rule layers blocks = written_from style rule layers blocks 0 blocks

-- ends of layers, after some passes: up to each end the passes lie in its layer
abbrev pub Divide : (ℕ → ℕ) → ℕ → List LayerEnd → Type 0
Divide layer first [] = Unit {0}
Divide layer first (e ∷ ends) = ((pass : ℕ) → first ≤ pass → pass < e.passes → layer pass ≡ e.layer) × Divide layer e.passes ends

-- what is asked of a block
pub record IsJobOf (style : Option Style) (rule : Rule) (layers : ℕ) (blocks : List Block) (number : ℕ) (b : Block) (job : Job) : Type 0 where
  pub number_is : job.number ≡ number
  pub block_is : job.block.now ≡ b
  pub style_is : job.style ≡ style_for style b
  pub ends : AreEnds 0 0 b.passes job.ends
  pub layers_are : Divide (layer_at rule layers blocks number b) 0 job.ends

-- one job for each block, in the order of their numbers
pub record AreJobs (style : Option Style) (rule : Rule) (layers : ℕ) (blocks : List Block) (jobs : List Job) : Type 0 where
  pub all : length jobs ≡ length blocks
  pub each : (number : ℕ) (b : Block) (job : Job) → slice_get blocks number ≡ Some b → slice_get jobs number ≡ Some job → IsJobOf style rule layers blocks number b job

-- some layer has over 164 passes of a block, more than a packet header can tell (B.10.6, Table B.4)
abbrev pub HasMany : ℕ → List LayerEnd → Type 0
HasMany first [] = ⊥
HasMany first (e ∷ ends) = (164 < e.passes - first) ⊎ HasMany e.passes ends
