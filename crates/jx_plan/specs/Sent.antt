-- The layers of a block's passes while they are asked for, pass by pass.
use Rattle.std.specs.Prelude.{◌≡◌, ◌<◌, ◌≤◌, ℕ, zero, suc, ◌+◌, min, List, [], ◌∷◌, Option, Some, length, slice_get}
use Rattle.jx_base.specs.declared.pieces.Block.{Block}
use Rattle.jx_base.specs.declared.style.Style.{Style}
use Rattle.jx_base.specs.Pieces.{ArePieces, PieceValue}
use Rattle.jx_codeblock.specs.declared.LayerEnd.{LayerEnd}
use Rattle.jx_codeblock.specs.declared.job.Job.{Job}
use Rattle.jx_codeblock.specs.Jobs.{AreEnds}
use Rattle.jx_codeblock.specs.Written.{style_for}
use Rattle.jx_layers.specs.Rule.{Rule, answer}
use Rattle.jx_plan.specs.Layers.{IsJobOf, Divide, facts_of, greatest_to, layer_in}

-- what is answered for a pass of a block before which so many questions were asked, cut down to a last layer
abbrev pub answered : Rule → ℕ → ℕ → ℕ → Block → ℕ → ℕ
answered rule last asked number b pass = min (answer rule (asked + pass) (facts_of number b pass)) last

-- the passes from one on lie in these layers, and those after the last of these, below n, in one more
abbrev pub LieIn : (ℕ → ℕ) → ℕ → ℕ → ℕ → ℕ → List LayerEnd → Type 0
LieIn layer low first n last [] = (low ≤ last) × (first < n) × ((pass : ℕ) → first ≤ pass → pass < n → layer pass ≡ last)
LieIn layer low first n last (e ∷ ends) =
    (low ≤ e.layer) × (first < e.passes) × ((pass : ℕ) → first ≤ pass → pass < e.passes → layer pass ≡ e.layer) × LieIn layer (e.layer + 1) e.passes n last ends

-- so far n passes were asked for; those after the given ends lie in the last layer
abbrev pub AreSent : (ℕ → ℕ) → ℕ → ℕ → List LayerEnd → Type 0
AreSent answers zero last ends = (last ≡ 0) × (ends ≡ [])
AreSent answers (suc n) last ends = LieIn (greatest_to answers) 0 0 (suc n) last ends × (last ≡ greatest_to answers n)

-- what is asked of a block before which so many questions were asked
pub record IsJobFrom (style : Option Style) (rule : Rule) (last asked number : ℕ) (b : Block) (job : Job) : Type 0 where
  pub number_is : job.number ≡ number
  pub block_is : job.block.now ≡ b
  pub style_is : job.style ≡ style_for style b
  pub ends : AreEnds 0 0 b.passes job.ends
  pub layers_are : Divide (greatest_to (answered rule last asked number b)) 0 job.ends

-- the pieces of a block whose passes are still to be asked for, after n
pub record AreLeft (b : Block) (n : ℕ) (left : List PieceValue) : Type 0 where
  pub pieces : ArePieces b.style.bits 0 n b.passes left
  pub layers : (pass : ℕ) → n ≤ pass → layer_in b.pieces pass ≡ layer_in left pass

-- one job for each of the first n blocks
pub record AreFirst (style : Option Style) (rule : Rule) (layers : ℕ) (blocks : List Block) (n : ℕ) (jobs : List Job) : Type 0 where
  pub all : length jobs ≡ n
  pub each : (number : ℕ) (b : Block) (job : Job) → slice_get blocks number ≡ Some b → slice_get jobs number ≡ Some job → IsJobOf style rule layers blocks number b job
