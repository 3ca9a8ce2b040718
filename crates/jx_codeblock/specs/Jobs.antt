-- What is asked of a code-block: the style in which it is written, and the layers in which its passes are sent.
use Rattle.std.specs.Prelude.{◌≡◌, ◌⊎◌, ◌<◌, ◌≤◌, ◌+◌, ◌%◌, ℕ, List, [], ◌∷◌, Option, Some, None}
use Rattle.jx_base.specs.declared.pieces.Block.{Block}
use Rattle.jx_base.specs.declared.style.Style.{Style}
use Rattle.jx_base.specs.Sound.{IsSound}
use Rattle.jx_base.specs.Passes.{is_causal}
use Rattle.jx_codeblock.specs.declared.LayerEnd.{LayerEnd}

-- ends in layers from one on, after some passes: both rise, and the last is the block's last pass
abbrev pub AreEnds : ℕ → ℕ → ℕ → List LayerEnd → Type 0
AreEnds layer passes all [] = passes ≡ all
AreEnds layer passes all (e ∷ ends) = (layer ≤ e.layer) × (passes < e.passes) × AreEnds (e.layer + 1) e.passes all ends

-- a block that doesn't end with a cleanup pass keeps its causal bit (D.7)
abbrev pub KeepsCausal : Block → Option Style → Type 0
KeepsCausal b None = Unit {0}
KeepsCausal b (Some style) = (is_causal style.bits ≡ is_causal b.style.bits) ⊎ (b.passes ≡ 0) ⊎ (b.passes % 3 ≡ 1)

-- what may be asked of a block
pub record IsAsked (b : Block) (style : Option Style) (ends : List LayerEnd) : Type 0 where
  pub sound : IsSound b
  pub layers : AreEnds 0 0 b.passes ends
  pub causal : KeepsCausal b style
