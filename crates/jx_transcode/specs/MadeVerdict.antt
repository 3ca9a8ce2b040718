-- What the verdict on a generated codestream hangs on: there is no rule of layers for it, or the rule makes one layer.
use Rattle.std.specs.Prelude.{◌≡◌, ℕ, List, None, IfSome}
use Rattle.jx_base.specs.declared.pieces.Block.{Block}
use Rattle.jx_codestream.specs.declared.Stream.{Stream}
use Rattle.jx_layers.specs.declared.StreamFacts.{StreamFacts}
use Rattle.jx_layers.specs.Rule.{layers_by}
use Rattle.jx_transcode.specs.Aims.{Aim, rule_in}
use Rattle.jx_transcode.specs.Rewritten.{ReadsLeft}

-- no planner serves the words of layers, or the first that does makes no rule of them for the input
pub record HasNoRule (aim : Aim) (input : List ℕ) : Type 0 where
  pub stream : Stream
  pub blocks : List Block
  pub reads : ReadsLeft aim.reduce input stream blocks
  pub none : rule_in aim stream blocks ≡ None

-- the first planner that serves the words of layers makes one, where it makes a rule, as that of `one` does
abbrev pub MakesOneLayer : Aim → Type 0
MakesOneLayer aim = (facts : StreamFacts) → IfSome (aim.rule facts) (λ r. layers_by r facts ≡ 1)
