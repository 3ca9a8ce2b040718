-- What is asked of a codestream: how it is to be written, how many of its highest resolutions are left out, the most bytes that it may have, and
-- the rule by which its coding passes are put into layers.
use Rattle.std.specs.Prelude.{◌<◌, ◌≤◌, ◌^◌, ℕ, List, Option, IfSome}
use Rattle.jx_base.specs.Limits.{most_bytes}
use Rattle.jx_base.specs.declared.pieces.Block.{Block}
use Rattle.jx_codestream.specs.declared.Stream.{Stream}
use Rattle.jx_layers.specs.declared.StreamFacts.{StreamFacts}
use Rattle.jx_plan.specs.Facts.{facts_of}
use Rattle.jx_layers.specs.Rule.{Rule, layers_by}
use Rattle.jx_options.specs.Wanted.{MayBeWanted, Wanted}
use Rattle.jx_transcode.specs.declared.task.Task.{Task}

pub record Aim : Type 0 where
  pub wanted : Wanted
  pub reduce : ℕ
  -- a longer input is refused (limit 1)
  pub limit : ℕ
  -- what the first planner that serves the words of layers makes of them for a stream; nothing where none serves them, or it makes none
  pub rule : StreamFacts → Option Rule

-- the same with another limit
abbrev pub with_limit : ℕ → Aim → Aim
with_limit limit aim = record { wanted = aim.wanted; reduce = aim.reduce; limit = limit; rule = aim.rule }

-- what a task asks for, with the rule that planners make of its words of layers
abbrev pub aim_by : Task → (List ℕ → StreamFacts → Option Rule) → Aim
aim_by task rule = record { wanted = task.options.now; reduce = task.reduce; limit = task.limit; rule = rule task.options.now.layers }

-- what a task may ask for
abbrev pub MayBeTask : Task → Type 0
MayBeTask task = MayBeWanted task.options.now × (task.reduce ≤ 32) × (task.limit ≤ most_bytes)

-- the rule for what is left of a stream, with its blocks
abbrev pub rule_in : Aim → Stream → List Block → Option Rule
rule_in aim s blocks = aim.rule (facts_of s blocks)

-- words ask for at most 2^32 - 1 bytes, and planners make 1 to 65,535 layers
pub record MayBeAimed (aim : Aim) : Type 0 where
  pub may : MayBeWanted aim.wanted
  pub limit : aim.limit ≤ most_bytes
  pub layers : (facts : StreamFacts) → IfSome (aim.rule facts) (λ r. (1 ≤ layers_by r facts) × (layers_by r facts < 2 ^ 16))
