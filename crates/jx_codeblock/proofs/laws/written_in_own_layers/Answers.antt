use Rattle.std.proofs.Common.{ℕ, ◌<◌, refl}
use Rattle.jx_base.specs.declared.pieces.Block.{Block}
use Rattle.jx_codeblock.proofs.MadeBlocks.{written_cut, written_empty, written_kept, written_layers, written_own, written_same, written_shares, written_sound, written_style}
use Rattle.jx_codeblock.proofs.laws.written_in_own_layers.Goals as goal

pub returns-clause-sound : goal.returns-clause-sound
returns-clause-sound c asked b sound causal = written_sound asked b sound causal

pub returns-clause-name : goal.returns-clause-name
returns-clause-name c asked b = written_same (λ (d : Block). d.name) asked b (λ r. refl)

pub returns-clause-rect : goal.returns-clause-rect
returns-clause-rect c asked b = written_same (λ (d : Block). d.rect) asked b (λ r. refl)

pub returns-clause-planes : goal.returns-clause-planes
returns-clause-planes c asked b = written_same (λ (d : Block). d.planes) asked b (λ r. refl)

pub returns-clause-zero : goal.returns-clause-zero
returns-clause-zero c asked b = written_same (λ (d : Block). d.zero) asked b (λ r. refl)

pub returns-clause-passes : goal.returns-clause-passes
returns-clause-passes c asked b = written_same (λ (d : Block). d.passes) asked b (λ r. refl)

pub returns-clause-style : goal.returns-clause-style
returns-clause-style c asked b right = written_style asked b right

pub returns-clause-kept : goal.returns-clause-kept
returns-clause-kept c b sound cuts = written_kept b sound cuts

pub returns-clause-same : goal.returns-clause-same
returns-clause-same c b sound cuts = written_own b sound cuts

pub returns-clause-empty : goal.returns-clause-empty
returns-clause-empty c asked b sound causal none = written_empty asked b sound causal none

pub returns-clause-layers : goal.returns-clause-layers
returns-clause-layers c asked b most sound causal each = written_layers (λ (n : ℕ). n < most) asked b each

pub returns-clause-each : goal.returns-clause-each
returns-clause-each c asked b layer sound causal = written_shares asked b layer sound causal

pub returns-clause-cuts : goal.returns-clause-cuts
returns-clause-cuts c asked b sound causal right = written_cut asked b sound causal right
