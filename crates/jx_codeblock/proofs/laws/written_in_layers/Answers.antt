use Rattle.std.proofs.Common.{ℕ, ◌<◌, refl}
use Rattle.jx_base.specs.declared.pieces.Block.{Block}
use Rattle.jx_codeblock.proofs.InLayers.{in_cells, in_cut, in_each, in_empty, in_ends, in_kept, in_layers, in_same, in_sound, in_style}
use Rattle.jx_codeblock.proofs.MadeBlocks.{in_own}
use Rattle.jx_codeblock.proofs.laws.written_in_layers.Goals as goal

pub returns-clause-own : goal.returns-clause-own
returns-clause-own c asked b = in_own asked b

pub returns-clause-sound : goal.returns-clause-sound
returns-clause-sound c asked ends b is = in_sound asked ends b is

pub returns-clause-cells : goal.returns-clause-cells
returns-clause-cells c asked ends b is = in_cells c.coded_anew_keeps_coefficients.ensures.cells asked ends b is

pub returns-clause-name : goal.returns-clause-name
returns-clause-name c asked ends b = in_same (λ (d : Block). d.name) asked ends b (λ r. refl)

pub returns-clause-rect : goal.returns-clause-rect
returns-clause-rect c asked ends b = in_same (λ (d : Block). d.rect) asked ends b (λ r. refl)

pub returns-clause-planes : goal.returns-clause-planes
returns-clause-planes c asked ends b = in_same (λ (d : Block). d.planes) asked ends b (λ r. refl)

pub returns-clause-zero : goal.returns-clause-zero
returns-clause-zero c asked ends b = in_same (λ (d : Block). d.zero) asked ends b (λ r. refl)

pub returns-clause-passes : goal.returns-clause-passes
returns-clause-passes c asked ends b = in_same (λ (d : Block). d.passes) asked ends b (λ r. refl)

pub returns-clause-style : goal.returns-clause-style
returns-clause-style c asked ends b right = in_style asked ends b right

pub returns-clause-kept : goal.returns-clause-kept
returns-clause-kept c ends b = in_kept ends b

pub returns-clause-empty : goal.returns-clause-empty
returns-clause-empty c asked ends b is none = in_empty asked ends b is none

pub returns-clause-layers : goal.returns-clause-layers
returns-clause-layers c asked ends b most is right each = in_layers (λ (n : ℕ). n < most) asked ends b right each

pub returns-clause-ends : goal.returns-clause-ends
returns-clause-ends c asked ends b is right = in_ends asked ends b is right

pub returns-clause-each : goal.returns-clause-each
returns-clause-each c asked ends b layer is right = in_each asked ends b layer is right

pub returns-clause-cuts : goal.returns-clause-cuts
returns-clause-cuts c asked ends b is right = in_cut asked ends b is right
