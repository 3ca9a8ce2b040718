use Rattle.std.proofs.Common.{◌≡◌, ◌-◌}
use denote.Shadow.{shadow}
use denote.Text.{Utf8}
use Rattle.jx_options.specs.Parts.{goes_on}
use Rattle.jx_options.specs.Values.{parts_of}
use Rattle.jx_options.specs.Volumes.{volume_in, volumes_in}
use Rattle.jx_options.proofs.volumes.volumes_in.Given as goal

abbrev pub invariant-loop-turn : goal.invariant-loop-turn
invariant-loop-turn l =
    shadow (Utf8 l.rest) × (goes_on volume_in l.volumes.items (32 - l._turn) (parts_of 47 l.rest) ≡ volumes_in l.text)
