-- A made file written anew in one layer, in the order RPCL (ITU-T T.800, B.12.1.3): its packets are `layer_names 0`.
use Rattle.std.specs.Prelude.{ℕ}
use Rattle.jx_marker.specs.declared.Progression.{Progression}

-- the one entry of headers with so many layers
abbrev pub entry_of_layers : ℕ → Progression
entry_of_layers layers = record { rs = 0; cs = 0; lye = layers; re = 33; ce = 0; order = 2 }
