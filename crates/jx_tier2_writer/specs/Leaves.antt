-- Inner: a precinct's blocks as leaves, one after another.
use Rattle.std.specs.Prelude.{◌-◌, ℕ}
use Rattle.jx_packet_header.specs.declared.LeafPart.{LeafPart}
use Rattle.jx_codeblock.specs.declared.LayerPart.{LayerPart}

-- a part as a header tells of it
abbrev pub leaf_part_from : ℕ → LayerPart → LeafPart
leaf_part_from j p = record { layer = p.layer; told = record { block = j; first = p.first; passes = p.passes; length = p.to - p.from } }
