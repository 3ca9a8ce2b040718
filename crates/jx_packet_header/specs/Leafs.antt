-- A leaf as a plain record.
use Rattle.jx_packet_header.specs.declared.Leaf.{Leaf}
use Rattle.jx_packet_header.specs.Written.{Leafed}

abbrev pub leaf_of : Leaf → Leafed
leaf_of l = record { zero = l.zero; parts = l.parts.items }
