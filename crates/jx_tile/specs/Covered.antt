-- The packets of a tile in the order of its progression entries, and rule 25: a packet that is in no entry (ITU-T T.800, A.6.6 and B.12).
use Rattle.std.specs.Prelude.{◌≡◌, ◌<◌, ℕ, List, length}
use Rattle.jx_progression.specs.declared.names.PacketName.{PacketName}
use Rattle.jx_progression.specs.Packets.{IsOrder, AreCovered, HasUncovered}
use Rattle.jx_marker.specs.RuleNumbers.{UNCOVERED}
use Rattle.jx_codestream.specs.declared.Stream.{Stream}
use Rattle.jx_codestream.specs.First.{tile_number}
use Rattle.jx_codestream.specs.declared.faults.StreamFault.{StreamFault}
use Rattle.jx_codestream.specs.declared.faults.StreamFault.TheVariants as fault
use Rattle.jx_codestream.specs.Shapes.{geometry, layers_of, tile_at}

-- B.12: the packets of a tile, in the order of its progression entries
abbrev pub IsListOf : Stream → ℕ → List PacketName → Type 0
IsListOf s t list = IsOrder (geometry s t) (layers_of s t) (tile_at s t).progressions (length (tile_at s t).progressions) list

abbrev pub IsWhole : Stream → ℕ → Type 0
IsWhole s t = AreCovered (geometry s t) (layers_of s t) (tile_at s t).progressions

-- some packet of the tile is covered by no entry: the rule at its first SOT
pub record LacksPacket (s : Stream) (t : ℕ) (f : StreamFault) : Type 0 where
  pub some : HasUncovered (geometry s t) (layers_of s t) (tile_at s t).progressions
  pub fault_is : f ≡ fault.Rule UNCOVERED (tile_at s t).place

-- rule 25: the lowest tile of which some packet is covered by no entry
pub record IsUncovered (s : Stream) (f : StreamFault) : Type 0 where
  pub tile : ℕ
  pub inside : tile < tile_number s.siz
  pub some : HasUncovered (geometry s tile) (layers_of s tile) (tile_at s tile).progressions
  pub lowest : (t : ℕ) → t < tile → IsWhole s t
  pub fault_is : f ≡ fault.Rule UNCOVERED (tile_at s tile).place
