-- What is written is read back (ITU-T T.800, B.10).
use Rattle.std.specs.Prelude.{ℕ, List}
use Rattle.jx_packet_header.specs.declared.HeaderPart.{HeaderPart}
use Rattle.jx_packet_header.specs.Packet.{State, IsPacket, OneHeader}

-- A header stands at the front of some bytes, and any header that stands there is this one.
pub record IsOneReading (bytes : List ℕ) (k : State) (parts : List HeaderPart) (used : ℕ) (after : State) : Type 0 where
  pub stands : IsPacket bytes k parts used after
  pub only : (others : List HeaderPart) (ends : ℕ) (others_after : State) → IsPacket bytes k others ends others_after → OneHeader others parts others_after after ends used
