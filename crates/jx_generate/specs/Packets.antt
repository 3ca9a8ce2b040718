-- The packets of a made file by their names, as jx_tier2_reader's laws for writers take them.
use Rattle.std.specs.Prelude.{ℕ, false, List, [], ◌∷◌}
use Rattle.jx_base.specs.Joined.{joined}
use Rattle.jx_packet_header.specs.LeavesFit.{parts_at}
use Rattle.jx_packet_header.specs.Written.{state_at}
use Rattle.jx_progression.specs.declared.names.PacketName.{PacketName}
use Rattle.jx_progression.specs.Steps.{name_of}
use Rattle.jx_tier2_reader.specs.Written.{Packets, WrittenPacket}
use Rattle.jx_generate.specs.Made.{bands_made, data_made, header_made, leaves_made}

abbrev pub written_made : ℕ → ℕ → ℕ → PacketName → WrittenPacket
written_made seed w h p = record {
  sop = false;
  header = header_made seed w h p.comp p.res p.layer;
  eph = false;
  parts = parts_at p.layer (leaves_made seed w h p.comp p.res);
  bytes = data_made seed w h p.comp p.res p.layer;
}

unfoldable pub packets_made : ℕ → ℕ → ℕ → Packets
packets_made seed w h = record {
  written = written_made seed w h;
  before = λ p. state_at 12 0 (bands_made w h p.comp p.res) (leaves_made seed w h p.comp p.res) p.layer;
}

-- B.12.1.1: their order
abbrev pub one_name : ℕ → ℕ → ℕ → List PacketName
one_name layer r c = name_of layer r c 0 ∷ []

unfoldable pub resolution_names : ℕ → ℕ → List PacketName
resolution_names layer r = joined (one_name layer r) 0 3

unfoldable pub layer_names : ℕ → List PacketName
layer_names layer = joined (resolution_names layer) 0 6

unfoldable pub names_made : List PacketName
names_made = joined layer_names 0 12
