-- Inner: what is sent of a precinct, layer by layer, and how it is kept (ITU-T T.800, B.9 and B.10).
use Rattle.std.specs.Prelude.{ℕ, List, [], map}
use Rattle.std.specs.List.{range_with_len}
use Rattle.jx_tier2_writer.specs.Silent.{empty_header}
use Rattle.jx_tier2_writer.specs.declared.block_parts.BlockPart.{BlockPart}
use Rattle.jx_tier2_writer.specs.declared.sending.Form.{Form}
use Rattle.jx_tier2_writer.specs.declared.sending.Form.TheVariants.{Silent, Written}

-- the headers of its packets, and the parts of its blocks that each tells of
pub record Sending : Type 0 where
  pub headers : List (List ℕ)
  pub sent : List (List BlockPart)

-- no part, of whatever layer
abbrev pub no_part : ℕ → List BlockPart
no_part layer = []

abbrev pub sending_in : Form → Sending
sending_in (Silent layers) = record { headers = map empty_header (range_with_len 0 layers); sent = map no_part (range_with_len 0 layers) }
sending_in (Written rows) = record { headers = rows.value.headers; sent = rows.value.sent }
