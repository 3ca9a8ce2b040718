-- A codestream whose packets are written from blocks is gathered with these blocks.
use Rattle.std.proofs.Common.{◌≡◌, ℕ, ◌<◌, List, None, All}
use Rattle.jx_base.specs.declared.pieces.Block.{Block}
use Rattle.jx_base.specs.Sound.{IsSound}
use Rattle.jx_progression.specs.declared.names.PacketName.{PacketName}
use Rattle.jx_codestream.specs.declared.Stream.{Stream}
use Rattle.jx_codestream.specs.First.{tile_number}
use Rattle.jx_codestream.specs.Read.{IsRead}
use Rattle.jx_codestream.specs.Shapes.{tile_at}
use Rattle.jx_tile.specs.Totals.{totals_fault}
use Rattle.jx_tile.specs.Covered.{IsListOf, IsWhole}
use Rattle.jx_tier2_reader.specs.Gathered.{IsGathered}
use Rattle.jx_tier2_reader.specs.BlockOf.{AreBlocksOf}
use Rattle.jx_tier2_reader.specs.Written.{Packets, AreWritten, AreFilled, packets_in}
use Rattle.jx_tier2_reader.specs.Carries.{AllCarry}
use Rattle.jx_tier2_reader.specs.Planned.{ArePlanned}
use Rattle.jx_tier2_reader.proofs.FitLemmas.{blocks_fit}
use Rattle.jx_tier2_reader.proofs.PlannedLemmas.{planned_laid}
use Rattle.jx_tier2_reader.proofs.KeptLemmas.{carried_gathered}

pub planned_written : (b : List ℕ) (s : Stream) (t : ℕ) (blocks : List Block) (ps : Packets) → IsRead b s → totals_fault s ≡ None → t < tile_number s.siz → AreBlocksOf s blocks → All IsSound blocks
    → ArePlanned s t blocks ps → AreWritten s t ps × AllCarry s t blocks ps
planned_written b s t blocks ps read none inside are sound planned =
    planned_laid b s t blocks ps read none inside sound (λ c r k has. blocks_fit b s t blocks c r k read none inside are sound has) planned

pub planned_gathered : (b : List ℕ) (s : Stream) (blocks : List Block) (packets : ℕ → Packets) (groups : ℕ → List (List PacketName)) → IsRead b s → totals_fault s ≡ None
    → AreBlocksOf s blocks → All IsSound blocks → ((t : ℕ) → t < tile_number s.siz → IsWhole s t) → ((t : ℕ) → t < tile_number s.siz → IsListOf s t (packets_in (groups t)))
    → ((t : ℕ) → t < tile_number s.siz → (tile_at s t).heads ≡ None) → ((t : ℕ) → t < tile_number s.siz → AreFilled b (packets t) 0 (tile_at s t).bodies (groups t)) → ((t : ℕ) → t < tile_number s.siz → ArePlanned s t blocks (packets t)) → IsGathered b s blocks
planned_gathered b s blocks packets groups read none are sound whole order in_place filled planned =
    carried_gathered b s blocks packets groups read none are sound whole
    (λ t inside. (record { in_place = in_place t inside; order = order t inside; written = (planned_written b s t blocks (packets t) read none inside are sound (planned t inside)).0; filled = filled t inside }))
    (λ t inside. (planned_written b s t blocks (packets t) read none inside are sound (planned t inside)).1)
