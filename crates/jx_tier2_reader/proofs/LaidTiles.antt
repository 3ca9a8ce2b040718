-- Codestreams whose tiles' packets stand one after another are gathered.
use Rattle.std.proofs.Common.{◌≡◌, ℕ, ◌<◌, List, None, refl}
use Rattle.jx_progression.specs.declared.names.PacketName.{PacketName}
use Rattle.jx_codestream.specs.declared.Stream.{Stream}
use Rattle.jx_codestream.specs.First.{tile_number}
use Rattle.jx_codestream.specs.Read.{IsRead}
use Rattle.jx_tile.specs.Totals.{totals_fault}
use Rattle.jx_tile.specs.Covered.{IsWhole}
use Rattle.jx_tier2_reader.specs.Gathered.{IsCutUp, IsGathered}
use Rattle.jx_tier2_reader.specs.Written.{Packets, IsLaid, cuts_at, laid_in, laid_blocks, packets_in}
use Rattle.jx_codestream.proofs.RangeLemmas.{read_in_range}
use Rattle.jx_tier2_reader.proofs.ReadyLemmas.{precincts}
use Rattle.jx_tier2_reader.proofs.TurnLemmas.{listed}
use Rattle.jx_tier2_reader.proofs.LaidLemmas.{cut_up}

pub laid_cut_up : (b : List ℕ) (s : Stream) (t : ℕ) (packets : Packets) (groups : List (List PacketName)) → IsRead b s → totals_fault s ≡ None
    → t < tile_number s.siz → IsWhole s t → IsLaid b s t packets groups → IsCutUp b s t (cuts_at packets (packets_in groups))
laid_cut_up b s t packets groups read none inside whole laid =
    cut_up b s t packets groups (precincts s t (read_in_range b s read) none inside) (listed s t (packets_in groups) laid.order whole) laid

pub laid_gathered : (b : List ℕ) (s : Stream) (packets : ℕ → Packets) (groups : ℕ → List (List PacketName)) → IsRead b s → totals_fault s ≡ None
    → ((t : ℕ) → t < tile_number s.siz → IsWhole s t) → ((t : ℕ) → t < tile_number s.siz → IsLaid b s t (packets t) (groups t))
    → IsGathered b s (laid_blocks s packets groups)
unfolding laid_blocks
laid_gathered b s packets groups read none whole laid = record {
  whole = whole;
  tiles = laid_in s packets groups;
  are = λ t inside. (cuts_at (packets t) (packets_in (groups t)), laid_cut_up b s t (packets t) (groups t) read none inside (whole t inside) (laid t inside), refl);
  blocks_are = refl;
}
