-- A stream that was read, within the limits 5 and 6, is ready: its precincts are told apart, and headers keep their states.
use Rattle.std.proofs.Common.{◌≡◌, ℕ, ◌<◌, ◌^◌, List, None, refl, arith, length}
use Rattle.jx_base.specs.declared.pieces.Block.{Block}
use Rattle.jx_geom.specs.Geometry.{GeometryInRange}
use Rattle.jx_codestream.specs.declared.Stream.{Stream}
use Rattle.jx_codestream.specs.First.{tile_number}
use Rattle.jx_codestream.specs.declared.faults.StreamFault.{StreamFault}
use Rattle.jx_codestream.specs.Read.{IsRead}
use Rattle.jx_codestream.specs.Shapes.{geometry, tile_at}
use Rattle.jx_codestream.specs.InRange.{StreamInRange}
use Rattle.jx_tile.specs.Totals.{totals_fault}
use Rattle.jx_codestream.specs.declared.faults.StreamFault.TheVariants as fault
use Rattle.jx_tile.specs.Faults.{HasCause, IsMemory, IsOnly}
use Rattle.jx_tier2_reader.specs.Gathered.{IsGathered, IsBroken}
use Rattle.jx_codestream.proofs.RangeLemmas.{read_in_range}
use Rattle.jx_tile.proofs.TotalLemmas.{geometry_fits}
use Rattle.jx_tier2_reader.proofs.NumberLemmas.{precinct_there}
use Rattle.jx_geom.proofs.PrecinctLemmas.{precinct_once}
use Rattle.jx_tier2_reader.proofs.FreshLemmas.{fresh_is_state}
use Rattle.jx_tier2_reader.proofs.PartLemmas.{packet_kept, state_kept}
use Rattle.jx_tier2_reader.proofs.HeadLemmas.{few_packed, read_heads}
use Rattle.jx_tier2_reader.proofs.TurnLemmas.{Precincts, Keeps}
use Rattle.jx_tier2_reader.proofs.OnceLemmas as once

pub keeps : (b : List ℕ) → length b < 2 ^ 64 → Keeps b
keeps b few = record {
  kept = λ h k parts used after short is p.
      (let same = packet_kept h k parts used after p in
      record { is = state_kept h k parts used after (omega arith) is p; style = same.style; blocks = same.blocks });
}

pub precincts : (s : Stream) (t : ℕ) → StreamInRange s → totals_fault s ≡ None → t < tile_number s.siz → Precincts s (geometry s t)
precincts s t range none inside =
    let g : GeometryInRange (geometry s t) = geometry_fits s t range none inside in
    record {
      there = λ c r k has. precinct_there s (geometry s t) c r k has;
      once = λ c r k d q m has other same. precinct_once (geometry s t) c r k d q m has other same;
      states = λ c r k has. fresh_is_state s (geometry s t) c r k range g inside refl has;
    }

pub ready : (b : List ℕ) (s : Stream) → IsRead b s → length b < 2 ^ 64 → totals_fault s ≡ None → once.Ready b s
ready b s read few none = record {
  keeps = keeps b few;
  places = λ t inside. precincts s t (read_in_range b s read) none inside;
  few = λ t inside. few_packed b (tile_at s t).heads (read_heads b s t read inside);
}

-- tile data have one reading
pub one_gathering : (b : List ℕ) (s : Stream) (xs ys : List Block) → IsRead b s → length b < 2 ^ 64 → totals_fault s ≡ None → IsGathered b s xs → IsGathered b s ys → xs ≡ ys
one_gathering b s xs ys read few none x y = once.one_gathering b s xs ys (ready b s read few none) x y

pub broken_once : (b : List ℕ) (s : Stream) (f h : StreamFault) → IsRead b s → length b < 2 ^ 64 → IsBroken b s f → IsBroken b s h → f ≡ h
broken_once b s f h read few x y = once.broken_once b s f h (ready b s read few) x y

pub not_both : (b : List ℕ) (s : Stream) (blocks : List Block) (f : StreamFault) → IsRead b s → length b < 2 ^ 64 → totals_fault s ≡ None
    → IsGathered b s blocks → IsBroken b s f → ⊥
not_both b s blocks f read few none x y = once.not_both b s blocks f (ready b s read few none) none x y

-- a refusal beside blocks that are there
pub only_memory : (b : List ℕ) (s : Stream) (blocks : List Block) (e : StreamFault) → once.Ready b s → totals_fault s ≡ None → IsGathered b s blocks → HasCause (IsBroken b s) e → IsMemory e
only_memory b s blocks (fault.Rule number place) r none given broken = once.not_both b s blocks (fault.Rule number place) r none given broken
only_memory b s blocks (fault.Limit number found) r none given broken = once.not_both b s blocks (fault.Limit number found) r none given broken
only_memory b s blocks fault.NoMemory r none given broken = tt

-- a refusal beside the first violation
pub only_first : (b : List ℕ) (s : Stream) (first e : StreamFault) → (totals_fault s ≡ None → once.Ready b s) → IsBroken b s first → HasCause (IsBroken b s) e → IsOnly first e
only_first b s first (fault.Rule number place) r is broken = once.broken_once b s first (fault.Rule number place) r is broken
only_first b s first (fault.Limit number found) r is broken = once.broken_once b s first (fault.Limit number found) r is broken
only_first b s first fault.NoMemory r is broken = tt
