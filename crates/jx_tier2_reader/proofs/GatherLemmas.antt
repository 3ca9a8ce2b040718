-- The blocks of the tiles, joined, and what follows where a tile is refused.
use Rattle.std.proofs.Common.{◌≡◌, ◌<◌, ◌≤◌, ◌+◌, ◌∙◌, ℕ, List, [], ◌++◌, sym, ap, subst, arith, inl, inr, Some, None, length}
use Rattle.std.proofs.lemmas.Bool.Decides.{nat_tests}
use Rattle.std.proofs.lemmas.Bool.{cases_eq}
use Rattle.std.specs.List.{All}
use Rattle.jx_base.specs.declared.pieces.Block.{Block}
use Rattle.jx_base.specs.Sound.{IsSound}
use Rattle.jx_tier2_reader.proofs.SoundLemmas.{sound_blocks}
use Rattle.jx_codestream.specs.declared.Stream.{Stream}
use Rattle.jx_codestream.specs.First.{tile_number}
use Rattle.jx_codestream.specs.declared.faults.StreamFault.{StreamFault}
use Rattle.jx_tile.specs.Totals.{totals_fault}
use Rattle.jx_codestream.specs.declared.faults.StreamFault.TheVariants as fault
use Rattle.jx_tile.specs.Faults.{HasCause}
use Rattle.jx_codestream.specs.Read.{IsRead}
use Rattle.jx_tier2_reader.specs.WellFormed.{IsWellFormed}
use Rattle.jx_tile.specs.Covered.{IsUncovered, IsWhole, LacksPacket}
use Rattle.jx_tier2_reader.specs.Gathered.{AreTileBlocks, IsGathered, BreaksTile, IsBroken}
use Rattle.jx_tier2_reader.specs.Joined.{HasCuts, IsGatheredTo, RefusesTile, with_tile}
use Rattle.jx_base.specs.Joined.{joined}
use Rattle.jx_base.proofs.Joined.{joined_none, joined_next, joined_same}
use Rattle.jx_base.specs.Limits.{most_bytes}

pub gathered_none : (b : List ℕ) (s : Stream) → IsGatheredTo b s 0 []
gathered_none b s = record {
  tiles = λ t. [];
  are = λ t h. absurd (omega (arith, h));
  blocks_are = sym (joined_none (λ t. []) 0 0 (omega arith));
}

with_own : (tiles : ℕ → List Block) (at : ℕ) (next : List Block) → with_tile tiles at next at ≡ next
with_own tiles at next = grind (arith, nat_tests)

with_other : (tiles : ℕ → List Block) (at : ℕ) (next : List Block) (t : ℕ) → t < at → with_tile tiles at next t ≡ tiles t
with_other tiles at next t h = grind (arith, nat_tests)

pub gathered_next : (b : List ℕ) (s : Stream) (count : ℕ) (blocks next : List Block) → IsGatheredTo b s count blocks → AreTileBlocks b s count next
    → IsGatheredTo b s (count + 1) (blocks ++ next)
gathered_next b s count blocks next done own =
    let tiles : ℕ → List Block = with_tile done.tiles count next in
    let front : joined tiles 0 count ≡ blocks = joined_same tiles done.tiles count (λ i h. with_other done.tiles count next i h) ∙ sym done.blocks_are in
    let last : tiles count ≡ next = with_own done.tiles count next in
    record {
      tiles = tiles;
      are = λ t h. elim (cases_eq t count) [
        | inl e ↦ subst (λ (i : ℕ). AreTileBlocks b s i (with_tile done.tiles count next i)) (sym e) (subst (AreTileBlocks b s count) (sym last) own)
        | inr e ↦ subst (AreTileBlocks b s t) (sym (with_other done.tiles count next t (omega (arith, h, e)))) (done.are t (omega (arith, h, e)))
      ];
      blocks_are = sym (joined_next tiles 0 count (omega arith) ∙ (ap (λ xs. xs ++ tiles count) front ∙ ap (λ ys. blocks ++ ys) last));
    }

pub gathered_all : (b : List ℕ) (s : Stream) (blocks : List Block) → ((t : ℕ) → t < tile_number s.siz → IsWhole s t)
    → IsGatheredTo b s (tile_number s.siz) blocks → IsGathered b s blocks
gathered_all b s blocks whole done = record { whole = whole; tiles = done.tiles; are = done.are; blocks_are = done.blocks_are }

-- a refusal of a tile is one of the codestream, where the packets of all tiles are covered
breaks_own : (b : List ℕ) (s : Stream) (t : ℕ) (f : StreamFault) → IsWhole s t → RefusesTile b s t f → BreaksTile b s t f
breaks_own b s t f whole refused = elim refused [
  | inl lacks ↦ absurd (lacks.some.2 (whole lacks.some.0 lacks.some.1))
  | inr breaks ↦ breaks
]

tile_refused : (b : List ℕ) (s : Stream) (t : ℕ) (f : StreamFault) → totals_fault s ≡ None → t < tile_number s.siz → ((i : ℕ) → i < tile_number s.siz → IsWhole s i)
    → ((i : ℕ) → i < t → HasCuts b s i) → RefusesTile b s t f → IsBroken b s f
tile_refused b s t f none inside whole read refused =
    inr (none, inr (record { whole = whole; tile = t; inside = inside; before = read; breaks = breaks_own b s t f (whole t inside) refused }))

pub cause_of_tile : (b : List ℕ) (s : Stream) (t : ℕ) (e : StreamFault) → totals_fault s ≡ None → t < tile_number s.siz → ((i : ℕ) → i < tile_number s.siz → IsWhole s i)
    → ((i : ℕ) → i < t → HasCuts b s i) → HasCause (RefusesTile b s t) e → HasCause (IsBroken b s) e
cause_of_tile b s t (fault.Rule number place) none inside whole read refused = tile_refused b s t (fault.Rule number place) none inside whole read refused
cause_of_tile b s t (fault.Limit number found) none inside whole read refused = tile_refused b s t (fault.Limit number found) none inside whole read refused
cause_of_tile b s t fault.NoMemory none inside whole read refused = tt

pub cause_of_lack : (b : List ℕ) (s : Stream) (t : ℕ) (e : StreamFault) → HasCause (LacksPacket s t) e → HasCause (RefusesTile b s t) e
cause_of_lack b s t (fault.Rule number place) lacks = inl lacks
cause_of_lack b s t (fault.Limit number found) lacks = inl lacks
cause_of_lack b s t fault.NoMemory lacks = tt

pub cause_of_data : (b : List ℕ) (s : Stream) (t : ℕ) (e : StreamFault) → HasCause (BreaksTile b s t) e → HasCause (RefusesTile b s t) e
cause_of_data b s t (fault.Rule number place) breaks = inr breaks
cause_of_data b s t (fault.Limit number found) breaks = inr breaks
cause_of_data b s t fault.NoMemory breaks = tt

pub cause_of_cover : (b : List ℕ) (s : Stream) (e : StreamFault) → totals_fault s ≡ None → HasCause (IsUncovered s) e → HasCause (IsBroken b s) e
cause_of_cover b s (fault.Rule number place) none breaks = inr (none, inl breaks)
cause_of_cover b s (fault.Limit number found) none breaks = inr (none, inl breaks)
cause_of_cover b s fault.NoMemory none breaks = tt

pub cause_of_totals : (b : List ℕ) (s : Stream) (e : StreamFault) → HasCause (λ f. totals_fault s ≡ Some f) e → HasCause (IsBroken b s) e
cause_of_totals b s (fault.Rule number place) h = inl h
cause_of_totals b s (fault.Limit number found) h = inl h
cause_of_totals b s fault.NoMemory h = tt

pub well_formed : (b : List ℕ) (s : Stream) (blocks : List Block) → IsRead b s → IsGathered b s blocks → IsWellFormed b
well_formed b s blocks read gathered = record { stream = s; spelled = read.spelled; blocks = blocks; gathered = gathered }

-- the blocks of a tile are sound
pub tile_sound : (b : List ℕ) (s : Stream) (t : ℕ) (blocks : List Block) → IsRead b s → length b ≤ most_bytes → t < tile_number s.siz → totals_fault s ≡ None
    → AreTileBlocks b s t blocks → All IsSound blocks
tile_sound b s t blocks read short inside totals are =
    subst (λ (xs : List Block). All IsSound xs) (sym are.2) (sound_blocks b s t are.0 read short inside totals are.1)
