-- Packets that are written from blocks stand there, and carry the pieces of these blocks.
use Rattle.std.proofs.Common.{◌≡◌, ℕ, zero, suc, ◌+◌, ◌-◌, ◌<◌, ◌≤◌, ◌==◌, nat_lt, List, [], ◌∷◌, ◌++◌, length, map, take, drop, refl, sym, ap, ◌∙◌, subst, arith, Some, None, Option, inl, inr, All, get_or, length-drop}
use Rattle.std.specs.List.{range_with_len}
use Rattle.std.proofs.lemmas.Bool.{cases_lt, cases_eq, eq-eqb, ne_eqb, lt-ltb, cond-true, cond-false}
use Rattle.std.proofs.lemmas.List.{length-map, get_or-take, get_or-drop}
use Rattle.std.proofs.lemmas.List.FromFn.{length-range_with_len, get_or-map-range_with_len}
use Rattle.std.proofs.lemmas.Option.{get_or_from_slice_get, slice_get_within}
use Rattle.std.specs.Prelude.{slice_get}
use Rattle.jx_base.specs.declared.pieces.Block.{Block}
use Rattle.jx_base.specs.Joined.{joined}
use Rattle.jx_base.specs.Pieces.{PieceValue, ArePieces}
use Rattle.jx_base.specs.Sound.{IsSound}
use Rattle.jx_base.proofs.Joined.{joined_none}
use Rattle.jx_geom.specs.Geometry.{GeometryInRange}
use Rattle.jx_geom.specs.Numbering.{blocks_below}
use Rattle.jx_packet_header.specs.declared.HeaderPart.{HeaderPart}
use Rattle.jx_packet_header.specs.declared.LeafPart.{LeafPart}
use Rattle.jx_packet_header.specs.declared.BandCells.{BandCells}
use Rattle.jx_packet_header.specs.declared.known.Known.{Known}
use Rattle.jx_packet_header.specs.Packet.{Cells, State, IsPacket, block_at, unknown_block}
use Rattle.jx_packet_header.specs.Precinct.{CellsInRange, all_blocks}
use Rattle.jx_packet_header.specs.Written.{Leafed, parts_in, state_at}
use Rattle.jx_packet_header.specs.Writable.{leaf_at, no_leaf}
use Rattle.jx_packet_header.specs.LeavesFit.{AreRuns, LeavesFit, InTypes, header_at, parts_at}
use Rattle.jx_packet_header.proofs.AgreeLemmas.{AreBandsAt, precinct_at, written_is_read}
use Rattle.jx_packet_header.proofs.FreshLemmas.{block_left, block_right}
use Rattle.jx_packet_header.proofs.LayerLemmas.{IsTold, IsFit, zero_told, fits_runs, in_none}
use Rattle.jx_packet_header.proofs.PlanLemmas.{state_is}
use Rattle.jx_progression.specs.declared.names.PacketName.{PacketName}
use Rattle.jx_progression.specs.Packets.{IsPacketName}
use Rattle.jx_progression.specs.Steps.{name_of}
use Rattle.jx_codestream.specs.declared.Stream.{Stream}
use Rattle.jx_codestream.specs.First.{canvas_of, tile_number}
use Rattle.jx_codestream.specs.Read.{IsRead}
use Rattle.jx_codestream.specs.Shapes.{geometry, shapes_of, layers_of, style_of}
use Rattle.jx_tile.specs.Totals.{totals_fault}
use Rattle.jx_codestream.specs.InRange.{StreamInRange}
use Rattle.jx_geom.specs.Precincts.{leaves}
use Rattle.jx_tile.specs.Cells.{precinct_bands}
use Rattle.jx_geom.specs.Precincts.{HasPrecinct, leaf_number}
use Rattle.jx_tier2_reader.specs.Blocks.{told_zero, zero_in}
use Rattle.jx_tier2_reader.specs.Written.{WrittenPacket, Packets, next_layer, IsWritten, AreWritten}
use Rattle.jx_tier2_reader.specs.BlockOf.{pieces_at}
use Rattle.jx_tier2_reader.specs.Carries.{pieces_of, block_in, carried, header_part_of, carried_parts, carried_bytes, Carries, AllCarry}
use Rattle.jx_tier2_reader.specs.Planned.{leaf_part_of, leaf_in, leaves_of_blocks, IsPlanned, ArePlanned}
use Rattle.jx_tier2_reader.proofs.FreshLemmas.{fresh_in_range}
use Rattle.jx_tier2_reader.proofs.CarryLemmas.{layer_here, layer_past, layer_nothing}
use Rattle.jx_tier2_reader.proofs.LaidBlocks.{joined_first}
use Rattle.jx_codestream.proofs.RangeLemmas.{read_in_range}
use Rattle.jx_tile.proofs.TotalLemmas.{geometry_fits}
use Rattle.jx_tier2_reader.proofs.TurnLemmas.{has_precinct}
use Rattle.jx_tier2_reader.proofs.FillLemmas.{AreUnmarked, Fills, fills_joined}

-- ---- the parts of a layer
in_here : (layer : ℕ) (p : LeafPart) (ps : List LeafPart) → p.layer ≡ layer → parts_in layer (p ∷ ps) ≡ p.told ∷ parts_in layer ps
in_here layer p ps e = cond-true (p.layer == layer) (p.told ∷ parts_in layer ps) (parts_in layer ps) (eq-eqb p.layer layer e)

in_past : (layer : ℕ) (p : LeafPart) (ps : List LeafPart) → (p.layer ≡ layer → ⊥) → parts_in layer (p ∷ ps) ≡ parts_in layer ps
in_past layer p ps ne = cond-false (p.layer == layer) (p.told ∷ parts_in layer ps) (parts_in layer ps) (ne_eqb p.layer layer ne)

pub parts_of_pieces : (layer j : ℕ) (qs : List PieceValue) → parts_in layer (map (leaf_part_of j) qs) ≡ map (header_part_of j) (pieces_at layer qs)
parts_of_pieces layer j [] = sym (ap (map (header_part_of j)) (layer_nothing layer))
parts_of_pieces layer j (q ∷ qs) = elim (cases_eq q.layer layer) [
  | inl e ↦
      in_here layer (leaf_part_of j q) (map (leaf_part_of j) qs) e ∙ ap (λ (ps : List HeaderPart). header_part_of j q ∷ ps) (parts_of_pieces layer j qs)
      ∙ sym (ap (map (header_part_of j)) (layer_here layer q qs e))
  | inr ne ↦ in_past layer (leaf_part_of j q) (map (leaf_part_of j) qs) ne ∙ parts_of_pieces layer j qs ∙ sym (ap (map (header_part_of j)) (layer_past layer q qs ne))
]

pub parts_over : (layer : ℕ) (leaf : ℕ → Leafed) (n a b : ℕ) → a + n ≡ b → parts_at layer (map leaf (range_with_len a n)) ≡ joined (λ j. parts_in layer (leaf j).parts) a b
parts_over layer leaf zero a b e = sym (joined_none (λ j. parts_in layer (leaf j).parts) a b (omega arith))
parts_over layer leaf (suc n) a b e =
    ap (λ (ps : List HeaderPart). parts_in layer (leaf a).parts ++ ps) (parts_over layer leaf n (a + 1) b (omega arith))
    ∙ sym (joined_first (λ j. parts_in layer (leaf j).parts) a b (omega arith))

same_joined : (f h : ℕ → List HeaderPart) (n a b : ℕ) → a + n ≡ b → ((i : ℕ) → f i ≡ h i) → joined f a b ≡ joined h a b
same_joined f h zero a b e same = joined_none f a b (omega arith) ∙ sym (joined_none h a b (omega arith))
same_joined f h (suc n) a b e same =
    joined_first f a b (omega arith) ∙ ap (λ (xs : List HeaderPart). xs ++ joined f (a + 1) b) (same a) ∙ ap (λ (xs : List HeaderPart). h a ++ xs) (same_joined f h n (a + 1) b (omega arith) same)
    ∙ sym (joined_first h a b (omega arith))

planned_parts : (s : Stream) (t : ℕ) (blocks : List Block) (c r k l : ℕ) → parts_at l (leaves_of_blocks s t blocks c r k) ≡ joined (carried_parts s t blocks (name_of l r c k)) 0 (leaves (geometry s t) c r k)
unfolding leaves_of_blocks
planned_parts s t blocks c r k l =
    let n : ℕ = leaves (geometry s t) c r k in
    let e : 0 + n ≡ n = omega arith in
    parts_over l (leaf_in s t blocks c r k) n 0 n e
    ∙ same_joined (λ j. parts_in l (leaf_in s t blocks c r k j).parts) (carried_parts s t blocks (name_of l r c k)) n 0 n e (λ j. parts_of_pieces l j (pieces_of (block_in s t blocks (name_of 0 r c k) j)))

-- ---- their bytes
-- pieces of sound blocks have no marker
pieces_unmarked : (style layer first last : ℕ) (qs : List PieceValue) → ArePieces style layer first last qs → AreUnmarked qs
pieces_unmarked style layer first last [] a = tt
pieces_unmarked style layer first last (q ∷ qs) a = (a.0.markers, pieces_unmarked style q.layer (first + q.passes) last qs a.1)

pub layer_unmarked : (layer : ℕ) (qs : List PieceValue) → AreUnmarked qs → AreUnmarked (pieces_at layer qs)
layer_unmarked layer [] all = subst AreUnmarked (sym (layer_nothing layer)) tt
layer_unmarked layer (q ∷ qs) all = elim (cases_eq q.layer layer) [
  | inl e ↦ subst AreUnmarked (sym (layer_here layer q qs e)) (all.0, layer_unmarked layer qs all.1)
  | inr ne ↦ subst AreUnmarked (sym (layer_past layer q qs ne)) (layer_unmarked layer qs all.1)
]

block_unmarked : (o : Option Block) → ((d : Block) → o ≡ Some d → IsSound d) → AreUnmarked (pieces_of o)
block_unmarked None sound = tt
block_unmarked (Some d) sound = let is : IsSound d = sound d refl in pieces_unmarked d.style.bits 0 0 d.passes d.pieces is.pieces

pub sound_at : (blocks : List Block) (i : ℕ) (d : Block) → All IsSound blocks → slice_get blocks i ≡ Some d → IsSound d
sound_at blocks i d all found = subst (λ (x : Block). IsSound x) (get_or_from_slice_get blocks i d d found) (all i d (slice_get_within blocks i d found))

carried_unmarked : (s : Stream) (t : ℕ) (blocks : List Block) (p : PacketName) (j : ℕ) → All IsSound blocks → AreUnmarked (carried s t blocks p j)
carried_unmarked s t blocks p j sound =
    layer_unmarked p.layer (pieces_of (block_in s t blocks p j)) (block_unmarked (block_in s t blocks p j) (λ d found. sound_at blocks (blocks_below (canvas_of s.siz) (shapes_of s) t + leaf_number (geometry s t) p.comp p.res p.precinct j) d sound found))

-- ---- the zero planes of a block that was included
-- what is known of a block of a precinct
record Told (layers layer : ℕ) (known : Known) (leaf : Leafed) : Type 0 where
  pub told : IsTold layer known leaf
  pub block : ℕ
  pub runs : AreRuns layers block 0 0 leaf.parts

bands_told : (style layers layer base : ℕ) (bands : List Cells) (lvs : List Leafed) (i : ℕ) → AreBandsAt style layers layer base bands lvs → i < length lvs
    → Told layers layer (get_or (all_blocks bands) i unknown_block) (leaf_at lvs i)
bands_told style layers layer base [] lvs i b lt = absurd (let none : length lvs ≡ 0 = ap (λ (l : List Leafed). length l) b in omega arith)
bands_told style layers layer base (cells ∷ bands) lvs i b lt =
    let n : ℕ = length cells.blocks in
    let T : Known → Leafed → Type 0 = λ known leaf. Told layers layer known leaf in
    let here : length (take n lvs) ≡ n = b.0.all in
    elim (cases_lt i n) [
      | inl first ↦
          let leaf : leaf_at (take n lvs) i ≡ leaf_at lvs i = get_or-take n lvs i no_leaf first in
          let known : get_or (cells.blocks ++ all_blocks bands) i unknown_block ≡ block_at cells i = block_left cells.blocks (all_blocks bands) i unknown_block first in
          let fit : IsFit style layers cells.planes (base + i) (leaf_at (take n lvs) i) = b.0.fits i (omega arith) in
          let runs : AreRuns layers (base + i) 0 0 (leaf_at (take n lvs) i).parts =
          fits_runs style layers cells.planes (base + i) (leaf_at (take n lvs) i).zero (leaf_at (take n lvs) i).parts fit.fits in
          subst (λ (x : Known). T x (leaf_at lvs i)) (sym known) (subst (λ (x : Leafed). T (block_at cells i) x) leaf
          (record { told = b.0.told i (omega arith); block = base + i; runs = runs }))
      | inr later ↦
          let known : get_or (cells.blocks ++ all_blocks bands) i unknown_block ≡ get_or (all_blocks bands) (i - n) unknown_block = block_right cells.blocks (all_blocks bands) i unknown_block later in
          let back : n + (i - n) ≡ i = omega arith in
          let leaf : leaf_at (drop n lvs) (i - n) ≡ leaf_at lvs i = get_or-drop n lvs (i - n) no_leaf ∙ ap (leaf_at lvs) back in
          subst (λ (x : Known). T x (leaf_at lvs i)) (sym known) (subst (λ (x : Leafed). T (get_or (all_blocks bands) (i - n) unknown_block) x) leaf
          (bands_told style layers layer (base + n) bands (drop n lvs) (i - n) b.1 (omega (arith, length-drop n lvs))))
    ]

zero_known : (layers block l z : ℕ) (parts : List LeafPart) → AreRuns layers block 0 0 parts → (parts_in l parts ≡ [] → ⊥) → told_zero (zero_told (l + 1) z parts) ≡ z
zero_known layers block l z [] runs some = absurd (some refl)
zero_known layers block l z (p ∷ ps) runs some = elim (cases_lt l p.layer) [
  | inl below ↦ absurd (some (in_none layers block l p.layer 0 (p ∷ ps) ((let le : p.layer ≤ p.layer = omega arith in le), runs.1, runs.2, runs.3, runs.4, runs.5) below))
  | inr le ↦ (let lt : p.layer < l + 1 = omega arith in ap told_zero (cond-true (nat_lt p.layer (l + 1)) (Some z) None (lt-ltb p.layer (l + 1) lt)))
]

state_zero : (layers style l : ℕ) (bands : List BandCells) (lvs : List Leafed) (j : ℕ) → CellsInRange bands → LeavesFit style layers bands lvs → InTypes layers lvs → l < layers → j < length lvs
    → (parts_in l (leaf_at lvs j).parts ≡ [] → ⊥) → zero_in (state_at layers style bands lvs (l + 1)) j ≡ (leaf_at lvs j).zero
state_zero layers style l bands lvs j range fit types lt inside some =
    let k : State = state_at layers style bands lvs (l + 1) in
    let at : k.layer ≡ l + 1 = (state_is layers style bands lvs (l + 1)).1 in
    let leaf : Leafed = leaf_at lvs j in
    let told = bands_told k.style layers k.layer 0 k.bands lvs j (precinct_at layers style (l + 1) bands lvs range fit types (omega arith)).bands inside in
    ap told_zero told.told.zero ∙ ap (λ (n : ℕ). told_zero (zero_told n leaf.zero leaf.parts)) at ∙ zero_known layers told.block l leaf.zero leaf.parts told.runs some

-- ---- the leaves of a precinct
pub leaves_long : (s : Stream) (t : ℕ) (blocks : List Block) (c r k : ℕ) → length (leaves_of_blocks s t blocks c r k) ≡ leaves (geometry s t) c r k
unfolding leaves_of_blocks
leaves_long s t blocks c r k =
    length-map (range_with_len 0 (leaves (geometry s t) c r k)) (leaf_in s t blocks c r k) ∙ length-range_with_len 0 (leaves (geometry s t) c r k)

leaves_are : (s : Stream) (t : ℕ) (blocks : List Block) (c r k j : ℕ) → j < leaves (geometry s t) c r k → leaf_at (leaves_of_blocks s t blocks c r k) j ≡ leaf_in s t blocks c r k j
unfolding leaves_of_blocks
leaves_are s t blocks c r k j lt =
    let e : 0 + j ≡ j = omega arith in get_or-map-range_with_len (leaf_in s t blocks c r k) 0 (leaves (geometry s t) c r k) j j no_leaf lt e

none_of : (j : ℕ) (qs : List PieceValue) → map (header_part_of j) qs ≡ [] → qs ≡ []
none_of j [] e = refl
none_of j (q ∷ qs) e = absurd (cc)

-- the leaves of each precinct fit
abbrev pub PrecinctsFit : Stream → ℕ → List Block → Type 0
PrecinctsFit s t blocks = (c r k : ℕ) → HasPrecinct (geometry s t) c r k
    → LeavesFit (style_of s t c) (layers_of s t) (precinct_bands s (geometry s t) c r k) (leaves_of_blocks s t blocks c r k) × InTypes (layers_of s t) (leaves_of_blocks s t blocks c r k)

-- ---- a packet
module _ (s : Stream) (t : ℕ) (blocks : List Block) (ps : Packets) (range : StreamInRange s) (limits : GeometryInRange (geometry s t)) (inside : t < tile_number s.siz) (sound : All IsSound blocks)
    (planned : ArePlanned s t blocks ps) (fits : PrecinctsFit s t blocks) where
  cells_range : (c r k : ℕ) → HasPrecinct (geometry s t) c r k → CellsInRange (precinct_bands s (geometry s t) c r k)
  cells_range c r k has = fresh_in_range s (geometry s t) c r k range limits inside refl has

  planned_carries : (p : PacketName) → IsPacketName (geometry s t) (layers_of s t) p → Carries s t blocks ps p
  planned_carries p is =
      let has : HasPrecinct (geometry s t) p.comp p.res p.precinct = has_precinct (geometry s t) (layers_of s t) p is in
      let plan : IsPlanned s t blocks ps p.comp p.res p.precinct = planned p.comp p.res p.precinct has in
      let lvs : List Leafed = leaves_of_blocks s t blocks p.comp p.res p.precinct in
      record {
        parts = plan.parts p.layer is.layer ∙ planned_parts s t blocks p.comp p.res p.precinct p.layer;
        bytes = plan.bytes p.layer is.layer;
        zeros = λ j lt some.
            (let long : length lvs ≡ leaves (geometry s t) p.comp p.res p.precinct = leaves_long s t blocks p.comp p.res p.precinct in
            let leaf : leaf_at lvs j ≡ leaf_in s t blocks p.comp p.res p.precinct j = leaves_are s t blocks p.comp p.res p.precinct j lt in
            let own : parts_in p.layer (leaf_at lvs j).parts ≡ map (header_part_of j) (carried s t blocks p j) =
            ap (λ (x : Leafed). parts_in p.layer x.parts) leaf ∙ parts_of_pieces p.layer j (pieces_of (block_in s t blocks p j)) in
            ap (λ (x : State). zero_in x j) (plan.before (p.layer + 1) (let lt' = is.layer in omega arith))
            ∙ state_zero (layers_of s t) (style_of s t p.comp) p.layer (precinct_bands s (geometry s t) p.comp p.res p.precinct) lvs j (cells_range p.comp p.res p.precinct has) (fits p.comp p.res p.precinct has).0 (fits p.comp p.res p.precinct has).1 is.layer (omega arith)
            (λ none. some (none_of j (carried s t blocks p j) (sym own ∙ none)))
            ∙ ap (λ (x : Leafed). x.zero) leaf);
      }

  planned_written : (p : PacketName) → IsPacketName (geometry s t) (layers_of s t) p → IsWritten ps p
  planned_written p is =
      let has : HasPrecinct (geometry s t) p.comp p.res p.precinct = has_precinct (geometry s t) (layers_of s t) p is in
      let plan : IsPlanned s t blocks ps p.comp p.res p.precinct = planned p.comp p.res p.precinct has in
      let carries : Carries s t blocks ps p = planned_carries p is in
      let lvs : List Leafed = leaves_of_blocks s t blocks p.comp p.res p.precinct in
      let layers : ℕ = layers_of s t in
      let style : ℕ = style_of s t p.comp in
      let bands : List BandCells = precinct_bands s (geometry s t) p.comp p.res p.precinct in
      let n : ℕ = leaves (geometry s t) p.comp p.res p.precinct in
      let x : WrittenPacket = ps.written p in
      let fills : Fills (joined (carried_parts s t blocks p) 0 n) (joined (carried_bytes s t blocks p) 0 n) = fills_joined (carried s t blocks p) n (λ j. carried_unmarked s t blocks p j sound) in
      let all : Fills x.parts x.bytes = subst (λ (qs : List HeaderPart). Fills qs x.bytes) (sym carries.parts) (subst (Fills (joined (carried_parts s t blocks p) 0 n)) (sym carries.bytes) fills) in
      record {
        header = λ rest.
            (let stands = (written_is_read layers style p.layer bands lvs rest (cells_range p.comp p.res p.precinct has) (fits p.comp p.res p.precinct has).0 (fits p.comp p.res p.precinct has).1 is.layer).stands in
            let H : List ℕ → Type 0 = λ h. IsPacket (h ++ rest) (ps.before p) x.parts (length h) (ps.before (next_layer p)) in
            let A : State → Type 0 = λ k. IsPacket (header_at layers style bands lvs p.layer ++ rest) k (parts_at p.layer lvs) (length (header_at layers style bands lvs p.layer)) (state_at layers style bands lvs (p.layer + 1)) in
            let B : List HeaderPart → Type 0 = λ qs. IsPacket (header_at layers style bands lvs p.layer ++ rest) (ps.before p) qs (length (header_at layers style bands lvs p.layer)) (state_at layers style bands lvs (p.layer + 1)) in
            let C : State → Type 0 = λ k. IsPacket (header_at layers style bands lvs p.layer ++ rest) (ps.before p) x.parts (length (header_at layers style bands lvs p.layer)) k in
            subst H (sym (plan.headers p.layer is.layer))
            (subst C (sym (plan.before (p.layer + 1) (let lt = is.layer in omega arith)))
            (subst B (sym (plan.parts p.layer is.layer))
            (subst A (sym (plan.before p.layer (let lt = is.layer in omega arith))) stands))));
        long = all.long;
        clear = all.clear;
      }

  pub planned_all : AreWritten s t ps × AllCarry s t blocks ps
  planned_all = (
    record {
      first = λ c r k has. (planned c r k has).before 0 (omega arith);
      each = planned_written;
    },
    planned_carries,
  )

pub planned_laid : (b : List ℕ) (s : Stream) (t : ℕ) (blocks : List Block) (ps : Packets) → IsRead b s → totals_fault s ≡ None → t < tile_number s.siz → All IsSound blocks → PrecinctsFit s t blocks → ArePlanned s t blocks ps
    → AreWritten s t ps × AllCarry s t blocks ps
planned_laid b s t blocks ps read none inside sound fits planned =
    let range : StreamInRange s = read_in_range b s read in
    planned_all s t blocks ps range (geometry_fits s t range none inside) inside sound planned fits
