-- A precinct of which no block has a part: each of its packets is empty.
use Rattle.std.proofs.Common.{◌≡◌, ℕ, zero, suc, ◌+◌, ◌<◌, Bool, true, false, ◌||◌, List, [], ◌∷◌, length, map, refl, sym, ap, ◌∙◌, arith, if◌then◌else◌}
use Rattle.std.specs.Prelude.{nat_lt, slice_get}
use Rattle.std.specs.List.{range_with_len}
use Rattle.jx_base.specs.declared.pieces.Block.{Block}
use Rattle.jx_base.specs.Joined.{joined}
use Rattle.jx_base.proofs.Joined.{joined_empty, joined_same}
use Rattle.jx_geom.specs.Geometry.{Geometry}
use Rattle.jx_geom.specs.Precincts.{leaf_number, leaves}
use Rattle.jx_tagtree.specs.Header.{bytes_of}
use Rattle.jx_packet_header.specs.declared.BandCells.{BandCells}
use Rattle.jx_packet_header.specs.declared.LeafPart.{LeafPart}
use Rattle.jx_packet_header.specs.LeavesFit.{header_at}
use Rattle.jx_packet_header.specs.Packet.{State, bands_bits}
use Rattle.jx_packet_header.specs.Written.{Leafed, bands_written, parts_in, passes_of, some_in, state_at}
use Rattle.jx_codestream.specs.declared.Stream.{Stream}
use Rattle.jx_codestream.specs.Shapes.{layers_of, style_of}
use Rattle.jx_tier2_reader.specs.BlockOf.{pieces_at}
use Rattle.jx_tier2_reader.specs.Carries.{pieces_of}
use Rattle.jx_tile.specs.Cells.{precinct_bands}
use Rattle.jx_tier2_reader.specs.Planned.{leaf_part_of}
use Rattle.jx_tier2_writer.specs.Own.{IsSending, leaf_bytes, own_header, own_leaf, own_leaves}
use Rattle.jx_tier2_writer.specs.BlockParts.{layer_bytes, row_at, row_bytes}
use Rattle.jx_tier2_writer.specs.Sendings.{Sending}
use Rattle.jx_tier2_writer.specs.Silent.{AreSilent, empty_header}
use Rattle.jx_tier2_writer.proofs.SendingLemmas.{none_sent}

none_in_range : (g : Geometry) (own : List Block) (c r k layer a n : ℕ) → ((j : ℕ) → j < a + n → pieces_of (slice_get own (leaf_number g c r k j)) ≡ [])
    → some_in layer (map (own_leaf g own c r k) (range_with_len a n)) ≡ false
none_in_range g own c r k layer a zero silent = refl
none_in_range g own c r k layer a (suc n) silent =
    let rest : List Leafed = map (own_leaf g own c r k) (range_with_len (a + 1) n) in
    let here : (own_leaf g own c r k a).parts ≡ [] = ap (map (leaf_part_of a)) (silent a (omega arith)) in
    ap (λ (ps : List LeafPart). nat_lt 0 (passes_of (parts_in layer ps)) || some_in layer rest) here
    ∙ none_in_range g own c r k layer (a + 1) n (λ j lt. silent j (omega arith))

none_in : (g : Geometry) (own : List Block) (c r k layer : ℕ) → AreSilent g own c r k → some_in layer (own_leaves g own c r k) ≡ false
unfolding own_leaves
none_in g own c r k layer silent = none_in_range g own c r k layer 0 (leaves g c r k) (λ j lt. silent j (omega arith))

empty_at : (layers style : ℕ) (bands : List BandCells) (lvs : List Leafed) (l : ℕ) → ((m : ℕ) → some_in m lvs ≡ false) → header_at layers style bands lvs l ≡ 0 ∷ []
empty_at layers style bands lvs l none =
    let k : State = state_at layers style bands lvs l in
    ap (λ (b : Bool). bytes_of (if b then true ∷ bands_bits k.layer k.bands (if b then bands_written layers k.layer k.bands lvs else []) else false ∷ [])) (none k.layer)

same_headers : (f : ℕ → List ℕ) (a n : ℕ) → ((l : ℕ) → f l ≡ 0 ∷ []) → map empty_header (range_with_len a n) ≡ map f (range_with_len a n)
same_headers f a zero h = refl
same_headers f a (suc n) h =
    ap (λ (x : List ℕ). x ∷ map empty_header (range_with_len (a + 1) n)) (sym (h a)) ∙ ap (λ (xs : List (List ℕ)). f a ∷ xs) (same_headers f (a + 1) n h)

none_told : (g : Geometry) (own : List Block) (c r k l i : ℕ) → pieces_of (slice_get own (leaf_number g c r k i)) ≡ [] → leaf_bytes g own c r k l i ≡ []
unfolding layer_bytes pieces_at
none_told g own c r k l i none = ap (layer_bytes l) none

no_bytes : (g : Geometry) (own : List Block) (c r k l : ℕ) → AreSilent g own c r k → joined (leaf_bytes g own c r k l) 0 (leaves g c r k) ≡ []
no_bytes g own c r k l silent =
    let nothing : ℕ → List ℕ = λ i. [] in
    joined_same (leaf_bytes g own c r k l) nothing (leaves g c r k) (λ i lt. none_told g own c r k l i (silent i lt))
    ∙ joined_empty nothing 0 (leaves g c r k) (λ i. refl)

pub silent_is_sending : (s : Stream) (g : Geometry) (own : List Block) (datas : List (List ℕ)) (c r k n : ℕ) (p : Sending) → n ≡ layers_of s g.tile → AreSilent g own c r k
    → p.headers ≡ map empty_header (range_with_len 0 n) → length p.sent ≡ n → ((l : ℕ) → row_at p.sent l ≡ []) → IsSending s g own datas c r k p
silent_is_sending s g own datas c r k n p en silent headers long none = record {
  headers = headers ∙ ap (λ (m : ℕ). map empty_header (range_with_len 0 m)) en
      ∙ same_headers (own_header s g own c r k) 0 (layers_of s g.tile)
      (λ l. empty_at (layers_of s g.tile) (style_of s g.tile c) (precinct_bands s g c r k) (own_leaves g own c r k) l (λ m. none_in g own c r k m silent));
  long = long ∙ en;
  bytes = λ l lt. ap (row_bytes datas) (none l) ∙ sym (no_bytes g own c r k l silent);
  sent = λ l. none_sent datas (row_at p.sent l) (none l);
}
