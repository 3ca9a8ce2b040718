-- Packed packet headers: how many bytes they have, and where they lie in the file that is read.
use Rattle.std.proofs.Common.{◌≡◌, ℕ, ◌+◌, ◌-◌, ◌<◌, ◌≤◌, ◌==◌, Bool, true, false, cond, List, [], ◌∷◌, ◌++◌, length, take, drop, filter, flat_map, Option, None, Some, refl, sym, ap, ◌∙◌, subst, arith, length-append, length-drop, length-take}
use Rattle.std.proofs.lemmas.List.Elements.{All-from_recursion, All-head, All-tail}
use Rattle.std.proofs.lemmas.List.Sums.{sum_by-cons}
use Rattle.jx_marker.specs.Segments.{spelling}
use Rattle.jx_marker.specs.declared.Segment.{Segment}
use Rattle.jx_marker.specs.declared.Segment.TheVariants as segment
use Rattle.jx_codestream.specs.declared.Body.{Body}
use Rattle.jx_codestream.specs.declared.Stream.{Stream}
use Rattle.jx_codestream.specs.declared.Tile.{Tile}
use Rattle.jx_codestream.specs.declared.packed.PackedSegment.{PackedSegment}
use Rattle.jx_codestream.specs.declared.parts.PlacedPart.{PlacedPart}
use Rattle.jx_codestream.specs.First.{tile_number}
use Rattle.jx_codestream.specs.PackedHeaders.{LieIn, both_heads, data_in_order, heads_in, heads_of, joined_bytes, packed_from, shared_out, together, window, with_shares}
use Rattle.jx_codestream.specs.Spells.{Spells, TilePart, all_bytes, first_sot, head_bytes, main_packed, main_start, part_bytes, part_of, placed}
use Rattle.jx_codestream.specs.Tiles.{tile_of}
use Rattle.jx_codestream.specs.Read.{IsRead}
use Rattle.jx_codestream.specs.Shapes.{tile_at}
use Rattle.jx_tier2_reader.specs.Data.{packed_in, packed_pieces}
use Rattle.jx_tier2_reader.specs.Gathered.{head_pieces}
use Rattle.jx_tier2_reader.specs.InRange.{HeadsInRange}
use Rattle.jx_tier2_reader.proofs.BodyLemmas.{file_long, tile_there}
use Rattle.jx_tier2_reader.proofs.HeadRanges.{AreWithin, SegmentsWithin, both_within, heads_within, order_within, segments_within, shares_within, within_more, within_none}
use Rattle.jx_tier2_reader.proofs.TurnLemmas.{AreFew}

pub window_long : (b : List ℕ) (piece : Body) → piece.at + piece.length ≤ length b → length (window b piece) ≡ piece.length
window_long b piece inside = omega (arith, length-take piece.length (drop piece.at b), length-drop piece.at b)

pub joined_long : (b : List ℕ) (pieces : List Body) → LieIn b pieces → length (joined_bytes b pieces) ≡ together pieces
joined_long b [] inside = refl
joined_long b (piece ∷ pieces) inside =
    let own : length (window b piece) ≡ piece.length = window_long b piece (All-head (λ (x : Body). x.at + x.length ≤ length b) piece pieces inside) in
    let later = joined_long b pieces (All-tail (λ (x : Body). x.at + x.length ≤ length b) piece pieces inside) in
    let sum : together (piece ∷ pieces) ≡ piece.length + together pieces = sum_by-cons (λ (x : Body). x.length) piece pieces in
    omega (arith, length-append (window b piece) (joined_bytes b pieces))

pub few_packed : (b : List ℕ) (heads : Option (List Body)) → HeadsInRange b (packed_pieces heads) → AreFew b (packed_in b heads)
few_packed b None range = tt
few_packed b (Some pieces) range = let few = range.few in omega (arith, joined_long b pieces range.inside)

-- ---- of the file that is read
-- the headers of tile-parts that have PPT
placed_within : (n comps at t : ℕ) (ps : List TilePart) → at + length (flat_map (part_bytes comps) ps) ≤ n
    → AreWithin n (length (flat_map (part_bytes comps) ps)) (packed_pieces (heads_of (filter (λ (p : PlacedPart). p.sot.tile == t) (placed comps at ps))))
placed_within n comps at t [] le = within_none n 0
placed_within n comps at t (p ∷ ps) le =
    let sot : List ℕ = spelling comps (segment.Sot p.sot) in
    let segments : List ℕ = all_bytes comps p.header in
    let sod : List ℕ = spelling comps segment.Sod in
    let a : length (part_bytes comps p ++ flat_map (part_bytes comps) ps) ≡ length (part_bytes comps p) + length (flat_map (part_bytes comps) ps) = length-append (part_bytes comps p) (flat_map (part_bytes comps) ps) in
    let l : length (part_bytes comps p) ≡ length (head_bytes comps p) + length p.body = length-append (head_bytes comps p) p.body in
    let h : length (head_bytes comps p) ≡ length sot + length (segments ++ sod) = length-append sot (segments ++ sod) in
    let k : length (segments ++ sod) ≡ length segments + length sod = length-append segments sod in
    let own : AreWithin n (length segments) (packed_pieces (heads_in comps (at + length sot) p.header)) =
    heads_within n (length segments) (packed_from comps (at + length sot) p.header) (segments_within n comps (at + length sot) p.header (omega arith)) in
    let later = placed_within n comps (at + length (part_bytes comps p)) t ps (omega arith) in
    by (p.sot.tile == t) own later (omega arith)
  where
    rest : List PlacedPart
    rest = filter (λ (q : PlacedPart). q.sot.tile == t) (placed comps (at + length (part_bytes comps p)) ps)

    heads : Option (List Body)
    heads = heads_in comps (at + length (spelling comps (segment.Sot p.sot))) p.header

    by : (c : Bool) → AreWithin n (length (all_bytes comps p.header)) (packed_pieces heads) → AreWithin n (length (flat_map (part_bytes comps) ps)) (packed_pieces (heads_of rest))
        → length (all_bytes comps p.header) + length (flat_map (part_bytes comps) ps) ≤ length (part_bytes comps p ++ flat_map (part_bytes comps) ps)
        → AreWithin n (length (part_bytes comps p ++ flat_map (part_bytes comps) ps)) (packed_pieces (heads_of (cond c (part_of comps at p ∷ rest) rest)))
    by true own later sum =
        within_more n (length (all_bytes comps p.header) + length (flat_map (part_bytes comps) ps)) (length (part_bytes comps p ++ flat_map (part_bytes comps) ps))
        (packed_pieces (both_heads heads (heads_of rest))) sum (both_within n (length (all_bytes comps p.header)) (length (flat_map (part_bytes comps) ps)) heads (heads_of rest) own later)
    by false own later sum =
        within_more n (length (flat_map (part_bytes comps) ps)) (length (part_bytes comps p ++ flat_map (part_bytes comps) ps)) (packed_pieces (heads_of rest)) (omega arith) later

-- those of a tile, where the main header has these PPM
tile_within : (b : List ℕ) (n t : ℕ) (packed : List PackedSegment) (parts : List PlacedPart) → SegmentsWithin n n packed
    → AreWithin n n (packed_pieces (heads_of (filter (λ (p : PlacedPart). p.sot.tile == t) parts)))
    → AreWithin n n (packed_pieces (heads_of (filter (λ (p : PlacedPart). p.sot.tile == t) (with_shares b packed parts))))
tile_within b n t [] parts main plain = plain
tile_within b n t (p ∷ ps) parts main plain =
    let order = order_within n n (p ∷ ps) main in
    within_more n (together (data_in_order (p ∷ ps))) n (packed_pieces (heads_of (filter (λ (q : PlacedPart). q.sot.tile == t) (shared_out b (data_in_order (p ∷ ps)) parts)))) order.few
    (shares_within b n t (data_in_order (p ∷ ps)) parts order.inside)

heads_are : (main : List Segment) (parts : List PlacedPart) (t : ℕ) → (tile_of main parts t).heads ≡ heads_of (filter (λ (p : PlacedPart). p.sot.tile == t) parts)
unfolding tile_of
heads_are main parts t = refl

pub read_heads : (b : List ℕ) (s : Stream) (t : ℕ) → IsRead b s → t < tile_number s.siz → HeadsInRange b (head_pieces s t)
read_heads b s t read inside =
    let w : Spells b s = read.spelled in
    let n : ℕ = length b in
    let comps : ℕ = length s.siz.comps in
    let main : List ℕ = all_bytes comps s.main in
    let bodies : List ℕ = flat_map (part_bytes comps) w.parts in
    let low : first_sot s.siz s.main + length bodies ≤ n = file_long b s w in
    let all : List PlacedPart = placed comps (first_sot s.siz s.main) w.parts in
    let packed : List PackedSegment = main_packed s.siz s.main in
    let shared : List PlacedPart = with_shares b packed all in
    let own = segments_within n comps (main_start s.siz) s.main (omega arith) in
    let few_main = own.few in
    let segments : SegmentsWithin n n packed = record { inside = own.inside; few = omega arith } in
    let plain = within_more n (length bodies) n (packed_pieces (heads_of (filter (λ (p : PlacedPart). p.sot.tile == t) all))) (omega arith) (placed_within n comps (first_sot s.siz s.main) t w.parts low) in
    let within = tile_within b n t packed all segments plain in
    let heads : (tile_at s t).heads ≡ heads_of (filter (λ (p : PlacedPart). p.sot.tile == t) shared) =
    ap (λ (x : Tile). x.heads) (tile_there s.main shared s.tiles (tile_number s.siz) t w.tiles inside) ∙ heads_are s.main shared t in
    subst (λ (o : Option (List Body)). HeadsInRange b (packed_pieces o)) (sym heads) (record {
      inside = All-from_recursion (λ (piece : Body). piece.at + piece.length ≤ n) (packed_pieces (heads_of (filter (λ (p : PlacedPart). p.sot.tile == t) shared))) within.inside;
      few = within.few;
    })
