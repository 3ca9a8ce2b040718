-- The one entry of a tile that is written covers each of its packets.
use Rattle.std.proofs.Common.{◌≡◌, ◌∙◌, ◌<◌, ℕ, true, arith, List, [], ◌∷◌, ◌++◌, length, take, drop, refl, sym, ap, subst, Option, None, Some, inl, inr}
use Rattle.std.specs.List.{All}
use Rattle.std.specs.Option.{option_map, option_or}
use Rattle.std.proofs.lemmas.Bool.{cases_Bool}
use Rattle.std.proofs.lemmas.Option.{slice_get-get_or}
use Rattle.jx_marker.specs.declared.Cod.{Cod}
use Rattle.jx_marker.specs.declared.Progression.{Progression}
use Rattle.jx_marker.specs.declared.Segment.{Segment}
use Rattle.jx_marker.specs.declared.Segment.TheVariants as segment
use Rattle.jx_geom.specs.Geometry.{Geometry, ShapesInRange}
use Rattle.jx_progression.specs.declared.names.PacketName.{PacketName}
use Rattle.jx_progression.specs.Packets.{IsPacketName, Covers, AreCovered}
use Rattle.jx_codestream.specs.declared.Stream.{Stream}
use Rattle.jx_codestream.specs.Tiles.{entries_joined, entries_of, entry_in, entry_of, in_slot, or_list}
use Rattle.jx_codestream.specs.Params.{cod_in, cod_of, header_in, header_of}
use Rattle.jx_codestream.specs.First.{tile_number}
use Rattle.jx_codestream.specs.Shapes.{geometry, layers_of, no_tile, tile_at}
use Rattle.jx_codestream.specs.declared.Tile.{Tile}
use Rattle.jx_codestream.specs.InRange.{StreamInRange}
use Rattle.jx_tile.specs.Covered.{IsWhole}
use Rattle.jx_plan.specs.Changes.{MainOrder, coding_end, main_order, poc_of, volumes_written}
use Rattle.jx_plan.specs.Headers.{all_written, cod_written, is_written, main_written, stream_written, tile_header, written, HeaderOptions, MayBeInHeaders}
use Rattle.jx_plan.specs.Fits.{first_zero}
use Rattle.jx_plan.specs.Standing.{HeadersStand, IsHeaded, IsNote}
use Rattle.jx_plan.proofs.StreamLemmas.{cod_slots, coded_at, layers_are, notes_aside, tile_is, tile_number_stays, tile_slots}
use Rattle.jx_plan.proofs.ChangeLemmas.{main_slots}
use Rattle.jx_plan.proofs.PocLemmas.{cut_written}
use Rattle.jx_plan.proofs.RangeLemmas.{written_in_range}
use Rattle.jx_plan.proofs.ReadBackLemmas.{joined_with, none_asides}

covers : (g : Geometry) (layers : ℕ) (cod : Cod) (p : PacketName) → ShapesInRange g.shapes → layers ≡ cod.layers → IsPacketName g layers p → Covers (entry_of cod) p
covers g layers cod p range same is = record {
  layer = let lt = is.layer in omega (arith, lt, same);
  res_from = omega arith;
  res_below = let le = is.resolution.level in let most = (range p.comp is.resolution.component).numbers.levels in omega (arith, le, most);
  comp_from = omega arith;
  comp_below = inl refl;
}

one_covers : (g : Geometry) (layers : ℕ) (cod : Cod) → ShapesInRange g.shapes → layers ≡ cod.layers → AreCovered g layers (entry_of cod ∷ [])
one_covers g layers cod range same p is = (0, omega arith, covers g layers cod p range same is)

-- where no changes are written, the one entry of its COD
no_entries : (changes : Option (List Progression)) (s : Segment) → changes ≡ Some [] → is_written changes s ≡ true → (a : HeaderOptions) → entries_of (written a s) ≡ []
no_entries changes (segment.Poc entries) e h a = absurd (let f = rw e at h in cc)
no_entries changes (segment.Cod cod) e h a = refl
no_entries changes (segment.Coc comp shape) e h a = refl
no_entries changes _ e h a = refl

none_written : (a : HeaderOptions) (ss : List Segment) → a.wanted.changes ≡ Some [] → entries_joined (all_written a ss) ≡ []
none_written a [] e = refl
none_written a (s ∷ ss) e = elim (cases_Bool (is_written a.wanted.changes s)) [
  | inl t ↦ rw (t, no_entries a.wanted.changes s e t a) (none_written a ss e)
  | inr f ↦ rw f (none_written a ss e)
]

main_none : (a : HeaderOptions) (comps : ℕ) (main : List Segment) → a.wanted.changes ≡ Some [] → main_written a comps main ≡ all_written a main
main_none a comps main e =
    let none : volumes_written comps a.wanted.changes ≡ [] = ap (λ (o : Option (List Progression)). volumes_written comps o) e in
    ap (λ (es : List Progression). all_written a (take (coding_end main) main) ++ (poc_of es ++ all_written a (drop (coding_end main) main))) none
    ∙ cut_written a (coding_end main) main

header_none : (a : HeaderOptions) (comps : ℕ) (m : MainOrder) (t : Tile) → a.wanted.changes ≡ Some [] → tile_header a comps m t ≡ all_written a t.header ++ t.notes
header_none a comps m t e = rw e refl

note_none : (comps : ℕ) (notes : List Segment) → All (IsNote comps) notes → entries_joined notes ≡ []
note_none comps notes h = none_asides comps notes (notes_aside comps notes h)

joined_none : (a : HeaderOptions) (comps : ℕ) (m : MainOrder) (t : Tile) → a.wanted.changes ≡ Some [] → IsHeaded comps t → entries_joined (tile_header a comps m t) ≡ []
joined_none a comps m t e h =
    ap entries_joined (header_none a comps m t e) ∙ joined_with (all_written a t.header) t.notes (note_none comps t.notes h.notes) ∙ none_written a t.header e

one_entry : (o p : Option Segment) (cod : Cod) → cod_in (option_or o p) ≡ Some cod → or_list (entry_in o) (entry_in p) ≡ entry_of cod ∷ []
one_entry None None cod e = absurd (cc)
one_entry None (Some (segment.Cod other)) cod e = let same : other ≡ cod = cc in ap (λ (x : Cod). entry_of x ∷ []) same
one_entry None (Some _) cod e = absurd (cc)
one_entry (Some (segment.Cod other)) p cod e = let same : other ≡ cod = cc in ap (λ (x : Cod). entry_of x ∷ []) same
one_entry (Some _) p cod e = absurd (cc)

both_none : (es fs : List Progression) (o p : Option Segment) (cod : Cod) → es ≡ [] → fs ≡ [] → cod_in (option_or o p) ≡ Some cod
    → or_list es (or_list fs (or_list (entry_in o) (entry_in p))) ≡ entry_of cod ∷ []
both_none es fs o p cod h k e = rw (h, k) (one_entry o p cod e)

entries_are : (a : HeaderOptions) (s : Stream) (stand : HeadersStand s) (t : ℕ) → a.wanted.changes ≡ Some [] → t < length s.tiles
    → (tile_at (stream_written a s) t).progressions ≡ entry_of (cod_written a (coded_at s stand t).cod) ∷ []
entries_are a s stand t none inside =
    let comps = length s.siz.comps in
    let x : Tile = tile_at s t in
    let h : IsHeaded comps x = stand.each t no_tile inside in
    let m : MainOrder = main_order s.main in
    let same : header_of s t ≡ x.header = ap header_in (slice_get-get_or s.tiles t no_tile inside) in
    let cod : Cod = (coded_at s stand t).cod in
    let is : cod_of x.header s.main ≡ Some cod = ap (λ (xs : List Segment). cod_of xs s.main) (sym same) ∙ (coded_at s stand t).is in
    let there : cod_of (tile_header a comps m x) (main_written a comps s.main) ≡ Some (cod_written a cod) =
    cod_slots a (tile_header a comps m x) x.header (main_written a comps s.main) s.main (tile_slots a comps m x h) (main_slots a comps s.main) ∙ ap (option_map (cod_written a)) is in
    ap (λ (y : Tile). y.progressions) (tile_is a s stand t inside)
    ∙ both_none (entries_joined (tile_header a comps m x)) (entries_joined (main_written a comps s.main)) (in_slot 1 (tile_header a comps m x)) (in_slot 1 (main_written a comps s.main)) (cod_written a cod)
    (joined_none a comps m x none h) (ap entries_joined (main_none a comps s.main none) ∙ none_written a s.main none) there

pub written_whole : (a : HeaderOptions) (s : Stream) (t : ℕ) → MayBeInHeaders a → a.wanted.changes ≡ Some [] → first_zero a.wanted.precincts s ≡ None → HeadersStand s → StreamInRange s
    → t < tile_number s.siz → IsWhole (stream_written a s) t
written_whole a s t may plain none stand r inside =
    let w : Stream = stream_written a s in
    let cod : Cod = cod_written a (coded_at s stand t).cod in
    let range = (written_in_range a s may none stand r).shapes t (omega (arith, inside, tile_number_stays a s)) in
    subst (λ (es : List Progression). AreCovered (geometry w t) (layers_of w t) es) (sym (entries_are a s stand t plain (omega (arith, r.tiles))))
    (one_covers (geometry w t) (layers_of w t) cod range (layers_are a s stand t))
