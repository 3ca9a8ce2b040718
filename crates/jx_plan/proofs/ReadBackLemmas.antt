-- The tile that is read from the tile-parts of a written file.
use Rattle.std.proofs.Common.{◌≡◌, ◌∙◌, ◌<◌, ℕ, Bool, true, false, arith, List, [], ◌∷◌, ◌++◌, length, get_or, drop, map, refl, sym, ap, Option, append-nil}
use Rattle.std.specs.List.{All, filter, list_any}
use Rattle.std.proofs.lemmas.Grind.{flat_map-append}
use Rattle.std.proofs.lemmas.List.{length-map}
use Rattle.std.proofs.lemmas.List.FromFn.{get_or-map-range_with_len, length-map-range_with_len}
use Rattle.std.proofs.lemmas.List.Elements.{All-head, All-tail}
use Rattle.jx_marker.specs.declared.Segment.{Segment}
use Rattle.jx_marker.specs.declared.Progression.{Progression}
use Rattle.jx_codestream.specs.declared.parts.PlacedPart.{PlacedPart}
use Rattle.jx_codestream.specs.declared.Body.{Body}
use Rattle.jx_codestream.specs.declared.Tile.{Tile}
use Rattle.jx_codestream.specs.declared.Stream.{Stream}
use Rattle.jx_codestream.specs.PackedHeaders.{heads_of}
use Rattle.jx_codestream.specs.Parts.{parts_of}
use Rattle.jx_codestream.specs.First.{tile_number}
use Rattle.jx_codestream.specs.Shapes.{tile_at, no_tile}
use Rattle.jx_codestream.specs.Tiles.{in_slot, entries_of, entries_joined, is_com, entry_in, or_list, headers_of, first_header, first_place, progressions_of, tile_from, tile_of, tiles_of}
use Rattle.jx_plan.specs.Changes.{MainOrder, main_order}
use Rattle.jx_plan.specs.Headers.{HeaderOptions, main_written, stream_written, tile_header, tile_written}
use Rattle.jx_plan.specs.Asides.{IsAside, is_aside, is_plt, IsTileWithMore, IsWithMore}
use Rattle.jx_plan.specs.ReadBack.{HaveHeaders}
use Rattle.jx_plan.specs.Standing.{HeadersStand}
use Rattle.jx_plan.proofs.WrittenLemmas.{slot_more}
use Rattle.jx_plan.proofs.StreamLemmas.{tile_is}
use Rattle.jx_codestream.proofs.RangeLemmas.{tile_of_is}
use Rattle.jx_marker.specs.declared.Segment.TheVariants as segment

-- comments and packet lengths have no entries

none_aside : (s : Segment) → is_aside s ≡ true → entries_of s ≡ []
none_aside (segment.Com bytes) h = refl
none_aside (segment.Plt bytes) h = refl
none_aside _ h = absurd (cc)

pub none_asides : (comps : ℕ) (more : List Segment) → All (IsAside comps) more → entries_joined more ≡ []
none_asides comps [] h = refl
none_asides comps (s ∷ ss) h = rw (none_aside s (All-head (IsAside comps) s ss h).is) (none_asides comps ss (All-tail (IsAside comps) s ss h))

plt_entries : (s : Segment) → is_plt s ≡ true → entries_of s ≡ []
plt_entries (segment.Plt bytes) h = refl
plt_entries _ h = absurd (cc)

plt_note : (s : Segment) → is_plt s ≡ true → is_com s ≡ false
plt_note (segment.Plt bytes) h = refl
plt_note _ h = absurd (cc)

abbrev IsLength : Segment → Type 0
IsLength s = is_plt s ≡ true

none_plts : (more : List Segment) → All IsLength more → entries_joined more ≡ []
none_plts [] h = refl
none_plts (s ∷ ss) h = rw (plt_entries s (All-head IsLength s ss h)) (none_plts ss (All-tail IsLength s ss h))

no_notes : (more : List Segment) → All IsLength more → filter is_com more ≡ []
no_notes [] h = refl
no_notes (s ∷ ss) h = rw (plt_note s (All-head IsLength s ss h)) (no_notes ss (All-tail IsLength s ss h))

pub joined_with : (xs ys : List Segment) → entries_joined ys ≡ [] → entries_joined (xs ++ ys) ≡ entries_joined xs
joined_with xs ys h = flat_map-append entries_of xs ys ∙ ap (λ (es : List Progression). entries_joined xs ++ es) h ∙ append-nil (entries_joined xs)

-- all headers are the first and the later ones
first_later : (own : List PlacedPart) → headers_of own ≡ first_header own ++ headers_of (drop 1 own)
first_later [] = refl
first_later (p ∷ later) = refl

module _ (a : HeaderOptions) (comps : ℕ) (main : List Segment) (m : MainOrder) (t : Tile) (own : List PlacedPart) (more : List Segment)
    (first : first_header own ≡ tile_header a comps m t ++ more) (asides : All (IsAside comps) more) (later : All IsLength (headers_of (drop 1 own))) where
  joined_own : entries_joined (headers_of own) ≡ entries_joined (tile_header a comps m t)
  joined_own =
      ap entries_joined (first_later own) ∙ joined_with (first_header own) (headers_of (drop 1 own)) (none_plts (headers_of (drop 1 own)) later)
      ∙ ap entries_joined first ∙ joined_with (tile_header a comps m t) more (none_asides comps more asides)

  slot_read : in_slot 1 (first_header own) ≡ in_slot 1 (tile_header a comps m t)
  slot_read = ap (λ (xs : List Segment). in_slot 1 xs) first ∙ slot_more comps 1 (tile_header a comps m t) more refl asides

  abbrev written_order : MainOrder
  written_order = main_order (main_written a comps main)

  entries_read : progressions_of (main_written a comps main) own ≡ (tile_written a comps m written_order t).progressions
  entries_read =
      ap (λ (es : List Progression). or_list es (or_list written_order.joined (or_list (entry_in (in_slot 1 (first_header own))) written_order.default))) joined_own
      ∙ ap (λ (o : Option Segment). or_list (entries_joined (tile_header a comps m t)) (or_list written_order.joined (or_list (entry_in o) written_order.default))) slot_read

  same_tile : (header other notes : List Segment) (place : ℕ) (plt : Bool) (entries others : List Progression) (heads : Option (List Body)) (bodies : List Body) → header ≡ other → notes ≡ [] → entries ≡ others
      → ◌≡◌ {A = Tile} (record { place = place; header = header; notes = notes; has_plt = plt; progressions = entries; heads = heads; bodies = bodies })
      (record { place = place; header = other; notes = []; has_plt = plt; progressions = others; heads = heads; bodies = bodies })
  same_tile header other notes place plt entries others heads bodies h k e = rw (h, k, e) refl

  pub tile_read : tile_from (main_written a comps main) own
      ≡ record (tile_written a comps m written_order t) { place = first_place own; header = tile_header a comps m t ++ more; has_plt = list_any is_plt (headers_of own); heads = heads_of own; bodies = map (λ (p : PlacedPart). p.body) own }
  tile_read =
      same_tile (first_header own) (tile_header a comps m t ++ more) (filter is_com (headers_of (drop 1 own))) (first_place own) (list_any is_plt (headers_of own)) (progressions_of (main_written a comps main) own)
      (tile_written a comps m written_order t).progressions (heads_of own) (map (λ (p : PlacedPart). p.body) own) first (no_notes (headers_of (drop 1 own)) later) entries_read

pub tile_with_more : (a : HeaderOptions) (comps : ℕ) (main : List Segment) (m : MainOrder) (t : Tile) (own : List PlacedPart) → HaveHeaders a comps m t own
    → IsTileWithMore comps (tile_written a comps m (main_order (main_written a comps main)) t) (tile_from (main_written a comps main) own)
tile_with_more a comps main m t own h =
    let is = tile_read a comps main m t own h.more h.first h.asides h.later in
    record { more = h.more; asides = h.asides; header = ap (λ (x : Tile). x.header) is; progressions = ap (λ (x : Tile). x.progressions) is }

pub main_is : (a : HeaderOptions) (s : Stream) → (stream_written a s).main ≡ main_written a (length s.siz.comps) s.main
unfolding stream_written
main_is a s = refl

pub count_is : (a : HeaderOptions) (s : Stream) → length (stream_written a s).tiles ≡ length s.tiles
unfolding stream_written
count_is a s = length-map s.tiles (tile_written a (length s.siz.comps) (main_order s.main) (main_order (main_written a (length s.siz.comps) s.main)))

pub comps_are : (a : HeaderOptions) (s : Stream) → length (stream_written a s).siz.comps ≡ length s.siz.comps
unfolding stream_written
comps_are a s = refl

one_to : (m n : ℕ) (t u o p : Tile) → m ≡ n → t ≡ u → o ≡ p → IsTileWithMore n u p → IsTileWithMore m t o
one_to m n t u o p e d k h = rw (e, d, k) h

-- so the stream that is read has the headers of the one that is written
module _ (a : HeaderOptions) (s other : Stream) (parts : List PlacedPart) (stand : HeadersStand s) (siz : other.siz ≡ (stream_written a s).siz) (main : other.main ≡ (stream_written a s).main)
    (tiles : other.tiles ≡ tiles_of other.main parts (tile_number s.siz)) (each : (t : ℕ) → t < tile_number s.siz → HaveHeaders a (length s.siz.comps) (main_order s.main) (tile_at s t) (parts_of t parts)) where
  other_at : (t : ℕ) → t < tile_number s.siz → tile_at other t ≡ tile_from (main_written a (length s.siz.comps) s.main) (parts_of t parts)
  other_at t inside =
      ap (λ (xs : List Tile). get_or xs t no_tile) tiles ∙ get_or-map-range_with_len (tile_of other.main parts) 0 (tile_number s.siz) t t no_tile inside (omega arith)
      ∙ tile_of_is other.main parts t ∙ ap (λ (xs : List Segment). tile_from xs (parts_of t parts)) (main ∙ main_is a s)

  pub stream_with_more : IsWithMore (stream_written a s) other
  stream_with_more = record {
    siz = siz;
    main = main;
    count = ap length tiles ∙ length-map-range_with_len (tile_of other.main parts) 0 (tile_number s.siz) ∙ sym stand.count ∙ sym (count_is a s);
    each = λ t below.
        (let within : t < length s.tiles = omega (arith, below, count_is a s) in
        let inside : t < tile_number s.siz = omega (arith, within, stand.count) in
        one_to (length (stream_written a s).siz.comps) (length s.siz.comps) (tile_at (stream_written a s) t)
        (tile_written a (length s.siz.comps) (main_order s.main) (main_order (main_written a (length s.siz.comps) s.main)) (tile_at s t)) (tile_at other t)
        (tile_from (main_written a (length s.siz.comps) s.main) (parts_of t parts)) (comps_are a s) (tile_is a s stand t within) (other_at t inside)
        (tile_with_more a (length s.siz.comps) s.main (main_order s.main) (tile_at s t) (parts_of t parts) (each t inside)));
  }
