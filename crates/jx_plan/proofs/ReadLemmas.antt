-- The headers of a stream that was read stand in its file.
use Rattle.std.proofs.Common.{◌≡◌, ◌∙◌, ◌==◌, ◌+◌, not, if◌then◌else◌, ℕ, Bool, true, false, List, [], ◌∷◌, ◌++◌, drop, length, get_or, refl, sym, ap, subst}
use Rattle.std.specs.List.{All, filter, range_with_len}
use Rattle.std.proofs.lemmas.Bool.{or_parts, not-false, eqb-true}
use Rattle.std.proofs.lemmas.List.Elements.{All-same, All-map, All-filter, All-drop, filter-append, filter_passes}
use Rattle.std.proofs.lemmas.List.FromFn.{length-map-range_with_len}
use Rattle.jx_marker.specs.declared.Segment.{Segment}
use Rattle.jx_marker.specs.declared.Sot.{Sot}
use Rattle.jx_marker.specs.Ranges.{InRange}
use Rattle.jx_codestream.specs.declared.Body.{Body}
use Rattle.jx_codestream.specs.declared.headers.HeaderKind.{HeaderKind}
use Rattle.jx_codestream.specs.declared.headers.HeaderKind.TheVariants.{Main, First, Later, PackedFirst, PackedLater}
use Rattle.jx_codestream.specs.declared.packed.PackedSegment.{PackedSegment}
use Rattle.jx_codestream.specs.declared.parts.PlacedPart.{PlacedPart}
use Rattle.jx_codestream.specs.declared.Stream.{Stream}
use Rattle.jx_codestream.specs.Headers.{has_packed}
use Rattle.jx_codestream.specs.PackedHeaders.{after_share, data_in_order, share_of, shared_out, with_heads, with_shares}
use Rattle.jx_codestream.specs.Parts.{kind_of, parts_of}
use Rattle.jx_codestream.specs.Tiles.{is_com, headers_of, first_header, tile_of, tiles_of}
use Rattle.jx_codestream.specs.First.{tile_number}
use Rattle.jx_codestream.specs.Spells.{TilePart, part_of, part_bytes, placed, first_sot, main_packed, AreSegments, AreTileParts, IsTilePart}
use Rattle.jx_codestream.specs.Read.{IsRead}
use Rattle.jx_codestream.proofs.SegmentLemmas.{HasFitting, parts_fit, headers_fit, held_stand, segments_fit}
use Rattle.jx_codestream.proofs.SharesLemmas.{shares_keep}
use Rattle.jx_plan.specs.Standing.{IsNote, IsHeaded, HeadersStand}
use Rattle.jx_plan.proofs.EntryLemmas.{read_fit}

-- the first tile-part of a tile has the number 0

first_number : (packed : Bool) (comps tiles t : ℕ) (before : List PlacedPart) (p : TilePart) → parts_of t before ≡ [] → p.sot.tile ≡ t → IsTilePart packed comps tiles before p → p.sot.part ≡ 0
first_number packed comps tiles t before p none same is =
    let turn = or_parts (not (p.sot.part == length (parts_of p.sot.tile before))) _ is.turn in
    let count : p.sot.part ≡ length (parts_of p.sot.tile before) = eqb-true p.sot.part (length (parts_of p.sot.tile before)) (not-false (p.sot.part == length (parts_of p.sot.tile before)) turn.0) in
    count ∙ ap (λ (n : ℕ). length (parts_of n before)) same ∙ ap length none

kind_first : (n : ℕ) (one other : HeaderKind) → n ≡ 0 → (if n == 0 then one else other) ≡ one
kind_first n one other e = rw e refl

-- what stands in a first tile-part's header beside a PPM stands there without one
without_ppm : (comps : ℕ) (before ss : List Segment) → AreSegments PackedFirst comps before ss → AreSegments First comps before ss
without_ppm comps before [] are = tt
without_ppm comps before (s ∷ ss) are =
    (record { range = are.0.range; stands = are.0.stands; once_packed = refl; inside = are.0.inside; once = are.0.once }, without_ppm comps (before ++ s ∷ []) ss are.1)

by_packed : (packed : Bool) (comps : ℕ) (sot : Sot) (header : List Segment) → sot.part ≡ 0 → AreSegments (kind_of packed sot) comps [] header → AreSegments First comps [] header
by_packed false comps sot header e are = subst (λ (kind : HeaderKind). AreSegments kind comps [] header) (kind_first sot.part First Later e) are
by_packed true comps sot header e are =
    without_ppm comps [] header (subst (λ (kind : HeaderKind). AreSegments kind comps [] header) (kind_first sot.part PackedFirst PackedLater e) are)

first_kind : (packed : Bool) (comps tiles t : ℕ) (before : List PlacedPart) (p : TilePart) → parts_of t before ≡ [] → p.sot.tile ≡ t → IsTilePart packed comps tiles before p → AreSegments First comps [] p.header
first_kind packed comps tiles t before p none same is =
    by_packed packed comps p.sot p.header (first_number packed comps tiles t before p none same is) is.header

none_more : (t : ℕ) (before : List PlacedPart) (x : PlacedPart) → parts_of t before ≡ [] → (x.sot.tile == t) ≡ false → parts_of t (before ++ x ∷ []) ≡ []
none_more t before x none other =
    let own : parts_of t (x ∷ []) ≡ [] = rw other refl in
    filter-append (λ (p : PlacedPart). p.sot.tile == t) before (x ∷ []) ∙ ap (λ (xs : List PlacedPart). xs ++ parts_of t (x ∷ [])) none ∙ own

by_tile : (comps : ℕ) (same : Bool) (p : PlacedPart) (later : List PlacedPart) → (same ≡ true → AreSegments First comps [] p.header) → (same ≡ false → AreSegments First comps [] (first_header later))
    → AreSegments First comps [] (first_header (if same then p ∷ later else later))
by_tile comps true p later h k = h refl
by_tile comps false p later h k = k refl

first_stands : (packed : Bool) (comps tiles t : ℕ) (rest : List ℕ) (before : List PlacedPart) (at : ℕ) (parts : List TilePart) → parts_of t before ≡ [] → AreTileParts packed comps tiles rest before at parts
    → AreSegments First comps [] (first_header (parts_of t (placed comps at parts)))
first_stands packed comps tiles t rest before at [] none are = tt
first_stands packed comps tiles t rest before at (p ∷ ps) none are =
    by_tile comps (p.sot.tile == t) (part_of comps at p) (parts_of t (placed comps (at + length (part_bytes comps p)) ps))
    (λ same. held_stand First comps p.header (first_kind packed comps tiles t before p none (eqb-true p.sot.tile t same) are.0))
    (λ other. first_stands packed comps tiles t rest (before ++ part_of comps at p ∷ []) (at + length (part_bytes comps p)) ps (none_more t before (part_of comps at p) none other) are.2)

-- a tile's first header is the same, whatever the packet headers of its tile-parts
by_share : (same : Bool) (p : PlacedPart) (pieces : List Body) (own others : List PlacedPart) → first_header own ≡ first_header others
    → first_header (if same then with_heads p pieces ∷ own else own) ≡ first_header (if same then p ∷ others else others)
by_share true p pieces own others e = refl
by_share false p pieces own others e = e

first_shared : (b : List ℕ) (t : ℕ) (pieces : List Body) (parts : List PlacedPart) → first_header (parts_of t (shared_out b pieces parts)) ≡ first_header (parts_of t parts)
first_shared b t pieces [] = refl
first_shared b t pieces (p ∷ ps) =
    by_share (p.sot.tile == t) p (share_of b pieces) (parts_of t (shared_out b (after_share b pieces) ps)) (parts_of t ps) (first_shared b t (after_share b pieces) ps)

first_same : (b : List ℕ) (t : ℕ) (packed : List PackedSegment) (parts : List PlacedPart) → first_header (parts_of t (with_shares b packed parts)) ≡ first_header (parts_of t parts)
first_same b t [] parts = refl
first_same b t (q ∷ qs) parts = first_shared b t (data_in_order (q ∷ qs)) parts

notes_fit : (comps : ℕ) (own : List Segment) → All (InRange comps) own → All (IsNote comps) (filter is_com own)
notes_fit comps own fit k d inside = record { range = All-filter is_com (InRange comps) own fit k d inside; is = filter_passes is_com own k d inside }

headed : (comps : ℕ) (main : List Segment) (parts : List PlacedPart) (t : ℕ) → All (InRange comps) main → AreSegments First comps [] (first_header (parts_of t parts)) → All (HasFitting comps) (parts_of t parts)
    → IsHeaded comps (tile_of main parts t)
unfolding tile_of
headed comps main parts t there header fit = record {
  header = header;
  notes = notes_fit comps (headers_of (drop 1 (parts_of t parts))) (headers_fit comps (drop 1 (parts_of t parts)) (All-drop (HasFitting comps) 1 (parts_of t parts) fit));
  progressions = read_fit comps main (parts_of t parts) there fit;
}

module _ (b : List ℕ) (s : Stream) (read : IsRead b s) where
  abbrev comps : ℕ
  comps = length s.siz.comps

  abbrev bare : List PlacedPart
  bare = placed comps (first_sot s.siz s.main) read.spelled.parts

  abbrev parts : List PlacedPart
  parts = with_shares b (main_packed s.siz s.main) bare

  own_fit : (t : ℕ) → All (HasFitting comps) (parts_of t parts)
  own_fit t =
      All-filter (λ (p : PlacedPart). p.sot.tile == t) (HasFitting comps) parts
      (shares_keep (HasFitting comps) (λ p pieces h. h) b (main_packed s.siz s.main) bare
      (parts_fit (has_packed s.main) comps (tile_number s.siz) read.spelled.rest [] (first_sot s.siz s.main) read.spelled.parts read.spelled.tile_parts))

  first_own : (t : ℕ) → AreSegments First comps [] (first_header (parts_of t parts))
  first_own t =
      subst (λ (xs : List Segment). AreSegments First comps [] xs) (sym (first_same b t (main_packed s.siz s.main) bare))
      (first_stands (has_packed s.main) comps (tile_number s.siz) t read.spelled.rest [] (first_sot s.siz s.main) read.spelled.parts refl read.spelled.tile_parts)

  tile_headed : (t : ℕ) → IsHeaded comps (tile_of s.main parts t)
  tile_headed t = headed comps s.main parts t (segments_fit Main comps [] s.main read.spelled.main) (first_own t) (own_fit t)

  pub read_stands : HeadersStand s
  read_stands = record {
    siz = read.spelled.siz;
    few = read.tiles;
    main = read.spelled.main;
    defaults = read.spelled.defaults;
    count = ap length read.spelled.tiles ∙ length-map-range_with_len (tile_of s.main parts) 0 (tile_number s.siz);
    each = All-same (IsHeaded comps) s.tiles (tiles_of s.main parts (tile_number s.siz)) read.spelled.tiles
        (All-map (IsHeaded comps) (tile_of s.main parts) (range_with_len 0 (tile_number s.siz)) (λ k d inside. tile_headed (get_or (range_with_len 0 (tile_number s.siz)) k d)));
    entries = read.spelled.entries;
    planes = read.planes;
  }
