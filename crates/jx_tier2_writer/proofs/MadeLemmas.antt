-- The tile-parts that are made of a tile's packets: their headers, their lengths, and their data in the file.
use Rattle.std.proofs.Common.{◌≡◌, ◌∙◌, ◌<◌, ◌≤◌, ◌+◌, ◌^◌, ◌==◌, ℕ, zero, suc, false, arith, List, [], ◌∷◌, ◌++◌, length, map, take, drop, refl, sym, ap, subst, append_assoc, length-append, take_at, cond, Option, None}
use Rattle.std.specs.List.{filter, flat_map}
use Rattle.std.proofs.lemmas.List.Elements.{filter-append}
use Rattle.std.proofs.lemmas.List.Folds.{list_any-append}
use Rattle.jx_marker.specs.declared.Segment.{Segment}
use Rattle.jx_marker.specs.declared.Segment.TheVariants as segment
use Rattle.jx_marker.specs.Segments.{spelling}
use Rattle.jx_progression.specs.declared.names.PacketName.{PacketName}
use Rattle.jx_codestream.specs.declared.Body.{Body}
use Rattle.jx_codestream.specs.declared.headers.HeaderKind.{HeaderKind}
use Rattle.jx_codestream.specs.declared.headers.HeaderKind.TheVariants.{First, Later}
use Rattle.std.proofs.lemmas.Bool.Decides.{nat_tests}
use Rattle.jx_codestream.specs.declared.parts.PlacedPart.{PlacedPart}
use Rattle.jx_codestream.specs.Headers.{has_packed, is_packed, without_ppt}
use Rattle.jx_codestream.specs.PackedHeaders.{both_heads, heads_by, heads_in, heads_of}
use Rattle.jx_codestream.specs.Tiles.{headers_of, is_com, entries_joined}
use Rattle.jx_codestream.specs.Parts.{kind_of}
use Rattle.jx_codestream.specs.Spells.{TilePart, AreSegments, all_bytes, head_bytes, part_bytes, placed}
use Rattle.jx_codestream.proofs.OneLemmas.{drop_on}
use Rattle.jx_codestream.proofs.SharesLemmas.{unpacked_whole}
use Rattle.jx_tier2_reader.specs.Written.{Packets, AreFilled, bytes_from}
use Rattle.jx_tier2_writer.specs.Told.{length_total}
use Rattle.jx_tier2_writer.specs.Lengths.{numbered}
use Rattle.jx_tier2_writer.specs.Ready.{AreShort}
use Rattle.jx_options.specs.declared.Marks.{Marks}
use Rattle.jx_tier2_writer.specs.TileParts.{packet_length, written_part_header, parts_with, tile_part}
use Rattle.jx_tier2_writer.proofs.HeaderLemmas.{lengths_none, lengths_stand, segments_on}
use Rattle.jx_tier2_writer.proofs.InPlaceLemmas.{lengths_unpacked, none_packed}
use Rattle.jx_plan.proofs.ReadBackLemmas.{joined_with}
use Rattle.jx_tier2_writer.proofs.HeldLemmas.{held_by, held_few, held_fit, packets_long, segments_are}
use Rattle.jx_tier2_writer.proofs.FewLemmas.{AreFew}
use Rattle.jx_tier2_writer.proofs.TurnLemmas.{AreOf}

-- the tile's own header, in the first tile-part alone
abbrev pub own_at : ℕ → List Segment → List Segment
own_at zero own = own
own_at (suc part) own = []

pub header_is : (m : Marks) (own : List Segment) (part : ℕ) (lengths : List ℕ) → written_part_header m own part lengths ≡ own_at part own ++ numbered 0 (held_by m.plt lengths)
header_is m own zero lengths = ap (λ (z : List Segment). own ++ z) (segments_are m.plt lengths)
header_is m own (suc part) lengths = segments_are m.plt lengths

-- ---- headers
header_fits : (m : Marks) (comps t part parts : ℕ) (own : List Segment) (lengths body : List ℕ) → AreSegments First comps [] own → length lengths ≤ 2 ^ 22 → length_total lengths < 2 ^ 32
    → let p = tile_part comps t part parts (written_part_header m own part lengths) body in AreSegments (kind_of false p.sot) comps [] p.header
header_fits m comps t zero parts own lengths body fit count short =
    let P : List Segment → Type 0 = λ z. AreSegments First comps [] z in
    subst P (sym (header_is m own zero lengths)) (segments_on First comps [] own (numbered 0 (held_by m.plt lengths)) fit
    (lengths_stand First comps 0 own (held_by m.plt lengths) (λ bytes. refl) (omega (arith, held_few m.plt lengths count short)) (held_fit m.plt lengths)))
header_fits m comps t (suc part) parts own lengths body fit count short =
    let P : List Segment → Type 0 = λ z. AreSegments Later comps [] z in
    let Q : HeaderKind → Type 0 = λ k. AreSegments k comps [] (written_part_header m own (suc part) lengths) in
    let none : (suc part == 0) ≡ false = not_first part in
    let kind : cond (suc part == 0) First Later ≡ Later = rw none refl in
    subst Q (sym kind) (subst P (sym (header_is m own (suc part) lengths)) (lengths_stand Later comps 0 [] (held_by m.plt lengths) (λ bytes. refl) (omega (arith, held_few m.plt lengths count short)) (held_fit m.plt lengths)))
  where
    not_first : (k : ℕ) → (suc k == 0) ≡ false
    not_first k = grind (arith, nat_tests)

-- ---- lengths
pub part_long : (comps t part parts : ℕ) (header : List Segment) (body : List ℕ) → 14 + length (all_bytes comps header) + length body ≡ length (part_bytes comps (tile_part comps t part parts header body))
part_long comps t part parts header body =
    let p : TilePart = tile_part comps t part parts header body in
    let front : length (head_bytes comps p) ≡ 12 + length (all_bytes comps header ++ spelling comps segment.Sod) = omega arith in
    omega (arith, length-append (head_bytes comps p) body, front, length-append (all_bytes comps header) (spelling comps segment.Sod))

pub lengths_short : (ps : Packets) (number header : ℕ) (names : List PacketName) → 14 + header + length (bytes_from ps number names) < 2 ^ 32 → length_total (map (packet_length ps) names) < 2 ^ 32
lengths_short ps number header names h = omega (arith, packets_long ps number names)

lengths_count : (ps : Packets) (names : List PacketName) → length (map (packet_length ps) names) ≡ length names
lengths_count ps [] = refl
lengths_count ps (p ∷ names) = ap suc (lengths_count ps names)

module _ (m : Marks) (comps t : ℕ) (own : List Segment) (ps : Packets) (parts : ℕ) where
  pub made_of : (part number : ℕ) (groups : List (List PacketName)) → AreSegments First comps [] own → AreFew groups → AreShort (parts_with m comps t own ps part parts number groups)
      → AreOf comps t parts part (parts_with m comps t own ps part parts number groups)
  made_of part number [] fit few short = tt
  made_of part number (names ∷ groups) fit few short =
      let lengths : List ℕ = map (packet_length ps) names in
      let header : List Segment = written_part_header m own part lengths in
      let body : List ℕ = bytes_from ps number names in
      let count : length lengths ≤ 2 ^ 22 = omega (arith, lengths_count ps names, few.0) in
      let low : length_total lengths < 2 ^ 32 = lengths_short ps number (length (all_bytes comps header)) names short.0 in (
        record {
          tile = refl;
          part_is = refl;
          parts = refl;
          header = header_fits m comps t part parts own lengths body fit count low;
          long = part_long comps t part parts header body;
          short = short.0;
        },
        made_of (part + 1) (number + length names) groups fit few.1 short.1,
      )

  pub made_long : (part number : ℕ) (groups : List (List PacketName)) → length (parts_with m comps t own ps part parts number groups) ≡ length groups
  made_long part number [] = refl
  made_long part number (names ∷ groups) = ap suc (made_long (part + 1) (number + length names) groups)

  -- ---- no PPT: the headers are held as they are
  header_in_place : (part : ℕ) (lengths : List ℕ) → has_packed own ≡ false → has_packed (written_part_header m own part lengths) ≡ false
  header_in_place part lengths none =
      ap has_packed (header_is m own part lengths) ∙ list_any-append is_packed (own_at part own) (numbered 0 (held_by m.plt lengths))
      ∙ (let front : has_packed (own_at part own) ≡ false = at part in
      let behind : has_packed (numbered 0 (held_by m.plt lengths)) ≡ false = lengths_unpacked 0 (held_by m.plt lengths) in
      rw (front, behind) refl)
    where
      at : (k : ℕ) → has_packed (own_at k own) ≡ false
      at zero = none
      at (suc k) = refl

  pub header_whole : (part : ℕ) (lengths : List ℕ) → has_packed own ≡ false → without_ppt (written_part_header m own part lengths) ≡ written_part_header m own part lengths
  header_whole part lengths none = unpacked_whole (written_part_header m own part lengths) (header_in_place part lengths none)

  -- ---- the entries are those of the first header
  header_entries : (part : ℕ) (lengths : List ℕ) → entries_joined (written_part_header m own part lengths) ≡ entries_joined (own_at part own)
  header_entries part lengths =
      ap entries_joined (header_is m own part lengths) ∙ joined_with (own_at part own) (numbered 0 (held_by m.plt lengths)) (lengths_none 0 (held_by m.plt lengths))

  later_entries : (part number at : ℕ) (groups : List (List PacketName)) → 0 < part → has_packed own ≡ false → entries_joined (headers_of (placed comps at (parts_with m comps t own ps part parts number groups))) ≡ []
  later_entries part number at [] some unpacked = refl
  later_entries zero number at (names ∷ groups) some unpacked = absurd (omega arith)
  later_entries (suc part) number at (names ∷ groups) some unpacked =
      let lengths : List ℕ = map (packet_length ps) names in
      let p : TilePart = tile_part comps t (suc part) parts (written_part_header m own (suc part) lengths) (bytes_from ps number names) in
      joined_with (without_ppt (written_part_header m own (suc part) lengths)) (headers_of (placed comps (at + length (part_bytes comps p)) (parts_with m comps t own ps (suc part + 1) parts (number + length names) groups)))
      (later_entries (suc part + 1) (number + length names) (at + length (part_bytes comps p)) groups (omega arith) unpacked)
      ∙ ap entries_joined (header_whole (suc part) lengths unpacked) ∙ header_entries (suc part) lengths

  pub made_entries : (number at : ℕ) (groups : List (List PacketName)) → 0 < length groups → has_packed own ≡ false → entries_joined (headers_of (placed comps at (parts_with m comps t own ps 0 parts number groups))) ≡ entries_joined own
  made_entries number at [] some unpacked = absurd (omega (arith, some))
  made_entries number at (names ∷ groups) some unpacked =
      let lengths : List ℕ = map (packet_length ps) names in
      let p : TilePart = tile_part comps t 0 parts (written_part_header m own 0 lengths) (bytes_from ps number names) in
      joined_with (without_ppt (written_part_header m own 0 lengths)) (headers_of (placed comps (at + length (part_bytes comps p)) (parts_with m comps t own ps 1 parts (number + length names) groups)))
      (later_entries 1 (number + length names) (at + length (part_bytes comps p)) groups (omega arith) unpacked)
      ∙ ap entries_joined (header_whole 0 lengths unpacked) ∙ header_entries 0 lengths

  -- ---- no COM in later tile-parts
  later_header : (part : ℕ) (lengths : List ℕ) → 0 < part → written_part_header m own part lengths ≡ numbered 0 (held_by m.plt lengths)
  later_header zero lengths some = absurd (omega arith)
  later_header (suc part) lengths some = header_is m own (suc part) lengths

  no_notes : (k : ℕ) (held : List (List ℕ)) → filter is_com (numbered k held) ≡ []
  no_notes k [] = refl
  no_notes k (bytes ∷ held) = no_notes (k + 1) held

  pub made_notes : (part number at : ℕ) (groups : List (List PacketName)) → 0 < part → filter is_com (headers_of (placed comps at (parts_with m comps t own ps part parts number groups))) ≡ []
  made_notes part number at [] some = refl
  made_notes part number at (names ∷ groups) some =
      let lengths : List ℕ = map (packet_length ps) names in
      let p : TilePart = tile_part comps t part parts (written_part_header m own part lengths) (bytes_from ps number names) in
      let later : List Segment = headers_of (placed comps (at + length (part_bytes comps p)) (parts_with m comps t own ps (part + 1) parts (number + length names) groups)) in
      filter-append is_com (without_ppt (written_part_header m own part lengths)) later
      ∙ ap (λ (z : List Segment). filter is_com (without_ppt z) ++ filter is_com later) (later_header part lengths some)
      ∙ ap (λ (z : List Segment). filter is_com z ++ filter is_com later) (unpacked_whole (numbered 0 (held_by m.plt lengths)) (lengths_unpacked 0 (held_by m.plt lengths)))
      ∙ ap (λ (z : List Segment). z ++ filter is_com later) (no_notes 0 (held_by m.plt lengths))
      ∙ made_notes (part + 1) (number + length names) (at + length (part_bytes comps p)) groups (omega arith)

  -- ---- packet headers in their places
  pub made_in_place : (part number at : ℕ) (groups : List (List PacketName)) → has_packed own ≡ false → heads_of (placed comps at (parts_with m comps t own ps part parts number groups)) ≡ None
  made_in_place part number at [] none = refl
  made_in_place part number at (names ∷ groups) none =
      let lengths : List ℕ = map (packet_length ps) names in
      let header : List Segment = written_part_header m own part lengths in
      let p : TilePart = tile_part comps t part parts header (bytes_from ps number names) in
      let later : Option (List Body) = heads_of (placed comps (at + length (part_bytes comps p)) (parts_with m comps t own ps (part + 1) parts (number + length names) groups)) in
      let first : heads_in comps (at + length (spelling comps (segment.Sot p.sot))) header ≡ None =
      ap heads_by (none_packed comps (at + length (spelling comps (segment.Sot p.sot))) header (header_in_place part lengths none)) in
      ap (λ (x : Option (List Body)). both_heads x later) first ∙ made_in_place (part + 1) (number + length names) (at + length (part_bytes comps p)) groups none

  -- ---- data
  pub made_filled : (b : List ℕ) (part number at : ℕ) (groups : List (List PacketName)) (more : List ℕ)
      → drop at b ≡ flat_map (part_bytes comps) (parts_with m comps t own ps part parts number groups) ++ more
      → AreFilled b ps number (map (λ (p : PlacedPart). p.body) (placed comps at (parts_with m comps t own ps part parts number groups))) groups
  made_filled b part number at [] more h = tt
  made_filled b part number at (names ∷ groups) more h =
      let body : List ℕ = bytes_from ps number names in
      let p : TilePart = tile_part comps t part parts (written_part_header m own part (map (packet_length ps) names)) body in
      let later : List TilePart = parts_with m comps t own ps (part + 1) parts (number + length names) groups in
      let after : List ℕ = flat_map (part_bytes comps) later ++ more in
      let whole : drop at b ≡ part_bytes comps p ++ after = h ∙ append_assoc (part_bytes comps p) (flat_map (part_bytes comps) later) more in
      let split : drop at b ≡ head_bytes comps p ++ (body ++ after) = whole ∙ append_assoc (head_bytes comps p) body after in
      let there : drop (at + length (head_bytes comps p)) b ≡ body ++ after = drop_on b at (length (head_bytes comps p)) (head_bytes comps p) (body ++ after) split refl in
      let next : drop (at + length (part_bytes comps p)) b ≡ after = drop_on b at (length (part_bytes comps p)) (part_bytes comps p) after whole refl in (
        ap (λ (z : List ℕ). take (length body) z) there ∙ take_at body after (length body) refl,
        refl,
        made_filled b (part + 1) (number + length names) (at + length (part_bytes comps p)) groups more next,
      )
