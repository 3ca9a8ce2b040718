-- What is written has no POC, TLM, PLM, PLT, PPM, PPT or skipped marker and all CRG and COM of the main header, and each tile's COD is as asked.
use Rattle.std.proofs.Common.{◌≡◌, ◌∙◌, ◌<◌, ◌≤◌, ◌^◌, ℕ, true, false, nat_lt, arith, List, [], ◌∷◌, ◌++◌, drop, length, map, refl, sym, ap, subst, Bool, Option, Some, None, inl, inr, take}
use Rattle.std.specs.List.{All, filter, list_any}
use Rattle.std.specs.Option.{option_or, option_map}
use Rattle.std.proofs.lemmas.Bool.Decides.{nat_tests}
use Rattle.std.proofs.lemmas.Bool.{cases_Bool, or_parts}
use Rattle.std.proofs.lemmas.List.{take-append-drop}
use Rattle.std.proofs.lemmas.List.Elements.{All-head, All-tail, filter-append}
use Rattle.std.proofs.lemmas.List.Folds.{list_any-append}
use Rattle.std.proofs.lemmas.Option.{slice_get-get_or}
use Rattle.jx_marker.specs.declared.Progression.{Progression}
use Rattle.jx_marker.specs.declared.Segment.{Segment}
use Rattle.jx_marker.specs.declared.Cod.{Cod}
use Rattle.jx_codestream.specs.declared.headers.HeaderKind.TheVariants.{First}
use Rattle.jx_codestream.specs.declared.Tile.{Tile}
use Rattle.jx_codestream.specs.declared.Stream.{Stream}
use Rattle.jx_codestream.specs.Params.{cod_of, cod_or, header_in, header_of}
use Rattle.jx_codestream.specs.Spells.{AreSegments}
use Rattle.jx_codestream.specs.Shapes.{tile_at, no_tile}
use Rattle.jx_tile.specs.Faults.{passed}
use Rattle.jx_tile.specs.Totals.{block_total, packet_total, totals_fault}
use Rattle.jx_plan.specs.Changes.{MainOrder, coding_end, entries_by, is_poc, keeps_changes, main_order, poc_of, put_entries, tile_entries, volumes_written, with_entries}
use Rattle.jx_plan.specs.Headers.{cod_written, written, is_written, all_written, main_written, tile_header, stream_written, HeaderOptions, MayBeInHeaders}
use Rattle.jx_plan.specs.Asides.{is_informational, is_left_out, is_plt}
use Rattle.jx_plan.specs.Fits.{Fits, first_zero}
use Rattle.jx_plan.specs.Standing.{IsNote, IsHeaded, HeadersStand}
use Rattle.jx_plan.proofs.StreamLemmas.{cod_slots, coded_at, own_slots, main_slots, tile_is, canvas_stays}
use Rattle.jx_plan.proofs.RangeLemmas.{written_stands}
use Rattle.jx_plan.proofs.PocLemmas.{written_app}
use Rattle.jx_plan.proofs.ReadBackLemmas.{main_is, count_is}
use Rattle.jx_plan.proofs.BlockLemmas.{totals_same}
use Rattle.jx_plan.proofs.ViewLemmas.{written_shapes}
use Rattle.jx_codestream.proofs.FaultLemmas.{none_first as first_none}
use Rattle.jx_marker.specs.declared.Segment.TheVariants as segment
use Rattle.jx_base.specs.Limits.{most_blocks}

-- a header with other entries has no segment of a kind that it hadn't

put_none : (p : Segment → Bool) (es : List Progression) (s : Segment) → ((own put : List Progression) → p (segment.Poc put) ≡ false) → p s ≡ false → p (put_entries es s) ≡ false
put_none p es (segment.Poc own) poc h = poc own es
put_none p es _ poc h = h

put_any : (p : Segment → Bool) (es : List Progression) (ss : List Segment) → ((own put : List Progression) → p (segment.Poc put) ≡ false) → list_any p ss ≡ false
    → list_any p (map (put_entries es) ss) ≡ false
put_any p es [] poc h = refl
put_any p es (s ∷ ss) poc h =
    let e = or_parts (p s) (list_any p ss) h in
    rw (put_none p es s poc e.0) (put_any p es ss poc e.1)

with_none : (p : Segment → Bool) (es : List Progression) (ss : List Segment) → ((own put : List Progression) → p (segment.Poc put) ≡ false) → list_any p ss ≡ false
    → list_any p (with_entries es ss) ≡ false
with_none p [] ss poc h = h
with_none p (e ∷ es) ss poc h = elim (cases_Bool (list_any is_poc ss)) [
  | inl some ↦ rw some (put_any p (e ∷ es) ss poc h)
  | inr none ↦ rw none (list_any-append p ss (segment.Poc (e ∷ es) ∷ []) ∙ rw (h, poc (e ∷ es) (e ∷ es)) refl)
]

-- no PLT

not_plt : (a : HeaderOptions) (s : Segment) → is_written a.wanted.changes s ≡ true → is_plt (written a s) ≡ false
not_plt a (segment.Plt bytes) h = absurd (cc)
not_plt a (segment.Cod cod) h = refl
not_plt a (segment.Coc comp shape) h = refl
not_plt a (segment.Poc entries) h = refl
not_plt a _ h = refl

no_plt : (a : HeaderOptions) (ss : List Segment) → list_any is_plt (all_written a ss) ≡ false
no_plt a [] = refl
no_plt a (s ∷ ss) = elim (cases_Bool (is_written a.wanted.changes s)) [
  | inl t ↦ rw (t, not_plt a s t) (no_plt a ss)
  | inr f ↦ rw f (no_plt a ss)
]

note_plt : (comps : ℕ) (s : Segment) → IsNote comps s → is_plt s ≡ false
note_plt comps (segment.Com bytes) h = refl
note_plt comps _ h = absurd (let e = h.is in cc)

plt_notes : (comps : ℕ) (notes : List Segment) → All (IsNote comps) notes → list_any is_plt notes ≡ false
plt_notes comps [] h = refl
plt_notes comps (s ∷ ss) h = rw (note_plt comps s (All-head (IsNote comps) s ss h)) (plt_notes comps ss (All-tail (IsNote comps) s ss h))

any_both : (xs ys : List Segment) → list_any is_plt xs ≡ false → list_any is_plt ys ≡ false → list_any is_plt (xs ++ ys) ≡ false
any_both [] ys h k = k
any_both (x ∷ xs) ys h k = elim (cases_Bool (is_plt x)) [
  | inl t ↦ let e = rw t at h in absurd (cc)
  | inr f ↦ rw f (any_both xs ys (rw f at h) k)
]

header_plt : (a : HeaderOptions) (comps : ℕ) (m : MainOrder) (t : Tile) → IsHeaded comps t → list_any is_plt (tile_header a comps m t) ≡ false
header_plt a comps m t h =
    let es : List Progression = tile_entries comps a.wanted.changes m t in
    any_both (with_entries es (all_written a t.header)) t.notes (with_none is_plt es (all_written a t.header) (λ own put. refl) (no_plt a t.header)) (plt_notes comps t.notes h.notes)

-- nothing that is left out, and all that informs

left_next : (a : HeaderOptions) (s : Segment) → is_written a.wanted.changes s ≡ true → is_left_out (written a s) ≡ false
left_next a (segment.Tlm bytes) h = absurd (cc)
left_next a (segment.Plm bytes) h = absurd (cc)
left_next a (segment.Ppm index bytes) h = absurd (cc)
left_next a (segment.Ppt index bytes) h = absurd (cc)
left_next a (segment.Skipped code) h = absurd (cc)
left_next a (segment.Cod cod) h = refl
left_next a (segment.Coc comp shape) h = refl
left_next a (segment.Poc entries) h = refl
left_next a _ h = refl

none_left : (a : HeaderOptions) (ss : List Segment) → list_any is_left_out (all_written a ss) ≡ false
none_left a [] = refl
none_left a (s ∷ ss) = elim (cases_Bool (is_written a.wanted.changes s)) [
  | inl t ↦ rw (t, left_next a s t) (none_left a ss)
  | inr f ↦ rw f (none_left a ss)
]

note_left : (comps : ℕ) (s : Segment) → IsNote comps s → is_left_out s ≡ false
note_left comps (segment.Com bytes) h = refl
note_left comps _ h = absurd (let e = h.is in cc)

notes_left : (comps : ℕ) (notes : List Segment) → All (IsNote comps) notes → list_any is_left_out notes ≡ false
notes_left comps [] h = refl
notes_left comps (s ∷ ss) h = rw (note_left comps s (All-head (IsNote comps) s ss h)) (notes_left comps ss (All-tail (IsNote comps) s ss h))

header_left : (a : HeaderOptions) (comps : ℕ) (m : MainOrder) (t : Tile) → IsHeaded comps t → list_any is_left_out (tile_header a comps m t) ≡ false
header_left a comps m t h =
    let es : List Progression = tile_entries comps a.wanted.changes m t in
    let own = with_none is_left_out es (all_written a t.header) (λ own put. refl) (none_left a t.header) in
    let notes = notes_left comps t.notes h.notes in
    list_any-append is_left_out (with_entries es (all_written a t.header)) t.notes ∙ rw (own, notes) refl

-- the main header has nothing that is left out
main_left : (a : HeaderOptions) (comps : ℕ) (main : List Segment) → list_any is_left_out (main_written a comps main) ≡ false
main_left a comps main =
    list_any-append is_left_out (all_written a (take (coding_end main) main)) _
    ∙ rw (
      none_left a (take (coding_end main) main),
      list_any-append is_left_out (poc_of (volumes_written comps a.wanted.changes)) (all_written a (drop (coding_end main) main)),
      none_left a (drop (coding_end main) main),
      plain (volumes_written comps a.wanted.changes),
    ) refl
  where
    plain : (es : List Progression) → list_any is_left_out (poc_of es) ≡ false
    plain [] = refl
    plain (e ∷ es) = refl

informs_one : (a : HeaderOptions) (s : Segment) → filter is_informational (all_written a (s ∷ [])) ≡ filter is_informational (s ∷ [])
informs_one a (segment.Poc entries) = elim (cases_Bool (keeps_changes a.wanted.changes)) [
  | inl t ↦ rw t refl
  | inr f ↦ rw f refl
]
informs_one a (segment.Crg bytes) = refl
informs_one a (segment.Com bytes) = refl
informs_one a _ = refl

informs : (a : HeaderOptions) (ss : List Segment) → filter is_informational (all_written a ss) ≡ filter is_informational ss
informs a [] = refl
informs a (s ∷ ss) =
    ap (λ (xs : List Segment). filter is_informational xs) (written_app a (s ∷ []) ss) ∙ filter-append is_informational (all_written a (s ∷ [])) (all_written a ss)
    ∙ rw (informs_one a s, informs a ss) refl ∙ sym (filter-append is_informational (s ∷ []) ss)

poc_informs : (es : List Progression) → filter is_informational (poc_of es) ≡ []
poc_informs [] = refl
poc_informs (e ∷ es) = refl

main_informed : (a : HeaderOptions) (comps : ℕ) (main : List Segment) → filter is_informational (main_written a comps main) ≡ filter is_informational main
main_informed a comps main =
    let front : List Segment = take (coding_end main) main in
    let back : List Segment = drop (coding_end main) main in
    let put : List Progression = volumes_written comps a.wanted.changes in
    filter-append is_informational (all_written a front) (poc_of put ++ all_written a back)
    ∙ ap (λ (xs : List Segment). filter is_informational (all_written a front) ++ xs)
    (filter-append is_informational (poc_of put) (all_written a back) ∙ ap (λ (xs : List Segment). xs ++ filter is_informational (all_written a back)) (poc_informs put))
    ∙ rw (informs a front, informs a back) refl ∙ sym (filter-append is_informational front back) ∙ ap (λ (xs : List Segment). filter is_informational xs) (take-append-drop (coding_end main) main)

-- limits 5 and 6

not_passed : (n : ℕ) → n ≤ 2 ^ 22 → passed 6 n (nat_lt (2 ^ 22) n) ≡ None
not_passed n h = grind (arith, nat_tests)

both_pass : (m k n : ℕ) → m ≡ k → passed 5 k (nat_lt most_blocks k) ≡ None → n ≤ 2 ^ 22
    → option_or (passed 5 m (nat_lt most_blocks m)) (passed 6 n (nat_lt (2 ^ 22) n)) ≡ None
both_pass m k n e h le = rw (e, h, not_passed n le) refl

pub blocks_pass : (s : Stream) → totals_fault s ≡ None → passed 5 (block_total s) (nat_lt most_blocks (block_total s)) ≡ None
unfolding totals_fault
blocks_pass s h = first_none (passed 5 (block_total s) (nat_lt most_blocks (block_total s))) (passed 6 (packet_total s) (nat_lt (2 ^ 22) (packet_total s))) h

totals_from : (s w : Stream) → block_total w ≡ block_total s → totals_fault s ≡ None → packet_total w ≤ 2 ^ 22 → totals_fault w ≡ None
unfolding totals_fault
totals_from s w e h le = both_pass (block_total w) (block_total s) (packet_total w) e (blocks_pass s h) le

both_cods : (u v : Option Cod) (a : HeaderOptions) (cod : Cod) → u ≡ option_map (cod_written a) v → v ≡ Some cod → cod_or u ≡ cod_written a (cod_or v)
both_cods u v a cod e h = rw (e, h) refl

-- the components are the same
comps_at : (a : HeaderOptions) (s : Stream) → HeadersStand (stream_written a s) → All (IsHeaded (length s.siz.comps)) (stream_written a s).tiles
unfolding stream_written
comps_at a s h = h.each

module _ (a : HeaderOptions) (s : Stream) (stand : HeadersStand s) where
  header_is : (t : ℕ) → t < length s.tiles → header_of (stream_written a s) t ≡ tile_header a (length s.siz.comps) (main_order s.main) (tile_at s t)
  header_is t inside =
      let within : t < length (stream_written a s).tiles = omega (arith, count_is a s) in
      ap header_in (slice_get-get_or (stream_written a s).tiles t no_tile within) ∙ ap (λ (x : Tile). x.header) (tile_is a s stand t inside)

  pub lengths_plain : (t : ℕ) → t < length s.tiles → list_any is_plt (header_of (stream_written a s) t) ≡ false
  lengths_plain t inside = ap (λ (xs : List Segment). list_any is_plt xs) (header_is t inside) ∙ header_plt a (length s.siz.comps) (main_order s.main) (tile_at s t) (stand.each t no_tile inside)

  pub left_main : list_any is_left_out (stream_written a s).main ≡ false
  left_main = ap (λ (xs : List Segment). list_any is_left_out xs) (main_is a s) ∙ main_left a (length s.siz.comps) s.main

  pub left_header : (t : ℕ) → t < length s.tiles → list_any is_left_out (header_of (stream_written a s) t) ≡ false
  left_header t inside = ap (λ (xs : List Segment). list_any is_left_out xs) (header_is t inside) ∙ header_left a (length s.siz.comps) (main_order s.main) (tile_at s t) (stand.each t no_tile inside)

  pub main_informs : filter is_informational (stream_written a s).main ≡ filter is_informational s.main
  main_informs = ap (λ (xs : List Segment). filter is_informational xs) (main_is a s) ∙ main_informed a (length s.siz.comps) s.main

  pub order_plain : (t : ℕ) → t < length s.tiles → (tile_at (stream_written a s) t).progressions ≡ entries_by (main_order (stream_written a s).main) (header_of (stream_written a s) t)
  order_plain t inside =
      ap (λ (x : Tile). x.progressions) (tile_is a s stand t inside)
      ∙ ap (λ (xs : List Segment). entries_by (main_order (main_written a (length s.siz.comps) s.main)) xs) (sym (header_is t inside))
      ∙ ap (λ (xs : List Segment). entries_by (main_order xs) (header_of (stream_written a s) t)) (sym (main_is a s))

  pub cods_are : (t : ℕ) → cod_or (cod_of (header_of (stream_written a s) t) (stream_written a s).main) ≡ cod_written a (cod_or (cod_of (header_of s t) s.main))
  cods_are t =
      both_cods (cod_of (header_of (stream_written a s) t) (stream_written a s).main) (cod_of (header_of s t) s.main) a (coded_at s stand t).cod
      (cod_slots a (header_of (stream_written a s) t) (header_of s t) (stream_written a s).main s.main (own_slots a s stand t) (main_slots a s stand)) (coded_at s stand t).is

  pub header_stands : (t : ℕ) → MayBeInHeaders a → first_zero a.wanted.precincts s ≡ None → t < length s.tiles → AreSegments First (length s.siz.comps) [] (header_of (stream_written a s) t)
  header_stands t may none inside =
      let within : t < length (stream_written a s).tiles = omega (arith, count_is a s) in
      let is = ap (λ (x : Tile). x.header) (tile_is a s stand t inside) ∙ sym (header_is t inside) in
      subst (λ (xs : List Segment). AreSegments First (length s.siz.comps) [] xs) is (comps_at a s (written_stands a s may none stand) t no_tile within).header

  pub totals_plain : Fits a.wanted.precincts s → totals_fault s ≡ None → packet_total (stream_written a s) ≤ 2 ^ 22 → totals_fault (stream_written a s) ≡ None
  totals_plain fits h le = totals_from s (stream_written a s) (sym (totals_same s (stream_written a s) (canvas_stays a s) (written_shapes a s fits stand))) h le
