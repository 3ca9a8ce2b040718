-- Whether precincts fit: what is known byte by byte, component by component and tile by tile.
use Rattle.std.proofs.Common.{◌≡◌, ◌<◌, ◌≤◌, ◌+◌, ◌*◌, ◌==◌, ◌||◌, ◌∙◌, nat_eq, ap, sym, subst, refl, arith, ℕ, suc, not, Bool, true, false, List, [], ◌∷◌, drop, length, map, nat_lt, inl, inr, slice_index, slice_index_or, Option, None, Some, is_some, MatchOption, below_more}
use Rattle.std.specs.List.{All, list_any, position, position_or_len, range_with_len}
use Rattle.std.specs.Option.{option_or}
use Rattle.std.specs.Bool.{Decides}
use Rattle.std.proofs.lemmas.Bool.{cases_lt, eq-eqb, eqb-true, ne_eqb, or_parts, true≢false}
use Rattle.std.proofs.lemmas.Bool.Decides.{nat_tests}
use Rattle.std.proofs.lemmas.List.{get_or-map, get_or_default}
use Rattle.std.proofs.lemmas.List.Elements.{All-head, All-tail}
use Rattle.std.proofs.lemmas.List.FromFn.{get_or-map-range_with_len, length-map-range_with_len}
use Rattle.std.proofs.lemmas.List.Sums.{prefix_len_passes, prefix_len_stops}
use Rattle.jx_geom.specs.declared.shape.CompShape.{CompShape}
use Rattle.jx_geom.specs.Geometry.{no_shape}
use Rattle.jx_geom.specs.Ranges.{exponent_across, exponent_down}
use Rattle.jx_geom.specs.Rects.{block_across, block_down}
use Rattle.jx_geom.specs.Same.{AllSameBlocks, SameBlocks}
use Rattle.jx_marker.specs.declared.Segment.{Segment}
use Rattle.jx_marker.specs.declared.Segment.TheVariants as segment
use Rattle.jx_marker.specs.declared.Shape.{Shape}
use Rattle.jx_marker.specs.Ranges.{InRange}
use Rattle.jx_marker.specs.Rules.{has_zero_exponent}
use Rattle.jx_codestream.specs.declared.headers.HeaderKind.TheVariants.{First, Main}
use Rattle.jx_codestream.specs.declared.Stream.{Stream}
use Rattle.jx_codestream.specs.Headers.{slot_of}
use Rattle.jx_codestream.specs.Params.{header_of, precinct_of, precincts_of, shape_in, shape_of}
use Rattle.jx_codestream.specs.Shapes.{comp_shape, no_tile, shapes_in, shapes_of}
use Rattle.jx_codestream.specs.Params.{headers_at}
use Rattle.jx_codestream.specs.Tiles.{in_slot}
use Rattle.jx_codestream.proofs.KindLemmas.{coc_slot, cod_slot}
use Rattle.jx_codestream.proofs.SegmentLemmas.{segments_fit}
use Rattle.jx_plan.specs.declared.faults.Misfit.{Misfit}
use Rattle.jx_plan.specs.Fits.{CompKeeps, Fits, IsChangedFrom, IsMisfitAt, IsMisfitIn, IsSameAt, KeepsBlocks, has_zero, shape_has_zero, tile_has_zero}
use Rattle.jx_plan.specs.Headers.{bytes_for, comp_written, item_at}
use Rattle.jx_plan.specs.Standing.{HeadersStand, IsHeaded}
use Rattle.jx_plan.specs.Changes.{is_coding}
use Rattle.jx_plan.specs.Steps.{IsKnown}
use Rattle.jx_codestream.proofs.BareLemmas.{map_same}

-- ---- bytes
pub zero_above : (items : List ℕ) (shape : Shape) → 0 < length items
    → list_any has_zero_exponent (map (item_at items) (range_with_len 1 shape.levels)) ≡ shape_has_zero (Some items) shape
zero_above [] shape some = absurd (omega arith)
zero_above (x ∷ xs) shape some =
    let e : suc shape.levels ≡ shape.levels + 1 = omega arith in
    ap (λ (n : ℕ). list_any has_zero_exponent (drop 1 (map (item_at (x ∷ xs)) (range_with_len 0 n)))) e

pub zero_none : (items : List ℕ) (shape : Shape) → length items ≡ 0 → false ≡ shape_has_zero (Some items) shape
zero_none [] shape none = refl
zero_none (x ∷ xs) shape none = absurd (omega arith)

exponent_at : (bytes : List ℕ) (r : ℕ) → r ≤ 32 → slice_index (precincts_of bytes) r ≡ precinct_of bytes r
exponent_at bytes r le = get_or-map-range_with_len (precinct_of bytes) 0 33 r r 0 (omega arith) (omega arith)

byte_at : (bytes : List ℕ) (r : ℕ) → 0 < length bytes → precinct_of bytes r ≡ slice_index bytes r
byte_at [] r some = absurd (omega arith)
byte_at (b ∷ bytes) r some = refl

pub exponent_none : (items : List ℕ) (r : ℕ) → length items ≡ 0 → (levels : ℕ) → r ≤ levels → levels ≤ 32 → 255 ≡ slice_index (precincts_of (bytes_for items levels)) r
exponent_none [] r none levels le few = sym (exponent_at [] r (omega arith))
exponent_none (x ∷ xs) r none levels le few = absurd (omega arith)

pub exponent_some : (items : List ℕ) (r : ℕ) → 0 < length items → (levels : ℕ) → r ≤ levels → levels ≤ 32 → item_at items r ≡ slice_index (precincts_of (bytes_for items levels)) r
exponent_some [] r some levels le few = absurd (omega arith)
exponent_some (x ∷ xs) r some levels le few =
    let bytes : List ℕ = map (item_at (x ∷ xs)) (range_with_len 0 (levels + 1)) in
    let long : length bytes ≡ levels + 1 = length-map-range_with_len (item_at (x ∷ xs)) 0 (levels + 1) in
    sym (exponent_at bytes r (omega arith) ∙ byte_at bytes r (omega (arith, long)) ∙ get_or-map-range_with_len (item_at (x ∷ xs)) 0 (levels + 1) r r 0 (omega arith) (omega arith))

-- ---- the place of the first that passes
false_true : false ≡ true → ⊥
false_true e = absurd (cc)

pub first_place : {X : Type 0} (p : X → Bool) (xs : List X) (i : ℕ) (d : X) → i < length xs → p (slice_index_or xs i d) ≡ true → ((k : ℕ) → k < i → p (slice_index_or xs k d) ≡ false) → Some i ≡ position p xs
first_place {X} p xs i d inside here before =
    let q : X → Bool = λ x. not (p x) in
    let n : ℕ = position_or_len p xs in
    elim (cases_lt n i) [
      | inl lt ↦
          let stop : q (slice_index_or xs n d) ≡ false = prefix_len_stops q xs d (omega (arith, lt, inside)) in
          absurd (let e = rw (before n lt) at stop in cc)
      | inr ge ↦ elim (cases_lt i n) [
        | inl lt ↦
            let pass : q (slice_index_or xs i d) ≡ true = prefix_len_passes q xs i d lt in
            absurd (let e = rw here at pass in cc)
        | inr le ↦
            let same : i ≡ n = omega arith in
            let test : nat_lt n (length xs) ≡ true = grind (arith, nat_tests) in
            rw test (ap Some same)
      ]
    ]

pub place_at : {X : Type 0} (p : X → Bool) (xs : List X) (i : ℕ) (x d : X) → i < length xs → x ≡ slice_index_or xs i x → p x ≡ true
    → ((k : ℕ) → k < i → p (slice_index_or xs k d) ≡ false) → Some i ≡ position p xs
place_at {X} p xs i x d inside is here before =
    let same : x ≡ slice_index_or xs i d = is ∙ get_or_default xs i x d inside in
    first_place p xs i d inside (ap p (sym same) ∙ here) before

pub no_place : {X : Type 0} (p : X → Bool) (xs : List X) (d : X) → ((k : ℕ) → k < length xs → p (slice_index_or xs k d) ≡ false) → None ≡ position p xs
no_place {X} p xs d none =
    let q : X → Bool = λ x. not (p x) in
    let n : ℕ = position_or_len p xs in
    elim (cases_lt n (length xs)) [
      | inl lt ↦
          let stop : q (slice_index_or xs n d) ≡ false = prefix_len_stops q xs d lt in
          absurd (let e = rw (none n lt) at stop in cc)
      | inr ge ↦
          let test : nat_lt n (length xs) ≡ false = grind (arith, nat_tests) in
          rw test refl
    ]

-- ---- components
pub same_at : (items : List ℕ) (s : CompShape) (r : ℕ) → SameBlocks s (comp_written (Some items) s) → r ≤ s.levels → IsSameAt s (comp_written (Some items) s) r
same_at items s r same le = (same.across r le, same.down r le)

written_at : (precincts : Option (List ℕ)) (xs : List CompShape) (c : ℕ) → c < length xs → slice_index_or (map (comp_written precincts) xs) c no_shape ≡ comp_written precincts (slice_index_or xs c no_shape)
written_at precincts xs c inside = get_or-map (comp_written precincts) xs c no_shape no_shape inside

map_long : (f : CompShape → CompShape) (xs : List CompShape) → length xs ≡ length (map f xs)
map_long f [] = refl
map_long f (x ∷ xs) = ap suc (map_long f xs)

pub all_made : (precincts : Option (List ℕ)) (xs : List CompShape) → ((c : ℕ) → c < length xs → CompKeeps precincts (slice_index_or xs c no_shape)) → AllSameBlocks xs (map (comp_written precincts) xs)
all_made precincts xs each = record {
  long = map_long (comp_written precincts) xs;
  each = λ c inside. subst (SameBlocks (slice_index_or xs c no_shape)) (sym (written_at precincts xs c inside)) (each c inside);
}

pub all_at : (precincts : Option (List ℕ)) (xs : List CompShape) (c : ℕ) → AllSameBlocks xs (map (comp_written precincts) xs) → c < length xs → CompKeeps precincts (slice_index_or xs c no_shape)
all_at precincts xs c all inside = subst (SameBlocks (slice_index_or xs c no_shape)) (written_at precincts xs c inside) (all.each c inside)

module _ (precincts : Option (List ℕ)) (xs : List CompShape) (n : ℕ) (d : CompShape) (inside : n < length xs) where
  at_none : slice_index_or xs n d ≡ slice_index_or xs n no_shape
  at_none = get_or_default xs n d no_shape inside

  pub misfit_here : (m : Misfit) (r : ℕ) → m.comp ≡ n → m.res ≡ r → m.across ≡ exponent_across (slice_index_or xs n d) r → m.down ≡ exponent_down (slice_index_or xs n d) r
      → IsChangedFrom precincts (slice_index_or xs n d) r → ((c : ℕ) → c < n → CompKeeps precincts (slice_index_or xs c no_shape)) → IsMisfitIn precincts xs m
  misfit_here m r comp res across down changed before = record {
    inside = rw comp inside;
    lowest = rw comp before;
    changed = rw (comp, res) (subst (λ (s : CompShape). IsChangedFrom precincts s r) at_none changed);
    across = rw (comp, res) (across ∙ ap (λ (s : CompShape). exponent_across s r) at_none);
    down = rw (comp, res) (down ∙ ap (λ (s : CompShape). exponent_down s r) at_none);
  }

  pub all_next : CompKeeps precincts (slice_index_or xs n d) → ((c : ℕ) → c < n → CompKeeps precincts (slice_index_or xs c no_shape)) → (c : ℕ) → c < n + 1
      → CompKeeps precincts (slice_index_or xs c no_shape)
  all_next keeps before = below_more (λ (c : ℕ). CompKeeps precincts (slice_index_or xs c no_shape)) n before (subst (CompKeeps precincts) at_none keeps)

pub all_done : (precincts : Option (List ℕ)) (xs : List CompShape) (n : ℕ) → length xs ≤ n → ((c : ℕ) → c < n → CompKeeps precincts (slice_index_or xs c no_shape))
    → AllSameBlocks xs (map (comp_written precincts) xs)
all_done precincts xs n all each = all_made precincts xs (λ c inside. each c (omega (arith, inside, all)))

-- ---- a tile keeps its blocks exactly where there is no misfit
misfit_changes : (precincts : Option (List ℕ)) (xs : List CompShape) (m : Misfit) → IsMisfitIn precincts xs m → AllSameBlocks xs (map (comp_written precincts) xs) → ⊥
misfit_changes precincts xs m is all =
    let same : CompKeeps precincts (slice_index_or xs m.comp no_shape) = all_at precincts xs m.comp all is.inside in
    is.changed.changed (same.across m.res is.changed.level, same.down m.res is.changed.level)

pub keeps_where : (precincts : Option (List ℕ)) (s : Stream) (t : ℕ) (first : Option Misfit) (none : Bool) → is_some first ≡ not none → MatchOption first (KeepsBlocks precincts s t) (λ m. IsMisfitAt precincts s t m)
    → Decides none (KeepsBlocks precincts s t)
keeps_where precincts s t None true e keeps = (λ h. keeps, λ k. refl)
keeps_where precincts s t None false e keeps = absurd (false_true e)
keeps_where precincts s t (Some m) true e is = absurd (false_true (sym e))
keeps_where precincts s t (Some m) false e is = (λ h. absurd (false_true h), λ k. absurd (misfit_changes precincts (shapes_of s t) m is k))

-- ---- exponents that are compared
module _ (s t : CompShape) (r a b d e : ℕ) (own_across : a ≡ block_across s r) (own_down : b ≡ block_down s r) (new_across : d ≡ block_across t r) (new_down : e ≡ block_down t r) where
  pub decided_then : a ≡ d → Decides (nat_eq b e) (IsSameAt s t r)
  decided_then same = (
    λ h. (sym own_across ∙ same ∙ new_across, sym own_down ∙ eqb-true b e h ∙ new_down),
    λ h. (let down : b ≡ e = own_down ∙ h.1 ∙ sym new_down in eq-eqb b e down),
  )

  pub decided_else : (a ≡ d → ⊥) → Decides (nat_eq a d) (IsSameAt s t r)
  decided_else other = (
    λ h. absurd (other (eqb-true a d h)),
    λ h. absurd (other (own_across ∙ h.0 ∙ sym new_across)),
  )

-- ---- tiles whose headers have neither COD nor COC
no_slot : (s : Segment) → is_coding s ≡ false → (slot_of s == 1) ≡ false
no_slot s h = ne_eqb (slot_of s) 1 (λ e. let is = (cod_slot s).0 e in absurd (true≢false (sym (ap is_coding is.1) ∙ h)))

other_slot : (s : Segment) (c : ℕ) → is_coding s ≡ false → (slot_of s == 261 + 3 * c) ≡ false
other_slot s c h = ne_eqb (slot_of s) (261 + 3 * c) (λ e. let is = (coc_slot s c).0 e in absurd (true≢false (sym (ap is_coding is.1) ∙ h)))

empty_slot : (n : ℕ) (ss : List Segment) → ((s : Segment) → is_coding s ≡ false → (slot_of s == n) ≡ false) → list_any is_coding ss ≡ false → in_slot n ss ≡ None
empty_slot n [] apart none = refl
empty_slot n (s ∷ ss) apart none = rw (apart s ((or_parts (is_coding s) (list_any is_coding ss) none).0)) (empty_slot n ss apart ((or_parts (is_coding s) (list_any is_coding ss) none).1))

shape_from_main : (own main : List Segment) (c : ℕ) → list_any is_coding own ≡ false → shape_of own main c ≡ shape_in (option_or (in_slot (261 + 3 * c) main) (in_slot 1 main))
shape_from_main own main c none =
    rw (empty_slot (261 + 3 * c) own (λ s h. other_slot s c h) none, empty_slot 1 own no_slot none) refl

shape_alike : (own other main : List Segment) (c : ℕ) → list_any is_coding own ≡ false → list_any is_coding other ≡ false → shape_of own main c ≡ shape_of other main c
shape_alike own other main c h k = shape_from_main own main c h ∙ sym (shape_from_main other main c k)

comp_alike : (s : Stream) (t u c : ℕ) → list_any is_coding (header_of s t) ≡ false → list_any is_coding (header_of s u) ≡ false → comp_shape (headers_at s t) c ≡ comp_shape (headers_at s u) c
comp_alike s t u c h k = rw (shape_alike (header_of s t) (header_of s u) s.main c h k) refl

bare_alike : (s : Stream) (t u : ℕ) → list_any is_coding (header_of s t) ≡ false → list_any is_coding (header_of s u) ≡ false → shapes_of s t ≡ shapes_of s u
unfolding shapes_in
bare_alike s t u h k = map_same (comp_shape (headers_at s t)) (comp_shape (headers_at s u)) (range_with_len 0 (length s.siz.comps)) (λ c. comp_alike s t u c h k)

pub known_now : (precincts : Option (List ℕ)) (s : Stream) (t : ℕ) → list_any is_coding (header_of s t) ≡ false → KeepsBlocks precincts s t
    → (u : ℕ) → list_any is_coding (header_of s u) ≡ false → KeepsBlocks precincts s u
known_now precincts s t none keeps u bare =
    subst (λ (xs : List CompShape). AllSameBlocks xs (map (comp_written precincts) xs)) (bare_alike s t u none bare) keeps

pub known_next : (precincts : Option (List ℕ)) (s : Stream) (t : ℕ) (known next coded : Bool) → next ≡ (known || not coded) → coded ≡ list_any is_coding (header_of s t)
    → KeepsBlocks precincts s t → IsKnown known precincts s → IsKnown next precincts s
known_next precincts s t true next coded e is keeps before = λ yes. before refl
known_next precincts s t false next true e is keeps before = λ yes. absurd (false_true (sym e ∙ yes))
known_next precincts s t false next false e is keeps before = λ yes. known_now precincts s t (sym is) keeps

-- ---- kept precincts fit
own_fits : (comps : ℕ) (s : Segment) → InRange comps s → has_zero None s ≡ false
own_fits comps (segment.Cod cod) h = h.shape.above
own_fits comps (segment.Coc comp shape) h = h.fits.above
own_fits comps _ h = refl

none_zero : (comps : ℕ) (ss : List Segment) → All (InRange comps) ss → list_any (has_zero None) ss ≡ false
none_zero comps [] h = refl
none_zero comps (s ∷ ss) h = rw (own_fits comps s (All-head (InRange comps) s ss h)) (none_zero comps ss (All-tail (InRange comps) s ss h))

pub own_keeps : (xs : List CompShape) → AllSameBlocks xs (map (comp_written None) xs)
own_keeps xs = all_made None xs (λ c inside. record { step_across = refl; step_down = refl; levels = refl; across = λ r le. refl; down = λ r le. refl })

pub kept_fits : (s : Stream) → HeadersStand s → Fits None s
kept_fits s stand = record {
  above =
      let comps = length s.siz.comps in
      let main = none_zero comps s.main (segments_fit Main comps [] s.main stand.main) in
      rw main (sym (no_place (tile_has_zero None) s.tiles no_tile (λ k inside. (let h : IsHeaded comps (slice_index_or s.tiles k no_tile) = stand.each k no_tile inside in none_zero comps _ (segments_fit First comps [] _ h.header)))));
  blocks = λ t inside. own_keeps (shapes_of s t);
}
