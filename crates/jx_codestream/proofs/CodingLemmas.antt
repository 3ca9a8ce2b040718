-- A tile whose header has no COD and no COC has the shapes of the main header.
use Rattle.std.proofs.Common.{◌≡◌, ◌+◌, ◌*◌, ◌%◌, ◌<◌, ◌==◌, ℕ, false, arith, List, [], ◌∷◌, length, refl, None}
use Rattle.std.specs.List.{list_any, range_with_len}
use Rattle.std.proofs.lemmas.Bool.{or_parts, ne_eqb}
use Rattle.std.proofs.Math.Nat.{mod-lt}
use Rattle.std.proofs.lemmas.Bool.Decides.{nat_tests}
use Rattle.jx_marker.specs.declared.Segment.{Segment}
use Rattle.jx_marker.specs.declared.Segment.TheVariants as segment
use Rattle.jx_codestream.specs.Headers.{slot_of}
use Rattle.jx_codestream.specs.Tiles.{in_slot}
use Rattle.jx_codestream.specs.Index.{gives_shape, has_shape}
use Rattle.jx_codestream.specs.Params.{shape_of}
use Rattle.jx_codestream.specs.Shapes.{comp_shape, shapes_in}
use Rattle.jx_codestream.specs.TileHeaders.{MainHeaders, with_own}
use Rattle.jx_codestream.proofs.BareLemmas.{map_same}

packed_below : (index n : ℕ) → 260 < n → (5 + index % 256 == n) ≡ false
packed_below index n h = let low : index % 256 < 256 = mod-lt index (omega arith) in ne_eqb (5 + index % 256) n (λ e. absurd (omega arith))

not_cod : (s : Segment) → gives_shape s ≡ false → (slot_of s == 1) ≡ false
not_cod (segment.Cod cod) h = absurd (cc)
not_cod (segment.Coc c shape) h = absurd (cc)
not_cod (segment.Qcc c quant) h = grind (arith, nat_tests)
not_cod (segment.Rgn c shift) h = grind (arith, nat_tests)
not_cod (segment.Ppm index bytes) h = ne_eqb (5 + index % 256) 1 (λ e. absurd (omega (arith, e)))
not_cod (segment.Ppt index bytes) h = ne_eqb (5 + index % 256) 1 (λ e. absurd (omega (arith, e)))
not_cod _ h = grind (arith, nat_tests)

not_coc : (s : Segment) (n comp : ℕ) → gives_shape s ≡ false → (n ≡ 261 + 3 * comp) → (slot_of s == n) ≡ false
not_coc (segment.Cod cod) n comp h e = absurd (cc)
not_coc (segment.Coc c shape) n comp h e = absurd (cc)
not_coc (segment.Qcd quant) n comp h e = grind (arith, nat_tests)
not_coc (segment.Poc entries) n comp h e = grind (arith, nat_tests)
not_coc (segment.Crg bytes) n comp h e = grind (arith, nat_tests)
not_coc (segment.Qcc c quant) n comp h e = grind (arith, nat_tests)
not_coc (segment.Rgn c shift) n comp h e = grind (arith, nat_tests)
not_coc (segment.Ppm index bytes) n comp h e = packed_below index n (omega arith)
not_coc (segment.Ppt index bytes) n comp h e = packed_below index n (omega arith)
not_coc _ n comp h e = grind (arith, nat_tests)

none_in : (n : ℕ) (ss : List Segment) → ((s : Segment) → gives_shape s ≡ false → (slot_of s == n) ≡ false) → has_shape ss ≡ false → in_slot n ss ≡ None
none_in n [] apart none = refl
none_in n (s ∷ ss) apart none =
    let both = or_parts (gives_shape s) (list_any gives_shape ss) none in
    rw (apart s both.0) (none_in n ss apart both.1)

uncoded_shape : (own main : List Segment) (comp : ℕ) → has_shape own ≡ false → shape_of own main comp ≡ shape_of [] main comp
uncoded_shape own main comp none =
    rw (none_in (261 + 3 * comp) own (λ s h. not_coc s (261 + 3 * comp) comp h refl) none, none_in 1 own (λ s h. not_cod s h) none) refl

uncoded_comp : (m : MainHeaders) (own : List Segment) (comp : ℕ) → has_shape own ≡ false → comp_shape (with_own m []) comp ≡ comp_shape (with_own m own) comp
uncoded_comp m own comp none = rw (uncoded_shape own m.main comp none) refl

pub view_uncoded : (m : MainHeaders) (own : List Segment) → has_shape own ≡ false → shapes_in (with_own m []) ≡ shapes_in (with_own m own)
unfolding shapes_in
view_uncoded m own none = map_same (comp_shape (with_own m [])) (comp_shape (with_own m own)) (range_with_len 0 (length m.siz.comps)) (λ comp. uncoded_comp m own comp none)
