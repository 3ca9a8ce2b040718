-- The names of the code-blocks of lower components are those of the resolutions that are left, in their order.
use Rattle.std.proofs.Common.{◌≡◌, ℕ, ◌+◌, ◌≤◌, ◌<◌, Bool, true, false, nat_le, List, [], ◌++◌, length, inl, inr, ◌∙◌, ap, sym, arith}
use Rattle.std.proofs.Math.Path.{fun_ext}
use Rattle.std.specs.List.{All, filter, flat_map}
use Rattle.std.proofs.lemmas.Bool.{cases_lt, le-leb}
use Rattle.std.proofs.lemmas.Bool.Decides.{nat_tests}
use Rattle.std.proofs.lemmas.List.Elements.{All-nil, All-cons, All-append}
use Rattle.jx_base.specs.declared.names.Rect.{Rect}
use Rattle.jx_base.specs.declared.names.Band.{Band}
use Rattle.jx_base.specs.declared.names.Band.TheVariants.{LL, HL, LH, HH}
use Rattle.jx_base.specs.declared.names.BlockName.{BlockName}
use Rattle.jx_base.specs.Bands.{bands_at}
use Rattle.jx_base.specs.Joined.{joined}
use Rattle.jx_base.specs.Places.{size_of}
use Rattle.jx_base.proofs.Joined.{joined_all, joined_same}
use Rattle.jx_geom.specs.declared.shape.Canvas.{Canvas}
use Rattle.jx_geom.specs.declared.shape.CompShape.{CompShape}
use Rattle.jx_geom.specs.Counts.{tile_count}
use Rattle.jx_geom.specs.Geometry.{Geometry, shape_of, rect_of_tile, blocks_in, no_shape}
use Rattle.jx_geom.specs.Numbering.{geometry_of}
use Rattle.std.specs.Prelude.{slice_index_or}
use Rattle.jx_reduce.proofs.LevelLemmas.{IsLower, low_blocks}
use Rattle.jx_reduce.proofs.ListLemmas.{joined_filter, joined_front, filter_none, filter_whole}
use Rattle.jx_reduce.proofs.NameLemmas.{named, one_name, names_of_band, names_of_resolution, names_of_component, names_of_tile, names_of_all, names_low, names_high}

-- components of a tile without their d highest resolutions
pub record AreLower (d : ℕ) (xs ys : List CompShape) : Type 0 where
  pub long : length ys ≡ length xs
  pub each : (c : ℕ) → c < length xs → IsLower d (slice_index_or xs c no_shape) (slice_index_or ys c no_shape)

-- the name is one of a resolution that is left
abbrev pub is_low : Canvas → (ℕ → List CompShape) → ℕ → BlockName → Bool
is_low canvas shapes d n = nat_le (n.res + d) (shape_of (geometry_of canvas shapes n.tile) n.comp).levels

-- what holds of the names of a resolution
all_band : (P : BlockName → Type 0) (g : Geometry) (c r : ℕ) (b : Band) → ((i : ℕ) → P (named g c r b i)) → All P (names_of_band g c r b)
unfolding names_of_band
all_band P g c r b each = joined_all P (one_name g c r b) (size_of (blocks_in g c r b)) (λ i lt. All-cons P (named g c r b i) [] (each i) (All-nil P))

all_resolution : (P : BlockName → Type 0) (g : Geometry) (c r : ℕ) → ((b : Band) (i : ℕ) → P (named g c r b i)) → All P (names_of_resolution g c r)
all_resolution P g c r each = elim (cases_lt 0 r) [
  | inl some ↦ rw (names_high g c r some) (All-append P (names_of_band g c r HL) (names_of_band g c r LH ++ names_of_band g c r HH) (all_band P g c r HL (each HL))
      (All-append P (names_of_band g c r LH) (names_of_band g c r HH) (all_band P g c r LH (each LH)) (all_band P g c r HH (each HH))))
  | inr none ↦ let low : r ≡ 0 = omega arith in rw (names_low g c r low) (all_band P g c r LL (each LL))
]

test_passes : (a b : ℕ) → a ≤ b → nat_le a b ≡ true
test_passes a b h = le-leb a b h

test_fails : (a b : ℕ) → b < a → nat_le a b ≡ false
test_fails a b h = grind (arith, nat_tests)

module _ (canvas : Canvas) (xs ys : ℕ → List CompShape) (d : ℕ) where
  abbrev before : ℕ → Geometry
  before t = geometry_of canvas xs t

  abbrev after : ℕ → Geometry
  after t = geometry_of canvas ys t

  module _ (t c : ℕ) (h : IsLower d (shape_of (before t) c) (shape_of (after t) c)) where
    band_same : (r : ℕ) (b : Band) → r ≤ (shape_of (after t) c).levels → names_of_band (before t) c r b ≡ names_of_band (after t) c r b
    unfolding names_of_band
    band_same r b le = ap (λ (cells : Rect). joined (one_name (before t) c r b) 0 (size_of cells)) (sym (low_blocks d (rect_of_tile (before t)) (shape_of (before t) c) (shape_of (after t) c) h r b le))

    resolution_same : (r : ℕ) → r ≤ (shape_of (after t) c).levels → names_of_resolution (before t) c r ≡ names_of_resolution (after t) c r
    unfolding names_of_resolution
    resolution_same r le = ap (λ (f : Band → List BlockName). flat_map f (bands_at r)) (fun_ext (λ b. band_same r b le))

    kept : (r : ℕ) → r < (shape_of (after t) c).levels + 1 → filter (is_low canvas xs d) (names_of_resolution (before t) c r) ≡ names_of_resolution (after t) c r
    kept r lt =
        filter_whole (is_low canvas xs d) (names_of_resolution (before t) c r)
        (all_resolution (λ (n : BlockName). is_low canvas xs d n ≡ true) (before t) c r (λ b i. test_passes (r + d) (shape_of (before t) c).levels (omega (arith, h.levels))))
        ∙ resolution_same r (omega arith)

    dropped : (r : ℕ) → (shape_of (after t) c).levels + 1 ≤ r → filter (is_low canvas xs d) (names_of_resolution (before t) c r) ≡ []
    dropped r le =
        filter_none (is_low canvas xs d) (names_of_resolution (before t) c r)
        (all_resolution (λ (n : BlockName). is_low canvas xs d n ≡ false) (before t) c r (λ b i. test_fails (r + d) (shape_of (before t) c).levels (omega (arith, h.levels))))

    component_left : filter (is_low canvas xs d) (names_of_component (before t) c) ≡ names_of_component (after t) c
    unfolding names_of_component
    component_left =
        joined_filter (is_low canvas xs d) (names_of_resolution (before t) c) 0 ((shape_of (before t) c).levels + 1)
        ∙ joined_front (λ r. filter (is_low canvas xs d) (names_of_resolution (before t) c r)) (names_of_resolution (after t) c) ((shape_of (after t) c).levels + 1)
        ((shape_of (before t) c).levels + 1) (omega (arith, h.levels)) kept (λ r le lt. dropped r le)

  tile_names_left : (t : ℕ) → AreLower d (xs t) (ys t) → filter (is_low canvas xs d) (names_of_tile (before t)) ≡ names_of_tile (after t)
  unfolding names_of_tile
  tile_names_left t h =
      joined_filter (is_low canvas xs d) (names_of_component (before t)) 0 (length (xs t))
      ∙ joined_same (λ c. filter (is_low canvas xs d) (names_of_component (before t) c)) (names_of_component (after t)) (length (xs t)) (λ c lt. component_left t c (h.each c lt))
      ∙ ap (λ (n : ℕ). joined (names_of_component (after t)) 0 n) (sym h.long)

  pub names_left : ((t : ℕ) → t < tile_count canvas → AreLower d (xs t) (ys t)) → filter (is_low canvas xs d) (names_of_all canvas xs) ≡ names_of_all canvas ys
  unfolding names_of_all
  names_left h =
      joined_filter (is_low canvas xs d) (λ t. names_of_tile (before t)) 0 (tile_count canvas)
      ∙ joined_same (λ t. filter (is_low canvas xs d) (names_of_tile (before t))) (λ t. names_of_tile (after t)) (tile_count canvas) (λ t lt. tile_names_left t (h t lt))
