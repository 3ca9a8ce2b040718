-- The fresh precincts and the blocks of a tile by the list of its resolutions, in which a component without a sample has none.
use Rattle.std.proofs.Common.{◌≡◌, ℕ, zero, suc, ◌+◌, ◌-◌, ◌<◌, List, [], ◌∷◌, ◌++◌, length, take, get_or, inl, inr, ◌∙◌, ap, sym, subst, refl, arith, append-nil}
use Rattle.std.specs.List.{flat_map, Contains}
use Rattle.std.proofs.Math.Seq.{take-length}
use Rattle.std.proofs.lemmas.Bool.{cases_lt}
use Rattle.std.proofs.lemmas.Grind.{flat_map-append}
use Rattle.std.proofs.lemmas.List.{take_more}
use Rattle.std.proofs.lemmas.List.Elements.{Contains-get_or}
use Rattle.jx_base.specs.declared.names.Band.{Band}
use Rattle.jx_base.specs.declared.names.Rect.{Rect}
use Rattle.jx_base.specs.Bands.{bands_at}
use Rattle.jx_base.specs.Joined.{joined, joined_below}
use Rattle.jx_base.specs.Places.{size_of}
use Rattle.jx_base.proofs.Joined.{joined_none, joined_empty, joined_same}
use Rattle.jx_geom.specs.declared.shape.CompShape.{CompShape}
use Rattle.jx_geom.specs.declared.table.Resolution.{Resolution}
use Rattle.jx_geom.specs.Counts.{precinct_count, block_count, tile_precincts, tile_blocks}
use Rattle.jx_geom.specs.Geometry.{Geometry, HasResolution, rect_of_tile, shape_of, precincts_in, blocks_in}
use Rattle.jx_geom.specs.Rects.{component_rect}
use Rattle.jx_geom.specs.Resolutions.{all_resolutions, component_resolutions, one_behind, resolutions_behind, resolutions_of}
use Rattle.jx_geom.proofs.EmptyLemmas.{some_block, some_precinct}
use Rattle.jx_geom.proofs.TableLemmas.{listed, none_behind, some_resolutions}
use Rattle.jx_codestream.specs.declared.Stream.{Stream}
use Rattle.jx_tier2_reader.specs.Blocks.{blocks_of_band, blocks_of_component, one_block, blocks_of_resolution, blocks_of_tile}
use Rattle.jx_tier2_reader.specs.Fresh.{fresh_component, fresh_precincts, fresh_resolution, one_precinct}

-- what each resolution of a list has
abbrev pub by_resolution : {Y : Type 0} → (ℕ → ℕ → List Y) → Resolution → List Y
by_resolution f e = f e.comp e.res

flat_none : {X Y : Type 0} (f : X → List Y) (xs : List X) → ((x : X) → f x ≡ []) → flat_map f xs ≡ []
flat_none f [] h = refl
flat_none {X} {Y} f (x ∷ xs) h = ap (λ (ys : List Y). ys ++ flat_map f xs) (h x) ∙ flat_none f xs h

flat_below : {X Y : Type 0} (f : X → List Y) (h : ℕ → List X) (a n : ℕ) → flat_map f (joined_below h a n) ≡ joined_below (λ i. flat_map f (h i)) a n
flat_below f h a zero = refl
flat_below {X} {Y} f h a (suc n) =
    flat_map-append f (joined_below h a n) (h (a + n)) ∙ ap (λ (ys : List Y). ys ++ flat_map f (h (a + n))) (flat_below f h a n)

flat_joined : {X Y : Type 0} (f : X → List Y) (h : ℕ → List X) (n : ℕ) → flat_map f (joined h 0 n) ≡ joined (λ i. flat_map f (h i)) 0 n
unfolding joined
flat_joined f h n = flat_below f h 0 (n - 0)

-- of a component
of_shape : {Y : Type 0} (f : ℕ → ℕ → List Y) (tile : Rect) (s : CompShape) (c precincts blocks : ℕ)
    → (size_of (component_rect tile s) ≡ 0 → (r : ℕ) → f c r ≡ [])
    → flat_map (by_resolution f) (resolutions_behind tile s c precincts blocks) ≡ joined (f c) 0 (s.levels + 1)
of_shape {Y} f tile s c precincts blocks empty = elim (cases_lt 0 (size_of (component_rect tile s))) [
  | inl some ↦
      ap (flat_map (by_resolution f)) (some_resolutions tile s c precincts blocks some)
      ∙ flat_joined (by_resolution f) (one_behind tile s c precincts blocks) (s.levels + 1)
      ∙ joined_same (λ r. flat_map (by_resolution f) (one_behind tile s c precincts blocks r)) (f c) (s.levels + 1) (λ r lt. append-nil (f c r))
  | inr none ↦
      let zero_size : size_of (component_rect tile s) ≡ 0 = omega (arith, none) in
      ap (flat_map (by_resolution f)) (none_behind tile s c precincts blocks zero_size) ∙ sym (joined_empty (f c) 0 (s.levels + 1) (empty zero_size))
]

-- of a tile
pub of_tile : {Y : Type 0} (f : ℕ → ℕ → List Y) (g : Geometry)
    → ((c : ℕ) → size_of (component_rect (rect_of_tile g) (shape_of g c)) ≡ 0 → (r : ℕ) → f c r ≡ [])
    → flat_map (by_resolution f) (resolutions_of g) ≡ joined (λ c. joined (f c) 0 ((shape_of g c).levels + 1)) 0 (length g.shapes)
unfolding all_resolutions
of_tile f g empty =
    flat_joined (by_resolution f) (component_resolutions (rect_of_tile g) g.shapes) (length g.shapes)
    ∙ joined_same (λ c. flat_map (by_resolution f) (component_resolutions (rect_of_tile g) g.shapes c)) (λ c. joined (f c) 0 ((shape_of g c).levels + 1)) (length g.shapes)
    (λ c lt. of_shape f (rect_of_tile g) (shape_of g c) c (tile_precincts (rect_of_tile g) (take c g.shapes)) (tile_blocks (rect_of_tile g) (take c g.shapes)) (empty c))

no_fresh : (s : Stream) (g : Geometry) (c r : ℕ) → size_of (component_rect (rect_of_tile g) (shape_of g c)) ≡ 0 → fresh_resolution s g c r ≡ []
unfolding fresh_resolution
no_fresh s g c r e = elim (cases_lt 0 (precinct_count (rect_of_tile g) (shape_of g c) r)) [
  | inl some ↦ absurd (omega (arith, e, some_precinct (rect_of_tile g) (shape_of g c) r 0 some))
  | inr none ↦ joined_none (one_precinct s g c r) 0 (size_of (precincts_in g c r)) none
]

no_band : (s : Stream) (g : Geometry) (c r : ℕ) (b : Band) → size_of (component_rect (rect_of_tile g) (shape_of g c)) ≡ 0 → blocks_of_band s g [] c r b ≡ []
unfolding blocks_of_band
no_band s g c r b e = elim (cases_lt 0 (block_count (rect_of_tile g) (shape_of g c) r b)) [
  | inl some ↦ absurd (omega (arith, e, some_block (rect_of_tile g) (shape_of g c) r b 0 some))
  | inr none ↦ joined_none (one_block s g [] c r b) 0 (size_of (blocks_in g c r b)) none
]

no_resolution : (s : Stream) (g : Geometry) (c r : ℕ) → size_of (component_rect (rect_of_tile g) (shape_of g c)) ≡ 0 → blocks_of_resolution s g [] c r ≡ []
unfolding blocks_of_resolution
no_resolution s g c r e = flat_none (blocks_of_band s g [] c r) (bands_at r) (λ b. no_band s g c r b e)

pub precincts_listed : (s : Stream) (g : Geometry) → flat_map (by_resolution (fresh_resolution s g)) (resolutions_of g) ≡ fresh_precincts s g
unfolding fresh_precincts fresh_component
precincts_listed s g = of_tile (fresh_resolution s g) g (λ c e r. no_fresh s g c r e)

pub blocks_listed : (s : Stream) (g : Geometry) → flat_map (by_resolution (blocks_of_resolution s g [])) (resolutions_of g) ≡ blocks_of_tile s g []
unfolding blocks_of_tile blocks_of_component
blocks_listed s g = of_tile (blocks_of_resolution s g []) g (λ c e r. no_resolution s g c r e)

-- the steps of a loop over the list
pub row_there : (g : Geometry) (rows : List Resolution) (i : ℕ) (d : Resolution) → rows ≡ resolutions_of g → i < length rows
    → HasResolution g (get_or rows i d).comp (get_or rows i d).res
row_there g rows i d e lt =
    let C : List Resolution → Type 0 = λ xs. Contains xs (get_or rows i d) in
    (listed g (get_or rows i d) (subst C e (Contains-get_or rows i d lt))).there

pub rows_next : {Y : Type 0} (f : ℕ → ℕ → List Y) (rows : List Resolution) (i : ℕ) (d : Resolution) (xs ys : List Y) → i < length rows
    → xs ≡ flat_map (by_resolution f) (take i rows) → ys ≡ xs ++ f (get_or rows i d).comp (get_or rows i d).res → ys ≡ flat_map (by_resolution f) (take (i + 1) rows)
rows_next {Y} f rows i d xs ys lt before step =
    step ∙ ap (λ (zs : List Y). zs ++ f (get_or rows i d).comp (get_or rows i d).res) before
    ∙ ap (λ (zs : List Y). flat_map (by_resolution f) (take i rows) ++ zs) (sym (append-nil (f (get_or rows i d).comp (get_or rows i d).res)))
    ∙ sym (flat_map-append (by_resolution f) (take i rows) (get_or rows i d ∷ []))
    ∙ ap (flat_map (by_resolution f)) (sym (take_more rows i d lt))

pub rows_all : {Y : Type 0} (f : ℕ → ℕ → List Y) (g : Geometry) (rows : List Resolution) (n : ℕ) (xs : List Y) → n ≡ length rows → rows ≡ resolutions_of g
    → xs ≡ flat_map (by_resolution f) (take n rows) → xs ≡ flat_map (by_resolution f) (resolutions_of g)
rows_all f g rows n xs all e h =
    h ∙ ap (λ (m : ℕ). flat_map (by_resolution f) (take m rows)) all ∙ ap (flat_map (by_resolution f)) (take-length rows) ∙ ap (flat_map (by_resolution f)) e
