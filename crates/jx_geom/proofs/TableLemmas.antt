-- The resolutions of a tile: where each stands in their list, and that the list is in order.
use Rattle.std.proofs.Common.{◌≡◌, ℕ, zero, suc, ◌+◌, ◌≤◌, ◌<◌, List, [], ◌∷◌, ◌++◌, ◌⊎◌, length, take, get_or, slice_index, Some, inl, inr, ◌∙◌, ap, sym, subst, refl, arith}
use Rattle.std.proofs.lemmas.List.Sums.{sum_by_more, sum_by_more_le}
use Rattle.jx_base.specs.declared.names.Rect.{Rect}
use Rattle.jx_base.specs.Joined.{joined, sum_below}
use Rattle.jx_geom.specs.declared.shape.CompShape.{CompShape}
use Rattle.jx_geom.specs.declared.table.Resolution.{Resolution}
use Rattle.jx_geom.specs.Resolutions.{one_behind, resolution_behind, resolutions_behind, resolution_at, component_resolutions, all_resolutions, resolutions_of, ResolutionBefore, one_place, place_of, all_places}
use Rattle.jx_geom.specs.Rects.{component_rect}
use Rattle.jx_base.specs.Places.{size_of}
use Rattle.jx_base.proofs.Joined.{joined_at, joined_has, joined_length, joined_pairs}
use Rattle.std.specs.List.{AllPairs, Contains}
use Rattle.std.proofs.lemmas.Bool.{cases_lt}
use Rattle.jx_geom.proofs.EmptyLemmas.{some_precinct}
use Rattle.std.specs.List.{slice_get}
use Rattle.std.proofs.lemmas.Bool.Decides.{nat_tests}
use Rattle.jx_geom.specs.Counts.{precinct_count, blocks_before_band, resolution_blocks, component_blocks, component_precincts, tile_blocks, tile_precincts}
use Rattle.jx_geom.specs.Geometry.{Geometry, GeometryInRange, HasResolution, no_shape, shape_of, rect_of_tile, precincts_in}
use Rattle.jx_geom.specs.Numbering.{number_in_tile}
use Rattle.jx_geom.specs.Precincts.{HasPrecinct, precinct_number}
use Rattle.jx_base.specs.declared.names.BlockName.{BlockName}
use Rattle.jx_base.proofs.Lists.{contains_cons, contains_none}
use Rattle.jx_base.proofs.Sums.{sum_below_grows}
use Rattle.std.proofs.lemmas.Option.{get_or_from_slice_get, same_Some, slice_get_within}
use Rattle.jx_base.specs.Limits.{most_blocks}

-- one more component
pub precincts_more : (tile : Rect) (shapes : List CompShape) (c : ℕ) → c < length shapes
    → tile_precincts tile (take (c + 1) shapes) ≡ tile_precincts tile (take c shapes) + component_precincts tile (get_or shapes c no_shape)
precincts_more tile shapes c lt = sum_by_more (component_precincts tile) shapes c no_shape lt

pub blocks_more : (tile : Rect) (shapes : List CompShape) (c : ℕ) → c < length shapes
    → tile_blocks tile (take (c + 1) shapes) ≡ tile_blocks tile (take c shapes) + component_blocks tile (get_or shapes c no_shape)
blocks_more tile shapes c lt = sum_by_more (component_blocks tile) shapes c no_shape lt

pub precincts_room : (tile : Rect) (shapes : List CompShape) (c : ℕ) → c < length shapes
    → tile_precincts tile (take c shapes) + component_precincts tile (get_or shapes c no_shape) ≤ tile_precincts tile shapes
precincts_room tile shapes c lt = sum_by_more_le (component_precincts tile) shapes c no_shape lt

pub blocks_room : (tile : Rect) (shapes : List CompShape) (c : ℕ) → c < length shapes
    → tile_blocks tile (take c shapes) + component_blocks tile (get_or shapes c no_shape) ≤ tile_blocks tile shapes
blocks_room tile shapes c lt = sum_by_more_le (component_blocks tile) shapes c no_shape lt

-- a resolution behind what came before it
pub one_is : (tile : Rect) (s : CompShape) (c precincts blocks r p b : ℕ) (xs ys : List Resolution)
    → p ≡ precincts + sum_below (precinct_count tile s) r → b ≡ blocks + sum_below (resolution_blocks tile s) r
    → ys ≡ xs ++ record { comp = c; res = r; precincts = precinct_count tile s r; precincts_before = p; blocks_before = b } ∷ []
    → ys ≡ xs ++ one_behind tile s c precincts blocks r
one_is tile s c precincts blocks r p b xs ys ep eb e =
    let P : ℕ → Type 0 = λ n. ys ≡ xs ++ record { comp = c; res = r; precincts = precinct_count tile s r; precincts_before = n; blocks_before = b } ∷ [] in
    let Q : ℕ → Type 0 = λ n. ys ≡ xs ++ record {
      comp = c;
      res = r;
      precincts = precinct_count tile s r;
      precincts_before = precincts + sum_below (precinct_count tile s) r;
      blocks_before = n;
    } ∷ [] in
    subst Q eb (subst P ep e)

-- a component's resolutions behind what came before it
pub component_is : (tile : Rect) (shapes : List CompShape) (c p b : ℕ) (xs ys : List Resolution)
    → p ≡ tile_precincts tile (take c shapes) → b ≡ tile_blocks tile (take c shapes)
    → ys ≡ xs ++ resolutions_behind tile (get_or shapes c no_shape) c p b → ys ≡ xs ++ component_resolutions tile shapes c
component_is tile shapes c p b xs ys ep eb e =
    let s = get_or shapes c no_shape in
    let P : ℕ → Type 0 = λ n. ys ≡ xs ++ resolutions_behind tile s c n b in
    let Q : ℕ → Type 0 = λ n. ys ≡ xs ++ resolutions_behind tile s c (tile_precincts tile (take c shapes)) n in
    subst Q eb (subst P ep e)

-- where a component's begin
ones : (tile : Rect) (shapes : List CompShape) (n : ℕ) → sum_below (λ i. length (one_place tile shapes i)) n ≡ n
ones tile shapes zero = refl
ones tile shapes (suc n) = let before : sum_below (λ i. length (one_place tile shapes i)) n ≡ n = ones tile shapes n in omega arith

pub place_there : (tile : Rect) (shapes : List CompShape) (c : ℕ) → c < length shapes → slice_get (all_places tile shapes) c ≡ Some (place_of tile shapes c)
unfolding all_places
place_there tile shapes c lt =
    let e : sum_below (λ i. length (one_place tile shapes i)) c + 0 ≡ c = omega (arith, ones tile shapes c) in
    ap (λ n. slice_get (joined (one_place tile shapes) 0 (length shapes)) n) (sym e)
    ∙ joined_at (one_place tile shapes) (λ i. length (one_place tile shapes i)) (length shapes) c 0 (λ i. refl) lt (omega arith)

-- those of a component
pub some_resolutions : (tile : Rect) (s : CompShape) (c precincts blocks : ℕ) → 0 < size_of (component_rect tile s)
    → resolutions_behind tile s c precincts blocks ≡ joined (one_behind tile s c precincts blocks) 0 (s.levels + 1)
unfolding resolutions_behind
some_resolutions tile s c precincts blocks some = grind (arith, nat_tests)

ones_behind : (tile : Rect) (s : CompShape) (c precincts blocks n : ℕ) → sum_below (λ r. length (one_behind tile s c precincts blocks r)) n ≡ n
ones_behind tile s c precincts blocks zero = refl
ones_behind tile s c precincts blocks (suc n) =
    let before : sum_below (λ r. length (one_behind tile s c precincts blocks r)) n ≡ n = ones_behind tile s c precincts blocks n in
    omega arith

behind_long : (tile : Rect) (s : CompShape) (c precincts blocks : ℕ) → 0 < size_of (component_rect tile s)
    → length (resolutions_behind tile s c precincts blocks) ≡ s.levels + 1
behind_long tile s c precincts blocks some =
    ap (λ (xs : List Resolution). length xs) (some_resolutions tile s c precincts blocks some)
    ∙ joined_length (one_behind tile s c precincts blocks) (λ r. length (one_behind tile s c precincts blocks r)) (s.levels + 1) (λ r. refl)
    ∙ ones_behind tile s c precincts blocks (s.levels + 1)

behind_there : (tile : Rect) (s : CompShape) (c precincts blocks r : ℕ) → 0 < size_of (component_rect tile s) → r ≤ s.levels
    → slice_get (resolutions_behind tile s c precincts blocks) r ≡ Some (resolution_behind tile s c precincts blocks r)
behind_there tile s c precincts blocks r some le =
    let e : sum_below (λ i. length (one_behind tile s c precincts blocks i)) r + 0 ≡ r = omega (arith, ones_behind tile s c precincts blocks r) in
    ap (λ (xs : List Resolution). slice_get xs r) (some_resolutions tile s c precincts blocks some)
    ∙ ap (λ n. slice_get (joined (one_behind tile s c precincts blocks) 0 (s.levels + 1)) n) (sym e)
    ∙ joined_at (one_behind tile s c precincts blocks) (λ i. length (one_behind tile s c precincts blocks i)) (s.levels + 1) r 0 (λ i. refl) (omega arith) (omega arith)

-- the resolution at its place
pub resolution_there : (tile : Rect) (shapes : List CompShape) (c r : ℕ) → c < length shapes → r ≤ (get_or shapes c no_shape).levels
    → 0 < size_of (component_rect tile (get_or shapes c no_shape))
    → slice_get (all_resolutions tile shapes) (place_of tile shapes c + r) ≡ Some (resolution_at tile shapes c r)
unfolding all_resolutions resolution_at
resolution_there tile shapes c r lt le some =
    let long : place_of tile shapes c ≡ sum_below (λ i. length (component_resolutions tile shapes i)) c =
    joined_length (component_resolutions tile shapes) (λ i. length (component_resolutions tile shapes i)) c (λ i. refl) in
    let below : r < length (component_resolutions tile shapes c) =
    omega (arith, behind_long tile (get_or shapes c no_shape) c (tile_precincts tile (take c shapes)) (tile_blocks tile (take c shapes)) some) in
    ap (λ n. slice_get (joined (component_resolutions tile shapes) 0 (length shapes)) (n + r)) long
    ∙ joined_at (component_resolutions tile shapes) (λ i. length (component_resolutions tile shapes i)) (length shapes) c r (λ i. refl) lt below
    ∙ behind_there tile (get_or shapes c no_shape) c (tile_precincts tile (take c shapes)) (tile_blocks tile (take c shapes)) r some le

-- the entry of a table
pub record EntryIs (places : List ℕ) (list : List Resolution) (c r : ℕ) (e : Resolution) : Type 0 where
  pub place : c < length places
  pub below : slice_index places c + r < length list
  pub only : (x : Resolution) → slice_get list (slice_index places c + r) ≡ Some x → x ≡ e

pub table_is : (tile : Rect) (shapes : List CompShape) (tile' : Rect) (shapes' : List CompShape) (places : List ℕ) (list : List Resolution)
    → tile ≡ tile' → shapes ≡ shapes' → ((list ≡ []) ⊎ (places ≡ all_places tile shapes)) → list ≡ all_resolutions tile shapes
    → ((list ≡ []) ⊎ (places ≡ all_places tile' shapes')) × (list ≡ all_resolutions tile' shapes')
table_is tile shapes tile' shapes' places list et es ep el =
    let P : Rect → Type 0 = λ t. ((list ≡ []) ⊎ (places ≡ all_places t shapes)) × (list ≡ all_resolutions t shapes) in
    let Q : List CompShape → Type 0 = λ s. ((list ≡ []) ⊎ (places ≡ all_places tile' s)) × (list ≡ all_resolutions tile' s) in
    subst Q es (subst P et (ep, el))

-- where a component has a place, the table isn't empty
placed : (tile : Rect) (shapes : List CompShape) (places : List ℕ) (list : List Resolution) (c r : ℕ)
    → (list ≡ []) ⊎ (places ≡ all_places tile shapes) → list ≡ all_resolutions tile shapes → c < length shapes → r ≤ (get_or shapes c no_shape).levels
    → 0 < size_of (component_rect tile (get_or shapes c no_shape)) → places ≡ all_places tile shapes
placed tile shapes places list c r (inr e) el lt le some = e
placed tile shapes places list c r (inl none) el lt le some =
    let at : slice_get list (place_of tile shapes c + r) ≡ Some (resolution_at tile shapes c r) =
    ap (λ (xs : List Resolution). slice_get xs (place_of tile shapes c + r)) el ∙ resolution_there tile shapes c r lt le some in
    let below : place_of tile shapes c + r < length list = slice_get_within list (place_of tile shapes c + r) (resolution_at tile shapes c r) at in
    let empty : length list ≡ 0 = ap (λ (xs : List Resolution). length xs) none in
    absurd (omega (arith, below, empty))

pub table_entry : (tile : Rect) (shapes : List CompShape) (places : List ℕ) (list : List Resolution) (c r : ℕ)
    → (list ≡ []) ⊎ (places ≡ all_places tile shapes) → list ≡ all_resolutions tile shapes → c < length shapes → r ≤ (get_or shapes c no_shape).levels
    → 0 < size_of (component_rect tile (get_or shapes c no_shape)) → EntryIs places list c r (resolution_at tile shapes c r)
table_entry tile shapes places list c r either el lt le some =
    let ep = placed tile shapes places list c r either el lt le some in
    let first : slice_get places c ≡ Some (place_of tile shapes c) = ap (λ (xs : List ℕ). slice_get xs c) ep ∙ place_there tile shapes c lt in
    let is : slice_index places c ≡ place_of tile shapes c = get_or_from_slice_get places c (place_of tile shapes c) 0 first in
    let at : slice_get list (slice_index places c + r) ≡ Some (resolution_at tile shapes c r) =
    ap (λ n. slice_get list (n + r)) is ∙ ap (λ (xs : List Resolution). slice_get xs (place_of tile shapes c + r)) el ∙ resolution_there tile shapes c r lt le some in
    record {
      place = slice_get_within places c (place_of tile shapes c) first;
      below = slice_get_within list (slice_index places c + r) (resolution_at tile shapes c r) at;
      only = λ x e. same_Some x (resolution_at tile shapes c r) (sym e ∙ at);
    }

pub at_precincts : (g : Geometry) (c r k : ℕ) → (resolution_at (rect_of_tile g) g.shapes c r).precincts_before + k ≡ precinct_number g c r k
unfolding resolution_at precinct_number
at_precincts g c r k = omega arith

pub at_blocks : (g : Geometry) (n : BlockName)
    → (resolution_at (rect_of_tile g) g.shapes n.comp n.res).blocks_before + (blocks_before_band (rect_of_tile g) (shape_of g n.comp) n.res n.band + n.index)
    ≡ number_in_tile g n
unfolding resolution_at number_in_tile
at_blocks g n = omega arith

-- what stands before a resolution is within limit 5
pub before_few : (g : Geometry) (c r : ℕ) → GeometryInRange g → HasResolution g c r → (resolution_at (rect_of_tile g) g.shapes c r).blocks_before ≤ most_blocks
unfolding resolution_at component_blocks
before_few g c r h there =
    let inner = sum_below_grows (resolution_blocks (rect_of_tile g) (shape_of g c)) r ((shape_of g c).levels + 1) (omega (arith, there.level)) in
    let outer = sum_by_more_le (component_blocks (rect_of_tile g)) g.shapes c no_shape there.component in
    omega (arith, inner, outer, h.limits.blocks)

-- ---- what the list of resolutions has
one_has : (x e : Resolution) → Contains (x ∷ []) e → x ≡ e
one_has x e h = elim (contains_cons x [] e h) [ inl same ↦ same | inr none ↦ absurd (contains_none e none) ]

pub none_behind : (tile : Rect) (s : CompShape) (c precincts blocks : ℕ) → size_of (component_rect tile s) ≡ 0 → resolutions_behind tile s c precincts blocks ≡ []
unfolding resolutions_behind
none_behind tile s c precincts blocks none = grind (arith, nat_tests)

-- one of those of a component
record IsBehind (tile : Rect) (s : CompShape) (c precincts blocks : ℕ) (e : Resolution) : Type 0 where
  res : ℕ
  level : res ≤ s.levels
  is : e ≡ resolution_behind tile s c precincts blocks res

behind_has : (tile : Rect) (s : CompShape) (c precincts blocks : ℕ) (e : Resolution) → Contains (resolutions_behind tile s c precincts blocks) e
    → IsBehind tile s c precincts blocks e
behind_has tile s c precincts blocks e h = elim (cases_lt 0 (size_of (component_rect tile s))) [
  | inl some ↦
      let C : List Resolution → Type 0 = λ xs. Contains xs e in
      let j = joined_has (one_behind tile s c precincts blocks) 0 (s.levels + 1) e (subst C (some_resolutions tile s c precincts blocks some) h) in
      record { res = j.number; level = omega (arith, j.below); is = sym (one_has (resolution_behind tile s c precincts blocks j.number) e j.has) }
  | inr none ↦
      let C : List Resolution → Type 0 = λ xs. Contains xs e in
      absurd (contains_none e (subst C (none_behind tile s c precincts blocks (omega arith)) h))
]

pub record IsListed (g : Geometry) (e : Resolution) : Type 0 where
  pub there : HasResolution g e.comp e.res
  pub is : e ≡ resolution_at (rect_of_tile g) g.shapes e.comp e.res
  pub precincts : e.precincts ≡ size_of (precincts_in g e.comp e.res)

listed_at : (g : Geometry) (c r : ℕ) (e : Resolution) → c < length g.shapes → r ≤ (shape_of g c).levels → e ≡ resolution_at (rect_of_tile g) g.shapes c r → IsListed g e
unfolding resolution_at
listed_at g c r e lt le is =
    let P : Resolution → Type 0 = λ x. IsListed g x in
    subst P (sym is) (record { there = record { component = lt; level = le }; is = refl; precincts = refl })

pub listed : (g : Geometry) (e : Resolution) → Contains (resolutions_of g) e → IsListed g e
unfolding all_resolutions resolution_at
listed g e h =
    let j = joined_has (component_resolutions (rect_of_tile g) g.shapes) 0 (length g.shapes) e h in
    let b = behind_has (rect_of_tile g) (shape_of g j.number) j.number (tile_precincts (rect_of_tile g) (take j.number g.shapes))
    (tile_blocks (rect_of_tile g) (take j.number g.shapes)) e j.has in
    listed_at g j.number b.res e j.below b.level b.is

-- they stand in order
behind_before : (tile : Rect) (s : CompShape) (c precincts blocks : ℕ) (i j : ℕ) (x y : Resolution) → i < j
    → Contains (one_behind tile s c precincts blocks i) x → Contains (one_behind tile s c precincts blocks j) y → ResolutionBefore x y
behind_before tile s c precincts blocks i j x y lt hx hy =
    let ex : resolution_behind tile s c precincts blocks i ≡ x = one_has (resolution_behind tile s c precincts blocks i) x hx in
    let ey : resolution_behind tile s c precincts blocks j ≡ y = one_has (resolution_behind tile s c precincts blocks j) y hy in
    let P : Resolution → Type 0 = λ v. ResolutionBefore v (resolution_behind tile s c precincts blocks j) in
    let Q : Resolution → Type 0 = λ w. ResolutionBefore x w in
    subst Q ey (subst P ex (inr (refl, lt)))

one_pairs : (x : Resolution) → AllPairs ResolutionBefore (x ∷ [])
one_pairs x i j d lt below = absurd (omega arith)

behind_pairs : (tile : Rect) (s : CompShape) (c precincts blocks : ℕ) → AllPairs ResolutionBefore (resolutions_behind tile s c precincts blocks)
behind_pairs tile s c precincts blocks = elim (cases_lt 0 (size_of (component_rect tile s))) [
  | inl some ↦
      let P : List Resolution → Type 0 = λ xs. AllPairs ResolutionBefore xs in
      subst P (sym (some_resolutions tile s c precincts blocks some)) (joined_pairs ResolutionBefore (one_behind tile s c precincts blocks) 0 (s.levels + 1)
      (λ i. one_pairs (resolution_behind tile s c precincts blocks i)) (behind_before tile s c precincts blocks))
  | inr none ↦
      let P : List Resolution → Type 0 = λ xs. AllPairs ResolutionBefore xs in
      let empty : List Resolution = [] in
      subst P (sym (none_behind tile s c precincts blocks (omega arith))) (λ i j d lt below. absurd (omega arith))
]

components_before : (tile : Rect) (shapes : List CompShape) (i j : ℕ) (x y : Resolution) → i < j
    → Contains (component_resolutions tile shapes i) x → Contains (component_resolutions tile shapes j) y → ResolutionBefore x y
components_before tile shapes i j x y lt hx hy =
    let bx = behind_has tile (get_or shapes i no_shape) i (tile_precincts tile (take i shapes)) (tile_blocks tile (take i shapes)) x hx in
    let by' = behind_has tile (get_or shapes j no_shape) j (tile_precincts tile (take j shapes)) (tile_blocks tile (take j shapes)) y hy in
    let ex : x.comp ≡ i = ap (λ (e : Resolution). e.comp) bx.is in
    let ey : y.comp ≡ j = ap (λ (e : Resolution). e.comp) by'.is in
    inl (omega arith)

pub in_order : (tile : Rect) (shapes : List CompShape) → AllPairs ResolutionBefore (all_resolutions tile shapes)
unfolding all_resolutions
in_order tile shapes =
    joined_pairs ResolutionBefore (component_resolutions tile shapes) 0 (length shapes)
    (λ c. behind_pairs tile (get_or shapes c no_shape) c (tile_precincts tile (take c shapes)) (tile_blocks tile (take c shapes)))
    (components_before tile shapes)

-- that of each precinct is there
pub precinct_listed : (g : Geometry) (c r k : ℕ) → HasPrecinct g c r k
    → slice_get (resolutions_of g) (place_of (rect_of_tile g) g.shapes c + r) ≡ Some (resolution_at (rect_of_tile g) g.shapes c r)
precinct_listed g c r k h =
    resolution_there (rect_of_tile g) g.shapes c r h.resolution.component h.resolution.level (some_precinct (rect_of_tile g) (shape_of g c) r k h.precinct)

pub has_listed : (g : Geometry) (c r k : ℕ) → HasPrecinct g c r k → Contains (resolutions_of g) (resolution_at (rect_of_tile g) g.shapes c r)
has_listed g c r k h =
    let at = precinct_listed g c r k h in
    let e = resolution_at (rect_of_tile g) g.shapes c r in (
      place_of (rect_of_tile g) g.shapes c + r,
      slice_get_within (resolutions_of g) (place_of (rect_of_tile g) g.shapes c + r) (resolution_at (rect_of_tile g) g.shapes c r) at,
      get_or_from_slice_get (resolutions_of g) (place_of (rect_of_tile g) g.shapes c + r) (resolution_at (rect_of_tile g) g.shapes c r)
          (resolution_at (rect_of_tile g) g.shapes c r) at,
    )
