-- Scans of numbers and tiles, one step on.
use Rattle.std.proofs.Common.{◌≡◌, ◌∙◌, ◌<◌, ◌+◌, ◌-◌, ℕ, suc, Bool, true, false, List, ◌∷◌, length, drop, map, get_or, refl, sym, ap, Option, Some, None, add-one}
use Rattle.std.specs.List.{find, flat_map, list_any, range_with_len}
use Rattle.std.specs.Option.{option_or, is_some}
use Rattle.std.proofs.lemmas.List.Folds.{find-append}
use Rattle.std.proofs.Math.Seq.{drop-cons}
use Rattle.jx_codestream.specs.declared.Tile.{Tile}
use Rattle.jx_codestream.specs.declared.faults.StreamFault.TheVariants as fault
use Rattle.jx_codestream.specs.Params.{rule_9_of, limit_4_of, has_too_few, quant_of, shape_of, shift_of, band_planes, tile_has_too_few, tile_planes}
use Rattle.jx_marker.specs.declared.Segment.{Segment}
use Rattle.jx_marker.specs.RuleNumbers.{QUANTIZATION}
use Rattle.jx_base.proofs.Lists.{range_next}

pub any_here : (f : ℕ → Bool) (i n : ℕ) → i < n → f i ≡ true → list_any f (range_with_len i (n - i)) ≡ true
any_here f i n h t = ap (λ (x : List ℕ). list_any f x) (range_next i n h) ∙ rw t refl

pub any_later : (f : ℕ → Bool) (i n : ℕ) → i < n → f i ≡ false → list_any f (range_with_len i (n - i)) ≡ list_any f (range_with_len (i + 1) (n - (i + 1)))
any_later f i n h t = ap (λ (x : List ℕ). list_any f x) (range_next i n h) ∙ rw t refl

pub mapped_later : (p : ℕ → Bool) (g : ℕ → ℕ) (i n : ℕ) → i < n → p (g i) ≡ false → find p (map g (range_with_len i (n - i))) ≡ find p (map g (range_with_len (i + 1) (n - (i + 1))))
mapped_later p g i n h t = ap (λ (x : List ℕ). find p (map g x)) (range_next i n h) ∙ rw t refl

joined_next : (p : ℕ → Bool) (g : ℕ → List ℕ) (i n : ℕ) → i < n
    → find p (flat_map g (range_with_len i (n - i))) ≡ option_or (find p (g i)) (find p (flat_map g (range_with_len (i + 1) (n - (i + 1)))))
joined_next p g i n h = ap (λ (x : List ℕ). find p (flat_map g x)) (range_next i n h) ∙ find-append p (g i) (flat_map g (range_with_len (i + 1) (n - (i + 1))))

some_first : (x y : Option ℕ) → is_some x ≡ true → option_or x y ≡ x
some_first None y h = absurd (cc)
some_first (Some n) y h = refl

none_second : (x y : Option ℕ) → is_some x ≡ false → option_or x y ≡ y
none_second None y h = refl
none_second (Some n) y h = absurd (cc)

pub joined_here : (p : ℕ → Bool) (g : ℕ → List ℕ) (i n : ℕ) (found : Option ℕ) → i < n → found ≡ find p (g i) → is_some found ≡ true → find p (flat_map g (range_with_len i (n - i))) ≡ found
joined_here p g i n found h is some =
    joined_next p g i n h ∙ ap (λ (x : Option ℕ). option_or x (find p (flat_map g (range_with_len (i + 1) (n - (i + 1)))))) (sym is) ∙ some_first found (find p (flat_map g (range_with_len (i + 1) (n - (i + 1))))) some

pub joined_later : (p : ℕ → Bool) (g : ℕ → List ℕ) (i n : ℕ) (found : Option ℕ) → i < n → found ≡ find p (g i) → is_some found ≡ false
    → find p (flat_map g (range_with_len i (n - i))) ≡ find p (flat_map g (range_with_len (i + 1) (n - (i + 1))))
joined_later p g i n found h is none =
    joined_next p g i n h ∙ ap (λ (x : Option ℕ). option_or x (find p (flat_map g (range_with_len (i + 1) (n - (i + 1)))))) (sym is) ∙ none_second found (find p (flat_map g (range_with_len (i + 1) (n - (i + 1))))) none

-- tiles

tile_next : (tiles : List Tile) (i : ℕ) (tile : Tile) → i < length tiles → tile ≡ get_or tiles i tile → drop i tiles ≡ tile ∷ drop (i + 1) tiles
tile_next tiles i tile h is = drop-cons tiles i tile h ∙ ap (λ (t : Tile). t ∷ drop (suc i) tiles) (sym is) ∙ ap (λ (n : ℕ). tile ∷ drop n tiles) (sym (add-one i))

pub tile_here : (p : Tile → Bool) (tiles : List Tile) (i : ℕ) (tile : Tile) → i < length tiles → tile ≡ get_or tiles i tile → p tile ≡ true → find p tiles ≡ find p (drop i tiles)
    → rule_9_of (find p tiles) ≡ Some (fault.Rule QUANTIZATION tile.place)
tile_here p tiles i tile h is t same =
    ap rule_9_of (same ∙ ap (λ (x : List Tile). find p x) (tile_next tiles i tile h is)) ∙ rw t refl

pub tile_later : (p : Tile → Bool) (tiles : List Tile) (i : ℕ) (tile : Tile) → i < length tiles → tile ≡ get_or tiles i tile → p tile ≡ false → find p tiles ≡ find p (drop i tiles)
    → find p tiles ≡ find p (drop (i + 1) tiles)
tile_later p tiles i tile h is f same = same ∙ ap (λ (x : List Tile). find p x) (tile_next tiles i tile h is) ∙ rw f refl

planes_next : (p : ℕ → Bool) (g : Tile → List ℕ) (tiles : List Tile) (i : ℕ) (tile : Tile) → i < length tiles → tile ≡ get_or tiles i tile → find p (flat_map g tiles) ≡ find p (flat_map g (drop i tiles))
    → find p (flat_map g tiles) ≡ option_or (find p (g tile)) (find p (flat_map g (drop (i + 1) tiles)))
planes_next p g tiles i tile h is same =
    same ∙ ap (λ (x : List Tile). find p (flat_map g x)) (tile_next tiles i tile h is) ∙ find-append p (g tile) (flat_map g (drop (i + 1) tiles))

pub planes_here : (p : ℕ → Bool) (g : Tile → List ℕ) (tiles : List Tile) (i : ℕ) (tile : Tile) (planes : ℕ) → i < length tiles → tile ≡ get_or tiles i tile → find p (g tile) ≡ Some planes
    → find p (flat_map g tiles) ≡ find p (flat_map g (drop i tiles)) → limit_4_of (find p (flat_map g tiles)) ≡ Some (fault.Limit 4 planes)
planes_here p g tiles i tile planes h is found same =
    ap limit_4_of (planes_next p g tiles i tile h is same ∙ ap (λ (x : Option ℕ). option_or x (find p (flat_map g (drop (i + 1) tiles)))) found)

pub planes_later : (p : ℕ → Bool) (g : Tile → List ℕ) (tiles : List Tile) (i : ℕ) (tile : Tile) → i < length tiles → tile ≡ get_or tiles i tile → find p (g tile) ≡ None
    → find p (flat_map g tiles) ≡ find p (flat_map g (drop i tiles)) → find p (flat_map g tiles) ≡ find p (flat_map g (drop (i + 1) tiles))
planes_later p g tiles i tile h is found same =
    planes_next p g tiles i tile h is same ∙ ap (λ (x : Option ℕ). option_or x (find p (flat_map g (drop (i + 1) tiles)))) found

-- a tile's header is the one that is indexed

pub tile_test : (main segments : List Segment) (comps : ℕ) (tile : Tile) → segments ≡ tile.header
    → list_any (λ (comp : ℕ). has_too_few (quant_of segments main comp) (shape_of segments main comp)) (range_with_len 0 comps) ≡ tile_has_too_few main comps tile
unfolding tile_has_too_few
tile_test main segments comps tile h = ap (λ (x : List Segment). list_any (λ (comp : ℕ). has_too_few (quant_of x main comp) (shape_of x main comp)) (range_with_len 0 comps)) h

pub tile_list : (main segments : List Segment) (comps : ℕ) (tile : Tile) → segments ≡ tile.header
    → flat_map (λ (comp : ℕ). band_planes (quant_of segments main comp) (shape_of segments main comp) (shift_of segments main comp)) (range_with_len 0 comps) ≡ tile_planes main comps tile
unfolding tile_planes
tile_list main segments comps tile h = ap (λ (x : List Segment). flat_map (λ (comp : ℕ). band_planes (quant_of x main comp) (shape_of x main comp) (shift_of x main comp)) (range_with_len 0 comps)) h
