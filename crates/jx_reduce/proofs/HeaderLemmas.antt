-- What the headers that are left say: the same segments in the same slots, of which COD and COC have fewer levels.
use Rattle.std.proofs.Common.{◌≡◌, ◌∙◌, ℕ, zero, suc, ◌+◌, ◌-◌, ◌*◌, ◌==◌, ◌≤◌, Bool, true, false, cond, nat_lt, List, [], ◌∷◌, map, take, refl, sym, ap, arith, Option, Some, None, inl, inr}
use Rattle.std.specs.List.{All, list_any, position, slice_get}
use Rattle.std.specs.Option.{option_or, option_map}
use Rattle.std.proofs.Math.Seq.{take-nil}
use Rattle.std.proofs.lemmas.Bool.{cases_Bool}
use Rattle.std.proofs.lemmas.Bool.Decides.{nat_tests}
use Rattle.std.proofs.lemmas.List.Elements.{All-nil, All-head, All-tail}
use Rattle.std.proofs.lemmas.Option.{slice_get-map}
use Rattle.jx_base.proofs.Lists.{none_passes}
use Rattle.jx_marker.specs.declared.CompSize.{CompSize}
use Rattle.jx_marker.specs.declared.Segment.{Segment}
use Rattle.jx_marker.specs.declared.Segment.TheVariants as segment
use Rattle.jx_marker.specs.declared.Shape.{Shape}
use Rattle.jx_marker.specs.declared.Cod.{Cod}
use Rattle.jx_codestream.specs.declared.Tile.{Tile}
use Rattle.jx_codestream.specs.declared.Stream.{Stream}
use Rattle.jx_codestream.specs.Headers.{has_slot, slot_of}
use Rattle.jx_codestream.specs.Tiles.{in_slot}
use Rattle.jx_codestream.specs.Params.{chosen, cod_in, cod_of, cod_or, header_in, header_of, quant_in, quant_of, shape_in, shape_of, shape_or, shift_in, shift_of}
use Rattle.jx_plan.proofs.CausalLemmas.{none_at}
use Rattle.jx_reduce.specs.Reduction.{cod_left, segment_left, shape_left, stream_left, tile_left}
use Rattle.jx_reduce.specs.Unreducible.{choice_at, first_choice, first_fewer, first_passing, has_fewer, passes_byte, tile_has_fewer}

-- ---- slots
pub slot_left : (d : ℕ) (s : Segment) → slot_of (segment_left d s) ≡ slot_of s
slot_left d (segment.Cod cod) = refl
slot_left d (segment.Coc comp shape) = refl
slot_left d _ = refl

pub in_slot_left : (d slot : ℕ) (ss : List Segment) → in_slot slot (map (segment_left d) ss) ≡ option_map (segment_left d) (in_slot slot ss)
in_slot_left d slot [] = refl
in_slot_left d slot (s ∷ ss) = rw (slot_left d s) (elim (cases_Bool (slot_of s == slot)) [
  | inl here ↦ rw here refl
  | inr past ↦ rw past (in_slot_left d slot ss)
])

pub has_slot_left : (d slot : ℕ) (ss : List Segment) → has_slot slot (map (segment_left d) ss) ≡ has_slot slot ss
has_slot_left d slot [] = refl
has_slot_left d slot (s ∷ ss) = rw (slot_left d s, has_slot_left d slot ss) refl

or_left : (f : Segment → Segment) (x y : Option Segment) → option_or (option_map f x) (option_map f y) ≡ option_map f (option_or x y)
or_left f None y = refl
or_left f (Some s) y = refl

or_both : (f : Segment → Segment) (a b x y : Option Segment) → a ≡ option_map f x → b ≡ option_map f y → option_or a b ≡ option_map f (option_or x y)
or_both f a b x y e h = rw (e, h) (or_left f x y)

-- ---- parameters
shape_in_left : (d : ℕ) (o : Option Segment) → shape_in (option_map (segment_left d) o) ≡ option_map (shape_left d) (shape_in o)
shape_in_left d None = refl
shape_in_left d (Some (segment.Cod cod)) = refl
shape_in_left d (Some (segment.Coc comp shape)) = refl
shape_in_left d (Some _) = refl

quant_in_left : (d : ℕ) (o : Option Segment) → quant_in (option_map (segment_left d) o) ≡ quant_in o
quant_in_left d None = refl
quant_in_left d (Some (segment.Cod cod)) = refl
quant_in_left d (Some (segment.Coc comp shape)) = refl
quant_in_left d (Some _) = refl

shift_in_left : (d : ℕ) (o : Option Segment) → shift_in (option_map (segment_left d) o) ≡ shift_in o
shift_in_left d None = refl
shift_in_left d (Some (segment.Cod cod)) = refl
shift_in_left d (Some (segment.Coc comp shape)) = refl
shift_in_left d (Some _) = refl

cod_in_left : (d : ℕ) (o : Option Segment) → cod_in (option_map (segment_left d) o) ≡ option_map (cod_left d) (cod_in o)
cod_in_left d None = refl
cod_in_left d (Some (segment.Cod cod)) = refl
cod_in_left d (Some (segment.Coc comp shape)) = refl
cod_in_left d (Some _) = refl

none_left : (d : ℕ) → shape_left d (shape_or None) ≡ shape_or None
none_left d =
    let levels : 0 - d ≡ 0 = omega arith in
    let bytes : take (0 - d + 1) [] ≡ [] = take-nil {A = ℕ} (0 - d + 1) in
    rw (bytes, levels) refl

pub shape_or_left : (d : ℕ) (o : Option Shape) → shape_or (option_map (shape_left d) o) ≡ shape_left d (shape_or o)
shape_or_left d None = sym (none_left d)
shape_or_left d (Some shape) = refl

pub cod_or_left : (d : ℕ) (o : Option Cod) → cod_or (option_map (cod_left d) o) ≡ cod_left d (cod_or o)
cod_or_left d None = ap (λ (shape : Shape). record (cod_or None) { shape = shape }) (sym (none_left d))
cod_or_left d (Some cod) = refl

module _ (d : ℕ) (own main : List Segment) where
  chosen_left : (slot default : ℕ) → chosen slot default (map (segment_left d) own) (map (segment_left d) main) ≡ option_map (segment_left d) (chosen slot default own main)
  chosen_left slot default =
      let f : Segment → Segment = segment_left d in
      or_both f _ _ (in_slot slot own) _ (in_slot_left d slot own)
      (or_both f _ _ (in_slot default own) _ (in_slot_left d default own)
      (or_both f _ _ (in_slot slot main) (in_slot default main) (in_slot_left d slot main) (in_slot_left d default main)))

  pub shape_of_left : (comp : ℕ) → shape_of (map (segment_left d) own) (map (segment_left d) main) comp ≡ option_map (shape_left d) (shape_of own main comp)
  shape_of_left comp = ap shape_in (chosen_left (261 + 3 * comp) 1) ∙ shape_in_left d (chosen (261 + 3 * comp) 1 own main)

  pub quant_of_left : (comp : ℕ) → quant_of (map (segment_left d) own) (map (segment_left d) main) comp ≡ quant_of own main comp
  quant_of_left comp = ap quant_in (chosen_left (262 + 3 * comp) 2) ∙ quant_in_left d (chosen (262 + 3 * comp) 2 own main)

  pub shift_of_left : (comp : ℕ) → shift_of (map (segment_left d) own) (map (segment_left d) main) comp ≡ shift_of own main comp
  shift_of_left comp =
      ap shift_in (or_both (segment_left d) _ _ (in_slot (263 + 3 * comp) own) (in_slot (263 + 3 * comp) main) (in_slot_left d (263 + 3 * comp) own) (in_slot_left d (263 + 3 * comp) main))
      ∙ shift_in_left d (option_or (in_slot (263 + 3 * comp) own) (in_slot (263 + 3 * comp) main))

  pub cod_of_left : cod_of (map (segment_left d) own) (map (segment_left d) main) ≡ option_map (cod_left d) (cod_of own main)
  cod_of_left =
      ap cod_in (or_both (segment_left d) _ _ (in_slot 1 own) (in_slot 1 main) (in_slot_left d 1 own) (in_slot_left d 1 main)) ∙ cod_in_left d (option_or (in_slot 1 own) (in_slot 1 main))

-- ---- the header of a tile
in_header : (d : ℕ) (o : Option Tile) → header_in (option_map (tile_left d) o) ≡ map (segment_left d) (header_in o)
in_header d None = refl
in_header d (Some tile) = refl

pub header_left : (d : ℕ) (s : Stream) (t : ℕ) → header_of (stream_left d s) t ≡ map (segment_left d) (header_of s t)
unfolding stream_left
header_left d s t = ap header_in (slice_get-map (tile_left d) s.tiles t) ∙ in_header d (slice_get s.tiles t)

-- ---- where nothing is in the way
pub record IsClear (d : ℕ) (s : Stream) : Type 0 where
  pub sizes : All (λ (size : CompSize). passes_byte d size ≡ false) s.siz.comps
  pub main : All (λ (x : Segment). has_fewer d x ≡ false) s.main
  pub tiles : All (λ (t : Tile). tile_has_fewer d t ≡ false) s.tiles

either_none : (test : Bool) (o : Option ℕ) → (cond test (Some 0) o) ≡ None → (test ≡ false) × (o ≡ None)
either_none true o h = absurd (cc)
either_none false o h = (refl, h)

no_choice : (a b : Option ℕ) → option_or (choice_at 8 a) (choice_at 9 b) ≡ None → (a ≡ None) × (b ≡ None)
no_choice None None h = (refl, refl)
no_choice None (Some n) h = absurd (cc)
no_choice (Some n) b h = absurd (cc)

pub is_clear : (d : ℕ) (s : Stream) → first_choice d s ≡ None → IsClear d s
is_clear d s h =
    let both = no_choice (first_passing d s.siz.comps) (first_fewer d s) h in
    let fewer = either_none (list_any (has_fewer d) s.main) (position (tile_has_fewer d) s.tiles) both.1 in
    record {
      sizes = none_at (passes_byte d) s.siz.comps both.0;
      main = none_passes (has_fewer d) s.main fewer.0;
      tiles = none_at (tile_has_fewer d) s.tiles fewer.1;
    }

pub clear_header : (d : ℕ) (tiles : List Tile) (t : ℕ) → All (λ (x : Tile). tile_has_fewer d x ≡ false) tiles → All (λ (x : Segment). has_fewer d x ≡ false) (header_in (slice_get tiles t))
clear_header d [] t h = All-nil (λ (x : Segment). has_fewer d x ≡ false)
clear_header d (x ∷ xs) zero h = none_passes (has_fewer d) x.header (All-head (λ (y : Tile). tile_has_fewer d y ≡ false) x xs h)
clear_header d (x ∷ xs) (suc t) h = clear_header d xs t (All-tail (λ (y : Tile). tile_has_fewer d y ≡ false) x xs h)

-- so each shape has so many levels

abbrev Holds : ℕ → Option Segment → Type 0
Holds d None = Unit {0}
Holds d (Some s) = has_fewer d s ≡ false

holds_slot : (d slot : ℕ) (ss : List Segment) → All (λ (x : Segment). has_fewer d x ≡ false) ss → Holds d (in_slot slot ss)
holds_slot d slot [] h = tt
holds_slot d slot (s ∷ ss) h = elim (cases_Bool (slot_of s == slot)) [
  | inl here ↦ rw here (All-head (λ (x : Segment). has_fewer d x ≡ false) s ss h)
  | inr past ↦ rw past (holds_slot d slot ss (All-tail (λ (x : Segment). has_fewer d x ≡ false) s ss h))
]

holds_or : (d : ℕ) (x y : Option Segment) → Holds d x → Holds d y → Holds d (option_or x y)
holds_or d None y h k = k
holds_or d (Some s) y h k = h

not_fewer : (levels d : ℕ) → nat_lt levels d ≡ false → d ≤ levels
not_fewer levels d h = grind (arith, nat_tests)

holds_levels : (d : ℕ) (o : Option Segment) (shape : Shape) → Holds d o → shape_in o ≡ Some shape → d ≤ shape.levels
holds_levels d None shape h e = absurd (cc)
holds_levels d (Some (segment.Cod cod)) shape h e = let same : cod.shape ≡ shape = cc in rw (sym same) (not_fewer cod.shape.levels d h)
holds_levels d (Some (segment.Coc comp other)) shape h e = let same : other ≡ shape = cc in rw (sym same) (not_fewer other.levels d h)
holds_levels d (Some _) shape h e = absurd (cc)

pub levels_enough : (d : ℕ) (own main : List Segment) (comp : ℕ) (shape : Shape) → All (λ (x : Segment). has_fewer d x ≡ false) own → All (λ (x : Segment). has_fewer d x ≡ false) main
    → shape_of own main comp ≡ Some shape → d ≤ shape.levels
levels_enough d own main comp shape here there e =
    holds_levels d (chosen (261 + 3 * comp) 1 own main) shape
    (holds_or d (in_slot (261 + 3 * comp) own) _ (holds_slot d (261 + 3 * comp) own here)
    (holds_or d (in_slot 1 own) _ (holds_slot d 1 own here)
    (holds_or d (in_slot (261 + 3 * comp) main) (in_slot 1 main) (holds_slot d (261 + 3 * comp) main there) (holds_slot d 1 main there)))) e
