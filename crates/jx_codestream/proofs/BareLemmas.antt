-- A tile whose header gives no parameter has those of the main header.
use Rattle.std.proofs.Common.{◌≡◌, ◌<◌, ◌+◌, ◌*◌, ◌==◌, ℕ, Bool, true, nat_lt, arith, List, [], ◌∷◌, map, refl, ap, Option, false, inl, inr}
use Rattle.std.specs.List.{find, flat_map, list_any, range_with_len}
use Rattle.std.specs.Option.{option_or}
use Rattle.std.proofs.lemmas.Bool.Decides.{nat_tests}
use Rattle.jx_marker.specs.declared.Segment.{Segment}
use Rattle.jx_geom.specs.declared.shape.CompShape.{CompShape}
use Rattle.jx_codestream.specs.Headers.{slot_of}
use Rattle.jx_codestream.specs.Tiles.{in_slot}
use Rattle.jx_codestream.specs.Index.{gives, has_giving, IsBare}
use Rattle.jx_codestream.specs.Params.{chosen, shape_of, quant_of, shift_of, cod_of, has_too_few, band_planes, header_has_too_few, header_planes, shape_in, quant_in, shift_in, cod_in}
use Rattle.std.proofs.lemmas.Bool.{cases_Bool, or_parts, eqb-true}

pub any_same : (f g : ℕ → Bool) (xs : List ℕ) → ((x : ℕ) → f x ≡ g x) → list_any f xs ≡ list_any g xs
any_same f g [] h = refl
any_same f g (x ∷ xs) h = rw (h x, any_same f g xs h) refl

pub flat_same : (f g : ℕ → List ℕ) (xs : List ℕ) → ((x : ℕ) → f x ≡ g x) → flat_map f xs ≡ flat_map g xs
flat_same f g [] h = refl
flat_same f g (x ∷ xs) h = rw (h x, flat_same f g xs h) refl

pub map_same : (f g : ℕ → CompShape) (xs : List ℕ) → ((x : ℕ) → f x ≡ g x) → map f xs ≡ map g xs
map_same f g [] h = refl
map_same f g (x ∷ xs) h = rw (h x, map_same f g xs h) refl

pub own_gives : (k comp : ℕ) → 260 < k → gives (k + 3 * comp) ≡ true
own_gives k comp h = grind (arith, nat_tests)

module _ (own : List Segment) (bare : IsBare own) where
  chosen_bare : (slot default : ℕ) (main : List Segment) → gives slot ≡ true → gives default ≡ true → chosen slot default own main ≡ chosen slot default [] main
  chosen_bare slot default main a b = rw (bare slot a, bare default b) refl

  pub shape_bare : (main : List Segment) (comp : ℕ) → shape_of own main comp ≡ shape_of [] main comp
  shape_bare main comp = ap shape_in (chosen_bare (261 + 3 * comp) 1 main (own_gives 261 comp (omega arith)) refl)

  pub quant_bare : (main : List Segment) (comp : ℕ) → quant_of own main comp ≡ quant_of [] main comp
  quant_bare main comp = ap quant_in (chosen_bare (262 + 3 * comp) 2 main (own_gives 262 comp (omega arith)) refl)

  pub shift_bare : (main : List Segment) (comp : ℕ) → shift_of own main comp ≡ shift_of [] main comp
  shift_bare main comp = ap (λ (x : Option Segment). shift_in (option_or x (in_slot (263 + 3 * comp) main))) (bare (263 + 3 * comp) (own_gives 263 comp (omega arith)))

  pub cod_bare : (main : List Segment) → cod_of own main ≡ cod_of [] main
  cod_bare main = ap (λ (x : Option Segment). cod_in (option_or x (in_slot 1 main))) (bare 1 refl)

  pub bare_too_few : (main : List Segment) (comps : ℕ) → header_has_too_few main comps own ≡ header_has_too_few main comps []
  bare_too_few main comps =
      any_same (λ (comp : ℕ). has_too_few (quant_of own main comp) (shape_of own main comp)) (λ (comp : ℕ). has_too_few (quant_of [] main comp) (shape_of [] main comp)) (range_with_len 0 comps)
      (λ comp. rw (quant_bare main comp, shape_bare main comp) refl)

  bare_planes : (main : List Segment) (comps : ℕ) → header_planes main comps own ≡ header_planes main comps []
  bare_planes main comps =
      flat_same (λ (comp : ℕ). band_planes (quant_of own main comp) (shape_of own main comp) (shift_of own main comp)) (λ (comp : ℕ). band_planes (quant_of [] main comp) (shape_of [] main comp) (shift_of [] main comp)) (range_with_len 0 comps)
      (λ comp. rw (quant_bare main comp, shape_bare main comp, shift_bare main comp) refl)

  pub bare_over : (main : List Segment) (comps : ℕ) → find (nat_lt 74) (header_planes main comps own) ≡ find (nat_lt 74) (header_planes main comps [])
  bare_over main comps = ap (λ (xs : List ℕ). find (nat_lt 74) xs) (bare_planes main comps)

-- a header without such a segment is bare

pub none_gives : (segments : List Segment) → has_giving segments ≡ false → IsBare segments
none_gives [] h slot gives = refl
none_gives (s ∷ ss) h slot given =
    let both = or_parts (gives (slot_of s)) (has_giving ss) h in
    elim (cases_Bool (slot_of s == slot)) [
      | inl t ↦ let same : gives (slot_of s) ≡ gives slot = ap gives (eqb-true (slot_of s) slot t) in absurd (cc)
      | inr f ↦ rw f (none_gives ss both.1 slot given)
    ]
