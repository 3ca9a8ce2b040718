-- A tile whose header has no COD and no QCD has the main header's parameters but for the components that its segments name.
use Rattle.std.proofs.Common.{◌≡◌, ◌<◌, ◌≤◌, ◌+◌, ◌*◌, ◌%◌, ◌==◌, ◌⊎◌, ℕ, Bool, true, false, nat_lt, arith, List, [], ◌∷◌, add-one, ap, drop, length, suc, get_or, refl, subst, sym, ◌∙◌, Option, Some, None, inl, inr}
use Rattle.std.specs.List.{find, flat_map, list_any, range_with_len}
use Rattle.std.specs.Option.{option_or, is_some}
use Rattle.std.proofs.lemmas.Bool.{cases_Bool, eqb-true, ne_eqb, or_parts}
use Rattle.std.proofs.Math.Nat.{mod-lt}
use Rattle.std.proofs.lemmas.Bool.Decides.{nat_tests}
use Rattle.std.proofs.lemmas.List.{drop_all}
use Rattle.std.proofs.lemmas.Option.{same_Some}
use Rattle.std.proofs.lemmas.List.Folds.{find-append}
use Rattle.std.proofs.Math.Seq.{drop-cons}
use Rattle.jx_marker.specs.declared.Segment.{Segment}
use Rattle.jx_marker.specs.declared.Segment.TheVariants as segment
use Rattle.jx_codestream.specs.Headers.{slot_of}
use Rattle.jx_codestream.specs.Tiles.{in_slot}
use Rattle.jx_codestream.specs.Index.{comp_named, has_default, has_named, is_comp, is_default}
use Rattle.jx_codestream.specs.Params.{band_planes, has_too_few, header_has_too_few, header_planes, quant_of, shape_of, shift_of}

-- a PPM or a PPT has a lower slot
packed_below : (index n : ℕ) → 260 < n → (5 + index % 256 == n) ≡ false
packed_below index n h = let low : index % 256 < 256 = mod-lt index (omega arith) in ne_eqb (5 + index % 256) n (λ e. absurd (omega arith))

packed_above : (index n : ℕ) → n < 5 → (5 + index % 256 == n) ≡ false
packed_above index n h = ne_eqb (5 + index % 256) n (λ e. absurd (omega (arith, e)))

-- a segment of another slot
other_slot : (s : Segment) (comp k n : ℕ) → is_comp comp (comp_named s) ≡ false → (260 < k) → (k < 264) → n ≡ k + 3 * comp → (slot_of s == n) ≡ false
other_slot (segment.Cod cod) comp k n i low high e = grind (arith, nat_tests)
other_slot (segment.Qcd quant) comp k n i low high e = grind (arith, nat_tests)
other_slot (segment.Coc c shape) comp k n i low high e = grind (arith, nat_tests)
other_slot (segment.Qcc c quant) comp k n i low high e = grind (arith, nat_tests)
other_slot (segment.Rgn c shift) comp k n i low high e = grind (arith, nat_tests)
other_slot (segment.Poc entries) comp k n i low high e = grind (arith, nat_tests)
other_slot (segment.Crg bytes) comp k n i low high e = grind (arith, nat_tests)
other_slot (segment.Ppm index bytes) comp k n i low high e = packed_below index n (omega arith)
other_slot (segment.Ppt index bytes) comp k n i low high e = packed_below index n (omega arith)
other_slot _ comp k n i low high e = grind (arith, nat_tests)

not_cod : (s : Segment) → is_default s ≡ false → (slot_of s == 1) ≡ false
not_cod (segment.Cod cod) h = absurd (cc)
not_cod (segment.Qcd quant) h = absurd (cc)
not_cod (segment.Coc c shape) h = grind (arith, nat_tests)
not_cod (segment.Qcc c quant) h = grind (arith, nat_tests)
not_cod (segment.Rgn c shift) h = grind (arith, nat_tests)
not_cod (segment.Ppm index bytes) h = packed_above index 1 (omega arith)
not_cod (segment.Ppt index bytes) h = packed_above index 1 (omega arith)
not_cod _ h = grind (arith, nat_tests)

not_qcd : (s : Segment) → is_default s ≡ false → (slot_of s == 2) ≡ false
not_qcd (segment.Cod cod) h = absurd (cc)
not_qcd (segment.Qcd quant) h = absurd (cc)
not_qcd (segment.Coc c shape) h = grind (arith, nat_tests)
not_qcd (segment.Qcc c quant) h = grind (arith, nat_tests)
not_qcd (segment.Rgn c shift) h = grind (arith, nat_tests)
not_qcd (segment.Ppm index bytes) h = packed_above index 2 (omega arith)
not_qcd (segment.Ppt index bytes) h = packed_above index 2 (omega arith)
not_qcd _ h = grind (arith, nat_tests)

no_default : (n : ℕ) (ss : List Segment) → ((s : Segment) → is_default s ≡ false → (slot_of s == n) ≡ false) → has_default ss ≡ false → in_slot n ss ≡ None
no_default n [] apart none = refl
no_default n (s ∷ ss) apart none =
    let both = or_parts (is_default s) (list_any is_default ss) none in
    rw (apart s both.0) (no_default n ss apart both.1)

pub no_own : (comp k : ℕ) (ss : List Segment) → 260 < k → k < 264 → has_named comp ss ≡ false → in_slot (k + 3 * comp) ss ≡ None
no_own comp k [] low high unnamed = refl
no_own comp k (s ∷ ss) low high unnamed =
    let named = or_parts (is_comp comp (comp_named s)) (has_named comp ss) unnamed in
    rw (other_slot s comp k (k + 3 * comp) named.0 low high refl) (no_own comp k ss low high named.1)

module _ (own main : List Segment) (comp : ℕ) (none : has_default own ≡ false) (unnamed : has_named comp own ≡ false) where
  spared_shape : shape_of own main comp ≡ shape_of [] main comp
  spared_shape = rw (no_own comp 261 own (omega arith) (omega arith) unnamed, no_default 1 own not_cod none) refl

  spared_quant : quant_of own main comp ≡ quant_of [] main comp
  spared_quant = rw (no_own comp 262 own (omega arith) (omega arith) unnamed, no_default 2 own not_qcd none) refl

  spared_shift : shift_of own main comp ≡ shift_of [] main comp
  spared_shift = rw (no_own comp 263 own (omega arith) (omega arith) unnamed) refl

-- where one test fails or is that of the other, none holds
any_alike : (f g : ℕ → Bool) (xs : List ℕ) → ((x : ℕ) → (f x ≡ false) ⊎ (f x ≡ g x)) → list_any g xs ≡ false → list_any f xs ≡ false
any_alike f g [] h none = refl
any_alike f g (x ∷ xs) h none =
    let both = or_parts (g x) (list_any g xs) none in
    let here : f x ≡ false = elim (h x) [ inl fails ↦ fails | inr same ↦ same ∙ both.0 ] in
    rw here (any_alike f g xs h both.1)

either_none : (x y : Option ℕ) → option_or x y ≡ None → (x ≡ None) × (y ≡ None)
either_none None y h = (refl, h)
either_none (Some n) y h = absurd (cc)

flat_alike : (p : ℕ → Bool) (f g : ℕ → List ℕ) (xs : List ℕ) → ((x : ℕ) → (find p (f x) ≡ None) ⊎ (f x ≡ g x)) → find p (flat_map g xs) ≡ None → find p (flat_map f xs) ≡ None
flat_alike p f g [] h none = refl
flat_alike p f g (x ∷ xs) h none =
    let both = either_none (find p (g x)) (find p (flat_map g xs)) (sym (find-append p (g x) (flat_map g xs)) ∙ none) in
    let here : find p (f x) ≡ None = elim (h x) [ inl fails ↦ fails | inr same ↦ ap (λ (ys : List ℕ). find p ys) same ∙ both.0 ] in
    find-append p (f x) (flat_map f xs) ∙ ap (λ (o : Option ℕ). option_or o (find p (flat_map f xs))) here ∙ flat_alike p f g xs h both.1

pub named_too_few : (own main : List Segment) (comps : ℕ) → header_has_too_few main comps [] ≡ false → has_default own ≡ false
    → ((comp : ℕ) → has_named comp own ≡ true → has_too_few (quant_of own main comp) (shape_of own main comp) ≡ false)
    → header_has_too_few main comps own ≡ false
named_too_few own main comps bare none tested =
    any_alike (λ (comp : ℕ). has_too_few (quant_of own main comp) (shape_of own main comp)) (λ (comp : ℕ). has_too_few (quant_of [] main comp) (shape_of [] main comp)) (range_with_len 0 comps)
    (λ comp. elim (cases_Bool (has_named comp own)) [
      | inl named ↦ inl (tested comp named)
      | inr spared ↦ inr (rw (spared_quant own main comp none spared, spared_shape own main comp none spared) refl)
    ])
    bare

pub named_over : (own main : List Segment) (comps : ℕ) → find (nat_lt 74) (header_planes main comps []) ≡ None → has_default own ≡ false
    → ((comp : ℕ) → has_named comp own ≡ true → find (nat_lt 74) (band_planes (quant_of own main comp) (shape_of own main comp) (shift_of own main comp)) ≡ None)
    → find (nat_lt 74) (header_planes main comps own) ≡ None
named_over own main comps bare none tested =
    flat_alike (nat_lt 74) (λ (comp : ℕ). band_planes (quant_of own main comp) (shape_of own main comp) (shift_of own main comp)) (λ (comp : ℕ). band_planes (quant_of [] main comp) (shape_of [] main comp) (shift_of [] main comp)) (range_with_len 0 comps)
    (λ comp. elim (cases_Bool (has_named comp own)) [
      | inl named ↦ inl (tested comp named)
      | inr spared ↦ inr (rw (spared_quant own main comp none spared, spared_shape own main comp none spared, spared_shift own main comp none spared) refl)
    ])
    bare

is_named : (comp : ℕ) (o : Option ℕ) → is_comp comp o ≡ true → o ≡ Some comp
is_named comp None h = absurd (cc)
is_named comp (Some n) h = ap (λ (m : ℕ). Some m) (eqb-true n comp h)

named_front : (P : ℕ → Type 0) (s : Segment) (rest : List Segment) (comp : ℕ) → ((named : ℕ) → comp_named s ≡ Some named → P named)
    → has_named comp (s ∷ rest) ≡ true → (has_named comp rest ≡ true) ⊎ P comp
named_front P s rest comp here h = elim (cases_Bool (is_comp comp (comp_named s))) [
  | inl is ↦ inr (here comp (is_named comp (comp_named s) is))
  | inr other ↦ inl (rw other at h)
]

-- the segments one by one: a component that is named by those from one on is named by it, or by those behind it
pub named_on : (P : ℕ → Type 0) (segments : List Segment) (i : ℕ) (s : Segment) → i < length segments → s ≡ get_or segments i s
    → ((named : ℕ) → comp_named s ≡ Some named → P named)
    → ((comp : ℕ) → has_named comp segments ≡ true → (has_named comp (drop i segments) ≡ true) ⊎ P comp)
    → (comp : ℕ) → has_named comp segments ≡ true → (has_named comp (drop (i + 1) segments) ≡ true) ⊎ P comp
named_on P segments i s lt is here before comp h =
    let split : drop i segments ≡ s ∷ drop (i + 1) segments =
    drop-cons segments i s lt ∙ ap (λ (x : Segment). x ∷ drop (suc i) segments) (sym is) ∙ ap (λ (n : ℕ). s ∷ drop n segments) (sym (add-one i)) in
    elim (before comp h) [
      | inr done ↦ inr done
      | inl left ↦ named_front P s (drop (i + 1) segments) comp here (sym (ap (λ (ss : List Segment). has_named comp ss) split) ∙ left)
    ]

pub none_left : (segments : List Segment) (i comp : ℕ) (P : Type 0) → length segments ≤ i → (has_named comp (drop i segments) ≡ true) ⊎ P → P
none_left segments i comp P le (inr done) = done
none_left segments i comp P le (inl left) =
    let empty : drop i segments ≡ [] = drop_all i segments le in
    let no : false ≡ true = sym (ap (λ (ss : List Segment). has_named comp ss) empty) ∙ left in
    absurd (cc)

pub named_some : (P : ℕ → Type 0) (o : Option ℕ) (s : Segment) (comp : ℕ) → o ≡ comp_named s → o ≡ Some comp → P comp → (named : ℕ) → comp_named s ≡ Some named → P named
named_some P o s comp e is p named h = subst P (same_Some comp named (sym is ∙ e ∙ h)) p

pub named_none : (P : ℕ → Type 0) (o : Option ℕ) (s : Segment) → o ≡ comp_named s → o ≡ None → (named : ℕ) → comp_named s ≡ Some named → P named
named_none P o s e is named h = let no : None ≡ Some named = sym is ∙ e ∙ h in absurd (cc)

pub not_some : (o : Option ℕ) → is_some o ≡ false → o ≡ None
not_some None h = refl
not_some (Some n) h = absurd (cc)

-- the same with the header as it is indexed
pub over_named : (own header main : List Segment) (comps : ℕ) (bare : Option ℕ) → own ≡ header → bare ≡ find (nat_lt 74) (header_planes main comps []) → bare ≡ None → has_default header ≡ false
    → ((comp : ℕ) → has_named comp header ≡ true → find (nat_lt 74) (band_planes (quant_of own main comp) (shape_of own main comp) (shift_of own main comp)) ≡ None)
    → None ≡ find (nat_lt 74) (header_planes main comps header)
over_named own header main comps bare same is none default tested =
    let P : List Segment → Type 0 = λ x. (comp : ℕ) → has_named comp header ≡ true → find (nat_lt 74) (band_planes (quant_of x main comp) (shape_of x main comp) (shift_of x main comp)) ≡ None in
    sym (named_over header main comps (sym is ∙ none) default (subst P same tested))
