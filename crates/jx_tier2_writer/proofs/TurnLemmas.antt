-- The tile-parts of a tile in turn, after those of other tiles: none of the rules 20 and 21 is violated, and each has its length.
use Rattle.std.proofs.Common.{◌≡◌, ◌∙◌, ◌<◌, ◌+◌, ◌^◌, ◌==◌, ◌&&◌, ◌||◌, not, nat_lt, nat_le, ℕ, suc, Bool, true, false, arith, List, [], ◌∷◌, ◌++◌, length, refl, sym, ap, subst, inl, inr, append-nil, append_assoc, length-append}
use Rattle.std.specs.List.{flat_map}
use Rattle.std.proofs.lemmas.Bool.{cases_Bool, eqb-true, or_parts}
use Rattle.std.proofs.lemmas.Bool.Decides.{nat_tests}
use Rattle.std.proofs.lemmas.List.Elements.{filter-append}
use Rattle.jx_marker.specs.declared.Sot.{Sot}
use Rattle.jx_codestream.specs.declared.parts.PlacedPart.{PlacedPart}
use Rattle.jx_codestream.specs.Parts.{kind_of, parts_of, told_other, is_out_of_turn, comes_out_of_turn}
use Rattle.jx_codestream.specs.Spells.{TilePart, part_bytes, part_of, placed, AreSegments, IsTilePart, AreTileParts}

-- a tile-part of a tile that has so many, with its number among them, behind a main header without PPM
pub record IsOf (comps t count part : ℕ) (p : TilePart) : Type 0 where
  pub tile : p.sot.tile ≡ t
  pub part_is : p.sot.part ≡ part
  pub parts : p.sot.parts ≡ count
  pub header : AreSegments (kind_of false p.sot) comps [] p.header
  pub long : p.sot.psot ≡ length (part_bytes comps p)
  pub short : p.sot.psot < 2 ^ 32

-- those from a number on
abbrev pub AreOf : ℕ → ℕ → ℕ → ℕ → List TilePart → Type 0
AreOf comps t count part [] = Unit {0}
AreOf comps t count part (p ∷ ps) = IsOf comps t count part p × AreOf comps t count (part + 1) ps

-- tile-parts from a place on, after others and behind a main header without PPM, each with its length in Psot
abbrev pub AreExact : ℕ → ℕ → List PlacedPart → ℕ → List TilePart → Type 0
AreExact comps tiles before at [] = Unit {0}
AreExact comps tiles before at (p ∷ ps) = IsTilePart false comps tiles before p × (p.sot.psot ≡ length (part_bytes comps p))
    × AreExact comps tiles (before ++ part_of comps at p ∷ []) (at + length (part_bytes comps p)) ps

pub exact_parts : (comps tiles : ℕ) (rest : List ℕ) (before : List PlacedPart) (at : ℕ) (ps : List TilePart) → AreExact comps tiles before at ps → AreTileParts false comps tiles rest before at ps
exact_parts comps tiles rest before at [] h = tt
exact_parts comps tiles rest before at (p ∷ ps) h =
    (h.0, inl h.1, exact_parts comps tiles rest (before ++ part_of comps at p ∷ []) (at + length (part_bytes comps p)) ps h.2)

-- ---- tile-parts after others
abbrev pub after_parts : ℕ → ℕ → List TilePart → ℕ
after_parts comps at ps = at + length (flat_map (part_bytes comps) ps)

after_one : (comps at : ℕ) (p : TilePart) (ps : List TilePart) → after_parts comps (at + length (part_bytes comps p)) ps ≡ after_parts comps at (p ∷ ps)
after_one comps at p ps = omega (arith, length-append (part_bytes comps p) (flat_map (part_bytes comps) ps))

pub placed_on : (comps at : ℕ) (xs ys : List TilePart) → placed comps at (xs ++ ys) ≡ placed comps at xs ++ placed comps (after_parts comps at xs) ys
placed_on comps at [] ys = let e : at ≡ at + 0 = omega arith in ap (λ (n : ℕ). placed comps n ys) e
placed_on comps at (x ∷ xs) ys =
    ap (λ (z : List PlacedPart). part_of comps at x ∷ z) (placed_on comps (at + length (part_bytes comps x)) xs ys
    ∙ ap (λ (n : ℕ). placed comps (at + length (part_bytes comps x)) xs ++ placed comps n ys) (after_one comps at x xs))

pub placed_long : (comps at : ℕ) (ps : List TilePart) → length (placed comps at ps) ≡ length ps
placed_long comps at [] = refl
placed_long comps at (p ∷ ps) = ap suc (placed_long comps (at + length (part_bytes comps p)) ps)

pub exact_on : (comps tiles : ℕ) (before : List PlacedPart) (at : ℕ) (xs ys : List TilePart) → AreExact comps tiles before at xs
    → AreExact comps tiles (before ++ placed comps at xs) (after_parts comps at xs) ys → AreExact comps tiles before at (xs ++ ys)
exact_on comps tiles before at [] ys a b =
    let e : at + 0 ≡ at = omega arith in
    let P : List PlacedPart → Type 0 = λ z. AreExact comps tiles z (at + 0) ys in
    let Q : ℕ → Type 0 = λ n. AreExact comps tiles before n ys in
    subst Q e (subst P (append-nil before) b)
exact_on comps tiles before at (x ∷ xs) ys a b =
    let next : ℕ = at + length (part_bytes comps x) in
    let P : List PlacedPart → Type 0 = λ z. AreExact comps tiles z (after_parts comps at (x ∷ xs)) ys in
    let Q : ℕ → Type 0 = λ n. AreExact comps tiles ((before ++ part_of comps at x ∷ []) ++ placed comps next xs) n ys in
    let same : before ++ placed comps at (x ∷ xs) ≡ (before ++ part_of comps at x ∷ []) ++ placed comps next xs = sym (append_assoc before (part_of comps at x ∷ []) (placed comps next xs)) in
    let there : after_parts comps at (x ∷ xs) ≡ after_parts comps next xs = sym (after_one comps at x xs) in
    (a.0, a.1, exact_on comps tiles (before ++ part_of comps at x ∷ []) next xs ys a.2 (subst Q there (subst P same b)))

-- ---- those of one tile
same_tile : (p : PlacedPart) (t : ℕ) (parts : List PlacedPart) → p.sot.tile ≡ t → parts_of t (p ∷ parts) ≡ p ∷ parts_of t parts
same_tile p t parts e = rw (is_same p.sot.tile t e) refl
  where
    is_same : (a b : ℕ) → a ≡ b → (a == b) ≡ true
    is_same a b h = grind (arith, nat_tests)

other_tile : (p : PlacedPart) (t : ℕ) (parts : List PlacedPart) → (p.sot.tile ≡ t → ⊥) → parts_of t (p ∷ parts) ≡ parts_of t parts
other_tile p t parts e = elim (cases_Bool (p.sot.tile == t)) [
  | inl same ↦ absurd (e (eqb-true p.sot.tile t same))
  | inr f ↦ rw f refl
]

pub own_kept : (comps t count part at : ℕ) (ps : List TilePart) → AreOf comps t count part ps → parts_of t (placed comps at ps) ≡ placed comps at ps
own_kept comps t count part at [] h = refl
own_kept comps t count part at (p ∷ ps) h =
    same_tile (part_of comps at p) t (placed comps (at + length (part_bytes comps p)) ps) h.0.tile
    ∙ ap (λ (z : List PlacedPart). part_of comps at p ∷ z) (own_kept comps t count (part + 1) (at + length (part_bytes comps p)) ps h.1)

pub others_gone : (comps t u count part at : ℕ) (ps : List TilePart) → AreOf comps u count part ps → (u ≡ t → ⊥) → parts_of t (placed comps at ps) ≡ []
others_gone comps t u count part at [] h apart = refl
others_gone comps t u count part at (p ∷ ps) h apart =
    other_tile (part_of comps at p) t (placed comps (at + length (part_bytes comps p)) ps) (λ e. apart (sym h.0.tile ∙ e))
    ∙ others_gone comps t u count (part + 1) (at + length (part_bytes comps p)) ps h.1 apart

-- ---- in turn
in_turn : (sot : Sot) (k count : ℕ) (other : Bool) → sot.part ≡ k → sot.parts ≡ count → k < count → other ≡ false → is_out_of_turn sot k other ≡ false
in_turn sot k count other a b lt none = turn_numbers sot.part k sot.parts other a (omega arith) none
  where
    turn_numbers : (part k parts : ℕ) (other : Bool) → part ≡ k → k < parts → other ≡ false → (not (part == k) || (nat_lt 0 parts && (nat_le parts part || other))) ≡ false
    turn_numbers part k parts other a lt none = grind (arith, nat_tests)

told_same : (count : ℕ) (xs : List PlacedPart) (p : PlacedPart) → told_other count xs ≡ false → p.sot.parts ≡ count → told_other count (xs ++ p ∷ []) ≡ false
told_same count [] p h e = none_told p.sot.parts count e
  where
    none_told : (a b : ℕ) → a ≡ b → (nat_lt 0 a && not (a == b) || false) ≡ false
    none_told a b h = grind (arith, nat_tests)
told_same count (x ∷ xs) p h e =
    let both = or_parts (nat_lt 0 x.sot.parts && not (x.sot.parts == count)) (told_other count xs) h in
    rw both.0 (told_same count xs p both.1 e)

-- the tile-parts of a tile from one on, after those before it
pub in_order : (comps tiles t count part : ℕ) (before : List PlacedPart) (at : ℕ) (ps : List TilePart) → t < tiles → t < 2 ^ 16 → count < 256 → part + length ps ≡ count
    → length (parts_of t before) ≡ part → told_other count (parts_of t before) ≡ false → AreOf comps t count part ps → AreExact comps tiles before at ps
in_order comps tiles t count part before at [] inside low few size all told are = tt
in_order comps tiles t count part before at (p ∷ ps) inside low few size all told are =
    let here : PlacedPart = part_of comps at p in
    let less : part < count = omega arith in
    let more : parts_of t (before ++ here ∷ []) ≡ parts_of t before ++ here ∷ [] =
    filter-append (λ (q : PlacedPart). q.sot.tile == t) before (here ∷ []) ∙ ap (λ (z : List PlacedPart). parts_of t before ++ z) (same_tile here t [] are.0.tile) in
    let count_more : length (parts_of t (before ++ here ∷ [])) ≡ part + 1 = ap (λ (z : List PlacedPart). length z) more ∙ omega (arith, length-append (parts_of t before) (here ∷ []), all) in
    let told_more : told_other count (parts_of t (before ++ here ∷ [])) ≡ false = ap (λ (z : List PlacedPart). told_other count z) more ∙ told_same count (parts_of t before) here told are.0.parts in
    let turn : comes_out_of_turn before p.sot ≡ false =
    ap (λ (n : ℕ). is_out_of_turn p.sot (length (parts_of n before)) (told_other p.sot.parts (parts_of n before))) are.0.tile
    ∙ ap (λ (n : ℕ). is_out_of_turn p.sot n (told_other p.sot.parts (parts_of t before))) all
    ∙ ap (λ (n : ℕ). is_out_of_turn p.sot part (told_other n (parts_of t before))) are.0.parts
    ∙ in_turn p.sot part count (told_other count (parts_of t before)) are.0.part_is are.0.parts less told in (
      record {
        range = record { tile = omega (arith, are.0.tile); psot = are.0.short; part = omega (arith, are.0.part_is); parts = omega (arith, are.0.parts) };
        header = are.0.header;
        tile = omega (arith, are.0.tile);
        turn = turn;
      },
      are.0.long,
      in_order comps tiles t count (part + 1) (before ++ here ∷ []) (at + length (part_bytes comps p)) ps inside low few (omega arith) count_more told_more are.1,
    )
