-- All tiles in order, each with its tile-parts: where those of a tile stand among all.
use Rattle.std.proofs.Common.{◌≡◌, ◌∙◌, ◌<◌, ◌≤◌, ◌+◌, ◌^◌, ◌==◌, ℕ, zero, suc, Bool, false, add-one, arith, List, [], ◌++◌, length, drop, refl, sym, ap, subst, inl, inr, append-nil, append_assoc, length-append}
use Rattle.std.specs.List.{flat_map, list_any, range_with_len}
use Rattle.std.proofs.lemmas.Bool.{cases_lt}
use Rattle.std.proofs.lemmas.Bool.Decides.{nat_tests}
use Rattle.std.proofs.lemmas.Grind.{flat_map-append}
use Rattle.std.proofs.lemmas.List.Elements.{filter-append}
use Rattle.jx_base.specs.Joined.{joined}
use Rattle.jx_base.proofs.Joined.{joined_next, joined_none}
use Rattle.jx_codestream.specs.declared.parts.PlacedPart.{PlacedPart}
use Rattle.jx_codestream.specs.First.{lacks_part}
use Rattle.jx_codestream.specs.Parts.{parts_of}
use Rattle.jx_codestream.specs.Spells.{TilePart, part_bytes, placed}
use Rattle.jx_codestream.proofs.OneLemmas.{drop_on}
use Rattle.jx_tier2_writer.proofs.TurnLemmas.{AreOf, AreExact, after_parts, exact_on, in_order, others_gone, own_kept, placed_long, placed_on}

next_is : {X : Type 0} (f : ℕ → List X) (n : ℕ) → joined f 0 (suc n) ≡ joined f 0 n ++ f n
next_is f n = let next : joined f 0 (n + 1) ≡ joined f 0 n ++ f n = joined_next f 0 n (omega arith) in rw add-one at next

none_is : {X : Type 0} (f : ℕ → List X) → joined f 0 0 ≡ []
none_is f = joined_none f 0 0 (omega arith)

none_any : (p : ℕ → Bool) (a n : ℕ) → ((i : ℕ) → i < a + n → p i ≡ false) → list_any p (range_with_len a n) ≡ false
none_any p a zero h = refl
none_any p a (suc n) h = let first : p a ≡ false = h a (omega arith) in rw first (none_any p (a + 1) n (λ i lt. h i (omega (arith, lt))))

-- each tile below a number has tile-parts of its own, from 0 on
abbrev pub AllOf : ℕ → (ℕ → List TilePart) → ℕ → Type 0
AllOf comps f n = (t : ℕ) → t < n → AreOf comps t (length (f t)) 0 (f t)

-- where those of a tile begin
abbrev pub place_of : ℕ → (ℕ → List TilePart) → ℕ → ℕ → ℕ
place_of comps f at t = after_parts comps at (joined f 0 t)

module _ (comps : ℕ) (f : ℕ → List TilePart) where
  placed_next : (at n : ℕ) → placed comps at (joined f 0 (suc n)) ≡ placed comps at (joined f 0 n) ++ placed comps (place_of comps f at n) (f n)
  placed_next at n = ap (λ (z : List TilePart). placed comps at z) (next_is f n) ∙ placed_on comps at (joined f 0 n) (f n)

  parts_next : (t at n : ℕ) → parts_of t (placed comps at (joined f 0 (suc n)))
      ≡ parts_of t (placed comps at (joined f 0 n)) ++ parts_of t (placed comps (place_of comps f at n) (f n))
  parts_next t at n = ap (λ (z : List PlacedPart). parts_of t z) (placed_next at n) ∙ filter-append (λ (q : PlacedPart). q.sot.tile == t) (placed comps at (joined f 0 n)) (placed comps (place_of comps f at n) (f n))

  pub parts_none : (t at n : ℕ) → n ≤ t → AllOf comps f n → parts_of t (placed comps at (joined f 0 n)) ≡ []
  parts_none t at zero le all = ap (λ (z : List TilePart). parts_of t (placed comps at z)) (none_is f)
  parts_none t at (suc n) le all =
      let before : parts_of t (placed comps at (joined f 0 n)) ≡ [] = parts_none t at n (omega arith) (λ u lt. all u (omega arith)) in
      let here : parts_of t (placed comps (place_of comps f at n) (f n)) ≡ [] = others_gone comps t n (length (f n)) 0 (place_of comps f at n) (f n) (all n (omega arith)) (λ e. omega (arith, e)) in
      parts_next t at n ∙ ap (λ (z : List PlacedPart). z ++ parts_of t (placed comps (place_of comps f at n) (f n))) before ∙ here

  pub parts_here : (t at n : ℕ) → t < n → AllOf comps f n → parts_of t (placed comps at (joined f 0 n)) ≡ placed comps (place_of comps f at t) (f t)
  parts_here t at zero lt all = absurd (omega arith)
  parts_here t at (suc n) lt all = elim (cases_lt t n) [
    | inl less ↦
        let before : parts_of t (placed comps at (joined f 0 n)) ≡ placed comps (place_of comps f at t) (f t) = parts_here t at n less (λ u lt. all u (omega arith)) in
        let here : parts_of t (placed comps (place_of comps f at n) (f n)) ≡ [] = others_gone comps t n (length (f n)) 0 (place_of comps f at n) (f n) (all n (omega arith)) (λ e. omega (arith, e, less)) in
        parts_next t at n ∙ ap (λ (z : List PlacedPart). parts_of t (placed comps at (joined f 0 n)) ++ z) here ∙ append-nil (parts_of t (placed comps at (joined f 0 n))) ∙ before
    | inr last ↦
        let same : t ≡ n = omega arith in
        let before : parts_of n (placed comps at (joined f 0 n)) ≡ [] = parts_none n at n (omega arith) (λ u lt. all u (omega arith)) in
        let here : parts_of n (placed comps (place_of comps f at n) (f n)) ≡ placed comps (place_of comps f at n) (f n) = own_kept comps n (length (f n)) 0 (place_of comps f at n) (f n) (all n (omega arith)) in
        let P : ℕ → Type 0 = λ u. parts_of u (placed comps at (joined f 0 (suc n))) ≡ placed comps (place_of comps f at u) (f u) in
        subst P (sym same) (parts_next n at n ∙ ap (λ (z : List PlacedPart). z ++ parts_of n (placed comps (place_of comps f at n) (f n))) before ∙ here)
  ]

  -- no rule is violated among them
  pub exact_all : (tiles at n : ℕ) → n ≤ tiles → tiles < 2 ^ 16 → AllOf comps f n → ((t : ℕ) → t < n → length (f t) < 256) → AreExact comps tiles [] at (joined f 0 n)
  exact_all tiles at zero le low all few =
      let P : List TilePart → Type 0 = λ z. AreExact comps tiles [] at z in
      subst P (sym (none_is f)) tt
  exact_all tiles at (suc n) le low all few =
      let P : List TilePart → Type 0 = λ z. AreExact comps tiles [] at z in
      let none : parts_of n (placed comps at (joined f 0 n)) ≡ [] = parts_none n at n (omega arith) (λ u lt. all u (omega arith)) in
      let length_none : length (parts_of n (placed comps at (joined f 0 n))) ≡ 0 = rw none refl in
      subst P (sym (next_is f n)) (exact_on comps tiles [] at (joined f 0 n) (f n) (exact_all tiles at n (omega arith) low (λ u lt. all u (omega arith)) (λ u lt. few u (omega arith)))
      (in_order comps tiles n (length (f n)) 0 (placed comps at (joined f 0 n)) (place_of comps f at n) (f n) (omega arith) (omega arith) (few n (omega arith)) (omega arith) length_none (rw none refl) (all n (omega arith))))

  -- each tile has one
  pub none_lacks : (at n : ℕ) → AllOf comps f n → ((t : ℕ) → t < n → 0 < length (f t)) → lacks_part (placed comps at (joined f 0 n)) n ≡ false
  none_lacks at n all some =
      none_any (λ (tile : ℕ). length (parts_of tile (placed comps at (joined f 0 n))) == 0) 0 n
      (λ (t : ℕ) (within : t < 0 + n). (let lt : t < n = omega (arith, within) in not_none (length (parts_of t (placed comps at (joined f 0 n)))) (omega (arith, ap (λ (z : List PlacedPart). length z) (parts_here t at n lt all), placed_long comps (place_of comps f at t) (f t), some t lt))))
    where
      not_none : (k : ℕ) → 0 < k → (k == 0) ≡ false
      not_none k h = grind (arith, nat_tests)

  pub some_part : (n : ℕ) → 0 < n → ((t : ℕ) → t < n → 0 < length (f t)) → 0 < length (joined f 0 n)
  some_part zero h some = absurd (omega arith)
  some_part (suc n) h some = omega (arith, ap (λ (z : List TilePart). length z) (next_is f n), length-append (joined f 0 n) (f n), some n (omega arith))

  -- the bytes of a tile's tile-parts stand at their place
  pub tile_bytes : (b : List ℕ) (at n : ℕ) (more : List ℕ) → drop at b ≡ flat_map (part_bytes comps) (joined f 0 n) ++ more
      → (t : ℕ) → t < n → (rest : List ℕ) × (drop (place_of comps f at t) b ≡ flat_map (part_bytes comps) (f t) ++ rest)
  tile_bytes b at zero more h t lt = absurd (omega arith)
  tile_bytes b at (suc n) more h t lt =
      let split : drop at b ≡ flat_map (part_bytes comps) (joined f 0 n) ++ (flat_map (part_bytes comps) (f n) ++ more) =
      h ∙ ap (λ (z : List TilePart). flat_map (part_bytes comps) z ++ more) (next_is f n)
      ∙ ap (λ (z : List ℕ). z ++ more) (flat_map-append (part_bytes comps) (joined f 0 n) (f n))
      ∙ append_assoc (flat_map (part_bytes comps) (joined f 0 n)) (flat_map (part_bytes comps) (f n)) more in
      elim (cases_lt t n) [
        | inl less ↦ tile_bytes b at n (flat_map (part_bytes comps) (f n) ++ more) split t less
        | inr last ↦
            let same : n ≡ t = omega arith in
            let P : ℕ → Type 0 = λ u. drop (place_of comps f at u) b ≡ flat_map (part_bytes comps) (f u) ++ more in
            (more, subst P same (drop_on b at (length (flat_map (part_bytes comps) (joined f 0 n))) (flat_map (part_bytes comps) (joined f 0 n)) (flat_map (part_bytes comps) (f n) ++ more) split refl))
      ]
