-- Coding a block anew keeps its coefficients.
use Rattle.std.proofs.Common.{◌≡◌, ℕ, zero, suc, ◌≤◌, List, inl, inr, ◌∙◌, ap, sym, subst, refl, arith, Some, None}
use Rattle.std.proofs.lemmas.Bool.{cases_eq}
use Rattle.jx_base.specs.declared.pieces.Block.{Block}
use Rattle.jx_base.specs.declared.style.Style.{Style}
use Rattle.jx_base.specs.Places.{length_of}
use Rattle.jx_base.specs.Sound.{IsSound}
use Rattle.jx_tier1_specs.specs.Cells.{Cells, HasSize}
use Rattle.jx_tier1_specs.specs.Reading.{Coding, decoded, read_from}
use Rattle.jx_tier1_specs.specs.Needs.{written}
use Rattle.jx_tier1_specs.specs.Alike.{HasPasses, AreAlike, AreOfOneBlock, EndsPlane}
use Rattle.jx_tier1_specs.proofs.PassBackLemmas.{refollowed}
use Rattle.jx_codeblock.specs.declared.LayerEnd.{LayerEnd}
use Rattle.jx_codeblock.specs.Jobs.{IsAsked}
use Rattle.jx_codeblock.specs.Laws.{KeepsFirst, decoded_first}
use Rattle.jx_codeblock.specs.Recoding.{Recoding, recoding, coding_in, decoded_in, own_segments, recoded_pieces}
use Rattle.jx_codeblock.specs.Segments.{segments_of}
use Rattle.jx_codeblock.proofs.AnewLemmas.{anew}
use Rattle.jx_codeblock.proofs.AnewParts.{anew_segments}

-- what the laws on coded passes say
pub record KeepsCells : Type 0 where
  pub alike : (width : ℕ) (height : ℕ) (c : Coding) (d : Coding) (segments : List (List ℕ)) (passes : ℕ) (first : ℕ) → first ≤ passes → HasPasses c passes → AreAlike c d
      → (decoded width height d (written d (decoded width height c segments passes).cells passes) first).cells ≡ (decoded width height c segments first).cells
  pub whole : (width : ℕ) (height : ℕ) (c : Coding) (d : Coding) (segments : List (List ℕ)) (passes : ℕ) (first : ℕ) → first ≤ passes → EndsPlane passes → EndsPlane first
      → HasPasses c passes → AreOfOneBlock c d
      → (decoded width height d (written d (decoded width height c segments passes).cells passes) first).cells ≡ (decoded width height c segments first).cells
  pub size : (width : ℕ) (height : ℕ) (c : Coding) (segments : List (List ℕ)) (passes : ℕ) → HasPasses c passes
      → ((decoded width height c segments passes).cells.width ≡ width) × ((decoded width height c segments passes).cells.height ≡ height)
  pub right : (c : Coding) (g : Cells) (passes : ℕ) (first : ℕ) → first ≤ passes → (decoded g.width g.height c (written c g passes) first).wrong ≡ None

pub has_passes : (b : Block) → IsSound b → 1 ≤ b.passes → HasPasses (coding_in b b.style.bits) b.passes
has_passes b sound some = record {
  some = omega (arith, sound.few);
  most = omega (arith, sound.planes);
  few = sound.few;
}

module _ (k : KeepsCells) (b : Block) (style : Style) (ends : List LayerEnd) (asked : IsAsked b (Some style) ends) where
  abbrev g : Cells
  g = (decoded_in b b.style.bits (own_segments b)).cells

  none_cells : b.passes ≡ 0 → (decoded_in b style.bits (anew b style)).cells ≡ g
  unfolding decoded read_from
  none_cells e = rw e refl

  same_cells : (decoded_in b style.bits (anew b style)).cells ≡ g
  same_cells = elim (cases_eq b.passes 0) [
    | inl none ↦ none_cells none
    | inr some ↦
        let has = has_passes b asked.sound (positive b.passes some) in
        elim asked.causal [
          | inl same ↦
              k.alike (length_of b.rect.x) (length_of b.rect.y) (coding_in b b.style.bits) (coding_in b style.bits) (own_segments b) b.passes b.passes (omega arith) has
              (record { band = refl; causal = same; planes = refl })
          | inr (inl none) ↦ none_cells none
          | inr (inr whole) ↦
              k.whole (length_of b.rect.x) (length_of b.rect.y) (coding_in b b.style.bits) (coding_in b style.bits) (own_segments b) b.passes b.passes (omega arith) whole whole has
              (record { band = refl; planes = refl })
        ]
  ]
    where
      positive : (n : ℕ) → (n ≡ 0 → ⊥) → 1 ≤ n
      positive zero ne = absurd (ne refl)
      positive (suc n) ne = omega arith

  none_wrong : b.passes ≡ 0 → (decoded_in b style.bits (anew b style)).wrong ≡ None
  unfolding decoded read_from
  none_wrong e = rw e refl

  same_right : (decoded_in b style.bits (anew b style)).wrong ≡ None
  same_right = elim (cases_eq b.passes 0) [
    | inl none ↦ none_wrong none
    | inr some ↦
        let s = k.size (length_of b.rect.x) (length_of b.rect.y) (coding_in b b.style.bits) (own_segments b) b.passes (has_passes b asked.sound (positive b.passes some)) in
        let d : Coding = coding_in b style.bits in
        let P : ℕ → Type 0 = λ w. (decoded w g.height d (anew b style) b.passes).wrong ≡ None in
        let Q : ℕ → Type 0 = λ v. (decoded (length_of b.rect.x) v d (anew b style) b.passes).wrong ≡ None in
        subst Q s.1 (subst P s.0 (k.right d g b.passes b.passes (omega arith)))
  ]
    where
      positive : (n : ℕ) → (n ≡ 0 → ⊥) → 1 ≤ n
      positive zero ne = absurd (ne refl)
      positive (suc n) ne = omega arith

  pub keeps_cells : (r : Recoding) → Some r ≡ recoding b (Some style) ends
      → (decoded_in b style.bits (segments_of style.bits b.passes (recoded_pieces r))).cells ≡ (decoded_in b b.style.bits (own_segments b)).cells
  keeps_cells r e = ap (λ (ss : List (List ℕ)). (decoded_in b style.bits ss).cells) (anew_segments b style ends r asked e) ∙ same_cells

  pub keeps_right : (r : Recoding) → Some r ≡ recoding b (Some style) ends
      → (decoded_in b style.bits (segments_of style.bits b.passes (recoded_pieces r))).wrong ≡ None
  keeps_right r e = ap (λ (ss : List (List ℕ)). (decoded_in b style.bits ss).wrong) (anew_segments b style ends r asked e) ∙ same_right

  -- the first passes
  none_first : (first : ℕ) → first ≡ 0 → (decoded_first b style.bits (anew b style) first).cells ≡ (decoded_first b b.style.bits (own_segments b) first).cells
  unfolding decoded read_from
  none_first first z = rw z refl

  first_cells : (first : ℕ) → first ≤ b.passes → KeepsFirst b style first → (decoded_first b style.bits (anew b style) first).cells ≡ (decoded_first b b.style.bits (own_segments b) first).cells
  first_cells first le keeps = elim (cases_eq b.passes 0) [
    | inl none ↦ let z : first ≡ 0 = omega arith in none_first first z
    | inr some ↦
        let has = has_passes b asked.sound (positive b.passes some) in
        elim keeps [
          | inl same ↦
              k.alike (length_of b.rect.x) (length_of b.rect.y) (coding_in b b.style.bits) (coding_in b style.bits) (own_segments b) b.passes first le has
              (record { band = refl; causal = same; planes = refl })
          | inr whole ↦
              k.whole (length_of b.rect.x) (length_of b.rect.y) (coding_in b b.style.bits) (coding_in b style.bits) (own_segments b) b.passes first le whole.0 whole.1 has
              (record { band = refl; planes = refl })
        ]
  ]
    where
      positive : (n : ℕ) → (n ≡ 0 → ⊥) → 1 ≤ n
      positive zero ne = absurd (ne refl)
      positive (suc n) ne = omega arith

  pub keeps_first : (r : Recoding) (first : ℕ) → Some r ≡ recoding b (Some style) ends → first ≤ b.passes → KeepsFirst b style first
      → (decoded_first b style.bits (segments_of style.bits b.passes (recoded_pieces r)) first).cells ≡ (decoded_first b b.style.bits (own_segments b) first).cells
  keeps_first r first e le keeps = ap (λ (ss : List (List ℕ)). (decoded_first b style.bits ss first).cells) (anew_segments b style ends r asked e) ∙ first_cells first le keeps

-- the coefficients of a block have its size
pub own_cells_size : (b : Block) → IsSound b → 1 ≤ b.passes
    → ((decoded_in b b.style.bits (own_segments b)).cells.width ≡ length_of b.rect.x) × ((decoded_in b b.style.bits (own_segments b)).cells.height ≡ length_of b.rect.y)
own_cells_size b sound some =
    let c : Coding = coding_in b b.style.bits in
    let r = refollowed (length_of b.rect.x) (length_of b.rect.y) c c (own_segments b) b.passes b.passes (omega arith) (has_passes b sound some) (record { band = refl; causal = refl; planes = refl }) in
    (r.width_is, r.height_is)

pub own_size : (b : Block) (g : Cells) → IsSound b → 1 ≤ b.passes → g ≡ (decoded_in b b.style.bits (own_segments b)).cells → HasSize g
own_size b g sound some e =
    let s = own_cells_size b sound some in
    subst (λ (v : Cells). HasSize v) (sym e) (record { wide = rw s.0 sound.size.most_wide; high = rw s.1 sound.size.most_high })
