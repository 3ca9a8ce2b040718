-- Tiles from their drafts.
use Rattle.std.proofs.Common.{◌≡◌, ◌∙◌, ◌<◌, ◌+◌, ℕ, arith, List, [], ◌∷◌, ◌++◌, length, get_or, refl, sym, ap, subst, false, None, ◌⊎◌, inl, inr}
use Rattle.std.proofs.lemmas.List.{get_or_append_left, length-append}
use Rattle.std.proofs.Math.Seq.{get_or-append_seam}
use Rattle.std.proofs.lemmas.List.FromFn.{fill_by_all}
use Rattle.jx_marker.specs.declared.Segment.{Segment}
use Rattle.jx_codestream.specs.declared.parts.PlacedPart.{PlacedPart}
use Rattle.jx_codestream.specs.declared.tiles.Draft.{Draft}
use Rattle.jx_codestream.specs.declared.Tile.{Tile}
use Rattle.jx_codestream.specs.Parts.{parts_of}
use Rattle.jx_codestream.specs.Tiles.{Collects, tile_from, tile_of, tiles_of}

-- the tile is made of the draft
abbrev pub Finishes : List Segment → Draft → Tile → Type 0
Finishes main draft tile = (own : List PlacedPart) → Collects own draft → tile ≡ tile_from main own

before_or_last : (k n : ℕ) → k < n + 1 → (k < n) ⊎ (k ≡ n)
before_or_last k n h = grind arith

-- one draft more without tile-parts
pub empties_more : (drafts items : List Draft) (draft : Draft) → items ≡ drafts ++ draft ∷ [] → Collects [] draft
    → ((k : ℕ) (other : Draft) → k < length drafts → Collects [] (get_or drafts k other))
    → (k : ℕ) (other : Draft) → k < length items → Collects [] (get_or items k other)
empties_more drafts items draft all empty before k other inside =
    let size : length items ≡ length drafts + 1 = ap (λ (x : List Draft). length x) all ∙ length-append drafts (draft ∷ []) in
    let below : k < length drafts + 1 = omega (arith, size) in
    let P : Draft → Type 0 = λ d. Collects [] d in
    let here : get_or items k other ≡ get_or (drafts ++ draft ∷ []) k other = ap (λ (x : List Draft). get_or x k other) all in
    elim (before_or_last k (length drafts) below) [
      | inl lower ↦ subst P (sym (here ∙ get_or_append_left drafts (draft ∷ []) other k lower)) (before k other lower)
      | inr last ↦ subst P (sym (here ∙ ap (λ (n : ℕ). get_or (drafts ++ draft ∷ []) n other) last ∙ get_or-append_seam drafts draft [] other)) empty
    ]

pub finishes_more : (main : List Segment) (drafts : List Draft) (tiles items : List Tile) (draft : Draft) (tile : Tile) → length tiles ≡ length drafts → items ≡ tiles ++ tile ∷ []
    → ((k : ℕ) (other : Draft) (another : Tile) (own : List PlacedPart) → k < length drafts → Collects own (get_or drafts k other) → get_or tiles k another ≡ tile_from main own)
    → Finishes main draft tile
    → (k : ℕ) (other : Draft) (another : Tile) (own : List PlacedPart) → k < length (drafts ++ draft ∷ []) → Collects own (get_or (drafts ++ draft ∷ []) k other) → get_or items k another ≡ tile_from main own
finishes_more main drafts tiles items draft tile size all before now k other another own inside collects =
    let below : k < length drafts + 1 = omega (arith, length-append drafts (draft ∷ [])) in
    elim (before_or_last k (length drafts) below) [
      | inl lower ↦
          let lower_tile : k < length tiles = omega arith in
          let same : Collects own (get_or drafts k other) = subst (λ (d : Draft). Collects own d) (get_or_append_left drafts (draft ∷ []) other k lower) collects in
          ap (λ (x : List Tile). get_or x k another) all ∙ get_or_append_left tiles (tile ∷ []) another k lower_tile ∙ before k other another own lower same
      | inr last ↦
          let at : get_or (drafts ++ draft ∷ []) k other ≡ draft = ap (λ (n : ℕ). get_or (drafts ++ draft ∷ []) n other) last ∙ get_or-append_seam drafts draft [] other in
          let same : Collects own draft = subst (λ (d : Draft). Collects own d) at collects in
          ap (λ (x : List Tile). get_or x k another) all ∙ ap (λ (n : ℕ). get_or (tiles ++ tile ∷ []) n another) (last ∙ sym size) ∙ get_or-append_seam tiles tile [] another ∙ now own same
    ]

tile_of_is : (main : List Segment) (parts : List PlacedPart) (tile : ℕ) → tile_from main (parts_of tile parts) ≡ tile_of main parts tile
unfolding tile_of
tile_of_is main parts tile = refl

-- where the drafts have each its own tile-parts the tiles are those of the tile-parts
pub tiles_are : (main : List Segment) (parts : List PlacedPart) (count : ℕ) (drafts : List Draft) (tiles : List Tile) → length drafts ≡ count → length tiles ≡ length drafts
    → ((tile : ℕ) (other : Draft) → tile < count → Collects (parts_of tile parts) (get_or drafts tile other))
    → ((k : ℕ) (other : Draft) (another : Tile) (own : List PlacedPart) → k < length drafts → Collects own (get_or drafts k other) → get_or tiles k another ≡ tile_from main own)
    → tiles ≡ tiles_of main parts count
tiles_are main parts count [] tiles size same collected finished =
    let some : Tile = record { place = 0; header = []; notes = []; has_plt = false; progressions = []; heads = None; bodies = [] } in
    fill_by_all (tile_of main parts) tiles count some (same ∙ size) (λ k inside. absurd (omega arith))
tiles_are main parts count (first ∷ later) tiles size same collected finished =
    let some : Tile = record { place = 0; header = []; notes = []; has_plt = false; progressions = []; heads = None; bodies = [] } in
    fill_by_all (tile_of main parts) tiles count some (same ∙ size)
    (λ k inside. let within : k < length (first ∷ later) = omega (arith, size) in
    finished k first some (parts_of k parts) within (collected k first inside) ∙ tile_of_is main parts k)
