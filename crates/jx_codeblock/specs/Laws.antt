-- Pieces as packets cut them (ITU-T T.800, B.10.7), parts within bytes, and a block's first passes.
use Rattle.std.specs.Prelude.{◌≡◌, ◌⊎◌, ◌≤◌, ◌%◌, ℕ, ◌+◌, ◌-◌, ◌==◌, true, List, [], ◌∷◌, map, if◌then◌else◌}
use Rattle.std.specs.List.{filter}
use Rattle.jx_base.specs.declared.pieces.Block.{Block}
use Rattle.jx_base.specs.declared.style.Style.{Style}
use Rattle.jx_base.specs.Passes.{end_pass, is_causal}
use Rattle.jx_base.specs.Pieces.{PieceValue, passes_at, passes_below}
use Rattle.jx_base.specs.Places.{length_of}
use Rattle.jx_tier1_specs.specs.Reading.{Decoding, decoded}
use Rattle.jx_packet_header.specs.Parts.{cut}
use Rattle.jx_codeblock.specs.declared.LayerEnd.{LayerEnd}
use Rattle.jx_codeblock.specs.declared.LayerPart.{LayerPart}
use Rattle.jx_codeblock.specs.Recoding.{coding_in}

-- a piece that is followed by one of its own layer ends a segment
abbrev pub AreCutAtEnds : ℕ → List PieceValue → Type 0
AreCutAtEnds style [] = Unit {0}
AreCutAtEnds style (p ∷ []) = Unit {0}
AreCutAtEnds style (p ∷ q ∷ ps) = (p.layer ≡ q.layer → end_pass style (p.first + p.passes - 1) ≡ true) × AreCutAtEnds style (q ∷ ps)

-- how many passes are asked in a layer, after some passes
abbrev pub asked_at : ℕ → ℕ → List LayerEnd → ℕ
asked_at layer first [] = 0
asked_at layer first (e ∷ ends) = if e.layer == layer then e.passes - first else asked_at layer e.passes ends

-- in each layer the passes are cut into pieces exactly after each pass that ends a segment
abbrev pub AreCutInLayers : ℕ → List PieceValue → Type 0
AreCutInLayers style pieces =
    (layer : ℕ) → map (λ (p : PieceValue). p.passes) (filter (λ (p : PieceValue). p.layer == layer) pieces) ≡ cut style (passes_below layer pieces) (passes_at layer pieces)

-- a part of so many bytes
pub record IsWithin (length : ℕ) (p : LayerPart) : Type 0 where
  pub order : p.from ≤ p.to
  pub inside : p.to ≤ length

-- what a block's first passes decode to, from segments in a style
abbrev pub decoded_first : Block → ℕ → List (List ℕ) → ℕ → Decoding
decoded_first b style segments first = decoded (length_of b.rect.x) (length_of b.rect.y) (coding_in b style) segments first

-- where the first passes keep their coefficients too: the causal bit stays, or they are whole planes of whole planes (D.7)
abbrev pub KeepsFirst : Block → Style → ℕ → Type 0
KeepsFirst b style first = (is_causal style.bits ≡ is_causal b.style.bits) ⊎ ((b.passes % 3 ≡ 1) × (first % 3 ≡ 1))
