-- What a decoder makes of a code-block's first layers: of its pieces in the layers below one, each pass over the bytes that are there
-- (ITU-T T.800, B.10 and Annex D).
use Rattle.std.specs.Prelude.{◌≡◌, ◌⊎◌, ◌%◌, ℕ, max, nat_lt, true, false, List, [], ◌∷◌, if◌then◌else◌, Option, Some, None}
use Rattle.std.specs.List.{filter}
use Rattle.jx_base.specs.declared.pieces.Block.{Block}
use Rattle.jx_base.specs.declared.style.Style.{Style}
use Rattle.jx_base.specs.Passes.{is_causal}
use Rattle.jx_base.specs.Pieces.{PieceValue, passes_below}
use Rattle.jx_tier1_specs.specs.Cells.{Cells}
use Rattle.jx_codeblock.specs.declared.LayerEnd.{LayerEnd}
use Rattle.jx_codeblock.specs.Laws.{decoded_first}
use Rattle.jx_codeblock.specs.Recoding.{is_kept_whole, own_segments}
use Rattle.jx_codeblock.specs.Segments.{segments_of}
use Rattle.jx_codeblock.specs.Written.{style_for, written_in}

abbrev pub pieces_below : ℕ → List PieceValue → List PieceValue
pieces_below layer pieces = filter (λ (p : PieceValue). nat_lt p.layer layer) pieces

-- the coefficients that the layers below one give: their passes, from their bytes alone
unfoldable pub first_cells : ℕ → Block → Cells
first_cells layer b =
    (decoded_first b b.style.bits (segments_of b.style.bits (passes_below layer b.pieces) (pieces_below layer b.pieces)) (passes_below layer b.pieces)).cells

-- those that a block's first passes give from its whole segments
unfoldable pub cells_after : ℕ → Block → Cells
cells_after passes b = (decoded_first b b.style.bits (own_segments b) passes).cells

-- how many passes are sent in the layers below one
abbrev pub sent_below : ℕ → List LayerEnd → ℕ
sent_below layer [] = 0
sent_below layer (e ∷ ends) = if nat_lt e.layer layer then max e.passes (sent_below layer ends) else sent_below layer ends

-- first passes have the values that they had: no style is asked, the causal bit stays, or they are whole planes (D.7)
abbrev pub KeepsValues : Block → Option Style → ℕ → Type 0
KeepsValues b None passes = Unit {0}
KeepsValues b (Some style) passes = (is_causal style.bits ≡ is_causal b.style.bits) ⊎ (passes ≡ 0) ⊎ (passes % 3 ≡ 1)

-- what the layers below one hold of a block that is written in some style and layers
pub record HasFirstLayers (asked : Option Style) (ends : List LayerEnd) (b : Block) (layer : ℕ) : Type 0 where
  -- the passes that were asked
  pub passes : passes_below layer (written_in asked ends b).pieces ≡ sent_below layer ends
  -- with their final values
  pub final : is_kept_whole b (style_for asked b) ends ≡ false → first_cells layer (written_in asked ends b) ≡ cells_after (sent_below layer ends) (written_in asked ends b)
  -- a block that is kept in layers that all end where layers of the input ended gives what those gave
  pub own : is_kept_whole b (style_for asked b) ends ≡ true → (before : ℕ) → sent_below layer ends ≡ passes_below before b.pieces
      → first_cells layer (written_in asked ends b) ≡ first_cells before b
  -- the final values are those of the input's block
  pub same : KeepsValues b (style_for asked b) (sent_below layer ends) → cells_after (sent_below layer ends) (written_in asked ends b) ≡ cells_after (sent_below layer ends) b
