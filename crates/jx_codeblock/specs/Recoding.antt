-- What a code-block becomes in the file that is written: its segments, and the part of them that each layer has. A block of which
-- no style is asked keeps its segments; another is decoded, and its coefficients are coded in the asked style (ITU-T T.800, B.10 and
-- Annex D).
use Rattle.std.specs.Prelude.{ℕ, ◌+◌, ◌-◌, ◌==◌, Bool, false, List, [], ◌∷◌, ◌++◌, take, drop, map, if◌then◌else◌, Option, Some, None}
use Rattle.std.specs.List.{concat, list_all, list_any}
use Rattle.jx_base.specs.declared.pieces.Block.{Block}
use Rattle.jx_base.specs.declared.style.Style.{Style}
use Rattle.jx_base.specs.Places.{length_of}
use Rattle.jx_base.specs.Pieces.{PieceValue}
use Rattle.jx_packet_header.specs.Parts.{cut}
use Rattle.jx_tier1_specs.specs.Reading.{Coding, Decoding, coding_of, decoded}
use Rattle.jx_tier1_specs.specs.Needs.{written}
use Rattle.jx_codeblock.specs.declared.LayerEnd.{LayerEnd}
use Rattle.jx_codeblock.specs.declared.LayerPart.{LayerPart}
use Rattle.jx_codeblock.specs.Segments.{segments_of, sent_by_looks, sent_by_pieces}

-- the layers in which a block has pieces, each with the passes that are sent by its end
abbrev pub layer_ends : List PieceValue → List LayerEnd
layer_ends [] = []
layer_ends (p ∷ []) = record { layer = p.layer; passes = p.first + p.passes } ∷ []
layer_ends (p ∷ q ∷ pieces) =
    if p.layer == q.layer then layer_ends (q ∷ pieces) else record { layer = p.layer; passes = p.first + p.passes } ∷ layer_ends (q ∷ pieces)

-- each end is a pass at which a layer of the input ended
abbrev pub has_own_ends : List PieceValue → List LayerEnd → Bool
has_own_ends pieces ends = list_all (λ (e : LayerEnd). list_any (λ (own : LayerEnd). own.passes == e.passes) (layer_ends pieces)) ends

abbrev pub own_segments : Block → List (List ℕ)
own_segments b = segments_of b.style.bits b.passes b.pieces

-- what a block's passes decode to, from segments in a style
abbrev pub coding_in : Block → ℕ → Coding
coding_in b style = coding_of b.name.band style (b.planes - b.zero)

abbrev pub decoded_in : Block → ℕ → List (List ℕ) → Decoding
decoded_in b style segments = decoded (length_of b.rect.x) (length_of b.rect.y) (coding_in b style) segments b.passes

-- the first pass of the block whose segmentation symbol isn't 1010
abbrev pub wrong_in : Block → Option ℕ
wrong_in b = (decoded_in b b.style.bits (own_segments b)).wrong

-- the style and the segments as they are written, where each symbol of a block that is coded anew is right
abbrev pub new_style : Block → Option Style → ℕ
new_style b None = b.style.bits
new_style b (Some style) = style.bits

abbrev pub unless_wrong : Option ℕ → List (List ℕ) → Option (List (List ℕ))
unless_wrong None segments = Some segments
unless_wrong (Some pass) segments = None

abbrev pub new_segments : Block → Option Style → Option (List (List ℕ))
new_segments b None = Some (own_segments b)
new_segments b (Some style) =
    unless_wrong (wrong_in b) (written (coding_in b style.bits) (decoded_in b b.style.bits (own_segments b)).cells b.passes)

-- how many of the bytes are sent by the end of some passes: the input's own bytes, where the block is kept and each end is one of the
-- input; else what the decoder looks at
abbrev pub is_kept_whole : Block → Option Style → List LayerEnd → Bool
is_kept_whole b None ends = has_own_ends b.pieces ends
is_kept_whole b (Some style) ends = false

abbrev pub sent_in : Block → Option Style → List LayerEnd → List (List ℕ) → ℕ → ℕ
sent_in b style ends segments n =
    if is_kept_whole b style ends then sent_by_pieces b.pieces n
    else sent_by_looks (new_style b style) b.passes segments (decoded_in b (new_style b style) segments).looked n

-- the parts of a layer: its passes are cut after each that ends a segment
abbrev pub layer_parts : (ℕ → ℕ) → ℕ → ℕ → List ℕ → List LayerPart
layer_parts sent layer first [] = []
layer_parts sent layer first (run ∷ runs) =
    record { layer = layer; first = first; passes = run; from = sent first; to = sent (first + run) } ∷ layer_parts sent layer (first + run) runs

-- those of all layers, after some passes
abbrev pub layer_parts_after : ℕ → (ℕ → ℕ) → ℕ → List LayerEnd → List LayerPart
layer_parts_after style sent first [] = []
layer_parts_after style sent first (e ∷ ends) = layer_parts sent e.layer first (cut style first (e.passes - first)) ++ layer_parts_after style sent e.passes ends

-- a block as it is written
pub record Recoding : Type 0 where
  pub style : ℕ
  pub bytes : List ℕ
  pub parts : List LayerPart

abbrev pub recoding_of : Block → Option Style → List LayerEnd → List (List ℕ) → Recoding
recoding_of b style ends segments = record {
  style = new_style b style;
  bytes = concat segments;
  parts = layer_parts_after (new_style b style) (sent_in b style ends segments) 0 ends;
}

abbrev pub option_recoding : Block → Option Style → List LayerEnd → Option (List (List ℕ)) → Option Recoding
option_recoding b style ends None = None
option_recoding b style ends (Some segments) = Some (recoding_of b style ends segments)

-- nothing where a block is coded anew of which a segmentation symbol is wrong
unfoldable pub recoding : Block → Option Style → List LayerEnd → Option Recoding
recoding b style ends = option_recoding b style ends (new_segments b style)

-- the bytes of a part, and the part as a piece
abbrev pub layer_part_bytes : List ℕ → LayerPart → List ℕ
layer_part_bytes bytes p = take (p.to - p.from) (drop p.from bytes)

abbrev pub piece_of : List ℕ → LayerPart → PieceValue
piece_of bytes p = record { layer = p.layer; first = p.first; passes = p.passes; bytes = layer_part_bytes bytes p }

abbrev pub recoded_pieces : Recoding → List PieceValue
recoded_pieces r = map (piece_of r.bytes) r.parts
