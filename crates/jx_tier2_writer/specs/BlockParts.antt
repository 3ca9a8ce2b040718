-- Inner: parts of blocks, layer by layer, and their bytes.
use Rattle.std.specs.Prelude.{◌<◌, ◌==◌, ℕ, List, [], ◌∷◌, length, map, nat_lt, slice_index_or, if◌then◌else◌}
use Rattle.std.specs.List.{All, flat_map}
use Rattle.std.specs.Global.{Vec}
use Rattle.jx_base.specs.Pieces.{PieceValue}
use Rattle.jx_tier2_reader.specs.BlockOf.{pieces_at}
use Rattle.jx_tier2_writer.specs.Coded.{IsInside}
use Rattle.jx_codeblock.specs.declared.LayerPart.{LayerPart}
use Rattle.jx_codeblock.specs.Recoding.{layer_part_bytes}
use Rattle.jx_tier2_writer.specs.declared.block_parts.BlockPart.{BlockPart}

-- the items of each
abbrev pub rows_of : {X : Type 0} → List (Vec X) → List (List X)
rows_of vecs = map (λ v. v.items) vecs

abbrev pub row_at : {X : Type 0} → List (List X) → ℕ → List X
row_at rows i = slice_index_or rows i []

-- the parts of a block in a layer that have bytes
abbrev pub block_parts_in : ℕ → ℕ → List LayerPart → List BlockPart
block_parts_in layer block [] = []
block_parts_in layer block (p ∷ parts) =
    (if p.layer == layer then (if nat_lt p.from p.to then record { block = block; part = p } ∷ block_parts_in layer block parts else block_parts_in layer block parts)
    else block_parts_in layer block parts)

-- the bytes of a part, where the blocks have these bytes
abbrev pub block_part_bytes : List (List ℕ) → BlockPart → List ℕ
block_part_bytes datas x = layer_part_bytes (slice_index_or datas x.block []) x.part

pub record IsBlockPart (datas : List (List ℕ)) (x : BlockPart) : Type 0 where
  pub there : x.block < length datas
  pub inside : IsInside (slice_index_or datas x.block []) x.part

abbrev pub AreBlockParts : List (List ℕ) → List BlockPart → Type 0
AreBlockParts datas row = All (IsBlockPart datas) row

abbrev pub row_bytes : List (List ℕ) → List BlockPart → List ℕ
row_bytes datas row = flat_map (block_part_bytes datas) row

-- the bytes of pieces in a layer
unfoldable pub layer_bytes : ℕ → List PieceValue → List ℕ
layer_bytes layer pieces = flat_map (λ (q : PieceValue). q.bytes) (pieces_at layer pieces)
