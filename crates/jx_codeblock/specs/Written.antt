-- A code-block as it is written in the layers that it has, where one style is asked of all (ITU-T T.800, A.6.1 and Annex D).
use Rattle.std.specs.Prelude.{◌==◌, Bool, ◌&&◌, List, is_some, if◌then◌else◌, Option, Some, None}
use Rattle.jx_base.specs.declared.pieces.Block.{Block}
use Rattle.jx_base.specs.declared.style.Style.{Style}
use Rattle.jx_tier1_specs.specs.Cells.{Cells}
use Rattle.jx_codeblock.specs.declared.job.Job.{Job}
use Rattle.jx_codeblock.specs.declared.LayerEnd.{LayerEnd}
use Rattle.jx_codeblock.specs.Recoded.{recoding_in}
use Rattle.jx_codeblock.specs.Recoding.{Recoding, decoded_in, layer_ends, own_segments, recoded_pieces, recoding, wrong_in}

-- the style that is asked of a block: none where it has that style already, in all six bits
abbrev pub style_for : Option Style → Block → Option Style
style_for None b = None
style_for (Some style) b = if style.bits == b.style.bits then None else Some style

-- a block with the style and the pieces in which it is written; where nothing can be made of it, as it is
abbrev pub block_with : Block → Option Recoding → Block
block_with b None = b
block_with b (Some r) = record b { style = record { bits = r.style }; pieces = recoded_pieces r }

-- a block as it is written, in layers that are asked of it
unfoldable pub written_in : Option Style → List LayerEnd → Block → Block
written_in asked ends b = block_with b (recoding b (style_for asked b) ends)

-- a block as it is written, in its own layers
unfoldable pub written_as : Option Style → Block → Block
written_as asked b = block_with b (recoding b (style_for asked b) (layer_ends b.pieces))

-- a block as a job asks for it
abbrev pub block_asked : Job → Block
block_asked j = block_with j.block.now (recoding_in j)

-- nothing can be made of it: it is coded anew, and one of its segmentation symbols is wrong (D.5)
abbrev pub is_wrong : Option Style → Block → Bool
is_wrong asked b = is_some (style_for asked b) && is_some (wrong_in b)

-- a block's coefficients, from all of its passes over its own segments
abbrev pub own_cells : Block → Cells
own_cells b = (decoded_in b b.style.bits (own_segments b)).cells
