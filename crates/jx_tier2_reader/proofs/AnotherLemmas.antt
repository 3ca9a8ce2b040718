-- The blocks of a stream are those of another that has the same.
use Rattle.std.proofs.Common.{ℕ, ◌<◌, List, Some, None, Option, ◌∙◌, subst, arith}
use Rattle.std.specs.Prelude.{slice_get}
use Rattle.std.proofs.lemmas.List.Elements.{All-weaker}
use Rattle.jx_base.specs.declared.names.BlockName.{BlockName}
use Rattle.jx_base.specs.declared.pieces.Block.{Block}
use Rattle.jx_base.specs.Pieces.{PieceValue}
use Rattle.jx_geom.specs.Numbering.{block_number}
use Rattle.jx_codestream.specs.declared.Stream.{Stream}
use Rattle.jx_codestream.specs.First.{canvas_of}
use Rattle.jx_codestream.specs.Shapes.{shapes_of, layers_of}
use Rattle.jx_tier2_reader.specs.BlockOf.{IsBlockOf, IsFoundOf, AreBlocksOf}
use Rattle.jx_tier2_reader.specs.Another.{HasSameBlock, HaveSameBlocks}

block_of_other : (s other : Stream) (n : BlockName) (d : Block) → HasSameBlock s other n → IsBlockOf s n d → IsBlockOf other n d
block_of_other s other n d h is = record {
  name = is.name;
  rect = is.rect ∙ h.rect;
  planes = is.planes ∙ h.planes;
  style = is.style ∙ h.style;
  empty = is.empty;
  layers = All-weaker (λ (p : PieceValue). p.layer < layers_of s n.tile) (λ (p : PieceValue). p.layer < layers_of other n.tile)
      (λ p lt. (let le = h.layers in let lt' : p.layer < layers_of s n.tile = lt in omega arith)) d.pieces is.layers;
  few = is.few;
  cuts = is.cuts;
}

found_of_other : (s other : Stream) (n : BlockName) (o : Option Block) → HasSameBlock s other n → IsFoundOf s n o → IsFoundOf other n o
found_of_other s other n None h is = is
found_of_other s other n (Some d) h is = block_of_other s other n d h is

pub blocks_of_other : (s other : Stream) (blocks : List Block) → HaveSameBlocks s other → AreBlocksOf s blocks → AreBlocksOf other blocks
blocks_of_other s other blocks h are = record {
  all = are.all ∙ h.all;
  each = λ n is.
      (let same : HasSameBlock s other n = h.each n is in
      subst (λ (i : ℕ). IsFoundOf other n (slice_get blocks i)) same.number
      (found_of_other s other n (slice_get blocks (block_number (canvas_of s.siz) (shapes_of s) n)) same (are.each n same.there)));
}
