-- The code-blocks that are read of a made file: none has a style bit, and none more than 37 coding passes.
use Rattle.std.proofs.Common.{◌≡◌, ◌∙◌, ℕ, ◌≤◌, ◌<◌, List, ap, subst, arith, get_or, Some, All}
use Rattle.std.specs.Prelude.{slice_get}
use Rattle.std.proofs.lemmas.Option.{slice_get-get_or}
use Rattle.jx_base.specs.declared.names.BlockName.{BlockName}
use Rattle.jx_base.specs.declared.pieces.Block.{Block}
use Rattle.jx_base.specs.Sound.{IsSound}
use Rattle.jx_geom.specs.Geometry.{Geometry, HasResolution}
use Rattle.jx_geom.specs.Numbering.{IsBlock, block_number}
use Rattle.jx_geom.proofs.NumberLemmas.{block_number_taken}
use Rattle.jx_codestream.specs.declared.Stream.{Stream}
use Rattle.jx_codestream.specs.First.{canvas_of, tile_number}
use Rattle.jx_codestream.specs.Params.{planes_at}
use Rattle.jx_codestream.specs.Shapes.{geometry, shapes_of, style_of}
use Rattle.jx_tier2_reader.specs.BlockOf.{AreBlocksOf, IsBlockOf, IsFoundOf}
use Rattle.jx_tile.proofs.TotalLemmas.{blocks_are}
use Rattle.jx_generate.specs.Headers.{AreSizes, geometry_made}
use Rattle.jx_generate.specs.Plain.{IsPlain}
use Rattle.jx_generate.specs.Reading.{stream_made}
use Rattle.jx_generate.proofs.GeometryLemmas.{level_5, three_shapes}
use Rattle.jx_generate.proofs.ReadLemmas.{geometry_is, one_number}
use Rattle.jx_generate.proofs.WrittenLemmas.{planes_13, style_0}

-- the names of blocks
record IsNamed (n : BlockName) : Type 0 where
  tile : n.tile ≡ 0
  comp : n.comp < 3
  res : n.res ≤ 5

named : (w h size : ℕ) (n : BlockName) → AreSizes w h → IsBlock (canvas_of (stream_made w h size).siz) (shapes_of (stream_made w h size)) n → IsNamed n
named w h size n sizes is =
    let s : Stream = stream_made w h size in
    let below : n.tile < tile_number s.siz = is.0 in
    let tile : n.tile ≡ 0 = omega (arith, one_number w h size sizes) in
    let P : Geometry → Type 0 = λ g. HasResolution g n.comp n.res in
    let own : HasResolution (geometry s n.tile) n.comp n.res = is.1.resolution in
    let there : HasResolution (geometry_made w h) n.comp n.res = subst P (ap (geometry s) tile ∙ geometry_is w h size) own in
    let comp : n.comp < 3 = three_shapes w h n.comp there.component in
    record { tile = tile; comp = comp; res = level_5 w h n.comp n.res comp there.level }

plain_of : (w h size : ℕ) (n : BlockName) (b : Block) → IsNamed n → IsBlockOf (stream_made w h size) n b → IsSound b → IsPlain b
plain_of w h size n b name is sound =
    let s : Stream = stream_made w h size in
    let planes : b.planes ≡ 13 = is.planes ∙ ap (λ (t : ℕ). planes_at s t n.comp n.res n.band) name.tile ∙ planes_13 w h size n.comp n.res n.band name.comp name.res in
    record {
      style = is.style ∙ ap (λ (t : ℕ). style_of s t n.comp) name.tile ∙ style_0 w h size n.comp name.comp;
      planes = planes;
      few = omega (arith, planes, sound.few);
    }

pub all_plain : (w h size : ℕ) (blocks : List Block) → AreSizes w h → AreBlocksOf (stream_made w h size) blocks → All IsSound blocks → All IsPlain blocks
all_plain w h size blocks sizes are sound k d inside =
    let s : Stream = stream_made w h size in
    let b : Block = get_or blocks k d in
    let at : slice_get blocks k ≡ Some b = slice_get-get_or blocks k d inside in
    let name = block_number_taken (canvas_of s.siz) (shapes_of s) k (omega (arith, inside, are.all, blocks_are s)) in
    let found : IsFoundOf s name.0 (slice_get blocks (block_number (canvas_of s.siz) (shapes_of s) name.0)) = are.each name.0 name.1.0 in
    let is : IsBlockOf s name.0 b = subst (IsFoundOf s name.0) (ap (λ (n : ℕ). slice_get blocks n) name.1.1 ∙ at) found in
    plain_of w h size name.0 b (named w h size name.0 sizes name.1.0) is (sound k d inside)
