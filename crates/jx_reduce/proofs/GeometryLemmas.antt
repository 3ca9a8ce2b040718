-- The geometry of a stream that is left, at each resolution that is left.
use Rattle.std.proofs.Common.{◌≡◌, ◌∙◌, ℕ, ◌+◌, ◌<◌, ◌↔◌, List, length, refl, sym, ap, subst, arith, None}
use Rattle.jx_base.specs.declared.names.Band.{Band}
use Rattle.jx_base.specs.declared.names.Rect.{Rect}
use Rattle.jx_base.specs.Places.{column_at, row_at, size_of}
use Rattle.jx_geom.specs.declared.shape.CompShape.{CompShape}
use Rattle.jx_geom.specs.Geometry.{HasResolution, band_in, blocks_in, precincts_in, rect_of_tile, reference_across, reference_down, shape_of}
use Rattle.jx_geom.specs.Rects.{block_rect, precinct_blocks, precinct_column_point, precinct_part, precinct_row_point, tile_rect}
use Rattle.jx_codestream.specs.declared.Stream.{Stream}
use Rattle.jx_codestream.specs.First.{canvas_of}
use Rattle.jx_codestream.specs.Params.{planes_at, step_of}
use Rattle.jx_codestream.specs.Shapes.{geometry, layers_of, shapes_of}
use Rattle.jx_marker.specs.declared.Progression.{Progression}
use Rattle.jx_progression.specs.declared.names.PacketName.{PacketName}
use Rattle.jx_progression.specs.Packets.{IsCovered, IsPacketName}
use Rattle.jx_tile.specs.Covered.{IsWhole}
use Rattle.jx_plan.specs.Standing.{HeadersStand}
use Rattle.jx_reduce.specs.Reduction.{stream_left}
use Rattle.jx_reduce.specs.Unreducible.{first_choice}
use Rattle.jx_reduce.proofs.HeaderLemmas.{is_clear}
use Rattle.jx_reduce.proofs.LevelLemmas.{IsLower, low_band, low_blocks, low_column, low_leaves, low_part, low_precincts, low_rect, low_row}
use Rattle.jx_reduce.proofs.LeftNames.{AreLower}
use Rattle.jx_reduce.proofs.ParameterLemmas.{are_lower, layers_same, planes_same, step_same}
use Rattle.jx_reduce.proofs.PlanLemmas.{progressions_same, was_there}

pub tile_stays : (d : ℕ) (s : Stream) (t : ℕ) → rect_of_tile (geometry (stream_left d s) t) ≡ rect_of_tile (geometry s t)
unfolding stream_left
tile_stays d s t = refl

module _ (d : ℕ) (s : Stream) (t c r : ℕ) (stand : HeadersStand s) (none : first_choice d s ≡ None) where
  abbrev lower : AreLower d (shapes_of s t) (shapes_of (stream_left d s) t)
  lower = are_lower s stand d (is_clear d s none) t

  there_to : HasResolution (geometry (stream_left d s) t) c r → HasResolution (geometry s t) c (r + d)
  there_to has =
      let inside : c < length (shapes_of s t) = omega (arith, has.component, lower.long) in
      record { component = inside; level = omega (arith, has.level, (lower.each c inside).levels) }

  there_from : HasResolution (geometry s t) c (r + d) → HasResolution (geometry (stream_left d s) t) c r
  there_from has =
      let inside : c < length (shapes_of s t) = has.component in
      record { component = omega (arith, inside, lower.long); level = omega (arith, has.level, (lower.each c inside).levels) }

  pub there_both : HasResolution (geometry (stream_left d s) t) c r ↔ HasResolution (geometry s t) c (r + d)
  there_both = (there_to, there_from)

  module _ (has : HasResolution (geometry (stream_left d s) t) c r) where
    abbrev tile : Rect
    tile = tile_rect (canvas_of s.siz) t

    abbrev before : CompShape
    before = shape_of (geometry s t) c

    abbrev after : CompShape
    after = shape_of (geometry (stream_left d s) t) c

    low : IsLower d before after
    low = lower.each c (omega (arith, has.component, lower.long))

    pub band_stays : (b : Band) → band_in (geometry (stream_left d s) t) c r b ≡ band_in (geometry s t) c r b
    unfolding stream_left
    band_stays b = low_band d tile before after low r b has.level

    pub precincts_stay : precincts_in (geometry (stream_left d s) t) c r ≡ precincts_in (geometry s t) c r
    unfolding stream_left
    precincts_stay = low_precincts d tile before after low r has.level

    pub part_stays : (b : Band) (k : ℕ) → precinct_part (rect_of_tile (geometry (stream_left d s) t)) after r b k ≡ precinct_part (rect_of_tile (geometry s t)) before r b k
    unfolding stream_left
    part_stays b k = low_part d tile before after low r b k has.level

    pub leaves_stay : (b : Band) (k : ℕ) → precinct_blocks (rect_of_tile (geometry (stream_left d s) t)) after r b k ≡ precinct_blocks (rect_of_tile (geometry s t)) before r b k
    unfolding stream_left
    leaves_stay b k = low_leaves d tile before after low r b k has.level

    pub blocks_stay : (b : Band) → blocks_in (geometry (stream_left d s) t) c r b ≡ blocks_in (geometry s t) c r b
    unfolding stream_left
    blocks_stay b = low_blocks d tile before after low r b has.level

    pub rect_stays : (b : Band) (i : ℕ) → block_rect (rect_of_tile (geometry (stream_left d s) t)) after r b i ≡ block_rect (rect_of_tile (geometry s t)) before r b i
    unfolding stream_left
    rect_stays b i = low_rect d tile before after low r b i has.level

    pub across_stays : (k : ℕ) → reference_across (geometry (stream_left d s) t) c r k ≡ reference_across (geometry s t) c r k
    unfolding stream_left
    across_stays k =
        low_column d tile before after low r (column_at (precincts_in (geometry (stream_left d s) t) c r) k) has.level
        ∙ ap (λ (cells : Rect). precinct_column_point tile before r (column_at cells k)) precincts_stay

    pub down_stays : (k : ℕ) → reference_down (geometry (stream_left d s) t) c r k ≡ reference_down (geometry s t) c r k
    unfolding stream_left
    down_stays k =
        low_row d tile before after low r (row_at (precincts_in (geometry (stream_left d s) t) c r) k) has.level
        ∙ ap (λ (cells : Rect). precinct_row_point tile before r (row_at cells k)) precincts_stay

    pub step_stays : (b : Band) → step_of (stream_left d s) t c r b ≡ step_of s t c r b
    step_stays b = step_same d s t c r b (was_there d s (is_clear d s none) stand t c r has).low

    pub planes_stay : (b : Band) → planes_at (stream_left d s) t c r b ≡ planes_at s t c r b
    planes_stay b = planes_same d s t c r b (was_there d s (is_clear d s none) stand t c r has).low

-- a packet that is left was one before, and an entry that covered it stands
packet_was : (d : ℕ) (s : Stream) (t : ℕ) (p : PacketName) → HeadersStand s → first_choice d s ≡ None → IsPacketName (geometry (stream_left d s) t) (layers_of (stream_left d s) t) p
    → IsPacketName (geometry s t) (layers_of s t) p
packet_was d s t p stand none is = record {
  layer = omega (arith, is.layer, layers_same d s t);
  resolution = (was_there d s (is_clear d s none) stand t p.comp p.res is.resolution).there;
  precinct = subst (λ (cells : Rect). p.precinct < size_of cells) (precincts_stay d s t p.comp p.res stand none is.resolution) is.precinct;
}

pub covered_stays : (d : ℕ) (s : Stream) (t : ℕ) → HeadersStand s → first_choice d s ≡ None → t < length s.tiles → IsWhole s t → IsWhole (stream_left d s) t
covered_stays d s t stand none inside whole p is =
    subst (λ (entries : List Progression). IsCovered entries p) (sym (progressions_same d s (is_clear d s none) stand t inside)) (whole p (packet_was d s t p stand none is))
