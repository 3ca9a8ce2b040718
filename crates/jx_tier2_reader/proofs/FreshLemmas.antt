-- A precinct of which no packet was read is within its ranges.
use Rattle.std.proofs.Common.{◌≡◌, ℕ, ◌*◌, ◌≤◌, ◌<◌, ◌==◌, Bool, true, false, List, [], ◌∷◌, inl, inr, subst, refl, arith}
use Rattle.std.proofs.lemmas.Bool.Decides.{nat_tests}
use Rattle.jx_base.specs.declared.names.Band.{Band}
use Rattle.jx_base.specs.declared.names.Rect.{Rect}
use Rattle.jx_base.specs.Places.{length_of, size_of}
use Rattle.jx_geom.specs.Geometry.{Geometry, GeometryInRange, HasResolution}
use Rattle.jx_geom.specs.Ranges.{HasBand}
use Rattle.jx_packet_header.specs.Precinct.{IsBandCells, AreBandCells, CellsInRange, IsState}
use Rattle.jx_packet_header.proofs.FreshLemmas.{fresh_state_is}
use Rattle.jx_codestream.specs.declared.Stream.{Stream}
use Rattle.jx_codestream.specs.First.{tile_number}
use Rattle.jx_codestream.specs.Params.{planes_at}
use Rattle.jx_codestream.specs.Shapes.{geometry, style_of}
use Rattle.jx_codestream.specs.InRange.{StreamInRange}
use Rattle.jx_tile.specs.Cells.{sizes_of, precinct_bands}
use Rattle.jx_tier2_reader.specs.Fresh.{fresh_precinct}
use Rattle.jx_geom.specs.Precincts.{HasPrecinct, cells_at}
use Rattle.jx_tier2_reader.proofs.CellLemmas.{bands_of, pick, cells_count}
use Rattle.jx_geom.proofs.LeafLemmas.{Have, bands_have, leaves_limited}
use Rattle.jx_base.proofs.Raster.{factor_some}
use Rattle.jx_base.specs.Bands.{bands_at}

-- the sizes of a band are both 0 or both above it
sizes_fit : (cells : Rect) (planes : ℕ) → planes ≤ 255 → IsBandCells (sizes_of cells planes)
sizes_fit cells planes le = by (size_of cells == 0) refl
  where
    by : (t : Bool) → (size_of cells == 0) ≡ t → IsBandCells (pick cells planes t)
    by true e = record { size = inl (refl, refl); planes = le }
    by false e =
        let some : 0 < length_of cells.x * length_of cells.y = grind (arith, nat_tests) in
        let turned : 0 < length_of cells.y * length_of cells.x = omega arith in
        record {
          size = inr (factor_some 0 (length_of cells.x) (length_of cells.y) some, factor_some 0 (length_of cells.y) (length_of cells.x) turned);
          planes = le;
        }

each_fits : (s : Stream) (g : Geometry) (c r k : ℕ) (bands : List Band) → ((b : Band) → HasBand r b → planes_at s g.tile c r b ≤ 255)
    → Have r bands → AreBandCells (bands_of s g c r k bands)
each_fits s g c r k [] planes have = tt
each_fits s g c r k (b ∷ bands) planes have =
    (sizes_fit (cells_at g c r k b) (planes_at s g.tile c r b) (planes b have.0), each_fits s g c r k bands planes have.1)

-- the planes of a band that is there
pub planes_limited : (s : Stream) (g : Geometry) (c r : ℕ) (b : Band) → StreamInRange s → g.tile < tile_number s.siz → g ≡ geometry s g.tile
    → HasResolution g c r → HasBand r b → planes_at s g.tile c r b ≤ 74
planes_limited s g c r b h lt e there has =
    let P : Geometry → Type 0 = λ x. HasResolution x c r in
    h.planes g.tile c r b lt (subst P e there) has

pub fresh_in_range : (s : Stream) (g : Geometry) (c r k : ℕ) → StreamInRange s → GeometryInRange g → g.tile < tile_number s.siz
    → g ≡ geometry s g.tile → HasPrecinct g c r k → CellsInRange (precinct_bands s g c r k)
unfolding precinct_bands
fresh_in_range s g c r k h range lt e there = record {
  each = each_fits s g c r k (bands_at r) (λ b has. omega (arith, planes_limited s g c r b h lt e there.resolution has)) (bands_have r);
  few = omega (arith, cells_count s g c r k, leaves_limited g c r k range there);
}

pub fresh_is_state : (s : Stream) (g : Geometry) (c r k : ℕ) → StreamInRange s → GeometryInRange g → g.tile < tile_number s.siz
    → g ≡ geometry s g.tile → HasPrecinct g c r k → IsState (fresh_precinct s g c r k)
fresh_is_state s g c r k h range lt e there =
    fresh_state_is (style_of s g.tile c) (precinct_bands s g c r k) (fresh_in_range s g c r k h range lt e there)
