-- The blocks of a precinct: how many there are, and that each block of a tile is one of one precinct alone.
use Rattle.std.proofs.Common.{◌≡◌, ℕ, ◌+◌, ◌*◌, ◌==◌, Bool, true, false, cond, List, [], ◌∷◌, length, map, replicate, ◌∙◌, ap, refl, arith, length-append}
use Rattle.std.proofs.lemmas.Bool.Decides.{nat_tests}
use Rattle.std.proofs.lemmas.List.{length-replicate}
use Rattle.jx_base.specs.declared.names.Band.{Band}
use Rattle.jx_base.specs.declared.names.Rect.{Rect}
use Rattle.jx_base.specs.Places.{length_of, size_of}
use Rattle.jx_geom.specs.Geometry.{Geometry}
use Rattle.jx_packet_header.specs.declared.BandCells.{BandCells}
use Rattle.jx_packet_header.specs.Packet.{unknown_block}
use Rattle.jx_packet_header.specs.Precinct.{cells_in, fresh_bands, fresh_cells, all_blocks}
use Rattle.jx_codestream.specs.declared.Stream.{Stream}
use Rattle.jx_codestream.specs.Params.{planes_at}
use Rattle.jx_tile.specs.Cells.{sizes_of, precinct_bands}
use Rattle.jx_tier2_reader.specs.Fresh.{fresh_precinct}
use Rattle.jx_geom.specs.Precincts.{cells_at}
use Rattle.jx_geom.specs.Precincts.{leaves, leaves_in}
use Rattle.jx_base.specs.Bands.{bands_at}

-- how many blocks a band of a precinct has
abbrev pub pick : Rect → ℕ → Bool → BandCells
pick cells planes t = cond t (record { wide = 0; high = 0; planes = planes }) (record { wide = length_of cells.x; high = length_of cells.y; planes = planes })

pub size_is : (cells : Rect) (planes : ℕ) → (sizes_of cells planes).wide * (sizes_of cells planes).high ≡ size_of cells
size_is cells planes = by (size_of cells == 0) refl
  where
    by : (t : Bool) → (size_of cells == 0) ≡ t → (pick cells planes t).wide * (pick cells planes t).high ≡ size_of cells
    by true e = grind (arith, nat_tests)
    by false e = refl

abbrev pub bands_of : Stream → Geometry → ℕ → ℕ → ℕ → List Band → List BandCells
bands_of s g c r k bands = map (λ (b : Band). sizes_of (cells_at g c r k b) (planes_at s g.tile c r b)) bands

bands_count : (s : Stream) (g : Geometry) (c r k : ℕ) (bands : List Band) → cells_in (bands_of s g c r k bands) ≡ leaves_in g c r k bands
bands_count s g c r k [] = refl
bands_count s g c r k (b ∷ bands) =
    let rest : cells_in (bands_of s g c r k bands) ≡ leaves_in g c r k bands = bands_count s g c r k bands in
    omega (arith, size_is (cells_at g c r k b) (planes_at s g.tile c r b))

pub cells_count : (s : Stream) (g : Geometry) (c r k : ℕ) → cells_in (precinct_bands s g c r k) ≡ leaves g c r k
unfolding precinct_bands
cells_count s g c r k = bands_count s g c r k (bands_at r)

all_count : (bands : List BandCells) → length (all_blocks (fresh_bands bands)) ≡ cells_in bands
all_count [] = refl
all_count (b ∷ bs) = by (b.wide == 0) refl (all_count bs)
  where
    by : (t : Bool) → (b.wide == 0) ≡ t → length (all_blocks (fresh_bands bs)) ≡ cells_in bs →
        length (all_blocks (cond t (fresh_bands bs) (fresh_cells b ∷ fresh_bands bs))) ≡ b.wide * b.high + cells_in bs
    by true e again =
        let none : b.wide ≡ 0 = grind (arith, nat_tests) in
        let product : b.wide * b.high ≡ 0 = ap (λ n. n * b.high) none ∙ (let z : 0 * b.high ≡ 0 = omega arith in z) in
        omega arith
    by false e again =
        let some : length (replicate (b.wide * b.high) unknown_block) ≡ b.wide * b.high = length-replicate (b.wide * b.high) unknown_block in
        omega (arith, length-append (replicate (b.wide * b.high) unknown_block) (all_blocks (fresh_bands bs)))

pub leaf_count : (s : Stream) (g : Geometry) (c r k : ℕ) → length (all_blocks (fresh_precinct s g c r k).bands) ≡ leaves g c r k
leaf_count s g c r k = all_count (precinct_bands s g c r k) ∙ cells_count s g c r k
