-- What the headers and the geometry of a tile say of it.
use Rattle.std.proofs.Common.{◌≡◌, ◌<◌, ◌≤◌, ◌^◌, ℕ, ap, refl, subst, sym, None, All}
use Rattle.jx_base.specs.OrderNumbers.{IsOrderNumber}
use Rattle.jx_geom.specs.Geometry.{Geometry}
use Rattle.jx_marker.specs.declared.Progression.{Progression}
use Rattle.jx_codestream.specs.declared.Stream.{Stream}
use Rattle.jx_codestream.specs.First.{tile_number}
use Rattle.jx_codestream.specs.InRange.{StreamInRange}
use Rattle.jx_codestream.specs.Params.{headers_at}
use Rattle.jx_codestream.specs.Shapes.{geometry, tile_at}
use Rattle.jx_codestream.specs.TileHeaders.{TileHeaders}
use Rattle.jx_tile.specs.Frame.{AreOfTile, TileOf}
use Rattle.jx_tile.specs.Totals.{tile_packets, totals_fault}
use Rattle.jx_tile.proofs.FewPackets.{packets_few}
use Rattle.jx_tile.proofs.TotalLemmas.{geometry_fits}

pub of_tile : (s : Stream) (t : ℕ) (h : TileHeaders) (g : Geometry) → StreamInRange s → totals_fault s ≡ None → t < tile_number s.siz → h ≡ headers_at s t → g ≡ geometry s t → AreOfTile s h g
of_tile s t h g range totals inside view is =
    let P : Geometry → Type 0 = λ x. AreOfTile s h x in
    subst P (sym is) (record { range = range; totals = totals; tile = inside; view = view; geometry = refl; limits = geometry_fits s t range totals inside })

-- the entries of a tile have orders, and its packets are few
pub orders_of : (f : TileOf) (s : Stream) (h : TileHeaders) (g : Geometry) → s ≡ f.stream → g ≡ geometry f.stream f.number → AreOfTile s h g
    → All (λ (e : Progression). IsOrderNumber e.order) (tile_at f.stream f.number).progressions
orders_of f s h g stream is are =
    let P : ℕ → Type 0 = λ t. All (λ (e : Progression). IsOrderNumber e.order) (tile_at f.stream t).progressions in
    let Q : Stream → Type 0 = λ x. All (λ (e : Progression). IsOrderNumber e.order) (tile_at x g.tile).progressions in
    subst P (ap (λ (x : Geometry). x.tile) is) (subst Q stream (are.range.orders g.tile are.tile))

pub packets_of : (f : TileOf) (s : Stream) (h : TileHeaders) (g : Geometry) → s ≡ f.stream → g ≡ geometry f.stream f.number → AreOfTile s h g → tile_packets f.stream f.number ≤ 2 ^ 22
packets_of f s h g stream is are =
    let P : ℕ → Type 0 = λ t. tile_packets f.stream t ≤ 2 ^ 22 in
    let Q : Stream → Type 0 = λ x. tile_packets x g.tile ≤ 2 ^ 22 in
    subst P (ap (λ (x : Geometry). x.tile) is) (subst Q stream (packets_few s g.tile are.totals are.tile))

-- what holds of the stream and the number of a tile holds of its parts, and the other way round
pub frame_to : (P : Stream → ℕ → Type 0) (f : TileOf) (s : Stream) (g : Geometry) → s ≡ f.stream → g ≡ geometry f.stream f.number → P f.stream f.number → P s g.tile
frame_to P f s g stream is h =
    let Q : Stream → Type 0 = λ x. P x g.tile in
    let R : ℕ → Type 0 = λ n. P f.stream n in
    subst Q (sym stream) (subst R (sym (ap (λ (x : Geometry). x.tile) is)) h)

pub frame_from : (P : Stream → ℕ → Type 0) (f : TileOf) (s : Stream) (g : Geometry) → s ≡ f.stream → g ≡ geometry f.stream f.number → P s g.tile → P f.stream f.number
frame_from P f s g stream is h =
    let Q : Stream → Type 0 = λ x. P x g.tile in
    let R : ℕ → Type 0 = λ n. P f.stream n in
    subst R (ap (λ (x : Geometry). x.tile) is) (subst Q stream h)

pub inside_frame : (f : TileOf) (s : Stream) (h : TileHeaders) (g : Geometry) → s ≡ f.stream → g ≡ geometry f.stream f.number → AreOfTile s h g → f.number < tile_number f.stream.siz
inside_frame f s h g stream is are =
    let P : Stream → ℕ → Type 0 = λ x t. t < tile_number x.siz in
    frame_from P f s g stream is are.tile

pub frame_totals : (f : TileOf) (s : Stream) (h : TileHeaders) (g : Geometry) → s ≡ f.stream → AreOfTile s h g → totals_fault f.stream ≡ None
frame_totals f s h g stream are =
    let P : Stream → Type 0 = λ x. totals_fault x ≡ None in
    subst P stream are.totals

-- the same of the stream and the geometry
pub parts_to : (P : Stream → Geometry → Type 0) (s x : Stream) (g y : Geometry) → s ≡ x → g ≡ y → P x y → P s g
parts_to P s x g y stream is h =
    let Q : Stream → Type 0 = λ z. P z g in
    let R : Geometry → Type 0 = λ z. P x z in
    subst Q (sym stream) (subst R (sym is) h)

pub parts_from : (P : Stream → Geometry → Type 0) (s x : Stream) (g y : Geometry) → s ≡ x → g ≡ y → P s g → P x y
parts_from P s x g y stream is h =
    let Q : Stream → Type 0 = λ z. P z g in
    let R : Geometry → Type 0 = λ z. P x z in
    subst R is (subst Q stream h)
