-- Where no resolution is left out a codestream stays as it is, and nothing is in the way.
use Rattle.std.proofs.Common.{◌≡◌, ℕ, ◌+◌, ◌-◌, ◌*◌, ◌==◌, ◌≤◌, ◌<◌, ◌||◌, Bool, true, false, cond, nat_lt, List, [], ◌∷◌, map, take, length, get_or, refl, sym, ap, arith, Option, None, Some}
use Rattle.std.specs.List.{All, list_any, position}
use Rattle.std.specs.Option.{option_or}
use Rattle.std.proofs.Math.Nat.{mul-one}
use Rattle.std.proofs.lemmas.Bool.{le-leb}
use Rattle.std.proofs.lemmas.Bool.Decides.{nat_tests}
use Rattle.std.proofs.lemmas.List.{take_all}
use Rattle.std.proofs.lemmas.List.Folds.{list_any_none}
use Rattle.std.proofs.lemmas.List.Elements.{All-head, All-tail, All-weaker}
use Rattle.jx_base.specs.declared.pieces.Block.{Block}
use Rattle.jx_marker.specs.declared.CompSize.{CompSize}
use Rattle.jx_marker.specs.declared.Segment.{Segment}
use Rattle.jx_marker.specs.declared.Segment.TheVariants as segment
use Rattle.jx_marker.specs.declared.Shape.{Shape}
use Rattle.jx_marker.specs.Ranges.{CompSizeInRange, InRange, ShapeInRange}
use Rattle.jx_geom.specs.declared.shape.CompShape.{CompShape}
use Rattle.jx_geom.specs.Geometry.{no_shape}
use Rattle.jx_codestream.specs.declared.headers.HeaderKind.TheVariants.{Main, First}
use Rattle.jx_codestream.specs.declared.Tile.{Tile}
use Rattle.jx_codestream.specs.declared.Stream.{Stream}
use Rattle.jx_codestream.specs.Params.{headers_at}
use Rattle.jx_codestream.specs.Shapes.{no_size, no_tile}
use Rattle.jx_codestream.proofs.RangeLemmas.{shapes_at, shapes_length}
use Rattle.jx_codestream.proofs.SegmentLemmas.{segments_fit}
use Rattle.jx_plan.specs.Plan.{MayBePlanned}
use Rattle.jx_plan.specs.Standing.{HeadersStand, IsHeaded}
use Rattle.jx_reduce.specs.Reduction.{blocks_left, is_left, segment_left, shape_left, size_left, stream_left, tile_left}
use Rattle.jx_reduce.specs.Unreducible.{choice_at, first_choice, first_fewer, first_passing, has_fewer, passes_byte, tile_has_fewer}
use Rattle.jx_reduce.proofs.BlockLemmas.{IsNamed, each_named}
use Rattle.jx_reduce.proofs.ListLemmas.{filter_whole, no_place}

map_whole : {X : Type 0} (f : X → X) (xs : List X) → All (λ x. f x ≡ x) xs → map f xs ≡ xs
map_whole f [] h = refl
map_whole {X} f (x ∷ xs) h =
    rw (All-head (λ (y : X). f y ≡ y) x xs h) (ap (λ (ys : List X). x ∷ ys) (map_whole f xs (All-tail (λ (y : X). f y ≡ y) x xs h)))

few_bytes : (n levels : ℕ) → n ≡ (cond (n == 0) 0 (1 + levels)) → n ≤ levels + 1
few_bytes n levels h = grind (arith, nat_tests)

shape_whole : (shape : Shape) → ShapeInRange shape → shape_left 0 shape ≡ shape
shape_whole shape r =
    let bytes : take (shape.levels + 1) shape.precincts ≡ shape.precincts = take_all (shape.levels + 1) shape.precincts (few_bytes (length shape.precincts) shape.levels r.count) in
    let levels : shape.levels - 0 ≡ shape.levels = omega arith in
    rw levels (ap (λ (list : List ℕ). record shape { precincts = list }) bytes)

segment_whole : (comps : ℕ) (s : Segment) → InRange comps s → segment_left 0 s ≡ s
segment_whole comps (segment.Cod cod) r = ap (λ (shape : Shape). segment.Cod (record cod { shape = shape })) (shape_whole cod.shape r.shape)
segment_whole comps (segment.Coc comp shape) r = ap (λ (x : Shape). segment.Coc comp x) (shape_whole shape r.fits)
segment_whole comps _ r = refl

segments_whole : (comps : ℕ) (ss : List Segment) → All (InRange comps) ss → map (segment_left 0) ss ≡ ss
segments_whole comps ss r = map_whole (segment_left 0) ss (All-weaker (InRange comps) (λ (s : Segment). segment_left 0 s ≡ s) (segment_whole comps) ss r)

tile_whole : (comps : ℕ) (t : Tile) → IsHeaded comps t → tile_left 0 t ≡ t
tile_whole comps t h = ap (λ (ss : List Segment). record t { header = ss }) (segments_whole comps t.header (segments_fit First comps [] t.header h.header))

size_whole : (size : CompSize) → size_left 0 size ≡ size
size_whole size = rw (mul-one size.dx, mul-one size.dy) refl

stream_is : (s : Stream) (sizes : List CompSize) (main : List Segment) (tiles : List Tile) → sizes ≡ s.siz.comps → main ≡ s.main → tiles ≡ s.tiles
    → (let x : Stream = record { siz = record s.siz { comps = sizes }; main = main; tiles = tiles } in x) ≡ s
stream_is s sizes main tiles e h k = rw (e, h, k) refl

pub stream_whole : (s : Stream) → HeadersStand s → stream_left 0 s ≡ s
unfolding stream_left
stream_whole s stand =
    let comps : ℕ = length s.siz.comps in
    stream_is s (map (size_left 0) s.siz.comps) (map (segment_left 0) s.main) (map (tile_left 0) s.tiles)
    (map_whole (size_left 0) s.siz.comps (λ i e lt. size_whole (get_or s.siz.comps i e)))
    (segments_whole comps s.main (segments_fit Main comps [] s.main stand.main))
    (map_whole (tile_left 0) s.tiles (All-weaker (IsHeaded comps) (λ (t : Tile). tile_left 0 t ≡ t) (tile_whole comps) s.tiles stand.each))

block_whole : (s : Stream) (b : Block) → IsNamed s b → is_left (headers_at s b.name.tile) 0 b ≡ true
block_whole s b named =
    let inside = named.there.1.resolution.component in
    let levels = ap (λ (x : CompShape). x.levels) (shapes_at s b.name.tile b.name.comp no_shape (omega (arith, inside, shapes_length s b.name.tile))) in
    le-leb (b.name.res + 0) _ (omega (arith, named.there.1.resolution.level, levels))

pub blocks_whole : (s : Stream) (blocks : List Block) → MayBePlanned s blocks → blocks_left 0 s blocks ≡ blocks
unfolding blocks_left
blocks_whole s blocks may =
    filter_whole (λ (b : Block). is_left (headers_at s b.name.tile) 0 b) blocks
    (All-weaker (IsNamed s) (λ (b : Block). is_left (headers_at s b.name.tile) 0 b ≡ true) (block_whole s) blocks (each_named s blocks may.blocks_are))

-- ---- nothing is in the way
byte_holds : (x y : ℕ) → x < 256 → y < 256 → (nat_lt 255 (x * 1) || nat_lt 255 (y * 1)) ≡ false
byte_holds x y h k = grind (arith, nat_tests)

none_fewer : (s : Segment) → has_fewer 0 s ≡ false
none_fewer (segment.Cod cod) = grind (arith, nat_tests)
none_fewer (segment.Coc comp shape) = grind (arith, nat_tests)
none_fewer _ = refl

header_enough : (ss : List Segment) → list_any (has_fewer 0) ss ≡ false
header_enough ss = list_any_none (has_fewer 0) ss (λ i e lt. none_fewer (get_or ss i e))

neither_there : (a b : Option ℕ) → a ≡ None → b ≡ None → option_or (choice_at 8 a) (choice_at 9 b) ≡ None
neither_there a b e h = rw (e, h) refl

not_main : (test : Bool) (o : Option ℕ) → test ≡ false → o ≡ None → (cond test (Some 0) o) ≡ None
not_main test o e h = rw (e, h) refl

pub no_choice : (s : Stream) → HeadersStand s → first_choice 0 s ≡ None
no_choice s stand =
    let sizes : None ≡ first_passing 0 s.siz.comps = no_place (passes_byte 0) s.siz.comps no_size (λ k inside. (let r : CompSizeInRange (get_or s.siz.comps k no_size) = stand.siz.each k no_size inside in
    byte_holds (get_or s.siz.comps k no_size).dx (get_or s.siz.comps k no_size).dy r.dx r.dy)) in
    let tiles : None ≡ position (tile_has_fewer 0) s.tiles = no_place (tile_has_fewer 0) s.tiles no_tile (λ k inside. header_enough (get_or s.tiles k no_tile).header) in
    neither_there (first_passing 0 s.siz.comps) (first_fewer 0 s) (sym sizes) (not_main (list_any (has_fewer 0) s.main) (position (tile_has_fewer 0) s.tiles) (header_enough s.main) (sym tiles))
