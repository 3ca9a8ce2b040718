-- The lists of a tile that loops make.
use Rattle.std.proofs.Common.{◌≡◌, ℕ, ◌+◌, ◌<◌, ◌≤◌, List, [], ◌∷◌, ◌++◌, length, take, get_or, ◌∙◌, ap, sym, subst, refl, arith, append_assoc, append-nil}
use Rattle.std.specs.List.{flat_map}
use Rattle.std.proofs.Math.Seq.{take-length}
use Rattle.std.proofs.lemmas.Grind.{flat_map-append}
use Rattle.std.proofs.lemmas.List.{take_more, length-map}
use Rattle.std.proofs.lemmas.List.FromFn.{length-range_with_len}
use Rattle.jx_base.specs.declared.names.Band.{Band}
use Rattle.jx_base.specs.declared.names.BlockName.{BlockName}
use Rattle.jx_base.specs.declared.style.Style.{Style}
use Rattle.jx_base.specs.declared.pieces.Block.{Block}
use Rattle.jx_base.specs.declared.names.Rect.{Rect}
use Rattle.jx_geom.specs.Rects.{block_rect}
use Rattle.jx_geom.specs.Geometry.{Geometry, shape_of, rect_of_tile}
use Rattle.jx_packet_header.specs.declared.BandCells.{BandCells}
use Rattle.jx_packet_header.specs.Precinct.{fresh_state}
use Rattle.jx_codestream.specs.declared.Stream.{Stream}
use Rattle.jx_codestream.specs.Params.{planes_at}
use Rattle.jx_tier2_reader.specs.Blocks.{own_founds, block_of, blocks_of_band, blocks_of_resolution}
use Rattle.jx_tile.specs.Cells.{precinct_bands}
use Rattle.jx_tier2_reader.specs.Fresh.{fresh_precinct}
use Rattle.jx_codestream.specs.InRange.{StreamInRange}
use Rattle.jx_codestream.specs.Shapes.{geometry, shapes_of, shapes_in, style_of}
use Rattle.jx_base.specs.Bands.{bands_at}

-- a tile has as many components as the picture
pub few_components : (s : Stream) (g : Geometry) → StreamInRange s → g ≡ geometry s g.tile → length g.shapes ≤ 16384
unfolding shapes_in
few_components s g h e =
    let P : Geometry → Type 0 = λ x. length x.shapes ≤ 16384 in
    let long : length (shapes_of s g.tile) ≡ length s.siz.comps =
    length-map _ _ ∙ length-range_with_len 0 (length s.siz.comps) in
    subst P (sym e) (omega (arith, long, h.few_comps))

-- the blocks of a resolution, appended band by band
pub bands_first : {X : Type 0} (f : Band → List X) (base : List X) → base ≡ base ++ flat_map f []
bands_first f base = sym (append-nil base)

pub bands_next : {X : Type 0} (f : Band → List X) (bands : List Band) (i : ℕ) (d : Band) (base old new : List X) → i < length bands
    → old ≡ base ++ flat_map f (take i bands) → new ≡ old ++ f (get_or bands i d) → new ≡ base ++ flat_map f (take (i + 1) bands)
bands_next {X} f bands i d base old new lt before step =
    let own : List X = f (get_or bands i d) in
    let more : flat_map f (take i bands) ++ own ≡ flat_map f (take (i + 1) bands) =
    ap (λ (xs : List X). flat_map f (take i bands) ++ xs) (sym (append-nil own)) ∙ sym (flat_map-append f (take i bands) (get_or bands i d ∷ []))
    ∙ ap (flat_map f) (sym (take_more bands i d lt)) in
    step ∙ ap (λ (xs : List X). xs ++ own) before ∙ append_assoc base (flat_map f (take i bands)) own ∙ ap (λ (xs : List X). base ++ xs) more

pub bands_last : (s : Stream) (g : Geometry) (c r : ℕ) (bands : List Band) (n : ℕ) (base new : List Block) → n ≡ length bands → bands ≡ bands_at r
    → new ≡ base ++ flat_map (blocks_of_band s g [] c r) (take n bands) → new ≡ base ++ blocks_of_resolution s g [] c r
unfolding blocks_of_resolution
bands_last s g c r bands n base new all e h =
    h ∙ ap (λ (m : ℕ). base ++ flat_map (blocks_of_band s g [] c r) (take m bands)) all ∙ ap (λ (bs : List Band). base ++ flat_map (blocks_of_band s g [] c r) bs) (take-length bands ∙ e)

-- a precinct of these bands, and a block that has no pass
pub fresh_from : (s : Stream) (g : Geometry) (c r k bits : ℕ) (bands : List BandCells) → bits ≡ style_of s g.tile c → bands ≡ precinct_bands s g c r k
    → fresh_state bits bands ≡ fresh_precinct s g c r k
fresh_from s g c r k bits bands e is =
    ap (λ n. fresh_state n bands) e ∙ ap (λ (x : List BandCells). fresh_state (style_of s g.tile c) x) is

abbrev named_at : ℕ → ℕ → ℕ → Band → ℕ → BlockName
named_at t c r b i = record { tile = t; comp = c; res = r; band = b; index = i }

abbrev value_at : BlockName → Rect → Style → ℕ → Block
value_at n places style planes = record {
  name = n;
  rect = places;
  planes = planes;
  zero = planes;
  passes = 0;
  style = style;
  pieces = [];
}

abbrev value : Geometry → BlockName → Style → ℕ → Block
value g n style planes = value_at n (block_rect (rect_of_tile g) (shape_of g n.comp) n.res n.band n.index) style planes

abbrev style_with : ℕ → Style
style_with n = record { bits = n }

pub fresh_is : (s : Stream) (g : Geometry) (c r : ℕ) (b : Band) (i t planes : ℕ) (style : Style) (places : Rect) (x : Block) → t ≡ g.tile
    → style.bits ≡ style_of s t c → planes ≡ planes_at s t c r b → places ≡ block_rect (rect_of_tile g) (shape_of g c) r b i
    → x ≡ value_at (named_at t c r b i) places style planes → x ≡ block_of s g [] (named_at g.tile c r b i)
unfolding own_founds
fresh_is s g c r b i t planes style places x same bits all there is =
    let P : ℕ → Type 0 = λ n. value g (named_at n c r b i) (style_with (style_of s n c)) (planes_at s n c r b) ≡ block_of s g [] (named_at g.tile c r b i) in
    is ∙ ap (λ (p : Rect). value_at (named_at t c r b i) p style planes) there ∙ ap (λ n. value g (named_at t c r b i) style n) all
    ∙ ap (λ n. value g (named_at t c r b i) (style_with n) (planes_at s t c r b)) bits
    ∙ subst P (sym same) refl
