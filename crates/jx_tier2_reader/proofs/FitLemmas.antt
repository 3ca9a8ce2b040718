-- The blocks of a stream fit the leaves of its precincts, as headers are written for them.
use Rattle.std.proofs.Common.{◌≡◌, ℕ, zero, suc, ◌+◌, ◌-◌, ◌*◌, ◌<◌, ◌≤◌, ◌==◌, nat_lt, Bool, true, false, List, [], ◌∷◌, ◌++◌, length, map, take, drop, refl, sym, ap, ◌∙◌, subst, cond, arith, Some, None, Option, inl, inr, All}
use Rattle.std.specs.Prelude.{slice_get}
use Rattle.std.specs.List.{AllByRecursion, range_with_len}
use Rattle.std.proofs.lemmas.Bool.{cases_lt, cases_eq}
use Rattle.std.proofs.lemmas.List.{length-map, map-append}
use Rattle.std.proofs.lemmas.List.Elements.{recursion_from_All}
use Rattle.std.proofs.lemmas.List.FromFn.{length-range_with_len}
use Rattle.std.proofs.lemmas.List.Sums.{sum_by-cons}
use Rattle.std.proofs.Math.Seq.{take-append_seam, drop-append_seam}
use Rattle.jx_base.specs.declared.names.Band.{Band}
use Rattle.jx_base.specs.declared.names.Rect.{Rect}
use Rattle.jx_base.specs.declared.names.BlockName.{BlockName}
use Rattle.jx_base.specs.declared.pieces.Block.{Block}
use Rattle.jx_base.specs.Bands.{bands_at}
use Rattle.jx_base.specs.Pieces.{PieceValue, ArePieces, bytes_in, passes_at, passes_below}
use Rattle.jx_base.specs.Places.{size_of}
use Rattle.jx_base.specs.Sound.{IsSound}
use Rattle.jx_geom.specs.Geometry.{Geometry, GeometryInRange, HasBlock}
use Rattle.jx_geom.specs.Numbering.{IsBlock, block_number, blocks_below, number_in_tile}
use Rattle.jx_packet_header.specs.declared.HeaderPart.{HeaderPart}
use Rattle.jx_packet_header.specs.Parts.{cut}
use Rattle.jx_packet_header.specs.Written.{Leafed, parts_in, passes_of}
use Rattle.jx_packet_header.specs.Writable.{all_passes}
use Rattle.jx_packet_header.specs.LeavesFit.{AreRuns, passes_before, IsLayerCut, FitsLeaf, FitBand, FitBands, LeavesFit, HasShort, AllShort, InTypes}
use Rattle.jx_progression.specs.Steps.{name_of}
use Rattle.jx_codestream.specs.declared.Stream.{Stream}
use Rattle.jx_codestream.specs.First.{canvas_of, tile_number}
use Rattle.jx_codestream.specs.Params.{planes_at}
use Rattle.jx_codestream.specs.Read.{IsRead}
use Rattle.jx_codestream.specs.Shapes.{geometry, shapes_of, layers_of, style_of}
use Rattle.jx_tile.specs.Totals.{totals_fault}
use Rattle.jx_codestream.specs.InRange.{StreamInRange}
use Rattle.jx_geom.specs.Precincts.{leaves, HasPrecinct, cells_at, name_from, leaf_name, leaf_number, leaves_in}
use Rattle.jx_tier2_reader.specs.BlockOf.{pieces_at, AreCutAsRead, IsFoundOf, AreBlocksOf}
use Rattle.jx_tier2_reader.specs.Carries.{block_in, header_part_of}
use Rattle.jx_tier2_reader.specs.Planned.{leaf_part_of, leaf_from, leaf_in, leaves_of_blocks}
use Rattle.jx_tier2_reader.proofs.CellLemmas.{pick, size_is, bands_of, cells_count}
use Rattle.jx_geom.proofs.LeafLemmas.{name_here, name_later, leaf_of, leaf_is, leaf_there}
use Rattle.jx_tier2_reader.proofs.CutRuns.{total}
use Rattle.jx_tier2_reader.proofs.FewLemmas.{passes_past as at_past, passes_cons as at_here}
use Rattle.jx_tier2_reader.proofs.CarryLemmas.{layer_here, layer_past, layer_nothing}
use Rattle.jx_tier2_reader.proofs.PlannedLemmas.{parts_of_pieces, leaves_long, sound_at}
use Rattle.jx_codestream.proofs.RangeLemmas.{read_in_range}
use Rattle.jx_tile.proofs.TotalLemmas.{geometry_fits}
use Rattle.jx_tile.specs.Cells.{sizes_of, precinct_bands}
use Rattle.jx_base.specs.Limits.{most_bytes}

-- ---- the parts of a block
passes_before_is : (layer j : ℕ) (qs : List PieceValue) → passes_before layer (map (leaf_part_of j) qs) ≡ passes_below layer qs
passes_before_is layer j [] = refl
passes_before_is layer j (q ∷ qs) = ap (λ (n : ℕ). cond (nat_lt q.layer layer) (q.passes + n) n) (passes_before_is layer j qs)

passes_total : (j : ℕ) (qs : List PieceValue) → passes_of (map (header_part_of j) qs) ≡ total qs
passes_total j [] = refl
passes_total j (q ∷ qs) = ap (λ (n : ℕ). q.passes + n) (passes_total j qs)

layer_total : (layer : ℕ) (qs : List PieceValue) → total (pieces_at layer qs) ≡ passes_at layer qs
layer_total layer [] = ap total (layer_nothing layer)
layer_total layer (q ∷ qs) = elim (cases_eq q.layer layer) [
  | inl e ↦ ap total (layer_here layer q qs e) ∙ ap (λ (n : ℕ). q.passes + n) (layer_total layer qs) ∙ sym (at_here layer q qs e)
  | inr ne ↦ ap total (layer_past layer q qs ne) ∙ layer_total layer qs ∙ sym (at_past layer q qs ne)
]

passes_mapped : (j : ℕ) (qs : List PieceValue) → map (λ (p : HeaderPart). p.passes) (map (header_part_of j) qs) ≡ map (λ (q : PieceValue). q.passes) qs
passes_mapped j [] = refl
passes_mapped j (q ∷ qs) = ap (λ (ns : List ℕ). q.passes ∷ ns) (passes_mapped j qs)

layer_cut : (style j layer : ℕ) (qs : List PieceValue) → passes_at layer qs ≤ 164 → AreCutAsRead style qs → IsLayerCut style layer (map (leaf_part_of j) qs)
layer_cut style j layer qs few cuts =
    let parts : parts_in layer (map (leaf_part_of j) qs) ≡ map (header_part_of j) (pieces_at layer qs) = parts_of_pieces layer j qs in
    let sum : passes_of (parts_in layer (map (leaf_part_of j) qs)) ≡ passes_at layer qs = ap (λ (l : List HeaderPart). passes_of l) parts ∙ passes_total j (pieces_at layer qs) ∙ layer_total layer qs in
    record {
      few = omega (arith, few, sum);
      runs = ap (map (λ (p : HeaderPart). p.passes)) parts ∙ passes_mapped j (pieces_at layer qs) ∙ cuts layer
          ∙ ap (λ (n : ℕ). cut style n (passes_at layer qs)) (sym (passes_before_is layer j qs)) ∙ ap (cut style (passes_before layer (map (leaf_part_of j) qs))) (sym sum);
    }

runs_from : (style layers j layer first last : ℕ) (qs : List PieceValue) → ArePieces style layer first last qs → AllByRecursion (λ (q : PieceValue). q.layer < layers) qs → AreRuns layers j layer first (map (leaf_part_of j) qs)
runs_from style layers j layer first last [] a low = tt
runs_from style layers j layer first last (q ∷ qs) a low = (a.0.layers, low.0, refl, a.0.begins, a.0.some, runs_from style layers j q.layer (first + q.passes) last qs a.1 low.1)

pub pieces_total : (style layer first last j : ℕ) (qs : List PieceValue) → ArePieces style layer first last qs → first + all_passes (map (leaf_part_of j) qs) ≡ last
pieces_total style layer first last j [] a = let e : first ≡ last = a in omega arith
pieces_total style layer first last j (q ∷ qs) a = let e : first + q.passes + all_passes (map (leaf_part_of j) qs) ≡ last = pieces_total style q.layer (first + q.passes) last j qs a.1 in omega arith

fits_pieces : (style layers planes j z passes : ℕ) (qs : List PieceValue) → ArePieces style 0 0 passes qs → passes ≤ 3 * (planes - z) - 2 → AllByRecursion (λ (q : PieceValue). q.layer < layers) qs
    → ((layer : ℕ) → passes_at layer qs ≤ 164) → AreCutAsRead style qs → FitsLeaf style layers planes j (record { zero = z; parts = map (leaf_part_of j) qs }) (map (leaf_part_of j) qs)
fits_pieces style layers planes j z passes [] a most low few cuts = tt
fits_pieces style layers planes j z passes (q ∷ qs) a most low few cuts =
    let sum : 0 + (q.passes + all_passes (map (leaf_part_of j) qs)) ≡ passes = pieces_total style 0 0 passes j (q ∷ qs) a in
    let some : 1 ≤ q.passes = a.0.some in
    record {
      zero_planes = omega arith;
      few = omega arith;
      parts = runs_from style layers j 0 0 passes (q ∷ qs) a low;
      cuts = λ layer. layer_cut style j layer (q ∷ qs) (few layer) cuts;
    }

short_pieces : (j : ℕ) (qs : List PieceValue) → bytes_in qs ≤ most_bytes → HasShort (map (leaf_part_of j) qs)
short_pieces j [] few = tt
short_pieces j (q ∷ qs) few =
    let sum : bytes_in (q ∷ qs) ≡ length q.bytes + bytes_in qs = sum_by-cons (λ (x : PieceValue). length x.bytes) q qs in
    (omega arith, short_pieces j qs (omega arith))

-- ---- a leaf of a precinct
record LeafFits (s : Stream) (t : ℕ) (c : ℕ) (planes j : ℕ) (leaf : Leafed) : Type 0 where
  pub fits : FitsLeaf (style_of s t c) (layers_of s t) planes j leaf leaf.parts
  pub short : HasShort leaf.parts

block_fits : (s : Stream) (t c planes j : ℕ) (n : BlockName) (o : Option Block) → n.tile ≡ t → n.comp ≡ c → planes_at s n.tile n.comp n.res n.band ≡ planes → IsFoundOf s n o → ((d : Block) → o ≡ Some d → IsSound d)
    → LeafFits s t c planes j (leaf_from j o)
block_fits s t c planes j n None et ec ep is sound = absurd is
block_fits s t c planes j n (Some d) et ec ep is sound =
    let good : IsSound d = sound d refl in
    let style : d.style.bits ≡ style_of s t c = is.style ∙ ap (λ (x : ℕ). style_of s x n.comp) et ∙ ap (style_of s t) ec in
    let most : d.passes ≤ 3 * (planes - d.zero) - 2 = subst (λ (p : ℕ). d.passes ≤ 3 * (p - d.zero) - 2) (is.planes ∙ ep) good.few in
    let low : AllByRecursion (λ (q : PieceValue). q.layer < layers_of s t) d.pieces =
    subst (λ (x : ℕ). AllByRecursion (λ (q : PieceValue). q.layer < layers_of s x) d.pieces) et (recursion_from_All (λ (q : PieceValue). q.layer < layers_of s n.tile) d.pieces is.layers) in
    record {
      fits = fits_pieces (style_of s t c) (layers_of s t) planes j d.zero d.passes d.pieces (subst (λ (x : ℕ). ArePieces x 0 0 d.passes d.pieces) style good.pieces) most low is.few
          (subst (λ (x : ℕ). AreCutAsRead x d.pieces) style is.cuts);
      short = short_pieces j d.pieces good.bytes;
    }

named_tile : (g : Geometry) (c r k : ℕ) (bands : List Band) (j : ℕ) → (name_from g c r k bands j).tile ≡ g.tile
named_tile g c r k [] j = refl
named_tile g c r k (b ∷ bands) j = elim (cases_lt j (size_of (cells_at g c r k b))) [
  | inl lt ↦ ap (λ (n : BlockName). n.tile) (name_here g c r k b bands j lt)
  | inr le ↦ ap (λ (n : BlockName). n.tile) (name_later g c r k b bands j le) ∙ named_tile g c r k bands (j - size_of (cells_at g c r k b))
]

leaf_tile : (g : Geometry) (c r k j : ℕ) → (leaf_name g c r k j).tile ≡ g.tile
unfolding leaf_name
leaf_tile g c r k j = named_tile g c r k (bands_at r) j

-- what a precinct's leaves are taken from
record Taken (s : Stream) (t : ℕ) (blocks : List Block) (c r k : ℕ) : Type 0 where
  pub limits : GeometryInRange (geometry s t)
  pub inside : t < tile_number s.siz
  pub has : HasPrecinct (geometry s t) c r k
  pub are : AreBlocksOf s blocks
  pub sound : All IsSound blocks

leaf_found : (s : Stream) (t : ℕ) (blocks : List Block) (c r k j : ℕ) → Taken s t blocks c r k → j < leaves (geometry s t) c r k
    → IsFoundOf s (leaf_name (geometry s t) c r k j) (block_in s t blocks (name_of 0 r c k) j)
unfolding block_number
leaf_found s t blocks c r k j h lt =
    let g : Geometry = geometry s t in
    let n : BlockName = leaf_name g c r k j in
    let et : n.tile ≡ t = leaf_tile g c r k j in
    let there : HasBlock g n = leaf_there g c r k j h.limits h.has lt in
    let is : IsBlock (canvas_of s.siz) (shapes_of s) n = (subst (λ (x : ℕ). x < tile_number s.siz) (sym et) h.inside, subst (λ (x : ℕ). HasBlock (geometry s x) n) (sym et) there) in
    let number : blocks_below (canvas_of s.siz) (shapes_of s) n.tile + number_in_tile (geometry s n.tile) n ≡ blocks_below (canvas_of s.siz) (shapes_of s) t + leaf_number g c r k j =
    ap (λ (x : ℕ). blocks_below (canvas_of s.siz) (shapes_of s) x + number_in_tile (geometry s x) n) et ∙ ap (λ (i : ℕ). blocks_below (canvas_of s.siz) (shapes_of s) t + i) (sym (leaf_is g c r k j)) in
    subst (λ (i : ℕ). IsFoundOf s n (slice_get blocks i)) number (h.are.each n is)

leaf_fit : (s : Stream) (t : ℕ) (blocks : List Block) (c r k j : ℕ) → Taken s t blocks c r k → j < leaves (geometry s t) c r k
    → LeafFits s t c (planes_at s t c r (leaf_name (geometry s t) c r k j).band) j (leaf_in s t blocks c r k j)
leaf_fit s t blocks c r k j h lt =
    let g : Geometry = geometry s t in
    let n : BlockName = leaf_name g c r k j in
    let leaf = leaf_of g c r k j h.limits h.has lt in
    let et : n.tile ≡ t = leaf_tile g c r k j in
    let planes : planes_at s n.tile n.comp n.res n.band ≡ planes_at s t c r n.band =
    ap (λ (x : ℕ). planes_at s x n.comp n.res n.band) et ∙ ap (λ (x : ℕ). planes_at s t x n.res n.band) leaf.comp ∙ ap (λ (x : ℕ). planes_at s t c x n.band) leaf.res in
    block_fits s t c (planes_at s t c r n.band) j n (block_in s t blocks (name_of 0 r c k) j) et leaf.comp planes (leaf_found s t blocks c r k j h lt)
    (λ d found. sound_at blocks (blocks_below (canvas_of s.siz) (shapes_of s) t + leaf_number g c r k j) d h.sound found)

-- ---- all leaves of a precinct
range_split : (a m n : ℕ) → range_with_len a (m + n) ≡ range_with_len a m ++ range_with_len (a + m) n
range_split a zero n = let e : 0 + n ≡ n = omega arith in let f : a ≡ a + 0 = omega arith in ap (range_with_len a) e ∙ ap (λ (x : ℕ). range_with_len x n) f
range_split a (suc m) n =
    let e : suc m + n ≡ suc (m + n) = omega arith in
    let f : a + 1 + m ≡ a + suc m = omega arith in
    ap (range_with_len a) e ∙ ap (λ (xs : List ℕ). a ∷ xs) (range_split (a + 1) m n) ∙ ap (λ (x : ℕ). (a ∷ range_with_len (a + 1) m) ++ range_with_len x n) f

fit_band : (style layers planes a n : ℕ) (leaf : ℕ → Leafed) → ((i : ℕ) → i < n → FitsLeaf style layers planes (a + i) (leaf (a + i)) (leaf (a + i)).parts) → FitBand style layers planes a (map leaf (range_with_len a n))
fit_band style layers planes a zero leaf each = tt
fit_band style layers planes a (suc n) leaf each =
    let F : ℕ → Type 0 = λ x. FitsLeaf style layers planes x (leaf x) (leaf x).parts in
    let here : a + 0 ≡ a = omega arith in
    (subst F here (each 0 (omega arith)), fit_band style layers planes (a + 1) n leaf (λ i lt. (let e : a + suc i ≡ a + 1 + i = omega arith in subst F e (each (suc i) (omega arith)))))

planes_is : (cells : Rect) (planes : ℕ) → (sizes_of cells planes).planes ≡ planes
planes_is cells planes = by (size_of cells == 0)
  where
    by : (t : Bool) → (pick cells planes t).planes ≡ planes
    by true = refl
    by false = refl

fit_bands : (s : Stream) (g : Geometry) (style layers c r k base : ℕ) (bands : List Band) (leaf : ℕ → Leafed)
    → ((i : ℕ) → i < leaves_in g c r k bands → FitsLeaf style layers (planes_at s g.tile c r (name_from g c r k bands i).band) (base + i) (leaf (base + i)) (leaf (base + i)).parts)
    → FitBands style layers base (bands_of s g c r k bands) (map leaf (range_with_len base (leaves_in g c r k bands)))
fit_bands s g style layers c r k base [] leaf each = tt
fit_bands s g style layers c r k base (b ∷ bands) leaf each =
    let cells : Rect = cells_at g c r k b in
    let planes : ℕ = planes_at s g.tile c r b in
    let size : ℕ = size_of cells in
    let rest : ℕ = leaves_in g c r k bands in
    let n : ℕ = (sizes_of cells planes).wide * (sizes_of cells planes).high in
    let n_is : n ≡ size = size_is cells planes in
    let front : List Leafed = map leaf (range_with_len base size) in
    let back : List Leafed = map leaf (range_with_len (base + size) rest) in
    let all : map leaf (range_with_len base (size + rest)) ≡ front ++ back =
    ap (map leaf) (range_split base size rest) ∙ map-append leaf (range_with_len base size) (range_with_len (base + size) rest) in
    let long : n ≡ length front = n_is ∙ sym (length-map (range_with_len base size) leaf ∙ length-range_with_len base size) in
    let taken : take n (map leaf (range_with_len base (size + rest))) ≡ front = ap (take n) all ∙ ap (λ (m : ℕ). take m (front ++ back)) long ∙ take-append_seam front back in
    let left : drop n (map leaf (range_with_len base (size + rest))) ≡ back = ap (drop n) all ∙ ap (λ (m : ℕ). drop m (front ++ back)) long ∙ drop-append_seam front back in
    let own : FitBand style layers planes base front = fit_band style layers planes base size leaf (λ i lt.
    subst (λ (x : BlockName). FitsLeaf style layers (planes_at s g.tile c r x.band) (base + i) (leaf (base + i)) (leaf (base + i)).parts) (name_here g c r k b bands i lt) (each i (omega arith))) in
    let later : FitBands style layers (base + size) (bands_of s g c r k bands) back = fit_bands s g style layers c r k (base + size) bands leaf (λ i lt.
    (let place : base + (size + i) ≡ base + size + i = omega arith in
    let step : size + i - size ≡ i = omega arith in
    let F : BlockName → ℕ → Type 0 = λ x m. FitsLeaf style layers (planes_at s g.tile c r x.band) m (leaf m) (leaf m).parts in
    subst (λ (m : ℕ). F (name_from g c r k bands i) m) place
    (subst (λ (x : BlockName). F x (base + (size + i))) (name_later g c r k b bands (size + i) (omega arith) ∙ ap (name_from g c r k bands) step) (each (size + i) (omega arith))))) in
    let P : ℕ → List Leafed → Type 0 = λ p l. FitBand style layers p base l in
    let Q : ℕ → List Leafed → Type 0 = λ m l. FitBands style layers (base + m) (bands_of s g c r k bands) l in (
      subst (λ (p : ℕ). P p (take n (map leaf (range_with_len base (size + rest))))) (sym (planes_is cells planes)) (subst (P planes) (sym taken) own),
      subst (λ (m : ℕ). Q m (drop n (map leaf (range_with_len base (size + rest))))) (sym n_is) (subst (Q size) (sym left) later),
    )

short_range : (a n : ℕ) (leaf : ℕ → Leafed) → ((i : ℕ) → i < n → HasShort (leaf (a + i)).parts) → AllShort (map leaf (range_with_len a n))
short_range a zero leaf each = tt
short_range a (suc n) leaf each =
    let F : ℕ → Type 0 = λ x. HasShort (leaf x).parts in
    let here : a + 0 ≡ a = omega arith in
    (subst F here (each 0 (omega arith)), short_range (a + 1) n leaf (λ i lt. (let e : a + suc i ≡ a + 1 + i = omega arith in subst F e (each (suc i) (omega arith)))))

precinct_fits : (s : Stream) (t : ℕ) (blocks : List Block) (c r k : ℕ) → Taken s t blocks c r k → FitBands (style_of s t c) (layers_of s t) 0 (precinct_bands s (geometry s t) c r k) (leaves_of_blocks s t blocks c r k)
unfolding precinct_bands leaves_of_blocks leaf_name
precinct_fits s t blocks c r k h =
    let F : ℕ → ℕ → Type 0 = λ i x. FitsLeaf (style_of s t c) (layers_of s t) (planes_at s t c r (name_from (geometry s t) c r k (bands_at r) i).band) x (leaf_in s t blocks c r k x) (leaf_in s t blocks c r k x).parts in
    fit_bands s (geometry s t) (style_of s t c) (layers_of s t) c r k 0 (bands_at r) (leaf_in s t blocks c r k)
    (λ i lt. (let e : i ≡ 0 + i = omega arith in subst (F i) e (leaf_fit s t blocks c r k i h lt).fits))

precinct_short : (s : Stream) (t : ℕ) (blocks : List Block) (c r k : ℕ) → Taken s t blocks c r k → AllShort (leaves_of_blocks s t blocks c r k)
unfolding leaves_of_blocks
precinct_short s t blocks c r k h =
    short_range 0 (leaves (geometry s t) c r k) (leaf_in s t blocks c r k)
    (λ i lt. (let e : i ≡ 0 + i = omega arith in subst (λ (x : ℕ). HasShort (leaf_in s t blocks c r k x).parts) e (leaf_fit s t blocks c r k i h lt).short))

pub blocks_fit : (b : List ℕ) (s : Stream) (t : ℕ) (blocks : List Block) (c r k : ℕ) → IsRead b s → totals_fault s ≡ None → t < tile_number s.siz → AreBlocksOf s blocks → All IsSound blocks → HasPrecinct (geometry s t) c r k
    → LeavesFit (style_of s t c) (layers_of s t) (precinct_bands s (geometry s t) c r k) (leaves_of_blocks s t blocks c r k) × InTypes (layers_of s t) (leaves_of_blocks s t blocks c r k)
blocks_fit b s t blocks c r k read none inside are sound has =
    let range : StreamInRange s = read_in_range b s read in
    let h : Taken s t blocks c r k = record { limits = geometry_fits s t range none inside; inside = inside; has = has; are = are; sound = sound } in (
      record {
        all = leaves_long s t blocks c r k ∙ sym (cells_count s (geometry s t) c r k);
        each = precinct_fits s t blocks c r k h;
      },
      record { few = range.few_layers t inside; short = precinct_short s t blocks c r k h },
    )
