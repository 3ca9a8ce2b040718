-- Shapes that give the same code-blocks.
use Rattle.std.proofs.Common.{◌≡◌, ℕ, zero, suc, ◌+◌, ◌-◌, ◌≤◌, ◌<◌, ◌↔◌, List, length, take, get_or, ◌∙◌, ap, sym, subst, refl, arith}
use Rattle.jx_base.specs.declared.names.Rect.{Rect}
use Rattle.jx_base.specs.declared.names.Band.{Band}
use Rattle.jx_base.specs.declared.names.Band.TheVariants.{LL, HL, LH, HH}
use Rattle.jx_base.specs.declared.names.BlockName.{BlockName}
use Rattle.jx_base.specs.Places.{size_of}
use Rattle.std.proofs.Math.Seq.{take-length}
use Rattle.jx_base.specs.Joined.{sum_below}
use Rattle.jx_base.proofs.Sums.{front_sum}
use Rattle.jx_geom.specs.declared.shape.Canvas.{Canvas}
use Rattle.jx_geom.specs.declared.shape.CompShape.{CompShape}
use Rattle.jx_geom.specs.Rects.{tile_rect, component_rect, band_level, band_rect, block_cells, block_rect}
use Rattle.jx_geom.specs.Counts.{block_count, blocks_before_band, resolution_blocks, component_blocks, tile_blocks, tile_count}
use Rattle.jx_geom.specs.Geometry.{HasBlock, no_shape}
use Rattle.jx_geom.specs.Numbering.{IsBlock, block_number, number_in_tile}
use Rattle.jx_geom.specs.Same.{AllSameBlocks, SameBlocks}

pub same_component : (tile : Rect) (s t : CompShape) → SameBlocks s t → component_rect tile s ≡ component_rect tile t
unfolding component_rect
same_component tile s t h = rw (h.step_across, h.step_down) refl

pub same_level : (s t : CompShape) (r : ℕ) (b : Band) → SameBlocks s t → band_level s r b ≡ band_level t r b
same_level s t r LL h = h.levels
same_level s t r HL h = ap (λ n. n - r + 1) h.levels
same_level s t r LH h = ap (λ n. n - r + 1) h.levels
same_level s t r HH h = ap (λ n. n - r + 1) h.levels

pub same_band : (tile : Rect) (s t : CompShape) (r : ℕ) (b : Band) → SameBlocks s t → band_rect tile s r b ≡ band_rect tile t r b
unfolding band_rect
same_band tile s t r b h = rw (same_component tile s t h, same_level s t r b h) refl

same_cells : (tile : Rect) (s t : CompShape) (r : ℕ) (b : Band) → SameBlocks s t → r ≤ s.levels → block_cells tile s r b ≡ block_cells tile t r b
unfolding block_cells
same_cells tile s t r b h le = rw (same_band tile s t r b h, h.across r le, h.down r le) refl

same_rect : (tile : Rect) (s t : CompShape) (r : ℕ) (b : Band) (i : ℕ) → SameBlocks s t → r ≤ s.levels → block_rect tile s r b i ≡ block_rect tile t r b i
unfolding block_rect
same_rect tile s t r b i h le = rw (same_band tile s t r b h, same_cells tile s t r b h le, h.across r le, h.down r le) refl

pub same_count : (tile : Rect) (s t : CompShape) (r : ℕ) (b : Band) → SameBlocks s t → r ≤ s.levels → block_count tile s r b ≡ block_count tile t r b
same_count tile s t r b h le = rw (same_cells tile s t r b h le) refl

pub same_resolution : (tile : Rect) (s t : CompShape) (r : ℕ) → SameBlocks s t → r ≤ s.levels → resolution_blocks tile s r ≡ resolution_blocks tile t r
unfolding resolution_blocks
same_resolution tile s t r h le =
    rw (same_count tile s t r LL h le, same_count tile s t r HL h le, same_count tile s t r LH h le, same_count tile s t r HH h le) refl

-- sums of terms that are the same
pub same_sum : (f h : ℕ → ℕ) (n : ℕ) → ((i : ℕ) → i < n → f i ≡ h i) → sum_below f n ≡ sum_below h n
same_sum f h zero e = refl
same_sum f h (suc n) e =
    let before : sum_below f n ≡ sum_below h n = same_sum f h n (λ i lt. e i (omega arith)) in
    omega (arith, e n (omega arith))

pub same_component_blocks : (tile : Rect) (s t : CompShape) → SameBlocks s t → component_blocks tile s ≡ component_blocks tile t
unfolding component_blocks
same_component_blocks tile s t h =
    same_sum (resolution_blocks tile s) (resolution_blocks tile t) (s.levels + 1) (λ r lt. same_resolution tile s t r h (omega arith))
    ∙ ap (λ n. sum_below (resolution_blocks tile t) (n + 1)) h.levels

same_front : (tile : Rect) (xs ys : List CompShape) (n : ℕ) → AllSameBlocks xs ys → n ≤ length xs
    → tile_blocks tile (take n xs) ≡ tile_blocks tile (take n ys)
same_front tile xs ys n h le =
    front_sum (component_blocks tile) xs no_shape n le
    ∙ same_sum (λ i. component_blocks tile (get_or xs i no_shape)) (λ i. component_blocks tile (get_or ys i no_shape)) n
    (λ i lt. same_component_blocks tile (get_or xs i no_shape) (get_or ys i no_shape) (h.each i (omega arith)))
    ∙ sym (front_sum (component_blocks tile) ys no_shape n (omega (arith, h.long)))

pub same_tile : (tile : Rect) (xs ys : List CompShape) → AllSameBlocks xs ys → tile_blocks tile xs ≡ tile_blocks tile ys
same_tile tile xs ys h =
    ap (λ zs. tile_blocks tile zs) (sym (take-length xs))
    ∙ same_front tile xs ys (length xs) h (omega arith)
    ∙ ap (λ n. tile_blocks tile (take n ys)) h.long
    ∙ ap (λ zs. tile_blocks tile zs) (take-length ys)

turned_shape : (s t : CompShape) → SameBlocks s t → SameBlocks t s
turned_shape s t h = record {
  step_across = sym h.step_across;
  step_down = sym h.step_down;
  levels = sym h.levels;
  across = λ r le. sym (h.across r (omega (arith, h.levels)));
  down = λ r le. sym (h.down r (omega (arith, h.levels)));
}

pub turned : (xs ys : List CompShape) → AllSameBlocks xs ys → AllSameBlocks ys xs
turned xs ys h = record {
  long = sym h.long;
  each = λ c lt. turned_shape (get_or xs c no_shape) (get_or ys c no_shape) (h.each c (omega (arith, h.long)));
}

-- the block is in the other one too
there_too : (c : Canvas) (t : ℕ) (xs ys : List CompShape) (n : BlockName) → AllSameBlocks xs ys
    → HasBlock (record { canvas = c; tile = t; shapes = xs }) n → HasBlock (record { canvas = c; tile = t; shapes = ys }) n
there_too c t xs ys n h there =
    let s : CompShape = get_or xs n.comp no_shape in
    let same = h.each n.comp there.resolution.component in
    let P : Rect → Type 0 = λ cells. n.index < size_of cells in
    record {
      tile = there.tile;
      resolution = record { component = omega (arith, there.resolution.component, h.long); level = omega (arith, there.resolution.level, same.levels) };
      band = there.band;
      index = subst P (same_cells (tile_rect c t) (get_or xs n.comp no_shape) (get_or ys n.comp no_shape) n.res n.band same there.resolution.level) there.index;
    }

pub same_there : (c : Canvas) (t : ℕ) (xs ys : List CompShape) (n : BlockName) → AllSameBlocks xs ys
    → HasBlock (record { canvas = c; tile = t; shapes = xs }) n ↔ HasBlock (record { canvas = c; tile = t; shapes = ys }) n
same_there c t xs ys n h = (there_too c t xs ys n h, there_too c t ys xs n (turned xs ys h))

pub same_places : (c : Canvas) (t : ℕ) (xs ys : List CompShape) (n : BlockName) → AllSameBlocks xs ys
    → HasBlock (record { canvas = c; tile = t; shapes = xs }) n
    → block_rect (tile_rect c t) (get_or xs n.comp no_shape) n.res n.band n.index ≡ block_rect (tile_rect c t) (get_or ys n.comp no_shape) n.res n.band n.index
same_places c t xs ys n h there =
    same_rect (tile_rect c t) (get_or xs n.comp no_shape) (get_or ys n.comp no_shape) n.res n.band n.index
    (h.each n.comp there.resolution.component) there.resolution.level

same_before_band : (tile : Rect) (s t : CompShape) (r : ℕ) (b : Band) → SameBlocks s t → r ≤ s.levels
    → blocks_before_band tile s r b ≡ blocks_before_band tile t r b
same_before_band tile s t r LL h le = refl
same_before_band tile s t r HL h le = refl
same_before_band tile s t r LH h le = same_count tile s t r HL h le
same_before_band tile s t r HH h le = rw (same_count tile s t r HL h le, same_count tile s t r LH h le) refl

pub same_number : (c : Canvas) (t : ℕ) (xs ys : List CompShape) (n : BlockName) → AllSameBlocks xs ys
    → HasBlock (record { canvas = c; tile = t; shapes = xs }) n
    → number_in_tile (record { canvas = c; tile = t; shapes = xs }) n ≡ number_in_tile (record { canvas = c; tile = t; shapes = ys }) n
unfolding number_in_tile
same_number c t xs ys n h there =
    let same = h.each n.comp there.resolution.component in
    let le : n.res ≤ (get_or xs n.comp no_shape).levels = there.resolution.level in
    let front = same_front (tile_rect c t) xs ys n.comp h (omega (arith, there.resolution.component)) in
    let below = same_sum (resolution_blocks (tile_rect c t) (get_or xs n.comp no_shape)) (resolution_blocks (tile_rect c t) (get_or ys n.comp no_shape)) n.res
    (λ r lt. same_resolution (tile_rect c t) (get_or xs n.comp no_shape) (get_or ys n.comp no_shape) r same (omega (arith, le))) in
    let bands = same_before_band (tile_rect c t) (get_or xs n.comp no_shape) (get_or ys n.comp no_shape) n.res n.band same le in
    omega (arith, front, below, bands)

-- over the codestream
pub same_block_number : (c : Canvas) (xs ys : ℕ → List CompShape) (n : BlockName) → ((t : ℕ) → t < tile_count c → AllSameBlocks (xs t) (ys t))
    → IsBlock c xs n → block_number c xs n ≡ block_number c ys n
unfolding block_number
same_block_number c xs ys n h there =
    let below = same_sum (λ t. tile_blocks (tile_rect c t) (xs t)) (λ t. tile_blocks (tile_rect c t) (ys t)) n.tile
    (λ t lt. same_tile (tile_rect c t) (xs t) (ys t) (h t (omega (arith, there.0)))) in
    omega (arith, below, same_number c n.tile (xs n.tile) (ys n.tile) n (h n.tile there.0) there.1)
