-- The coefficient of a place, by the code-block that has the place.
use Rattle.std.proofs.Common.{◌≡◌, ◌∙◌, ℕ, ◌+◌, ◌^◌, ◌<◌, ◌≤◌, ◌==◌, List, length, get_or, ap, sym, subst, refl, arith, true, ◌&&◌, Option, None, Some, nat_le, nat_lt}
use Rattle.std.specs.List.{slice_get}
use Rattle.std.specs.Option.{option_map}
use Rattle.std.proofs.lemmas.Bool.{and_from, and_parts, eq-eqb, eqb-true, le-leb, leb-true}
use Rattle.std.proofs.lemmas.Bool.Decides.{nat_tests}
use Rattle.std.proofs.lemmas.Option.{get_or_from_slice_get, slice_get_within}
use Rattle.jx_base.specs.declared.names.Band.{Band}
use Rattle.jx_base.specs.declared.names.Band.TheVariants.{LL, HL, LH, HH}
use Rattle.jx_base.specs.declared.names.BlockName.{BlockName}
use Rattle.jx_base.specs.declared.names.Rect.{Rect}
use Rattle.jx_base.specs.declared.names.Span.{Span}
use Rattle.jx_base.specs.declared.pieces.Block.{Block}
use Rattle.jx_base.specs.Places.{InRect, InSpan, size_of}
use Rattle.jx_base.specs.Sound.{IsSound}
use Rattle.jx_base.proofs.Lists.{all_at}
use Rattle.jx_geom.specs.Geometry.{Geometry, HasBlock, HasResolution, blocks_in, rect_of_tile, shape_of}
use Rattle.jx_geom.specs.Numbering.{IsBlock, block_number, blocks_below, number_in_tile}
use Rattle.jx_geom.specs.Rects.{block_rect}
use Rattle.jx_geom.proofs.NumberLemmas.{block_number_taken}
use Rattle.jx_progression.specs.Loops.{is_in}
use Rattle.jx_codestream.specs.declared.Stream.{Stream}
use Rattle.jx_codestream.specs.First.{canvas_of, tile_number}
use Rattle.jx_codestream.specs.Shapes.{geometry, shapes_of}
use Rattle.jx_tile.specs.Faults.{passed}
use Rattle.jx_tile.specs.Totals.{block_total, packet_total, totals_fault}
use Rattle.jx_tile.proofs.TotalLemmas.{blocks_are, not_passed}
use Rattle.jx_tier2_reader.specs.BlockOf.{AreBlocksOf, IsBlockOf, IsFoundOf}
use Rattle.jx_plan.specs.Meaning.{Place, is_band, lies_in, sample_at, sample_in}
use Rattle.jx_same.specs.declared.side.BandName.{BandName}
use Rattle.jx_same.specs.Items.{rect_in}
use Rattle.jx_same.specs.Sides.{Covers, HasBandOf, IsSide, SideValue, geometry_at, place_in}
use Rattle.jx_same.proofs.FindLemmas.{find_only, none_first}
use Rattle.jx_same.proofs.PlaceLemmas.{one_block}
use Rattle.jx_base.specs.Limits.{most_blocks}

-- ---- a place that lies in a block
is_in_to : (s : Span) (n : ℕ) → is_in s n ≡ true → InSpan s n
is_in_to s n h =
    let b = and_parts (nat_le s.low n) (nat_lt n s.high) h in
    record { from = leb-true s.low n b.0; below = grind (arith, nat_tests) }

is_in_from : (s : Span) (n : ℕ) → InSpan s n → is_in s n ≡ true
is_in_from s n i = and_from (nat_le s.low n) (nat_lt n s.high) (le-leb s.low n i.from) (let below = i.below in grind (arith, nat_tests))

is_band_to : (a b : Band) → is_band a b ≡ true → a ≡ b
is_band_to LL LL h = refl
is_band_to LL HL h = absurd (cc)
is_band_to LL LH h = absurd (cc)
is_band_to LL HH h = absurd (cc)
is_band_to HL LL h = absurd (cc)
is_band_to HL HL h = refl
is_band_to HL LH h = absurd (cc)
is_band_to HL HH h = absurd (cc)
is_band_to LH LL h = absurd (cc)
is_band_to LH HL h = absurd (cc)
is_band_to LH LH h = refl
is_band_to LH HH h = absurd (cc)
is_band_to HH LL h = absurd (cc)
is_band_to HH HL h = absurd (cc)
is_band_to HH LH h = absurd (cc)
is_band_to HH HH h = refl

is_band_from : (a : Band) → is_band a a ≡ true
is_band_from LL = refl
is_band_from HL = refl
is_band_from LH = refl
is_band_from HH = refl

pub record Has (p : Place) (b : Block) : Type 0 where
  pub tile : p.tile ≡ b.name.tile
  pub comp : p.comp ≡ b.name.comp
  pub res : p.res ≡ b.name.res
  pub band : p.band ≡ b.name.band
  pub place : InRect b.rect p.x p.y

pub lies_to : (p : Place) (b : Block) → lies_in p b ≡ true → Has p b
lies_to p b h =
    let all = and_parts (p.tile == b.name.tile && (p.comp == b.name.comp && p.res == b.name.res)) (is_band p.band b.name.band && (is_in b.rect.x p.x && is_in b.rect.y p.y)) h in
    let first = and_parts (p.tile == b.name.tile) (p.comp == b.name.comp && p.res == b.name.res) all.0 in
    let names = and_parts (p.comp == b.name.comp) (p.res == b.name.res) first.1 in
    let second = and_parts (is_band p.band b.name.band) (is_in b.rect.x p.x && is_in b.rect.y p.y) all.1 in
    let places = and_parts (is_in b.rect.x p.x) (is_in b.rect.y p.y) second.1 in
    record {
      tile = eqb-true p.tile b.name.tile first.0;
      comp = eqb-true p.comp b.name.comp names.0;
      res = eqb-true p.res b.name.res names.1;
      band = is_band_to p.band b.name.band second.0;
      place = record { across = is_in_to b.rect.x p.x places.0; down = is_in_to b.rect.y p.y places.1 };
    }

pub lies_from : (p : Place) (b : Block) → Has p b → lies_in p b ≡ true
lies_from p b h =
    and_from (p.tile == b.name.tile && (p.comp == b.name.comp && p.res == b.name.res)) (is_band p.band b.name.band && (is_in b.rect.x p.x && is_in b.rect.y p.y))
    (and_from (p.tile == b.name.tile) (p.comp == b.name.comp && p.res == b.name.res) (eq-eqb p.tile b.name.tile h.tile)
    (and_from (p.comp == b.name.comp) (p.res == b.name.res) (eq-eqb p.comp b.name.comp h.comp) (eq-eqb p.res b.name.res h.res)))
    (and_from (is_band p.band b.name.band) (is_in b.rect.x p.x && is_in b.rect.y p.y) (ap (is_band p.band) (sym h.band) ∙ is_band_from p.band)
    (and_from (is_in b.rect.x p.x) (is_in b.rect.y p.y) (is_in_from b.rect.x p.x h.place.across) (is_in_from b.rect.y p.y h.place.down)))

-- ---- a block at its number
few_blocks : (s : Stream) → totals_fault s ≡ None → block_total s ≤ most_blocks
unfolding totals_fault
few_blocks s none = not_passed 5 (block_total s) most_blocks (none_first (passed 5 (block_total s) (nat_lt most_blocks (block_total s))) (passed 6 (packet_total s) (nat_lt (2 ^ 22) (packet_total s))) none)

abbrev pub number_of : Stream → BlockName → ℕ
number_of s n = block_number (canvas_of s.siz) (shapes_of s) n

pub record IsAt (s : Stream) (blocks : List Block) (n : BlockName) (b : Block) : Type 0 where
  pub is : IsBlock (canvas_of s.siz) (shapes_of s) n
  pub at : slice_get blocks (number_of s n) ≡ Some b
  pub own : IsBlockOf s n b

pub record BlockAt (s : Stream) (blocks : List Block) (n : BlockName) : Type 0 where
  pub block : Block
  pub there : IsAt s blocks n block

found_at : (s : Stream) (blocks : List Block) (n : BlockName) (o : Option Block) → IsBlock (canvas_of s.siz) (shapes_of s) n → slice_get blocks (number_of s n) ≡ o → IsFoundOf s n o → BlockAt s blocks n
found_at s blocks n None is at own = elim own [ ]
found_at s blocks n (Some b) is at own = record { block = b; there = record { is = is; at = at; own = own } }

pub block_there : (s : Stream) (blocks : List Block) (n : BlockName) → AreBlocksOf s blocks → IsBlock (canvas_of s.siz) (shapes_of s) n → BlockAt s blocks n
block_there s blocks n are is = found_at s blocks n (slice_get blocks (number_of s n)) is refl (are.each n is)

-- each block has a name
pub record NameAt (s : Stream) (blocks : List Block) (j : ℕ) (b : Block) : Type 0 where
  pub name : BlockName
  pub is : IsBlock (canvas_of s.siz) (shapes_of s) name
  pub number : number_of s name ≡ j
  pub own : IsBlockOf s name b

pub name_there : (s : Stream) (blocks : List Block) (j : ℕ) (b : Block) → AreBlocksOf s blocks → slice_get blocks j ≡ Some b → NameAt s blocks j b
name_there s blocks j b are at =
    let inside : j < length blocks = slice_get_within blocks j b at in
    let name = block_number_taken (canvas_of s.siz) (shapes_of s) j (omega (arith, inside, are.all, blocks_are s)) in
    record {
      name = name.0;
      is = name.1.0;
      number = name.1.1;
      own = subst (IsFoundOf s name.0) (ap (λ (k : ℕ). slice_get blocks k) name.1.1 ∙ at) (are.each name.0 name.1.0);
    }

-- ---- no other block has a place
rect_at : Stream → ℕ → ℕ → ℕ → Band → ℕ → Rect
rect_at s t c r b i = block_rect (rect_of_tile (geometry s t)) (shape_of (geometry s t) c) r b i

name_of : ℕ → ℕ → ℕ → Band → ℕ → BlockName
name_of t c r b i = record { tile = t; comp = c; res = r; band = b; index = i }

names_same : (t u c d r q : ℕ) (b e : Band) (i j : ℕ) → t ≡ u → c ≡ d → r ≡ q → b ≡ e → i ≡ j → name_of t c r b i ≡ name_of u d q e j
names_same t u c d r q b e i j e1 e2 e3 e4 e5 = rw (e1, e2, e3, e4, e5) refl

rects_same : (s : Stream) (t u c d r q : ℕ) (b e : Band) (i : ℕ) → t ≡ u → c ≡ d → r ≡ q → b ≡ e → rect_at s t c r b i ≡ rect_at s u d q e i
rects_same s t u c d r q b e i e1 e2 e3 e4 = rw (e1, e2, e3, e4) refl

same_block : (s : Stream) (n m : BlockName) (x y : ℕ) → n.tile ≡ m.tile → n.comp ≡ m.comp → n.res ≡ m.res → n.band ≡ m.band
    → InRect (rect_at s n.tile n.comp n.res n.band n.index) x y → InRect (rect_at s m.tile m.comp m.res m.band m.index) x y → n ≡ m
unfolding rect_at name_of
same_block s n m x y e1 e2 e3 e4 h k =
    let P : Rect → Type 0 = λ r. InRect r x y in
    let here : InRect (rect_at s m.tile m.comp m.res m.band n.index) x y = subst P (rects_same s n.tile m.tile n.comp m.comp n.res m.res n.band m.band n.index e1 e2 e3 e4) h in
    names_same n.tile m.tile n.comp m.comp n.res m.res n.band m.band n.index m.index e1 e2 e3 e4
    (one_block (rect_of_tile (geometry s m.tile)) (shape_of (geometry s m.tile) m.comp) m.res m.band n.index m.index x y here k)

pub found_only : (s : Stream) (blocks : List Block) (n : BlockName) (b : Block) (p : Place) → AreBlocksOf s blocks → IsAt s blocks n b → Has p b
    → (j : ℕ) (y : Block) → slice_get blocks j ≡ Some y → lies_in p y ≡ true → j ≡ number_of s n
unfolding rect_at
found_only s blocks n b p are here has j y at test =
    let there = name_there s blocks j y are at in
    let m = there.name in
    let other = lies_to p y test in
    let P : Rect → Type 0 = λ r. InRect r p.x p.y in
    let one : m ≡ n = same_block s m n p.x p.y
    (ap (λ (z : BlockName). z.tile) (sym there.own.name) ∙ sym other.tile ∙ has.tile ∙ ap (λ (z : BlockName). z.tile) here.own.name)
    (ap (λ (z : BlockName). z.comp) (sym there.own.name) ∙ sym other.comp ∙ has.comp ∙ ap (λ (z : BlockName). z.comp) here.own.name)
    (ap (λ (z : BlockName). z.res) (sym there.own.name) ∙ sym other.res ∙ has.res ∙ ap (λ (z : BlockName). z.res) here.own.name)
    (ap (λ (z : BlockName). z.band) (sym there.own.name) ∙ sym other.band ∙ has.band ∙ ap (λ (z : BlockName). z.band) here.own.name)
    (subst P there.own.rect other.place) (subst P here.own.rect has.place) in
    sym there.number ∙ ap (number_of s) one

pub sample_is : (s : Stream) (blocks : List Block) (n : BlockName) (b : Block) (p : Place) → AreBlocksOf s blocks → IsAt s blocks n b → Has p b
    → sample_at blocks p ≡ Some (sample_in p b)
sample_is s blocks n b p are here has =
    ap (option_map (sample_in p)) (find_only (lies_in p) blocks (number_of s n) b here.at (lies_from p b has) (found_only s blocks n b p are here has))

-- ---- a block of a band of a tile
pub covers : (v : SideValue) (name : BandName) (n : BlockName) (b : Block) → IsSide v → n.tile ≡ v.tile → n.comp ≡ name.comp → n.res ≡ name.res → n.band ≡ name.band
    → IsAt v.stream v.blocks n b → Covers v name b
covers v name n b side tile comp res band here = record {
  sound = all_at IsSound v.blocks (number_of v.stream n) b side.may.sound here.at;
  band = ap (λ (z : BlockName). z.band) here.own.name ∙ band;
  samples = λ x y inside. sample_is v.stream v.blocks n b (place_in v name x y) side.may.blocks_are here (record {
    tile = sym tile ∙ ap (λ (z : BlockName). z.tile) (sym here.own.name);
    comp = sym comp ∙ ap (λ (z : BlockName). z.comp) (sym here.own.name);
    res = sym res ∙ ap (λ (z : BlockName). z.res) (sym here.own.name);
    band = sym band ∙ ap (λ (z : BlockName). z.band) (sym here.own.name);
    place = inside;
  });
}

-- its number: behind the blocks of earlier tiles
pub number_is : (s : Stream) (n : BlockName) (t first k : ℕ) (g : Geometry) → first ≡ blocks_below (canvas_of s.siz) (shapes_of s) t → k ≡ number_in_tile g n → g ≡ geometry s t → n.tile ≡ t
    → first + k ≡ number_of s n
unfolding block_number
number_is s n t first k g e1 e2 e3 e4 = rw (e1, e2, e3, sym e4) refl

pub is_block : (s : Stream) (n : BlockName) (t : ℕ) (g : Geometry) → HasBlock g n → g ≡ geometry s t → n.tile ≡ t → t < tile_number s.siz → IsBlock (canvas_of s.siz) (shapes_of s) n
is_block s n t g has is tile inside =
    (subst (λ (i : ℕ). i < tile_number s.siz) (sym tile) inside, subst (λ (h : Geometry). HasBlock h n) (is ∙ ap (geometry s) (sym tile)) has)

pub record Lies (v : SideValue) (n : BlockName) (number : ℕ) : Type 0 where
  pub block : Block
  pub there : IsAt v.stream v.blocks n block
  pub at : slice_get v.blocks number ≡ Some block
  pub inside : number < length v.blocks
  pub few : length v.blocks ≤ most_blocks

pub lies : (v : SideValue) (n : BlockName) (first k : ℕ) (g : Geometry) → IsSide v → first ≡ blocks_below (canvas_of v.stream.siz) (shapes_of v.stream) v.tile
    → k ≡ number_in_tile g n → g ≡ geometry v.stream v.tile → HasBlock g n → Lies v n (first + k)
lies v n first k g side before own is has =
    let tile : n.tile ≡ v.tile = has.tile ∙ ap (λ (h : Geometry). h.tile) is in
    let block = block_there v.stream v.blocks n side.may.blocks_are (is_block v.stream n v.tile g has is tile side.tile) in
    let number : first + k ≡ number_of v.stream n = number_is v.stream n v.tile first k g before own is tile in
    let at : slice_get v.blocks (first + k) ≡ Some block.block = ap (λ (i : ℕ). slice_get v.blocks i) number ∙ block.there.at in
    record {
      block = block.block;
      there = block.there;
      at = at;
      inside = slice_get_within v.blocks (first + k) block.block at;
      few = omega (arith, side.may.blocks_are.all, few_blocks v.stream side.may.totals);
    }

-- ---- a block by its index in a band
abbrev pub block_name : ℕ → BandName → ℕ → BlockName
block_name t name i = record { tile = t; comp = name.comp; res = name.res; band = name.band; index = i }

-- the number that is counted, of a geometry that is the tile's
pub record IsCounted (v : SideValue) (name : BandName) (t i first k : ℕ) (g : Geometry) : Type 0 where
  pub side : IsSide v
  pub before : first ≡ blocks_below (canvas_of v.stream.siz) (shapes_of v.stream) v.tile
  pub own : k ≡ number_in_tile g (block_name t name i)
  pub geometry : g ≡ geometry v.stream v.tile
  pub tile : t ≡ g.tile
  pub band : HasBandOf v name
  pub index : i < size_of (blocks_in (geometry_at v) name.comp name.res name.band)

pub counted_lies : (v : SideValue) (name : BandName) (t i first k : ℕ) (g : Geometry) → IsCounted v name t i first k g → Lies v (block_name t name i) (first + k)
counted_lies v name t i first k g c = lies v (block_name t name i) first k g c.side c.before c.own c.geometry (record {
  tile = c.tile;
  resolution = subst (λ (h : Geometry). HasResolution h name.comp name.res) (sym c.geometry) c.band.resolution;
  band = c.band.band;
  index = subst (λ (h : Geometry). i < size_of (blocks_in h name.comp name.res name.band)) (sym c.geometry) c.index;
})

pub counted_inside : (v : SideValue) (name : BandName) (t i first k : ℕ) (g : Geometry) → IsCounted v name t i first k g → (first + k < length v.blocks) × (length v.blocks ≤ most_blocks)
counted_inside v name t i first k g c = let here = counted_lies v name t i first k g c in (here.inside, here.few)

pub record IsFoundAt (v : SideValue) (name : BandName) (i : ℕ) (b : Block) : Type 0 where
  pub covers : Covers v name b
  pub rect : b.rect ≡ rect_in (geometry_at v) name.comp name.res name.band i

pub counted_found : (v : SideValue) (name : BandName) (t i first k : ℕ) (g : Geometry) (b : Block) → IsCounted v name t i first k g → b ≡ get_or v.blocks (first + k) b → IsFoundAt v name i b
counted_found v name t i first k g b c is =
    let here = counted_lies v name t i first k g c in
    let same : b ≡ here.block = is ∙ get_or_from_slice_get v.blocks (first + k) here.block b here.at in
    let tile : t ≡ v.tile = c.tile ∙ ap (λ (h : Geometry). h.tile) c.geometry in
    let found : IsFoundAt v name i here.block = record {
      covers = covers v name (block_name t name i) here.block c.side tile refl refl refl here.there;
      rect = here.there.own.rect ∙ ap (λ (u : ℕ). block_rect (rect_of_tile (geometry v.stream u)) (shape_of (geometry v.stream u) name.comp) name.res name.band i) tile;
    } in
    subst (λ (z : Block). IsFoundAt v name i z) (sym same) found
