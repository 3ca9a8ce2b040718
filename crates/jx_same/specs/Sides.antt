-- One of the two codestreams that are compared, at one of its tiles.
use Rattle.std.specs.Prelude.{ℕ, ◌-◌, ◌<◌, ◌≡◌, ◌==◌, Bool, false, ◌&&◌, not, List, length, Option, Some, slice_get}
use Rattle.jx_base.specs.declared.names.Rect.{Rect}
use Rattle.jx_base.specs.declared.names.Span.{Span}
use Rattle.jx_base.specs.declared.pieces.Block.{Block}
use Rattle.jx_base.specs.Places.{InRect}
use Rattle.jx_base.specs.Sound.{IsSound}
use Rattle.jx_geom.specs.Geometry.{Geometry, HasResolution, LacksPlace, rect_of_tile}
use Rattle.jx_geom.specs.Ranges.{HasBand}
use Rattle.jx_codestream.specs.declared.Stream.{Stream}
use Rattle.jx_codestream.specs.First.{tile_number}
use Rattle.jx_codestream.specs.Shapes.{geometry}
use Rattle.jx_codeblock.specs.Recoding.{own_segments}
use Rattle.jx_codeblock.specs.Written.{own_cells}
use Rattle.jx_tier1_specs.specs.declared.coded.Coded.{Coded}
use Rattle.jx_marker.specs.declared.CompSize.{CompSize}
use Rattle.jx_marker.specs.declared.Siz.{Siz}
use Rattle.jx_plan.specs.Meaning.{Component, Meaning, Place, meaning_of, sample_at, sample_in}
use Rattle.jx_plan.specs.Plan.{MayBePlanned}
use Rattle.jx_same.specs.declared.answer.Field.{Field}
use Rattle.jx_same.specs.declared.answer.Field.TheVariants as field
use Rattle.jx_same.specs.declared.input.Input.{Input}
use Rattle.jx_same.specs.declared.side.BandName.{BandName}
use Rattle.jx_same.specs.Items.{coef_or, same_canvas, same_coef, same_sampling}

-- a codestream that was read
abbrev pub IsInput : Input → Type 0
IsInput i = MayBePlanned i.stream.now i.blocks.now

abbrev pub meaning_in : Input → Meaning
meaning_in i = meaning_of i.stream.now i.blocks.now

pub record SideValue : Type 0 where
  pub stream : Stream
  pub blocks : List Block
  pub tile : ℕ

pub record IsSide (s : SideValue) : Type 0 where
  pub may : MayBePlanned s.stream s.blocks
  pub tile : s.tile < tile_number s.stream.siz

abbrev pub meaning_at : SideValue → Meaning
meaning_at s = meaning_of s.stream s.blocks

abbrev pub geometry_at : SideValue → Geometry
geometry_at s = geometry s.stream s.tile

-- the band is there
pub record HasBandOf (s : SideValue) (n : BandName) : Type 0 where
  pub resolution : HasResolution (geometry_at s) n.comp n.res
  pub band : HasBand n.res n.band

-- a component has no place in the tile
abbrev pub IsEmptyIn : SideValue → ℕ → Type 0
IsEmptyIn s c = LacksPlace (rect_of_tile (geometry_at s)) (geometry_at s).shapes c

-- both are at one tile of one canvas
pub record AreBeside (a b : SideValue) : Type 0 where
  pub tile : a.tile ≡ b.tile
  pub siz : (meaning_at a).siz ≡ (meaning_at b).siz

-- and a component is transformed in one way
pub record AreAligned (a b : SideValue) (c : ℕ) : Type 0 where
  pub beside : AreBeside a b
  pub component : (meaning_at a).component a.tile c ≡ (meaning_at b).component b.tile c

abbrev pub place_in : SideValue → BandName → ℕ → ℕ → Place
place_in s n x y = record { tile = s.tile; comp = n.comp; res = n.res; band = n.band; x = x; y = y }

-- the block has the coefficient of each place of its rect in a band
pub record Covers (s : SideValue) (n : BandName) (b : Block) : Type 0 where
  pub sound : IsSound b
  pub band : b.name.band ≡ n.band
  pub samples : (x y : ℕ) → InRect b.rect x y → sample_at s.blocks (place_in s n x y) ≡ Some (sample_in (place_in s n x y) b)

-- each block that stands on a shelf has the coefficients of its places in a band
abbrev pub AreOnShelf : SideValue → BandName → List (Option Block) → Type 0
AreOnShelf s n slots = (i : ℕ) (b : Block) → slice_get slots i ≡ Some (Some b) → Covers s n b

-- whether a block has the coefficient of a place that a codestream has
abbrev pub agrees_at : SideValue → BandName → Block → ℕ → ℕ → Bool
agrees_at s n b x y = same_coef (sample_in (place_in s n x y) b) (coef_or (sample_at s.blocks (place_in s n x y)))

-- ---- blocks that need no decoding
-- two blocks have the same places, planes and passes
abbrev pub same_span : Span → Span → Bool
same_span a b = a.low == b.low && a.high == b.high

abbrev pub same_rect : Rect → Rect → Bool
same_rect a b = same_span a.x b.x && same_span a.y b.y

abbrev pub same_planes : Block → Block → Bool
same_planes a b = a.planes == b.planes && a.zero == b.zero

abbrev pub same_heads : Block → Block → Bool
same_heads a b = same_rect a.rect b.rect && (same_planes a b && a.passes == b.passes)

-- a block's coded passes
pub record IsCodedOf (b : Block) (c : Coded) : Type 0 where
  pub band : c.band ≡ b.name.band
  pub style : c.style.bits ≡ b.style.bits
  pub planes : c.planes ≡ b.planes - b.zero
  pub passes : c.passes ≡ b.passes
  pub segments : c.segments ≡ own_segments b

-- two blocks have the same coefficients
pub record AreAlike (a b : Block) : Type 0 where
  pub rect : a.rect ≡ b.rect
  pub zero : a.zero ≡ b.zero
  pub passes : a.passes ≡ b.passes
  pub cells : own_cells a ≡ own_cells b

-- neither of two blocks has a pass, and the second has all places of the first
pub record AreVoid (a b : Block) : Type 0 where
  pub one : a.passes ≡ 0
  pub two : b.passes ≡ 0
  pub inside : (x y : ℕ) → InRect a.rect x y → InRect b.rect x y

-- ---- which of some fields differ, by two values that have them
abbrev pub unlike_picture : Siz → Siz → Field → Bool
unlike_picture a b field.Canvas = not (same_canvas a b)
unlike_picture a b field.Components = not (length a.comps == length b.comps)
unlike_picture a b _ = false

abbrev pub unlike_size : CompSize → CompSize → Field → Bool
unlike_size a b field.Depth = not (a.ssiz == b.ssiz)
unlike_size a b field.Sampling = not (same_sampling a b)
unlike_size a b _ = false

abbrev pub unlike_coding : Component → Component → Field → Bool
unlike_coding a b field.Levels = not (a.levels == b.levels)
unlike_coding a b field.Wavelet = not (a.wavelet == b.wavelet)
unlike_coding a b field.Transform = not (a.transform == b.transform)
unlike_coding a b field.Quant = not (a.quant == b.quant)
unlike_coding a b field.Guard = not (a.guard == b.guard)
unlike_coding a b field.Shift = not (a.shift == b.shift)
unlike_coding a b _ = false

abbrev pub unlike_step : ℕ × ℕ → ℕ × ℕ → Field → Bool
unlike_step a b field.Exponent = not (a.0 == b.0)
unlike_step a b field.Mantissa = not (a.1 == b.1)
unlike_step a b _ = false
