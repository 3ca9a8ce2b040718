-- What a codestream means: its canvas, how each tile-component is transformed and quantized, and at each place of each band the sign,
-- the magnitude bits and the decoded planes of the coefficient (ITU-T T.800, A.5, A.6, B.3 to B.7, D and E). How it is packed, and in
-- which style its code-blocks are coded, isn't part of it.
use Rattle.std.specs.Prelude.{ℕ, ◌+◌, ◌-◌, ◌==◌, Bool, ◌&&◌, List, find, if◌then◌else◌, Option}
use Rattle.std.specs.Option.{option_map}
use Rattle.jx_base.specs.declared.names.Band.{Band}
use Rattle.jx_base.specs.declared.pieces.Block.{Block}
use Rattle.jx_tier1_specs.specs.declared.coef.Coef.{Coef}
use Rattle.jx_tier1_specs.specs.Cells.{coef_at}
use Rattle.jx_codeblock.specs.Written.{own_cells}
use Rattle.jx_geom.specs.Rects.{off_across, off_down}
use Rattle.jx_marker.specs.declared.Siz.{Siz}
use Rattle.jx_codestream.specs.declared.Params.{Params}
use Rattle.jx_codestream.specs.declared.Stream.{Stream}
use Rattle.jx_codestream.specs.Params.{params_of, step_of}
use Rattle.jx_progression.specs.Loops.{is_in}

-- a place of a band: tile, component, resolution and band, and the column and the row in it
pub record Place : Type 0 where
  pub tile : ℕ
  pub comp : ℕ
  pub res : ℕ
  pub band : Band
  pub x : ℕ
  pub y : ℕ

abbrev pub is_band : Band → Band → Bool
is_band a b = off_across a == off_across b && off_down a == off_down b

-- the place lies in a code-block
abbrev pub lies_in : Place → Block → Bool
lies_in p b =
    (p.tile == b.name.tile && (p.comp == b.name.comp && p.res == b.name.res))
    && (is_band p.band b.name.band && (is_in b.rect.x p.x && is_in b.rect.y p.y))

-- planes are decoded from the highest one of the band on: the zero planes too, where the block has a pass
abbrev pub planes_decoded : Block → Coef → ℕ
planes_decoded b c = if b.passes == 0 then 0 else b.zero + c.planes

abbrev pub sample_in : Place → Block → Coef
sample_in p b =
    let c : Coef = coef_at (own_cells b) (p.x - b.rect.x.low) (p.y - b.rect.y.low) in
    record { negative = c.negative; bits = c.bits; planes = planes_decoded b c }

-- the coefficient of a place; none where no code-block has it
abbrev pub sample_at : List Block → Place → Option Coef
sample_at blocks p = option_map (sample_in p) (find (lies_in p) blocks)

-- how a tile-component is transformed and quantized
pub record Component : Type 0 where
  pub levels : ℕ
  pub wavelet : ℕ
  pub transform : ℕ
  pub quant : ℕ
  pub guard : ℕ
  pub shift : ℕ

abbrev pub component_of : Params → Component
component_of p = record { levels = p.levels; wavelet = p.wavelet; transform = p.transform; quant = p.quant; guard = p.guard; shift = p.shift }

pub record Meaning : Type 0 where
  -- the canvas, and each component's depth and subsampling
  pub siz : Siz
  pub component : ℕ → ℕ → Component
  -- exponent and mantissa of each band's step
  pub step : ℕ → ℕ → ℕ → Band → ℕ × ℕ
  pub sample : Place → Option Coef

unfoldable pub meaning_of : Stream → List Block → Meaning
meaning_of s blocks = record {
  siz = record s.siz { rsiz = 0 };
  component = λ t c. component_of (params_of s t c);
  step = step_of s;
  sample = sample_at blocks;
}
