-- What of a codestream's meaning lies within its canvas: nothing is said of a tile, a component, a resolution or a band that isn't there.
use Rattle.std.specs.Prelude.{◌≡◌, ◌<◌, ◌≤◌, ℕ, length}
use Rattle.jx_base.specs.declared.names.Band.{Band}
use Rattle.jx_geom.specs.Ranges.{HasBand}
use Rattle.jx_codestream.specs.First.{tile_number}
use Rattle.jx_plan.specs.Meaning.{Meaning, Place}

-- the tile and the component are there
pub record IsThere (m : Meaning) (t c : ℕ) : Type 0 where
  pub tile : t < tile_number m.siz
  pub component : c < length m.siz.comps

-- two meanings are one within the canvas
pub record MeanOne (a b : Meaning) : Type 0 where
  -- the canvas, and each component's depth and subsampling
  pub siz : a.siz ≡ b.siz
  pub component : (t c : ℕ) → IsThere a t c → a.component t c ≡ b.component t c
  pub step : (t c r : ℕ) (band : Band) → IsThere a t c → r ≤ (a.component t c).levels → HasBand r band → a.step t c r band ≡ b.step t c r band
  -- each place has the same coefficient, or neither has one
  pub sample : (p : Place) → a.sample p ≡ b.sample p
