-- What is left of a codestream's meaning without its d highest resolutions (ITU-T T.800, A.5.1, A.6.1, B.5 and E.1): the subsampling factors
-- times 2 ^ d, d levels fewer, and the bands of the resolutions that are left with their steps and their coefficients.
use Rattle.std.specs.Prelude.{◌≡◌, ◌≤◌, ◌<◌, ℕ, ◌-◌, None}
use Rattle.jx_base.specs.declared.names.Band.{Band}
use Rattle.jx_plan.specs.Meaning.{Component, Meaning, Place}
use Rattle.jx_reduce.specs.Reduction.{siz_left}

abbrev pub component_left : ℕ → Component → Component
component_left d c = record c { levels = c.levels - d }

pub record IsLeft (d : ℕ) (whole left : Meaning) : Type 0 where
  pub siz : left.siz ≡ siz_left d whole.siz
  pub component : (t c : ℕ) → left.component t c ≡ component_left d (whole.component t c)
  pub step : (t c r : ℕ) (b : Band) → r ≤ (left.component t c).levels → left.step t c r b ≡ whole.step t c r b
  pub sample : (p : Place) → p.res ≤ (left.component p.tile p.comp).levels → left.sample p ≡ whole.sample p
  -- no code-block has a place of a higher resolution
  pub above : (p : Place) → (left.component p.tile p.comp).levels < p.res → left.sample p ≡ None
