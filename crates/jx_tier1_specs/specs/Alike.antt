-- What two styles must share so that the passes of one make what those of the other made.
use Rattle.std.specs.Prelude.{ℕ, ◌≡◌, ◌≤◌, ◌-◌, ◌*◌, ◌%◌}
use Rattle.jx_tier1_specs.specs.Reading.{Coding}
use Rattle.jx_base.specs.Passes.{is_causal}

-- how many passes coded planes can have (D.3)
pub record HasPasses (c : Coding) (passes : ℕ) : Type 0 where
  pub some : 1 ≤ c.planes
  pub most : c.planes ≤ 74
  pub few : passes ≤ 3 * c.planes - 2

-- one block, and styles that agree on causal contexts
pub record AreAlike (c d : Coding) : Type 0 where
  pub band : d.band ≡ c.band
  pub causal : is_causal d.style ≡ is_causal c.style
  pub planes : d.planes ≡ c.planes

-- one block, in any two styles
pub record AreOfOneBlock (c d : Coding) : Type 0 where
  pub band : d.band ≡ c.band
  pub planes : d.planes ≡ c.planes

-- so many passes end with a plane (D.3)
abbrev pub EndsPlane : ℕ → Type 0
EndsPlane passes = passes % 3 ≡ 1
