-- Coefficients within a plane of the block, as a pass goes through them.
use Rattle.jx_tier1_specs.specs.declared.question.Plane.{Plane}
use Rattle.jx_tier1_specs.specs.Cells.{Cells}
use Rattle.jx_tier1_specs.specs.Pass.{IsScan}
use Rattle.jx_tier1_specs.proofs.PhaseLemmas.{IsAt}

-- the coefficients within a plane of the block
pub record IsNow (k : Plane) (g : Cells) : Type 0 where
  pub scan : IsScan k
  pub at : IsAt k g.width g.height g
