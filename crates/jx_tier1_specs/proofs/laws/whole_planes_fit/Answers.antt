use Rattle.std.proofs.Common.{◌∙◌, ap, arith, ℕ}
use Rattle.jx_tier1_specs.specs.Cells.{Cells}
use Rattle.jx_tier1_specs.specs.Reading.{zeros, decoded}
use Rattle.jx_tier1_specs.specs.Needs.{followed_from}
use Rattle.jx_tier1_specs.proofs.WholeLemmas.{made_again}
use Rattle.jx_tier1_specs.proofs.laws.whole_planes_fit.Goals as goal

pub returns-clause-first : goal.returns-clause-first
returns-clause-first k width height c d segments passes first l r t h e = (made_again width height c d segments passes first l r t h e).cells

pub returns-clause-fits : goal.returns-clause-fits
returns-clause-fits k width height c d segments passes r h e =
    let m = made_again width height c d segments passes passes (omega arith) r r h e in
    let g : Cells = (decoded width height c segments passes).cells in
    record {
      is = ap (λ (w : ℕ). followed_from d g passes 0 (zeros w g.height)) m.width_is
          ∙ (ap (λ (v : ℕ). followed_from d g passes 0 (zeros width v)) m.height_is ∙ m.cells);
    }
