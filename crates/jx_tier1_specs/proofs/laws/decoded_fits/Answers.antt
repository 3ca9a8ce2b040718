use Rattle.std.proofs.Common.{◌∙◌, ap, arith, ℕ, refl}
use Rattle.jx_tier1_specs.specs.Cells.{Cells}
use Rattle.jx_tier1_specs.specs.Reading.{zeros, decoded}
use Rattle.jx_tier1_specs.specs.Needs.{followed_from}
use Rattle.jx_tier1_specs.proofs.PassBackLemmas.{refollowed}
use Rattle.jx_tier1_specs.proofs.laws.decoded_fits.Goals as goal

pub returns-clause-first : goal.returns-clause-first
returns-clause-first k width height c d segments passes first l h e = (refollowed width height c d segments passes first l h e).cells

pub returns-clause-size : goal.returns-clause-size
returns-clause-size k width height c segments passes h =
    let r = refollowed width height c c segments passes passes (omega arith) h (record { band = refl; causal = refl; planes = refl }) in
    (r.width_is, r.height_is)

pub returns-clause-fits : goal.returns-clause-fits
returns-clause-fits k width height c d segments passes h e =
    let r = refollowed width height c d segments passes passes (omega arith) h e in
    let g : Cells = (decoded width height c segments passes).cells in
    record {
      is = ap (λ (w : ℕ). followed_from d g passes 0 (zeros w g.height)) r.width_is
          ∙ (ap (λ (v : ℕ). followed_from d g passes 0 (zeros width v)) r.height_is ∙ r.cells);
    }
