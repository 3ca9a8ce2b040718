use Rattle.std.proofs.Common.{◌≡◌, ◌∙◌, subst, ℕ, List, None}
use Rattle.jx_tier1_specs.specs.Cells.{Cells}
use Rattle.jx_tier1_specs.specs.Reading.{zeros, decoded}
use Rattle.jx_tier1_specs.specs.Needs.{followed_from, written}
use Rattle.jx_tier1_specs.proofs.laws.recoding_keeps_coefficients.Goals as goal

pub returns-clause-first : goal.returns-clause-first
returns-clause-first k width height c d segments passes first l h e =
    let g : Cells = (decoded width height c segments passes).cells in
    let s = k.decoded_fits.ensures.size width height c segments passes h in
    let S : List (List ℕ) = written d g passes in
    let P : ℕ → Type 0 = λ w. (decoded w g.height d S first).cells ≡ followed_from d g first 0 (zeros w g.height) in
    let Q : ℕ → Type 0 = λ v. (decoded width v d S first).cells ≡ followed_from d g first 0 (zeros width v) in
    subst Q s.1 (subst P s.0 (k.written_is_read_back.ensures.first d g passes first l))
    ∙ k.decoded_fits.ensures.first width height c d segments passes first l h e

pub returns-clause-right : goal.returns-clause-right
returns-clause-right k width height c d segments passes first l h e =
    let g : Cells = (decoded width height c segments passes).cells in
    let s = k.decoded_fits.ensures.size width height c segments passes h in
    let S : List (List ℕ) = written d g passes in
    let P : ℕ → Type 0 = λ w. (decoded w g.height d S first).wrong ≡ None in
    let Q : ℕ → Type 0 = λ v. (decoded width v d S first).wrong ≡ None in
    subst Q s.1 (subst P s.0 (k.written_is_read_back.ensures.right d g passes first l))
