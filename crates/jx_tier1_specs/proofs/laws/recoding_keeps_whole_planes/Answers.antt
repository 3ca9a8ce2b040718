use Rattle.std.proofs.Common.{◌≡◌, ◌∙◌, subst, ℕ, List}
use Rattle.jx_tier1_specs.specs.Cells.{Cells}
use Rattle.jx_tier1_specs.specs.Reading.{zeros, decoded}
use Rattle.jx_tier1_specs.specs.Needs.{followed_from, written}
use Rattle.jx_tier1_specs.proofs.laws.recoding_keeps_whole_planes.Goals as goal

pub returns : goal.returns
returns k width height c d segments passes first l r t h e =
    let g : Cells = (decoded width height c segments passes).cells in
    let s = k.decoded_fits.ensures.size width height c segments passes h in
    let S : List (List ℕ) = written d g passes in
    let P : ℕ → Type 0 = λ w. (decoded w g.height d S first).cells ≡ followed_from d g first 0 (zeros w g.height) in
    let Q : ℕ → Type 0 = λ v. (decoded width v d S first).cells ≡ followed_from d g first 0 (zeros width v) in
    subst Q s.1 (subst P s.0 (k.written_is_read_back.ensures.first d g passes first l))
    ∙ k.whole_planes_fit.ensures.first width height c d segments passes first l r t h e
