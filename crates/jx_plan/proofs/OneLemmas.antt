-- There is one way to send passes in given layers; kept layers are those of the input.
use Rattle.std.proofs.Common.{◌≡◌, ◌<◌, ◌≤◌, ◌+◌, ◌-◌, ◌∙◌, ap, sym, subst, refl, arith, ℕ, zero, suc, min, nat_lt, true, false, List, [], ◌∷◌, inl, inr, Option}
use Rattle.std.specs.List.{All}
use Rattle.std.proofs.lemmas.Bool.{cases_lt, cases_eq, ne_eqb, eq-eqb}
use Rattle.std.proofs.lemmas.Bool.Decides.{nat_tests}
use Rattle.std.proofs.lemmas.List.Elements.{All-head, All-tail, All-nil, All-cons}
use Rattle.jx_base.specs.declared.pieces.Block.{Block}
use Rattle.jx_base.specs.declared.style.Style.{Style}
use Rattle.jx_base.specs.Pieces.{PieceValue, ArePieces}
use Rattle.jx_base.specs.Sound.{IsSound}
use Rattle.jx_codeblock.specs.declared.LayerEnd.{LayerEnd}
use Rattle.jx_codeblock.specs.declared.job.Job.{Job}
use Rattle.jx_codeblock.specs.Jobs.{AreEnds}
use Rattle.jx_codeblock.specs.Recoding.{layer_ends}
use Rattle.jx_codeblock.proofs.KeptLemmas.{own_ends_rise}
use Rattle.jx_layers.specs.Rule.{Rule}
use Rattle.jx_layers.specs.Rule.Rule.{Keep}
use Rattle.jx_plan.specs.Layers.{IsJobOf, Divide, answer_at, greatest_to, layer_at, layer_in}
use Rattle.jx_base.proofs.PieceLemmas.{pieces_end}
use Rattle.jx_codeblock.proofs.PartLemmas.{ends_within}

-- ---- one list of ends
-- the layer of the first pass of some ends
first_above : (f : ℕ → ℕ) (low first n : ℕ) (ends : List LayerEnd) → first < n → AreEnds low first n ends → Divide f first ends → low ≤ f first
first_above f low first n [] lt are divide = absurd (omega (arith, are))
first_above f low first n (e ∷ ends) lt are divide = omega (arith, are.0, divide.0 first (omega arith) are.1)

-- a layer that ends later than another's end isn't it
not_before : (f : ℕ → ℕ) (first n passes : ℕ) (e : LayerEnd) (ends : List LayerEnd) → AreEnds (e.layer + 1) e.passes n ends → Divide f e.passes ends → passes ≤ n
    → ((pass : ℕ) → first ≤ pass → pass < passes → f pass ≡ e.layer) → first < e.passes → e.passes < passes → ⊥
not_before f first n passes e ends are divide within same from below =
    omega (arith, first_above f (e.layer + 1) e.passes n ends (omega arith) are divide, same e.passes (omega arith) below)

same_end : (a b : LayerEnd) → a.layer ≡ b.layer → a.passes ≡ b.passes → a ≡ b
same_end a b layer passes =
    let e : LayerEnd = record { layer = a.layer; passes = a.passes } in
    subst (λ k. a ≡ record { layer = k; passes = b.passes }) layer (subst (λ k. a ≡ record { layer = a.layer; passes = k }) passes refl)

pub one_ends : (f : ℕ → ℕ) (low high first n : ℕ) (a b : List LayerEnd) → AreEnds low first n a → AreEnds high first n b → Divide f first a → Divide f first b → a ≡ b
one_ends f low high first n [] [] are_a are_b in_a in_b = refl
one_ends f low high first n [] (h ∷ b) are_a are_b in_a in_b = absurd (omega (arith, are_a, are_b.1, ends_within (h.layer + 1) h.passes n b are_b.2))
one_ends f low high first n (e ∷ a) [] are_a are_b in_a in_b = absurd (omega (arith, are_b, are_a.1, ends_within (e.layer + 1) e.passes n a are_a.2))
one_ends f low high first n (e ∷ a) (h ∷ b) are_a are_b in_a in_b =
    let layer : e.layer ≡ h.layer = sym (in_a.0 first (omega arith) are_a.1) ∙ in_b.0 first (omega arith) are_b.1 in
    let reach_a = ends_within (e.layer + 1) e.passes n a are_a.2 in
    let reach_b = ends_within (h.layer + 1) h.passes n b are_b.2 in
    elim (cases_lt e.passes h.passes) [
      | inl lt ↦ absurd (not_before f first n h.passes e a are_a.2 in_a.1 reach_b (λ pass from below. in_b.0 pass from below ∙ sym layer) are_a.1 lt)
      | inr le ↦ elim (cases_lt h.passes e.passes) [
        | inl lt ↦ absurd (not_before f first n e.passes h b are_b.2 in_b.1 reach_a (λ pass from below. in_a.0 pass from below ∙ layer) are_b.1 lt)
        | inr ge ↦
            let passes : e.passes ≡ h.passes = omega arith in
            let head : e ≡ h = same_end e h layer passes in
            let moved : AreEnds (h.layer + 1) h.passes n a = subst (λ (x : LayerEnd). AreEnds (x.layer + 1) x.passes n a) head are_a.2 in
            let divided : Divide f h.passes a = subst (λ (x : LayerEnd). Divide f x.passes a) head in_a.1 in
            let tail : a ≡ b = one_ends f (h.layer + 1) (h.layer + 1) h.passes n a b moved are_b.2 divided in_b.1 in
            ap (λ (x : LayerEnd). x ∷ a) head ∙ ap (λ (xs : List LayerEnd). h ∷ xs) tail
      ]
    ]

-- ---- layers of jobs
pub ends_below : (f : ℕ → ℕ) (low first n layers : ℕ) (ends : List LayerEnd) → ((pass : ℕ) → f pass < layers) → AreEnds low first n ends → Divide f first ends → All (λ (e : LayerEnd). e.layer < layers) ends
ends_below f low first n layers [] within are divide = All-nil (λ (e : LayerEnd). e.layer < layers)
ends_below f low first n layers (e ∷ ends) within are divide =
    All-cons (λ (x : LayerEnd). x.layer < layers) e ends (subst (λ k. k < layers) (divide.0 first (omega arith) are.1) (within first)) (ends_below f (e.layer + 1) e.passes n layers ends within are.2 divide.1)

pub greatest_below : (g : ℕ → ℕ) (layers pass : ℕ) → ((k : ℕ) → g k < layers) → greatest_to g pass < layers
greatest_below g layers zero within = within 0
greatest_below g layers (suc pass) within = omega (arith, greatest_below g layers pass within, within (suc pass))

pub layers_below : (style : Option Style) (rule : Rule) (layers : ℕ) (blocks : List Block) (number : ℕ) (b : Block) (job : Job) → 1 ≤ layers → IsJobOf style rule layers blocks number b job → All (λ (e : LayerEnd). e.layer < layers) job.ends
layers_below style rule layers blocks number b job some is =
    ends_below (layer_at rule layers blocks number b) 0 0 b.passes layers job.ends
    (λ pass. greatest_below (answer_at rule layers blocks number b) layers pass (λ k. omega arith)) is.ends is.layers_are

-- ---- kept layers
-- the end of a layer of which a piece is the last
abbrev pub end_of : PieceValue → LayerEnd
end_of p = record { layer = p.layer; passes = p.first + p.passes }

here : (p : PieceValue) (ps : List PieceValue) (pass : ℕ) → pass < p.first + p.passes → layer_in (p ∷ ps) pass ≡ p.layer
here p ps pass lt = let test : nat_lt pass (p.first + p.passes) ≡ true = grind (arith, nat_tests) in rw test refl

later : (p : PieceValue) (ps : List PieceValue) (pass : ℕ) → p.first + p.passes ≤ pass → layer_in (p ∷ ps) pass ≡ layer_in ps pass
later p ps pass le = let test : nat_lt pass (p.first + p.passes) ≡ false = grind (arith, nat_tests) in rw test refl

lowest : (style low first n : ℕ) (ps : List PieceValue) (pass : ℕ) → ArePieces style low first n ps → first ≤ pass → pass < n → low ≤ layer_in ps pass
lowest style low first n [] pass are from below = absurd (omega (arith, are))
lowest style low first n (p ∷ ps) pass are from below = elim (cases_lt pass (p.first + p.passes)) [
  | inl lt ↦ omega (arith, here p ps pass lt, are.0.layers)
  | inr le ↦
      let begins = are.0.begins in
      let more : p.layer ≤ layer_in ps pass = lowest style p.layer (first + p.passes) n ps pass are.1 (omega (arith, begins)) below in
      omega (arith, later p ps pass le, more, are.0.layers)
]

rises : (style low first n : ℕ) (ps : List PieceValue) (pass : ℕ) → ArePieces style low first n ps → suc pass < n → layer_in ps pass ≤ layer_in ps (suc pass)
rises style low first n [] pass are below = omega arith
rises style low first n (p ∷ ps) pass are below = elim (cases_lt (suc pass) (p.first + p.passes)) [
  | inl lt ↦ omega (arith, here p ps pass (omega arith), here p ps (suc pass) lt)
  | inr le ↦
      let begins = are.0.begins in
      elim (cases_lt pass (p.first + p.passes)) [
        | inl lt ↦ omega (arith, here p ps pass lt, later p ps (suc pass) le, lowest style p.layer (first + p.passes) n ps (suc pass) are.1 (omega (arith, begins)) below)
        | inr ge ↦ omega (arith, later p ps pass ge, later p ps (suc pass) le, rises style p.layer (first + p.passes) n ps pass are.1 below)
      ]
]

within : (layers : ℕ) (ps : List PieceValue) (pass : ℕ) → All (λ (p : PieceValue). p.layer < layers) ps → layer_in ps pass ≤ layers - 1
within layers [] pass all = omega arith
within layers (p ∷ ps) pass all = elim (cases_lt pass (p.first + p.passes)) [
  | inl lt ↦ omega (arith, here p ps pass lt, All-head (λ (x : PieceValue). x.layer < layers) p ps all)
  | inr le ↦ omega (arith, later p ps pass le, within layers ps pass (All-tail (λ (x : PieceValue). x.layer < layers) p ps all))
]

-- what rises is its own greatest
greatest_is : (g l : ℕ → ℕ) (n : ℕ) → ((k : ℕ) → g k ≡ l k) → ((k : ℕ) → suc k < n → l k ≤ l (suc k)) → (pass : ℕ) → pass < n → greatest_to g pass ≡ l pass
greatest_is g l n same rising zero below = same 0
greatest_is g l n same rising (suc pass) below = omega (arith, greatest_is g l n same rising pass (omega arith), same (suc pass), rising pass below)

-- the layers in which pieces lie, from one on, divide the passes so
own_divide : (g : ℕ → ℕ) (style low start n : ℕ) (p : PieceValue) (ps : List PieceValue) → ArePieces style low p.first n (p ∷ ps) → ((pass : ℕ) → start ≤ pass → pass < p.first → g pass ≡ p.layer)
    → ((pass : ℕ) → p.first ≤ pass → pass < n → g pass ≡ layer_in (p ∷ ps) pass) → Divide g start (layer_ends (p ∷ ps))
own_divide g style low start n p [] are before is =
    (λ pass from below. elim (cases_lt pass p.first) [ inl lt ↦ before pass from lt | inr ge ↦ is pass ge (omega (arith, are.1, below)) ∙ here p [] pass below ], tt)
own_divide g style low start n p (q ∷ ps) are before is =
    let begins = are.1.0.begins in
    let moved : ArePieces style p.layer q.first n (q ∷ ps) = subst (λ k. ArePieces style p.layer k n (q ∷ ps)) (sym begins) are.1 in
    let reach : p.first + p.passes ≤ n = pieces_end style p.layer (p.first + p.passes) n (q ∷ ps) are.1 in
    let in_p : (pass : ℕ) → start ≤ pass → pass < p.first + p.passes → g pass ≡ p.layer = λ pass from below. elim (cases_lt pass p.first) [ inl lt ↦ before pass from lt | inr ge ↦ is pass ge (omega arith) ∙ here p (q ∷ ps) pass below ] in
    let past_p : (pass : ℕ) → q.first ≤ pass → pass < n → g pass ≡ layer_in (q ∷ ps) pass = λ pass from below. is pass (omega (arith, begins)) below ∙ later p (q ∷ ps) pass (omega (arith, begins)) in
    elim (cases_eq p.layer q.layer) [
      | inl same ↦ rw (eq-eqb p.layer q.layer same) (own_divide g style p.layer start n q ps moved (λ pass from below. in_p pass from (omega (arith, begins)) ∙ same) past_p)
      | inr other ↦ rw (ne_eqb p.layer q.layer other)
          (in_p, own_divide g style p.layer (p.first + p.passes) n q ps moved (λ pass from below. absurd (omega (arith, begins))) past_p)
    ]

-- of a sound block that lies in layers that there are
keeps_pieces : (f : ℕ → ℕ) (style n : ℕ) (ps : List PieceValue) (ends : List LayerEnd) → ArePieces style 0 0 n ps → ((pass : ℕ) → pass < n → f pass ≡ layer_in ps pass) → AreEnds 0 0 n ends → Divide f 0 ends → ends ≡ layer_ends ps
keeps_pieces f style n [] ends pieces same are divide = one_ends f 0 0 0 n ends [] are pieces divide tt
keeps_pieces f style n (p ∷ ps) ends pieces same are divide =
    let begins = pieces.0.begins in
    let moved : ArePieces style 0 p.first n (p ∷ ps) = subst (λ k. ArePieces style 0 k n (p ∷ ps)) (sym begins) pieces in
    one_ends f 0 0 0 n ends (layer_ends (p ∷ ps)) are (own_ends_rise style 0 0 n (p ∷ ps) pieces) divide
    (own_divide f style 0 0 n p ps moved (λ pass from below. absurd (omega (arith, begins))) (λ pass from below. same pass below))

pub keeps_ends : (layers : ℕ) (blocks : List Block) (number : ℕ) (b : Block) (ends : List LayerEnd) → IsSound b → All (λ (p : PieceValue). p.layer < layers) b.pieces → AreEnds 0 0 b.passes ends
    → Divide (layer_at Keep layers blocks number b) 0 ends → ends ≡ layer_ends b.pieces
keeps_ends layers blocks number b ends sound all are divide =
    let cut : (k : ℕ) → min (layer_in b.pieces k) (layers - 1) ≡ layer_in b.pieces k = λ k. omega (arith, within layers b.pieces k all) in
    let rising : (k : ℕ) → suc k < b.passes → layer_in b.pieces k ≤ layer_in b.pieces (suc k) = λ k below. rises b.style.bits 0 0 b.passes b.pieces k sound.pieces below in
    keeps_pieces (layer_at Keep layers blocks number b) b.style.bits b.passes b.pieces ends sound.pieces
    (λ pass below. greatest_is (answer_at Keep layers blocks number b) (layer_in b.pieces) b.passes cut rising pass below) are divide

pub keeps : (style : Option Style) (layers : ℕ) (blocks : List Block) (number : ℕ) (b : Block) (job : Job) → IsSound b → All (λ (p : PieceValue). p.layer < layers) b.pieces → IsJobOf style Keep layers blocks number b job
    → job.ends ≡ layer_ends b.pieces
keeps style layers blocks number b job sound all is = keeps_ends layers blocks number b job.ends sound all is.ends is.layers_are
