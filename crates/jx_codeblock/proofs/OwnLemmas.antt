-- Where the layers of the input ended.
use Rattle.std.proofs.Common.{◌≡◌, ℕ, ◌+◌, ◌≤◌, ◌==◌, Bool, false, ◌&&◌, ◌||◌, List, [], ◌∷◌, inl, inr, ◌∙◌, ap, sym, refl}
use Rattle.std.specs.List.{list_all}
use Rattle.std.proofs.lemmas.Bool.{cases_Bool}
use Rattle.jx_base.specs.Pieces.{PieceValue}
use Rattle.jx_codeblock.specs.declared.LayerEnd.{LayerEnd}
use Rattle.jx_codeblock.specs.Recoding.{has_own_ends}
use Rattle.jx_codeblock.specs.Jobs.{AreEnds}
use Rattle.jx_codeblock.specs.Tables.{is_own_end, is_last_of_layer}
use Rattle.jx_codeblock.proofs.PartLemmas.{ends_within}

-- one piece more
pub own_step : (p : PieceValue) (rest : List PieceValue) (n : ℕ) → is_own_end (p ∷ rest) n ≡ ((is_last_of_layer (p ∷ rest) && (p.first + p.passes == n)) || is_own_end rest n)
own_step p [] n = refl
own_step p (q ∷ rest) n = elim (cases_Bool (p.layer == q.layer)) [
  | inl t ↦ rw t refl
  | inr f ↦ rw f refl
]

pub own_passed : (p : PieceValue) (rest : List PieceValue) (n : ℕ) (before whole : Bool) → is_last_of_layer (p ∷ rest) ≡ false
    → (before || is_own_end (p ∷ rest) n) ≡ whole → (before || is_own_end rest n) ≡ whole
own_passed p rest n before whole last h =
    let step : is_own_end (p ∷ rest) n ≡ is_own_end rest n = own_step p rest n ∙ ap (λ (b : Bool). (b && (p.first + p.passes == n)) || is_own_end rest n) last in
    ap (λ (b : Bool). before || b) (sym step) ∙ h

-- the test over all ends
all_same : (layer first all : ℕ) (test own : ℕ → Bool) (ends : List LayerEnd) → AreEnds layer first all ends → ((n : ℕ) → n ≤ all → test n ≡ own n)
    → list_all (λ (e : LayerEnd). test e.passes) ends ≡ list_all (λ (e : LayerEnd). own e.passes) ends
all_same layer first all test own [] are agree = refl
all_same layer first all test own (e ∷ ends) are agree =
    let here : test e.passes ≡ own e.passes = agree e.passes (ends_within (e.layer + 1) e.passes all ends are.2) in
    let more = all_same (e.layer + 1) e.passes all test own ends are.2 agree in
    rw (here, more) refl

pub own_all : (all : ℕ) (test : ℕ → Bool) (pieces : List PieceValue) (ends : List LayerEnd) → AreEnds 0 0 all ends → ((n : ℕ) → n ≤ all → test n ≡ is_own_end pieces n)
    → list_all (λ (e : LayerEnd). test e.passes) ends ≡ has_own_ends pieces ends
own_all all test pieces ends are agree = all_same 0 0 all test (is_own_end pieces) ends are agree
