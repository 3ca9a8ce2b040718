-- Passes that are put into layers one after another.
use Rattle.std.proofs.Common.{◌≡◌, ◌<◌, ◌≤◌, ◌+◌, ◌∙◌, ap, sym, subst, refl, arith, ℕ, zero, suc, List, [], ◌∷◌, ◌++◌, inl, inr}
use Rattle.std.proofs.lemmas.Bool.{cases_lt}
use Rattle.jx_codeblock.specs.declared.LayerEnd.{LayerEnd}
use Rattle.jx_codeblock.specs.Jobs.{AreEnds}
use Rattle.jx_plan.specs.Layers.{greatest_to, Divide}
use Rattle.jx_plan.specs.Sent.{LieIn, AreSent}

abbrev end_at : ℕ → ℕ → LayerEnd
end_at layer passes = record { layer = layer; passes = passes }

-- one pass more in the last layer
lie_same : (f : ℕ → ℕ) (low first n last : ℕ) (ends : List LayerEnd) → f n ≡ last → LieIn f low first n last ends → LieIn f low first (n + 1) last ends
lie_same f low first n last [] is lie = (
  lie.0,
  omega (arith, lie.1),
  λ pass from below. elim (cases_lt pass n) [
    | inl lt ↦ lie.2 pass from lt
    | inr ge ↦ let same : pass ≡ n = omega arith in ap f same ∙ is
  ],
)
lie_same f low first n last (e ∷ ends) is lie = (lie.0, lie.1, lie.2, lie_same f (e.layer + 1) e.passes n last ends is lie.3)

-- in a layer above it
lie_next : (f : ℕ → ℕ) (low first n last next : ℕ) (ends : List LayerEnd) → last < next → f n ≡ next → LieIn f low first n last ends → LieIn f low first (n + 1) next (ends ++ end_at last n ∷ [])
lie_next f low first n last next [] above is lie = (lie.0, lie.1, lie.2, (omega (arith, above), omega arith, λ pass from below. let same : pass ≡ n = omega arith in ap f same ∙ is))
lie_next f low first n last next (e ∷ ends) above is lie = (lie.0, lie.1, lie.2, lie_next f (e.layer + 1) e.passes n last next ends above is lie.3)

-- when all are in layers
lie_ends : (f : ℕ → ℕ) (low first n last : ℕ) (ends : List LayerEnd) → LieIn f low first n last ends → AreEnds low first n (ends ++ end_at last n ∷ [])
lie_ends f low first n last [] lie = (lie.0, lie.1, refl)
lie_ends f low first n last (e ∷ ends) lie = (lie.0, lie.1, lie_ends f (e.layer + 1) e.passes n last ends lie.3)

lie_divide : (f : ℕ → ℕ) (low first n last : ℕ) (ends : List LayerEnd) → LieIn f low first n last ends → Divide f first (ends ++ end_at last n ∷ [])
lie_divide f low first n last [] lie = (lie.2, tt)
lie_divide f low first n last (e ∷ ends) lie = (lie.2, lie_divide f (e.layer + 1) e.passes n last ends lie.3)

-- ---- the same of what was answered
one_more : (n : ℕ) → suc n + 1 ≡ suc (suc n)
one_more n = omega arith

pub sent_first : (g : ℕ → ℕ) (last layer : ℕ) (ends : List LayerEnd) → AreSent g 0 last ends → layer ≡ g 0 → AreSent g 1 layer ends
sent_first g last layer ends sent is = subst (AreSent g 1 layer) (sym sent.1) ((omega arith, omega arith, λ pass from below. let same : pass ≡ 0 = omega arith in ap (greatest_to g) same ∙ sym is), is)

pub sent_same : (g : ℕ → ℕ) (n last layer : ℕ) (ends : List LayerEnd) → 0 < n → AreSent g n last ends → layer ≡ g n → layer ≤ last → AreSent g (n + 1) last ends
sent_same g zero last layer ends some sent is low = absurd (omega arith)
sent_same g (suc n) last layer ends some sent is low =
    let greatest : greatest_to g (suc n) ≡ last = omega (arith, sent.1, is, low) in
    let lie : LieIn (greatest_to g) 0 0 (suc (suc n)) last ends = subst (λ m. LieIn (greatest_to g) 0 0 m last ends) (one_more n) (lie_same (greatest_to g) 0 0 (suc n) last ends greatest sent.0) in
    subst (λ m. AreSent g m last ends) (sym (one_more n)) (lie, sym greatest)

pub sent_next : (g : ℕ → ℕ) (n last layer : ℕ) (ends : List LayerEnd) → 0 < n → AreSent g n last ends → layer ≡ g n → last < layer → AreSent g (n + 1) layer (ends ++ end_at last n ∷ [])
sent_next g zero last layer ends some sent is above = absurd (omega arith)
sent_next g (suc n) last layer ends some sent is above =
    let greatest : greatest_to g (suc n) ≡ layer = omega (arith, sent.1, is, above) in
    let after : List LayerEnd = ends ++ end_at last (suc n) ∷ [] in
    let lie : LieIn (greatest_to g) 0 0 (suc (suc n)) layer after = subst (λ m. LieIn (greatest_to g) 0 0 m layer after) (one_more n) (lie_next (greatest_to g) 0 0 (suc n) last layer ends above greatest sent.0) in
    subst (λ m. AreSent g m layer after) (sym (one_more n)) (lie, sym greatest)

pub sent_none : (g : ℕ → ℕ) (last : ℕ) (ends : List LayerEnd) → AreSent g 0 last ends → AreEnds 0 0 0 ends × Divide (greatest_to g) 0 ends
sent_none g last ends sent = subst (λ es. AreEnds 0 0 0 es × Divide (greatest_to g) 0 es) (sym sent.1) (refl, tt)

pub sent_all : (g : ℕ → ℕ) (n last : ℕ) (ends : List LayerEnd) → 0 < n → AreSent g n last ends → AreEnds 0 0 n (ends ++ end_at last n ∷ []) × Divide (greatest_to g) 0 (ends ++ end_at last n ∷ [])
sent_all g zero last ends some sent = absurd (omega arith)
sent_all g (suc n) last ends some sent = (lie_ends (greatest_to g) 0 0 (suc n) last ends sent.0, lie_divide (greatest_to g) 0 0 (suc n) last ends sent.0)
