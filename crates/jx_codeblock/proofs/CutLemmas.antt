-- Pieces that are cut in each layer at the ends of segments.
use Rattle.std.proofs.Common.{◌≡◌, ℕ, zero, suc, ◌+◌, ◌-◌, ◌<◌, ◌≤◌, ◌==◌, nat_lt, Bool, true, false, List, [], ◌∷◌, inl, inr, ◌∙◌, ap, sym, subst, refl, arith, map}
use Rattle.std.specs.List.{filter}
use Rattle.std.proofs.lemmas.Bool.{cases_lt, cases_eq, cases_Bool, cond-true, cond-false, eq-eqb, ne_eqb, lt-ltb, le-ltb}
use Rattle.jx_base.specs.Passes.{end_pass}
use Rattle.jx_base.specs.Pieces.{PieceValue, ArePieces, passes_at, passes_below}
use Rattle.jx_packet_header.specs.Parts.{cut, one_more}
use Rattle.jx_base.proofs.Lists.{head_same, tail_same}
use Rattle.jx_codeblock.specs.Laws.{AreCutAtEnds, AreCutInLayers}

-- ---- the first of the runs into which passes are cut
record First (style first n : ℕ) : Type 0 where
  run : ℕ
  some : 1 ≤ run
  within : run ≤ n
  is : cut style first n ≡ run ∷ cut style (first + run) (n - run)
  ends : run < n → end_pass style (first + run - 1) ≡ true

ended_run : (style first n : ℕ) → end_pass style first ≡ true → First style first (suc n)
ended_run style first n t =
    let left : suc n - 1 ≡ n = omega arith in
    let same : first + 1 - 1 ≡ first = omega arith in
    record {
      run = 1;
      some = omega arith;
      within = omega arith;
      is = cond-true (end_pass style first) (1 ∷ cut style (first + 1) n) (one_more (cut style (first + 1) n)) t ∙ ap (λ (k : ℕ). 1 ∷ cut style (first + 1) k) (sym left);
      ends = λ (lt : 1 < suc n). subst (λ (k : ℕ). end_pass style k ≡ true) (sym same) t;
    }

last_run : (style first : ℕ) → end_pass style first ≡ false → First style first 1
last_run style first f = record {
  run = 1;
  some = omega arith;
  within = omega arith;
  is = cond-false (end_pass style first) (1 ∷ []) (one_more []) f;
  ends = λ (lt : 1 < 1). absurd (omega arith);
}

longer_run : (style first k : ℕ) → end_pass style first ≡ false → First style (first + 1) (suc k) → First style first (suc (suc k))
longer_run style first k f rest =
    let left : suc (suc k) - suc rest.run ≡ suc k - rest.run = omega arith in
    let there : first + 1 + rest.run ≡ first + suc rest.run = omega arith in
    let last : first + 1 + rest.run - 1 ≡ first + suc rest.run - 1 = omega arith in
    let most : rest.run ≤ suc k = rest.within in
    record {
      run = suc rest.run;
      some = omega arith;
      within = omega arith;
      is = cond-false (end_pass style first) (1 ∷ cut style (first + 1) (suc k)) (one_more (cut style (first + 1) (suc k))) f
          ∙ ap one_more rest.is
          ∙ ap (λ (m : ℕ). suc rest.run ∷ cut style m (suc k - rest.run)) there
          ∙ ap (λ (m : ℕ). suc rest.run ∷ cut style (first + suc rest.run) m) (sym left);
      ends = λ (lt : suc rest.run < suc (suc k)). subst (λ (m : ℕ). end_pass style m ≡ true) last (rest.ends (omega arith));
    }

first_run : (style first n : ℕ) → First style first (suc n)
first_run style first zero = elim (cases_Bool (end_pass style first)) [
  | inl t ↦ ended_run style first 0 t
  | inr f ↦ last_run style first f
]
first_run style first (suc k) = elim (cases_Bool (end_pass style first)) [
  | inl t ↦ ended_run style first (suc k) t
  | inr f ↦ longer_run style first k f (first_run style (first + 1) k)
]

-- passes of which the first run is known
record Tail (style first run more : ℕ) (runs : List ℕ) : Type 0 where
  is : runs ≡ cut style (first + run) more
  ends : 1 ≤ more → end_pass style (first + run - 1) ≡ true

cut_tail : (style first run more : ℕ) (runs : List ℕ) → 1 ≤ run → run ∷ runs ≡ cut style first (run + more) → Tail style first run more runs
cut_tail style first run more runs some e =
    let all : run + more ≡ suc (run + more - 1) = omega arith in
    let front : First style first (run + more) = rw all (first_run style first (run + more - 1)) in
    let both : run ∷ runs ≡ front.run ∷ cut style (first + front.run) (run + more - front.run) = e ∙ front.is in
    let same : run ≡ front.run = head_same run front.run runs (cut style (first + front.run) (run + more - front.run)) both in
    let rest : runs ≡ cut style (first + front.run) (run + more - front.run) = tail_same run front.run runs (cut style (first + front.run) (run + more - front.run)) both in
    let left : run + more - front.run ≡ more = omega arith in
    record {
      is = rest ∙ ap (λ (k : ℕ). cut style (first + front.run) k) left ∙ ap (λ (k : ℕ). cut style (first + k) more) (sym same);
      ends = λ (some_more : 1 ≤ more). subst (λ (k : ℕ). end_pass style (first + k - 1) ≡ true) (sym same) (front.ends (omega arith));
    }

-- ---- pieces of a layer
abbrev pub runs_at : ℕ → List PieceValue → List ℕ
runs_at layer ps = map (λ (p : PieceValue). p.passes) (filter (λ (p : PieceValue). p.layer == layer) ps)

-- layers below the first have none
none_below : (style layer first passes m : ℕ) (ps : List PieceValue) → ArePieces style layer first passes ps → m ≤ layer → passes_below m ps ≡ 0
none_below style layer first passes m [] are le = refl
none_below style layer first passes m (p ∷ ps) are le =
    let at : layer ≤ p.layer = are.0.layers in
    cond-false (nat_lt p.layer m) (p.passes + passes_below m ps) (passes_below m ps) (le-ltb p.layer m (omega arith))
    ∙ none_below style p.layer (first + p.passes) passes m ps are.1 (omega arith)

none_at : (style layer first passes m : ℕ) (ps : List PieceValue) → ArePieces style layer first passes ps → m < layer → (passes_at m ps ≡ 0) × (runs_at m ps ≡ [])
none_at style layer first passes m [] are lt = (refl, refl)
none_at style layer first passes m (p ∷ ps) are lt =
    let at : layer ≤ p.layer = are.0.layers in
    let other : (p.layer == m) ≡ false = ne_eqb p.layer m (λ (e : p.layer ≡ m). omega arith) in
    let rest = none_at style p.layer (first + p.passes) passes m ps are.1 (omega arith) in
    let test : PieceValue → Bool = λ q. q.layer == m in (
      cond-false (p.layer == m) (p.passes + passes_at m ps) (passes_at m ps) other ∙ rest.0,
      ap (map (λ (q : PieceValue). q.passes)) (cond-false (p.layer == m) (p ∷ filter test ps) (filter test ps) other) ∙ rest.1,
    )

pub at_here : (p : PieceValue) (ps : List PieceValue) → (passes_at p.layer (p ∷ ps) ≡ p.passes + passes_at p.layer ps) × (runs_at p.layer (p ∷ ps) ≡ p.passes ∷ runs_at p.layer ps)
at_here p ps =
    let own : (p.layer == p.layer) ≡ true = eq-eqb p.layer p.layer refl in
    let test : PieceValue → Bool = λ q. q.layer == p.layer in (
      cond-true (p.layer == p.layer) (p.passes + passes_at p.layer ps) (passes_at p.layer ps) own,
      ap (map (λ (q : PieceValue). q.passes)) (cond-true (p.layer == p.layer) (p ∷ filter test ps) (filter test ps) own),
    )

pub at_other : (m : ℕ) (p : PieceValue) (ps : List PieceValue) → (p.layer ≡ m → ⊥) → (passes_at m (p ∷ ps) ≡ passes_at m ps) × (runs_at m (p ∷ ps) ≡ runs_at m ps)
at_other m p ps ne =
    let other : (p.layer == m) ≡ false = ne_eqb p.layer m ne in
    let test : PieceValue → Bool = λ q. q.layer == m in (
      cond-false (p.layer == m) (p.passes + passes_at m ps) (passes_at m ps) other,
      ap (map (λ (q : PieceValue). q.passes)) (cond-false (p.layer == m) (p ∷ filter test ps) (filter test ps) other),
    )

-- ---- pieces from a pass on
abbrev pub CutFrom : ℕ → ℕ → List PieceValue → Type 0
CutFrom style first ps = (layer : ℕ) → runs_at layer ps ≡ cut style (first + passes_below layer ps) (passes_at layer ps)

own_tail : (style layer first passes : ℕ) (p : PieceValue) (ps : List PieceValue) → ArePieces style layer first passes (p ∷ ps) → CutFrom style first (p ∷ ps)
    → Tail style first p.passes (passes_at p.layer ps) (runs_at p.layer ps)
own_tail style layer first passes p ps are cuts =
    let here = at_here p ps in
    let none : passes_below p.layer (p ∷ ps) ≡ 0 =
    cond-false (nat_lt p.layer p.layer) (p.passes + passes_below p.layer ps) (passes_below p.layer ps) (le-ltb p.layer p.layer (omega arith))
    ∙ none_below style p.layer (first + p.passes) passes p.layer ps are.1 (omega arith) in
    let same : first + passes_below p.layer (p ∷ ps) ≡ first = omega arith in
    cut_tail style first p.passes (passes_at p.layer ps) (runs_at p.layer ps) are.0.some
    (sym here.1 ∙ cuts p.layer ∙ ap (λ (k : ℕ). cut style k (passes_at p.layer (p ∷ ps))) same ∙ ap (cut style first) here.0)

cut_later : (style layer first passes : ℕ) (p : PieceValue) (ps : List PieceValue) → ArePieces style layer first passes (p ∷ ps) → CutFrom style first (p ∷ ps)
    → CutFrom style (first + p.passes) ps
cut_later style layer first passes p ps are cuts m = elim (cases_eq p.layer m) [
  | inl own ↦
      let tail = own_tail style layer first passes p ps are cuts in
      let none : passes_below p.layer ps ≡ 0 = none_below style p.layer (first + p.passes) passes p.layer ps are.1 (omega arith) in
      let same : first + p.passes ≡ first + p.passes + passes_below p.layer ps = omega arith in
      let here : runs_at p.layer ps ≡ cut style (first + p.passes + passes_below p.layer ps) (passes_at p.layer ps) =
      tail.is ∙ ap (λ (k : ℕ). cut style k (passes_at p.layer ps)) same in
      subst (λ (k : ℕ). runs_at k ps ≡ cut style (first + p.passes + passes_below k ps) (passes_at k ps)) own here
  | inr ne ↦ elim (cases_lt p.layer m) [
    | inl later ↦
        let other = at_other m p ps ne in
        let below : passes_below m (p ∷ ps) ≡ p.passes + passes_below m ps =
        cond-true (nat_lt p.layer m) (p.passes + passes_below m ps) (passes_below m ps) (lt-ltb p.layer m later) in
        let same : first + passes_below m (p ∷ ps) ≡ first + p.passes + passes_below m ps = omega arith in
        sym other.1 ∙ cuts m ∙ ap (λ (k : ℕ). cut style k (passes_at m (p ∷ ps))) same ∙ ap (cut style (first + p.passes + passes_below m ps)) other.0
    | inr earlier ↦
        let none = none_at style p.layer (first + p.passes) passes m ps are.1 (lower m p.layer earlier ne) in
        none.1 ∙ ap (cut style (first + p.passes + passes_below m ps)) (sym none.0)
  ]
]
  where
    lower : (m l : ℕ) → m ≤ l → (l ≡ m → ⊥) → m < l
    lower m l le ne = elim (cases_eq l m) [
      | inl e ↦ absurd (ne e)
      | inr other ↦ omega arith
    ]

cuts_from : (style layer first passes : ℕ) (ps : List PieceValue) → ArePieces style layer first passes ps → CutFrom style first ps → AreCutAtEnds style ps
cuts_from style layer first passes [] are cuts = tt
cuts_from style layer first passes (p ∷ []) are cuts = tt
cuts_from style layer first passes (p ∷ q ∷ ps) are cuts =
    let begins : p.first ≡ first = are.0.begins in
    let some : 1 ≤ q.passes = are.1.0.some in
    let tail = own_tail style layer first passes p (q ∷ ps) are cuts in (
      λ (e : p.layer ≡ q.layer).
          let own : passes_at p.layer (q ∷ ps) ≡ passes_at q.layer (q ∷ ps) = ap (λ (k : ℕ). passes_at k (q ∷ ps)) e in
          let more : 1 ≤ passes_at p.layer (q ∷ ps) = omega (arith, own, (at_here q ps).0) in
          subst (λ (k : ℕ). end_pass style (k + p.passes - 1) ≡ true) (sym begins) (tail.ends more),
      cuts_from style p.layer (first + p.passes) passes (q ∷ ps) are.1 (cut_later style layer first passes p (q ∷ ps) are cuts),
    )

pub cut_in_layers : (style passes : ℕ) (ps : List PieceValue) → ArePieces style 0 0 passes ps → AreCutInLayers style ps → AreCutAtEnds style ps
cut_in_layers style passes ps are cuts = cuts_from style 0 0 passes ps are (λ (layer : ℕ). cuts layer ∙ ap (λ (k : ℕ). cut style k (passes_at layer ps)) (omega arith))
