-- The parts of layers depend on how many bytes are sent at the ends of segments and of layers alone.
use Rattle.std.proofs.Common.{◌≡◌, ℕ, zero, suc, ◌+◌, ◌-◌, ◌<◌, ◌≤◌, ◌==◌, true, ◌||◌, List, [], ◌∷◌, inl, inr, ◌⊎◌, ◌∙◌, sym, subst, refl, arith}
use Rattle.std.specs.List.{list_all}
use Rattle.std.proofs.lemmas.Bool.{cases_Bool, cond-true, cond-false, and_parts, or_cases, eqb-true}
use Rattle.jx_base.specs.Passes.{end_pass}
use Rattle.jx_packet_header.specs.Parts.{cut, one_more}
use Rattle.jx_codeblock.specs.declared.LayerEnd.{LayerEnd}
use Rattle.jx_codeblock.specs.declared.LayerPart.{LayerPart}
use Rattle.jx_codeblock.specs.Recoding.{layer_parts, layer_parts_after}
use Rattle.jx_codeblock.specs.Jobs.{AreEnds}
use Rattle.jx_codeblock.specs.Tables.{is_cut, are_cut}

-- ---- where runs of passes meet
abbrev pub Edges : (ℕ → Type 0) → ℕ → List ℕ → Type 0
Edges P first [] = Unit {0}
Edges P first (run ∷ runs) = P (first + run) × Edges P (first + run) runs

edges_more : (P : ℕ → Type 0) (first : ℕ) (runs : List ℕ) → Edges P (first + 1) runs → (runs ≡ [] → P (first + 1)) → Edges P first (one_more runs)
edges_more P first [] h one = (one refl, tt)
edges_more P first (run ∷ runs) h one =
    let e : first + 1 + run ≡ first + suc run = omega arith in
    (subst P e h.0, subst (λ (n : ℕ). Edges P n runs) e h.1)

one_more_some : (runs : List ℕ) → one_more runs ≡ [] → ⊥
one_more_some [] e = cc
one_more_some (run ∷ runs) e = cc

cut_some : (style first n : ℕ) → cut style first n ≡ [] → n ≡ 0
cut_some style first zero e = refl
cut_some style first (suc n) e = elim (cases_Bool (end_pass style first)) [
  | inl t ↦
      let h : 1 ∷ cut style (first + 1) n ≡ [] = sym (cond-true (end_pass style first) (1 ∷ cut style (first + 1) n) (one_more (cut style (first + 1) n)) t) ∙ e in
      absurd (cc)
  | inr f ↦
      absurd (one_more_some (cut style (first + 1) n)
      (sym (cond-false (end_pass style first) (1 ∷ cut style (first + 1) n) (one_more (cut style (first + 1) n)) f) ∙ e))
]

-- passes that are cut meet after passes that end a segment, and where the last ends
pub cut_edges : (P : ℕ → Type 0) (style first n : ℕ) → ((m : ℕ) → first ≤ m → m < first + n → end_pass style m ≡ true → P (m + 1)) → P (first + n)
    → Edges P first (cut style first n)
cut_edges P style first zero each last = tt
cut_edges P style first (suc n) each last =
    let e : first + suc n ≡ first + 1 + n = omega arith in
    let rest : Edges P (first + 1) (cut style (first + 1) n) =
    cut_edges P style (first + 1) n (λ (m : ℕ) le lt ends. each m (omega arith) (omega arith) ends) (subst P e last) in
    elim (cases_Bool (end_pass style first)) [
      | inl t ↦
          subst (λ (runs : List ℕ). Edges P first runs) (sym (cond-true (end_pass style first) (1 ∷ cut style (first + 1) n) (one_more (cut style (first + 1) n)) t))
          (each first (omega arith) (omega arith) t, rest)
      | inr f ↦
          subst (λ (runs : List ℕ). Edges P first runs) (sym (cond-false (end_pass style first) (1 ∷ cut style (first + 1) n) (one_more (cut style (first + 1) n)) f))
          (edges_more P first (cut style (first + 1) n) rest (λ (none : cut style (first + 1) n ≡ []).
          let z : n ≡ 0 = cut_some style (first + 1) n none in
          let same : first + suc n ≡ first + 1 = omega arith in
          subst P same last))
    ]

-- ---- the same bytes where runs meet, the same parts
part_same : (layer first run a b c d : ℕ) (xs ys : List LayerPart) → a ≡ c → b ≡ d → xs ≡ ys
    → ◌≡◌ {A = List LayerPart} (record { layer = layer; first = first; passes = run; from = a; to = b } ∷ xs) (record { layer = layer; first = first; passes = run; from = c; to = d } ∷ ys)
part_same layer first run a b c d xs ys e f g = rw (e, f, g) refl

layer_same : (s t : ℕ → ℕ) (layer first : ℕ) (runs : List ℕ) → s first ≡ t first → Edges (λ (m : ℕ). s m ≡ t m) first runs
    → layer_parts s layer first runs ≡ layer_parts t layer first runs
layer_same s t layer first [] here edges = refl
layer_same s t layer first (run ∷ runs) here edges =
    part_same layer first run (s first) (s (first + run)) (t first) (t (first + run)) (layer_parts s layer (first + run) runs) (layer_parts t layer (first + run) runs)
    here edges.0 (layer_same s t layer (first + run) runs edges.0 edges.1)

abbrev pub AtEnds : (ℕ → Type 0) → List LayerEnd → Type 0
AtEnds U [] = Unit {0}
AtEnds U (e ∷ ends) = U e.passes × AtEnds U ends

pub ends_within : (layer passes all : ℕ) (ends : List LayerEnd) → AreEnds layer passes all ends → passes ≤ all
ends_within layer passes all [] are = let e : passes ≡ all = are in omega arith
ends_within layer passes all (e ∷ ends) are =
    let h : e.passes ≤ all = ends_within (e.layer + 1) e.passes all ends are.2 in
    let lt : passes < e.passes = are.1 in
    omega arith

pub parts_same : (U : ℕ → Type 0) (s t : ℕ → ℕ) (style layer first all : ℕ) (ends : List LayerEnd) → AreEnds layer first all ends
    → ((n : ℕ) → n ≤ all → U n → s n ≡ t n) → ((m : ℕ) → m < all → end_pass style m ≡ true → U (m + 1)) → U first → AtEnds U ends
    → layer_parts_after style s first ends ≡ layer_parts_after style t first ends
parts_same U s t style layer first all [] are agree cuts here at = refl
parts_same U s t style layer first all (e ∷ ends) are agree cuts here at =
    let lt : first < e.passes = are.1 in
    let within : e.passes ≤ all = ends_within (e.layer + 1) e.passes all ends are.2 in
    let sum : e.passes ≡ first + (e.passes - first) = omega arith in
    let last : s e.passes ≡ t e.passes = agree e.passes within at.0 in
    let edges : Edges (λ (m : ℕ). s m ≡ t m) first (cut style first (e.passes - first)) =
    cut_edges (λ (m : ℕ). s m ≡ t m) style first (e.passes - first)
    (λ (m : ℕ) le below ends_it. agree (m + 1) (omega arith) (cuts m (omega arith) ends_it))
    (subst (λ (n : ℕ). s n ≡ t n) sum last) in
    let one : layer_parts s e.layer first (cut style first (e.passes - first)) ≡ layer_parts t e.layer first (cut style first (e.passes - first)) =
    layer_same s t e.layer first (cut style first (e.passes - first)) (agree first (omega arith) here) edges in
    let more : layer_parts_after style s e.passes ends ≡ layer_parts_after style t e.passes ends = parts_same U s t style (e.layer + 1) e.passes all ends are.2 agree cuts at.0 at.1 in
    cc

-- ---- where the numbers agree everywhere, and where they agree at the ends of segments
all_at : (ends : List LayerEnd) → AtEnds (λ (n : ℕ). Unit {0}) ends
all_at [] = tt
all_at (e ∷ ends) = (tt, all_at ends)

pub parts_everywhere : (s t : ℕ → ℕ) (style layer all : ℕ) (ends : List LayerEnd) → AreEnds layer 0 all ends → ((n : ℕ) → n ≤ all → s n ≡ t n)
    → layer_parts_after style s 0 ends ≡ layer_parts_after style t 0 ends
parts_everywhere s t style layer all ends are agree =
    parts_same (λ (n : ℕ). Unit {0}) s t style layer 0 all ends are (λ (n : ℕ) le u. agree n le) (λ (m : ℕ) lt e. tt) tt (all_at ends)

-- no pass was sent, all were, or the last that was ends a segment
abbrev pub IsCut : ℕ → ℕ → ℕ → Type 0
IsCut style all n = (n ≡ 0) ⊎ (n ≡ all) ⊎ (end_pass style (n - 1) ≡ true)

pub cut_from : (style all n : ℕ) → (n == all || end_pass style (n - 1)) ≡ true → IsCut style all n
cut_from style all n h = elim (or_cases (n == all) (end_pass style (n - 1)) h) [
  | inl same ↦ inr (inl (eqb-true n all same))
  | inr ends ↦ inr (inr ends)
]

cuts_at : (style all : ℕ) (ends : List LayerEnd) → are_cut style all ends ≡ true → AtEnds (IsCut style all) ends
cuts_at style all [] h = tt
cuts_at style all (e ∷ ends) h =
    let both = and_parts (is_cut style all e) (list_all (is_cut style all) ends) h in
    (cut_from style all e.passes both.0, cuts_at style all ends both.1)

pub parts_at_cuts : (s t : ℕ → ℕ) (style layer all : ℕ) (ends : List LayerEnd) → AreEnds layer 0 all ends → are_cut style all ends ≡ true
    → ((n : ℕ) → n ≤ all → IsCut style all n → s n ≡ t n) → layer_parts_after style s 0 ends ≡ layer_parts_after style t 0 ends
parts_at_cuts s t style layer all ends are at agree =
    parts_same (IsCut style all) s t style layer 0 all ends are agree
    (λ (m : ℕ) lt e. let same : m ≡ m + 1 - 1 = omega arith in inr (inr (subst (λ (k : ℕ). end_pass style k ≡ true) same e))) (inl refl) (cuts_at style all ends at)
