-- What each layer has of a block's passes: the layers of parts, how many passes each has, and where these are cut.
use Rattle.std.proofs.Common.{◌≡◌, ℕ, ◌+◌, ◌-◌, ◌<◌, ◌≤◌, ◌==◌, nat_lt, true, false, List, [], ◌∷◌, ◌++◌, inl, inr, ◌∙◌, ap, sym, subst, refl, arith, map}
use Rattle.std.specs.Prelude.{if◌then◌else◌}
use Rattle.std.specs.List.{All}
use Rattle.std.proofs.lemmas.Bool.{cases_lt, cases_eq, cases_Bool, cond-true, cond-false, eq-eqb, ne_eqb, eqb-true, lt-ltb}
use Rattle.std.proofs.lemmas.List.{append-nil, map-append}
use Rattle.std.proofs.lemmas.List.Elements.{All-nil, All-cons, All-head, All-tail, All-append}
use Rattle.jx_base.specs.Pieces.{PieceValue, ArePieces, passes_at, passes_below}
use Rattle.jx_packet_header.specs.Parts.{cut}
use Rattle.jx_codeblock.specs.declared.LayerEnd.{LayerEnd}
use Rattle.jx_codeblock.specs.Jobs.{AreEnds}
use Rattle.jx_codeblock.specs.Laws.{AreCutInLayers}
use Rattle.jx_codeblock.specs.Recoding.{layer_ends, layer_parts, layer_parts_after, piece_of}
use Rattle.jx_codeblock.proofs.CutLemmas.{CutFrom, runs_at, at_here, at_other}
use Rattle.jx_codeblock.proofs.KeptLemmas.{HeadAt, head_at}
use Rattle.jx_codeblock.proofs.SoundLemmas.{Exact, cut_exact, exact_end}
use Rattle.jx_base.proofs.PieceLemmas.{below_here}

-- ---- pieces of later layers alone
record NoneAt (m : ℕ) (ps : List PieceValue) : Type 0 where
  passes : passes_at m ps ≡ 0
  runs : runs_at m ps ≡ []
  below : passes_below m ps ≡ 0

none_later : (m : ℕ) (ps : List PieceValue) → All (λ (p : PieceValue). m < p.layer) ps → NoneAt m ps
none_later m [] later = record { passes = refl; runs = refl; below = refl }
none_later m (p ∷ ps) later =
    let P : PieceValue → Type 0 = λ q. m < q.layer in
    let here : m < p.layer = All-head P p ps later in
    let other = at_other m p ps (λ (e : p.layer ≡ m). omega arith) in
    let rest = none_later m ps (All-tail P p ps later) in
    record {
      passes = other.0 ∙ rest.passes;
      runs = other.1 ∙ rest.runs;
      below = below_here m p ps (omega arith) ∙ rest.below;
    }

ends_later : (m layer first all : ℕ) (ends : List LayerEnd) → m < layer → AreEnds layer first all ends → All (λ (e : LayerEnd). m < e.layer) ends
ends_later m layer first all [] lt are = All-nil (λ (e : LayerEnd). m < e.layer)
ends_later m layer first all (e ∷ ends) lt are =
    let le : layer ≤ e.layer = are.0 in
    All-cons (λ (f : LayerEnd). m < f.layer) e ends (omega arith) (ends_later m (e.layer + 1) e.passes all ends (omega arith) are.2)

-- ---- parts as pieces
module _ (sent : ℕ → ℕ) (bytes : List ℕ) where
  abbrev piece : ℕ → ℕ → ℕ → PieceValue
  piece layer first run = piece_of bytes (record { layer = layer; first = first; passes = run; from = sent first; to = sent (first + run) })

  abbrev pub of_layer : ℕ → ℕ → List ℕ → List PieceValue
  of_layer layer first runs = map (piece_of bytes) (layer_parts sent layer first runs)

  abbrev pub from_ends : ℕ → ℕ → List LayerEnd → List PieceValue
  from_ends style first ends = map (piece_of bytes) (layer_parts_after style sent first ends)

  pub more_ends : (style first : ℕ) (e : LayerEnd) (ends : List LayerEnd)
      → from_ends style first (e ∷ ends) ≡ of_layer e.layer first (cut style first (e.passes - first)) ++ from_ends style e.passes ends
  more_ends style first e ends = map-append (piece_of bytes) (layer_parts sent e.layer first (cut style first (e.passes - first))) (layer_parts_after style sent e.passes ends)

  -- their layers are those of the ends
  layer_all : (P : ℕ → Type 0) (layer first : ℕ) (runs : List ℕ) → P layer → All (λ (p : PieceValue). P p.layer) (of_layer layer first runs)
  layer_all P layer first [] at = All-nil (λ (p : PieceValue). P p.layer)
  layer_all P layer first (run ∷ runs) at =
      All-cons (λ (p : PieceValue). P p.layer) (piece layer first run) (of_layer layer (first + run) runs) at (layer_all P layer (first + run) runs at)

  pub parts_all : (P : ℕ → Type 0) (style first : ℕ) (ends : List LayerEnd) → All (λ (e : LayerEnd). P e.layer) ends → All (λ (p : PieceValue). P p.layer) (from_ends style first ends)
  parts_all P style first [] each = All-nil (λ (p : PieceValue). P p.layer)
  parts_all P style first (e ∷ ends) each =
      let Q : LayerEnd → Type 0 = λ f. P f.layer in
      subst (λ (ps : List PieceValue). All (λ (p : PieceValue). P p.layer) ps) (sym (more_ends style first e ends))
      (All-append (λ (p : PieceValue). P p.layer) (of_layer e.layer first (cut style first (e.passes - first))) (from_ends style e.passes ends)
      (layer_all P e.layer first (cut style first (e.passes - first)) (All-head Q e ends each)) (parts_all P style e.passes ends (All-tail Q e ends each)))

  parts_later : (m style layer first all : ℕ) (ends : List LayerEnd) → m < layer → AreEnds layer first all ends → All (λ (p : PieceValue). m < p.layer) (from_ends style first ends)
  parts_later m style layer first all ends lt are = parts_all (λ (n : ℕ). m < n) style first ends (ends_later m layer first all ends lt are)

  -- ---- how many passes they have, in their own layer, in another, and below a later one
  own_passes : (style layer first last : ℕ) (runs : List ℕ) (rest : List PieceValue) → Exact style first last runs
      → first + passes_at layer (of_layer layer first runs ++ rest) ≡ last + passes_at layer rest
  own_passes style layer first last [] rest h = let e : first ≡ last = h in omega arith
  own_passes style layer first last (run ∷ runs) rest h =
      let here : passes_at layer (of_layer layer first (run ∷ runs) ++ rest) ≡ run + passes_at layer (of_layer layer (first + run) runs ++ rest) =
      (at_here (piece layer first run) (of_layer layer (first + run) runs ++ rest)).0 in
      let more = own_passes style layer (first + run) last runs rest h.2 in
      omega arith

  own_runs : (layer first : ℕ) (runs : List ℕ) (rest : List PieceValue) → runs_at layer (of_layer layer first runs ++ rest) ≡ runs ++ runs_at layer rest
  own_runs layer first [] rest = refl
  own_runs layer first (run ∷ runs) rest =
      (at_here (piece layer first run) (of_layer layer (first + run) runs ++ rest)).1 ∙ ap (λ (xs : List ℕ). run ∷ xs) (own_runs layer (first + run) runs rest)

  own_below : (layer first : ℕ) (runs : List ℕ) (rest : List PieceValue) → passes_below layer (of_layer layer first runs ++ rest) ≡ passes_below layer rest
  own_below layer first [] rest = refl
  own_below layer first (run ∷ runs) rest =
      below_here layer (piece layer first run) (of_layer layer (first + run) runs ++ rest) (omega arith) ∙ own_below layer (first + run) runs rest

  other_at : (m layer first : ℕ) (runs : List ℕ) (rest : List PieceValue) → (layer ≡ m → ⊥)
      → (passes_at m (of_layer layer first runs ++ rest) ≡ passes_at m rest) × (runs_at m (of_layer layer first runs ++ rest) ≡ runs_at m rest)
  other_at m layer first [] rest ne = (refl, refl)
  other_at m layer first (run ∷ runs) rest ne =
      let here = at_other m (piece layer first run) (of_layer layer (first + run) runs ++ rest) ne in
      let more = other_at m layer (first + run) runs rest ne in
      (here.0 ∙ more.0, here.1 ∙ more.1)

  pub earlier_below : (style m layer first last : ℕ) (runs : List ℕ) (rest : List PieceValue) → layer < m → Exact style first last runs
      → first + passes_below m (of_layer layer first runs ++ rest) ≡ last + passes_below m rest
  earlier_below style m layer first last [] rest lt h = let e : first ≡ last = h in omega arith
  earlier_below style m layer first last (run ∷ runs) rest lt h =
      let here : passes_below m (of_layer layer first (run ∷ runs) ++ rest) ≡ run + passes_below m (of_layer layer (first + run) runs ++ rest) =
      cond-true (nat_lt layer m) (run + passes_below m (of_layer layer (first + run) runs ++ rest)) (passes_below m (of_layer layer (first + run) runs ++ rest)) (lt-ltb layer m lt) in
      let more = earlier_below style m layer (first + run) last runs rest lt h.2 in
      omega arith

  -- ---- they are cut in each layer as packets cut them
  pub exact : (style first : ℕ) (e : LayerEnd) → first < e.passes → Exact style first e.passes (cut style first (e.passes - first))
  exact style first e lt =
      let sum : first + (e.passes - first) ≡ e.passes = omega arith in
      subst (λ (n : ℕ). Exact style first n (cut style first (e.passes - first))) sum (cut_exact style first (e.passes - first))

  cut_from : (style layer first all : ℕ) (ends : List LayerEnd) → AreEnds layer first all ends → CutFrom style first (from_ends style first ends)
  cut_from style layer first all [] are m = refl
  cut_from style layer first all (e ∷ ends) are m =
      let lt : first < e.passes = are.1 in
      let runs : List ℕ = cut style first (e.passes - first) in
      let rest : List PieceValue = from_ends style e.passes ends in
      let all_runs : Exact style first e.passes (cut style first (e.passes - first)) = exact style first e lt in
      let P : List PieceValue → Type 0 = λ ps. runs_at m ps ≡ cut style (first + passes_below m ps) (passes_at m ps) in
      subst P (sym (more_ends style first e ends))
      (elim (cases_lt m (e.layer + 1)) [
        | inl within ↦
            let none = none_later m rest (parts_later m style (e.layer + 1) e.passes all ends within are.2) in
            elim (cases_eq e.layer m) [
              | inl own ↦
                  let none' : NoneAt e.layer rest = subst (λ (k : ℕ). NoneAt k rest) (sym own) none in
                  let Q : ℕ → Type 0 = λ k. runs_at k (of_layer e.layer first runs ++ rest)
                  ≡ cut style (first + passes_below k (of_layer e.layer first runs ++ rest)) (passes_at k (of_layer e.layer first runs ++ rest)) in
                  let count = own_passes style e.layer first e.passes runs rest all_runs in
                  let nothing = none'.passes in
                  let long : e.passes - first ≡ passes_at e.layer (of_layer e.layer first runs ++ rest) = omega arith in
                  let below : passes_below e.layer (of_layer e.layer first runs ++ rest) ≡ 0 = own_below e.layer first runs rest ∙ none'.below in
                  let start : first ≡ first + passes_below e.layer (of_layer e.layer first runs ++ rest) = omega arith in
                  let here : Q e.layer =
                  own_runs e.layer first runs rest ∙ ap (λ (xs : List ℕ). runs ++ xs) none'.runs ∙ append-nil runs
                  ∙ ap (λ (k : ℕ). cut style first k) long
                  ∙ ap (λ (k : ℕ). cut style k (passes_at e.layer (of_layer e.layer first runs ++ rest))) start in
                  subst Q own here
              | inr ne ↦
                  let other = other_at m e.layer first runs rest ne in
                  let count : passes_at m (of_layer e.layer first runs ++ rest) ≡ 0 = other.0 ∙ none.passes in
                  other.1 ∙ none.runs ∙ ap (cut style (first + passes_below m (of_layer e.layer first runs ++ rest))) (sym count)
            ]
        | inr later ↦
            let other = other_at m e.layer first runs rest (λ (same : e.layer ≡ m). omega arith) in
            let below = earlier_below style m e.layer first e.passes runs rest (omega arith) all_runs in
            let more = cut_from style (e.layer + 1) e.passes all ends are.2 m in
            other.1 ∙ more
            ∙ ap (λ (k : ℕ). cut style k (passes_at m rest)) (sym below)
            ∙ ap (cut style (first + passes_below m (of_layer e.layer first runs ++ rest))) (sym other.0)
      ])

  pub parts_cut : (style all : ℕ) (ends : List LayerEnd) → AreEnds 0 0 all ends → AreCutInLayers style (from_ends style 0 ends)
  parts_cut style all ends are layer =
      cut_from style 0 0 all ends are layer ∙ ap (λ (k : ℕ). cut style k (passes_at layer (from_ends style 0 ends))) (omega arith)

  -- ---- their layers end where it was asked
  end_one : (style layer first last : ℕ) (runs : List ℕ) (rest : List PieceValue) → Exact style first last runs → first < last → All (λ (p : PieceValue). layer < p.layer) rest
      → layer_ends (of_layer layer first runs ++ rest) ≡ record { layer = layer; passes = last } ∷ layer_ends rest
  end_one style layer first last [] rest h lt later = let e : first ≡ last = h in absurd (omega arith)
  end_one style layer first last (run ∷ []) [] h lt later = ap (λ (n : ℕ). record { layer = layer; passes = n } ∷ []) h.2
  end_one style layer first last (run ∷ []) (q ∷ ps) h lt later =
      let above : layer < q.layer = All-head (λ (p : PieceValue). layer < p.layer) q ps later in
      cond-false (layer == q.layer) (layer_ends (q ∷ ps)) (record { layer = layer; passes = first + run } ∷ layer_ends (q ∷ ps)) (ne_eqb layer q.layer (λ (e : layer ≡ q.layer). omega arith))
      ∙ ap (λ (n : ℕ). record { layer = layer; passes = n } ∷ layer_ends (q ∷ ps)) h.2
  end_one style layer first last (run ∷ next ∷ runs) rest h lt later =
      let some : 1 ≤ next = h.2.0 in
      let within : first + run + next ≤ last = exact_end style (first + run + next) last runs h.2.2 in
      cond-true (layer == layer) (layer_ends (of_layer layer (first + run) (next ∷ runs) ++ rest))
      (record { layer = layer; passes = first + run } ∷ layer_ends (of_layer layer (first + run) (next ∷ runs) ++ rest)) (eq-eqb layer layer refl)
      ∙ end_one style layer (first + run) last (next ∷ runs) rest h.2 (omega arith) later

  pub parts_end : (style layer first all : ℕ) (ends : List LayerEnd) → AreEnds layer first all ends → layer_ends (from_ends style first ends) ≡ ends
  parts_end style layer first all [] are = refl
  parts_end style layer first all (e ∷ ends) are =
      let lt : first < e.passes = are.1 in
      ap layer_ends (more_ends style first e ends)
      ∙ end_one style e.layer first e.passes (cut style first (e.passes - first)) (from_ends style e.passes ends) (exact style first e lt) lt
      (parts_later e.layer style (e.layer + 1) e.passes all ends (omega arith) are.2)
      ∙ ap (λ (more : List LayerEnd). e ∷ more) (parts_end style (e.layer + 1) e.passes all ends are.2)

-- ---- how many passes a layer has, by the ends of layers
abbrev pub share : ℕ → ℕ → List LayerEnd → ℕ
share m first [] = 0
share m first (e ∷ ends) = if e.layer == m then (e.passes - first) + share m e.passes ends else share m e.passes ends

-- some passes before them in the first of these layers
share_own : (m layer first more : ℕ) (ends : List LayerEnd) → HeadAt layer (first + more) ends → layer ≡ m → share m first ends ≡ more + share m (first + more) ends
share_own m layer first more [] head own = absurd head
share_own m layer first more (e ∷ ends) head own =
    let le : first + more ≤ e.passes = head.1 in
    let at : (e.layer == m) ≡ true = eq-eqb e.layer m (head.0 ∙ own) in
    let a : share m first (e ∷ ends) ≡ (e.passes - first) + share m e.passes ends = cond-true (e.layer == m) ((e.passes - first) + share m e.passes ends) (share m e.passes ends) at in
    let b : share m (first + more) (e ∷ ends) ≡ (e.passes - (first + more)) + share m e.passes ends =
    cond-true (e.layer == m) ((e.passes - (first + more)) + share m e.passes ends) (share m e.passes ends) at in
    omega arith

share_other : (m layer first more : ℕ) (ends : List LayerEnd) → HeadAt layer more ends → (layer ≡ m → ⊥) → share m first ends ≡ share m more ends
share_other m layer first more [] head ne = absurd head
share_other m layer first more (e ∷ ends) head ne =
    let at : (e.layer == m) ≡ false = ne_eqb e.layer m (λ (same : e.layer ≡ m). ne (sym head.0 ∙ same)) in
    cond-false (e.layer == m) ((e.passes - first) + share m e.passes ends) (share m e.passes ends) at
    ∙ sym (cond-false (e.layer == m) ((e.passes - more) + share m e.passes ends) (share m e.passes ends) at)

pub share_is : (style layer first passes m : ℕ) (ps : List PieceValue) → ArePieces style layer first passes ps → passes_at m ps ≡ share m first (layer_ends ps)
share_is style layer first passes m [] are = refl
share_is style layer first passes m (p ∷ []) are =
    let begins : p.first ≡ first = are.0.begins in
    let long : p.passes ≡ p.first + p.passes - first = omega arith in
    ap (λ (k : ℕ). if p.layer == m then k + 0 else 0) long
share_is style layer first passes m (p ∷ q ∷ ps) are =
    let begins : p.first ≡ first = are.0.begins in
    let there : p.first + p.passes ≡ first + p.passes = omega arith in
    let long : p.passes ≡ p.first + p.passes - first = omega arith in
    let rest : List LayerEnd = layer_ends (q ∷ ps) in
    let more : passes_at m (q ∷ ps) ≡ share m (first + p.passes) rest = share_is style p.layer (first + p.passes) passes m (q ∷ ps) are.1 in
    let head : HeadAt q.layer (first + p.passes) rest = head_at style p.layer (first + p.passes) passes q ps are.1 in
    let e : LayerEnd = record { layer = p.layer; passes = p.first + p.passes } in
    elim (cases_Bool (p.layer == q.layer)) [
      | inl t ↦
          let same : q.layer ≡ p.layer = sym (eqb-true p.layer q.layer t) in
          let ends : layer_ends (p ∷ q ∷ ps) ≡ rest = cond-true (p.layer == q.layer) rest (e ∷ rest) t in
          elim (cases_eq p.layer m) [
            | inl own ↦
                let here : passes_at m (p ∷ q ∷ ps) ≡ p.passes + passes_at m (q ∷ ps) =
                cond-true (p.layer == m) (p.passes + passes_at m (q ∷ ps)) (passes_at m (q ∷ ps)) (eq-eqb p.layer m own) in
                here ∙ ap (λ (k : ℕ). p.passes + k) more ∙ sym (share_own m q.layer first p.passes rest head (same ∙ own)) ∙ ap (share m first) (sym ends)
            | inr ne ↦
                (at_other m p (q ∷ ps) ne).0 ∙ more ∙ sym (share_other m q.layer first (first + p.passes) rest head (λ (own : q.layer ≡ m). ne (sym same ∙ own)))
                ∙ ap (share m first) (sym ends)
          ]
      | inr f ↦
          let ends : layer_ends (p ∷ q ∷ ps) ≡ e ∷ rest = cond-false (p.layer == q.layer) rest (e ∷ rest) f in
          let now : passes_at m (q ∷ ps) ≡ share m (p.first + p.passes) rest = more ∙ ap (λ (k : ℕ). share m k rest) (sym there) in
          ap (λ (k : ℕ). if p.layer == m then p.passes + k else k) now
          ∙ ap (λ (k : ℕ). if p.layer == m then k + share m (p.first + p.passes) rest else share m (p.first + p.passes) rest) long
          ∙ ap (share m first) (sym ends)
    ]

pub same_shares : (style other passes m : ℕ) (ps qs : List PieceValue) → ArePieces style 0 0 passes ps → ArePieces other 0 0 passes qs → layer_ends ps ≡ layer_ends qs
    → passes_at m ps ≡ passes_at m qs
same_shares style other passes m ps qs are those e = share_is style 0 0 passes m ps are ∙ ap (share m 0) e ∙ sym (share_is other 0 0 passes m qs those)

-- ---- the layers of ends are those of pieces
pub ends_all : (P : ℕ → Type 0) (ps : List PieceValue) → All (λ (p : PieceValue). P p.layer) ps → All (λ (e : LayerEnd). P e.layer) (layer_ends ps)
ends_all P [] each = All-nil (λ (e : LayerEnd). P e.layer)
ends_all P (p ∷ []) each =
    All-cons (λ (e : LayerEnd). P e.layer) (record { layer = p.layer; passes = p.first + p.passes }) [] (All-head (λ (q : PieceValue). P q.layer) p [] each) (All-nil (λ (e : LayerEnd). P e.layer))
ends_all P (p ∷ q ∷ ps) each =
    let Q : PieceValue → Type 0 = λ s. P s.layer in
    let R : LayerEnd → Type 0 = λ e. P e.layer in
    let e : LayerEnd = record { layer = p.layer; passes = p.first + p.passes } in
    let more : All R (layer_ends (q ∷ ps)) = ends_all P (q ∷ ps) (All-tail Q p (q ∷ ps) each) in
    elim (cases_Bool (p.layer == q.layer)) [
      | inl t ↦ subst (λ (ends : List LayerEnd). All R ends) (sym (cond-true (p.layer == q.layer) (layer_ends (q ∷ ps)) (e ∷ layer_ends (q ∷ ps)) t)) more
      | inr f ↦
          subst (λ (ends : List LayerEnd). All R ends) (sym (cond-false (p.layer == q.layer) (layer_ends (q ∷ ps)) (e ∷ layer_ends (q ∷ ps)) f))
          (All-cons R e (layer_ends (q ∷ ps)) (All-head Q p (q ∷ ps) each) more)
    ]
