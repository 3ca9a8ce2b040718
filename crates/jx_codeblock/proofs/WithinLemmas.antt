-- Each part lies within its block's bytes.
use Rattle.std.proofs.Common.{◌≡◌, ℕ, zero, suc, ◌+◌, ◌-◌, ◌<◌, ◌≤◌, ◌==◌, ◌&&◌, ◌||◌, nat_lt, Bool, true, false, List, [], ◌∷◌, inl, inr, ◌∙◌, ap, sym, subst, refl, arith, cond, length, get_or}
use Rattle.std.specs.List.{All}
use Rattle.std.proofs.lemmas.Bool.{cases_lt, cases_eq, cases_Bool, cond-true, cond-false, eq-eqb, ne_eqb, or_parts, eqb-false}
use Rattle.std.proofs.lemmas.List.Elements.{All-cons, All-nil, All-append}
use Rattle.jx_base.specs.Passes.{end_pass}
use Rattle.jx_base.specs.Pieces.{PieceValue, ArePieces, IsInOneSegment, bytes_in}
use Rattle.jx_packet_header.specs.Parts.{cut, one_more}
use Rattle.jx_codeblock.specs.declared.LayerEnd.{LayerEnd}
use Rattle.jx_codeblock.specs.Jobs.{AreEnds}
use Rattle.jx_codeblock.specs.Laws.{IsWithin}
use Rattle.jx_codeblock.specs.Recoding.{layer_parts, layer_parts_after}
use Rattle.jx_codeblock.specs.Segments.{ends_below, bytes_before, less_last_ff, sent_by_looks, sent_by_pieces}
use Rattle.jx_codeblock.specs.Tables.{AreFew}
use Rattle.jx_codeblock.proofs.EndLemmas.{below_ended, below_still, below_within}
use Rattle.jx_codeblock.proofs.GrowLemmas.{AreGrowing}
use Rattle.jx_codeblock.proofs.PartLemmas.{ends_within}
use Rattle.jx_codeblock.proofs.RoomLemmas.{before_more, before_most}
use Rattle.jx_codeblock.proofs.SentLemmas.{sent_in, sent_out, sent_all, sent_nil}
use Rattle.jx_base.proofs.PieceLemmas.{alone, longer}

-- ---- runs of passes as they are cut
abbrev Runs : ℕ → ℕ → ℕ → List ℕ → Type 0
Runs style first last [] = first ≤ last
Runs style first last (run ∷ runs) = IsInOneSegment style first run × Runs style (first + run) last runs

runs_more : (style first last : ℕ) (runs : List ℕ) → end_pass style first ≡ false → Runs style (first + 1) last runs → Runs style first last (one_more runs)
runs_more style first last [] flat h = (alone style first, h)
runs_more style first last (run ∷ runs) flat h =
    let e : first + 1 + run ≡ first + suc run = omega arith in
    (longer style first run flat h.0, subst (λ (n : ℕ). Runs style n last runs) e h.1)

cut_runs : (style first n : ℕ) → Runs style first (first + n) (cut style first n)
cut_runs style first zero = omega arith
cut_runs style first (suc n) =
    let e : first + 1 + n ≡ first + suc n = omega arith in
    let rest : Runs style (first + 1) (first + suc n) (cut style (first + 1) n) =
    subst (λ (k : ℕ). Runs style (first + 1) k (cut style (first + 1) n)) e (cut_runs style (first + 1) n) in
    let P : List ℕ → Type 0 = λ runs. Runs style first (first + suc n) runs in
    elim (cases_Bool (end_pass style first)) [
      | inl t ↦ subst P (sym (cond-true (end_pass style first) (1 ∷ cut style (first + 1) n) (one_more (cut style (first + 1) n)) t)) (alone style first, rest)
      | inr f ↦ subst P (sym (cond-false (end_pass style first) (1 ∷ cut style (first + 1) n) (one_more (cut style (first + 1) n)) f))
          (runs_more style first (first + suc n) (cut style (first + 1) n) f rest)
    ]

runs_end : (style first last : ℕ) (runs : List ℕ) → Runs style first last runs → first ≤ last
runs_end style first last [] h = h
runs_end style first last (run ∷ runs) h = let le : first + run ≤ last = runs_end style (first + run) last runs h.1 in omega arith

-- ---- numbers that grow within a segment, and pass no bound
pub record Rises (style all total : ℕ) (sent : ℕ → ℕ) : Type 0 where
  pub grows : (n m : ℕ) → n ≤ m → m ≤ all → IsInOneSegment style n (m - n) → sent n ≤ sent m
  pub bound : (n : ℕ) → n ≤ all → sent n ≤ total

layer_within : (style all total : ℕ) (sent : ℕ → ℕ) (layer first last : ℕ) (runs : List ℕ) → Rises style all total sent → last ≤ all → Runs style first last runs
    → All (IsWithin total) (layer_parts sent layer first runs)
layer_within style all total sent layer first last [] rises le h = All-nil (IsWithin total)
layer_within style all total sent layer first last (run ∷ runs) rises le h =
    let within : first + run ≤ last = runs_end style (first + run) last runs h.1 in
    let e : run ≡ first + run - first = omega arith in
    let one : IsInOneSegment style first (first + run - first) = subst (λ (k : ℕ). IsInOneSegment style first k) e h.0 in
    All-cons (IsWithin total) (record { layer = layer; first = first; passes = run; from = sent first; to = sent (first + run) }) (layer_parts sent layer (first + run) runs)
    (record { order = rises.grows first (first + run) (omega arith) (omega arith) one; inside = rises.bound (first + run) (omega arith) })
    (layer_within style all total sent layer (first + run) last runs rises le h.1)

pub parts_within : (style all total : ℕ) (sent : ℕ → ℕ) (layer first : ℕ) (ends : List LayerEnd) → Rises style all total sent → AreEnds layer first all ends
    → All (IsWithin total) (layer_parts_after style sent first ends)
parts_within style all total sent layer first [] rises are = All-nil (IsWithin total)
parts_within style all total sent layer first (e ∷ ends) rises are =
    let lt : first < e.passes = are.1 in
    let le : e.passes ≤ all = ends_within (e.layer + 1) e.passes all ends are.2 in
    let sum : first + (e.passes - first) ≡ e.passes = omega arith in
    All-append (IsWithin total) (layer_parts sent e.layer first (cut style first (e.passes - first))) (layer_parts_after style sent e.passes ends)
    (layer_within style all total sent e.layer first (first + (e.passes - first)) (cut style first (e.passes - first)) rises (omega arith) (cut_runs style first (e.passes - first)))
    (parts_within style all total sent (e.layer + 1) e.passes ends rises are.2)

-- ---- the pieces' numbers
pieces_grow : (ps : List PieceValue) (n m : ℕ) → n ≤ m → sent_by_pieces ps n ≤ sent_by_pieces ps m
pieces_grow [] n m le = omega (arith, sent_nil n, sent_nil m)
pieces_grow (p ∷ ps) n m le =
    let rest : sent_by_pieces ps n ≤ sent_by_pieces ps m = pieces_grow ps n m le in
    elim (cases_lt n (p.first + p.passes)) [
      | inl before ↦
          let a = sent_out n p ps before in
          elim (cases_lt m (p.first + p.passes)) [
            | inl too ↦ let b = sent_out m p ps too in omega arith
            | inr after ↦ let b = sent_in m p ps after in omega arith
          ]
      | inr ended ↦
          let a = sent_in n p ps ended in
          let b = sent_in m p ps (omega arith) in
          omega arith
    ]

pub pieces_rise : (style layer passes : ℕ) (ps : List PieceValue) → ArePieces style layer 0 passes ps → Rises style passes (bytes_in ps) (sent_by_pieces ps)
pieces_rise style layer passes ps are = record {
  grows = λ (n m : ℕ) le within one. pieces_grow ps n m le;
  bound = λ (n : ℕ) le. let a : sent_by_pieces ps n ≤ sent_by_pieces ps passes = pieces_grow ps n passes le in omega (arith, sent_all style layer 0 passes ps are);
}

-- ---- the decoder's numbers
pub less_most : (segment : List ℕ) (n : ℕ) → (less_last_ff segment n ≤ n) × (n ≤ less_last_ff segment n + 1)
less_most segment n = by (nat_lt 0 n && get_or segment (n - 1) 0 == 255)
  where
    by : (last : Bool) → (cond last (n - 1) n ≤ n) × (n ≤ cond last (n - 1) n + 1)
    by true = (omega arith, omega arith)
    by false = (omega arith, omega arith)

less_grows : (segment : List ℕ) (m n : ℕ) → m ≤ n → less_last_ff segment m ≤ less_last_ff segment n
less_grows segment m n le = elim (cases_eq m n) [
  | inl same ↦ rw same (omega arith)
  | inr other ↦ let a = less_most segment m in let b = less_most segment n in omega (arith, a.0, b.1)
]

pub looked_on : (style passes : ℕ) (looked : List ℕ) (i d : ℕ) → AreGrowing style passes looked → i + d < passes
    → ((k : ℕ) → i ≤ k → k < i + d → end_pass style k ≡ false) → get_or looked i 0 ≤ get_or looked (i + d) 0
looked_on style passes looked i zero grows lt flat = let e : i + 0 ≡ i = omega arith in rw e (omega arith)
looked_on style passes looked i (suc d) grows lt flat =
    let before : get_or looked i 0 ≤ get_or looked (i + d) 0 = looked_on style passes looked i d grows (omega arith) (λ (k : ℕ) le below. flat k le (omega arith)) in
    let step : get_or looked (i + d) 0 ≤ get_or looked (i + d + 1) 0 = grows (i + d) (omega arith) (flat (i + d) (omega arith) (omega arith)) in
    let e : i + suc d ≡ i + d + 1 = omega arith in
    rw e (omega arith)

abbrev pub inner : ℕ → List (List ℕ) → List ℕ → ℕ → ℕ
inner style ss looked n = bytes_before ss (ends_below style n) + less_last_ff (get_or ss (ends_below style n) []) (get_or looked (n - 1) 0)

pub looks_all : (style passes n : ℕ) (ss : List (List ℕ)) (looked : List ℕ) → n ≡ passes → sent_by_looks style passes ss looked n ≡ bytes_before ss (length ss)
unfolding sent_by_looks
looks_all style passes n ss looked e =
    cond-true (n == passes) (bytes_before ss (length ss)) (cond (n == 0 || end_pass style (n - 1)) (bytes_before ss (ends_below style n)) (inner style ss looked n)) (eq-eqb n passes e)

pub looks_cut : (style passes n : ℕ) (ss : List (List ℕ)) (looked : List ℕ) → (n ≡ passes → ⊥) → (n == 0 || end_pass style (n - 1)) ≡ true
    → sent_by_looks style passes ss looked n ≡ bytes_before ss (ends_below style n)
unfolding sent_by_looks
looks_cut style passes n ss looked ne at =
    cond-false (n == passes) (bytes_before ss (length ss)) (cond (n == 0 || end_pass style (n - 1)) (bytes_before ss (ends_below style n)) (inner style ss looked n)) (ne_eqb n passes ne)
    ∙ cond-true (n == 0 || end_pass style (n - 1)) (bytes_before ss (ends_below style n)) (inner style ss looked n) at

pub looks_in : (style passes n : ℕ) (ss : List (List ℕ)) (looked : List ℕ) → (n ≡ passes → ⊥) → (n == 0 || end_pass style (n - 1)) ≡ false
    → sent_by_looks style passes ss looked n ≡ inner style ss looked n
unfolding sent_by_looks
looks_in style passes n ss looked ne at =
    cond-false (n == passes) (bytes_before ss (length ss)) (cond (n == 0 || end_pass style (n - 1)) (bytes_before ss (ends_below style n)) (inner style ss looked n)) (ne_eqb n passes ne)
    ∙ cond-false (n == 0 || end_pass style (n - 1)) (bytes_before ss (ends_below style n)) (inner style ss looked n) at

-- before the last pass no more than the bytes up to the end of its segment are sent
inner_most : (style n : ℕ) (ss : List (List ℕ)) (looked : List ℕ) → AreFew style ss looked → (n == 0 || end_pass style (n - 1)) ≡ false
    → inner style ss looked n ≤ bytes_before ss (ends_below style n + 1)
inner_most style n ss looked few at =
    let parts = or_parts (n == 0) (end_pass style (n - 1)) at in
    let some : n ≡ 0 → ⊥ = eqb-false n 0 parts.0 in
    let back : n - 1 + 1 ≡ n = omega (arith, positive n some) in
    let still : ends_below style n ≡ ends_below style (n - 1) = ap (ends_below style) (sym back) ∙ below_still style (n - 1) parts.1 in
    let here : get_or looked (n - 1) 0 ≤ length (get_or ss (ends_below style (n - 1)) []) = few (n - 1) in
    let here' : get_or looked (n - 1) 0 ≤ length (get_or ss (ends_below style n) []) = rw still here in
    omega (arith, before_more ss (ends_below style n), (less_most (get_or ss (ends_below style n) []) (get_or looked (n - 1) 0)).0)
  where
    positive : (n : ℕ) → (n ≡ 0 → ⊥) → 1 ≤ n
    positive zero ne = absurd (ne refl)
    positive (suc n) ne = omega arith

looks_most : (style passes n : ℕ) (ss : List (List ℕ)) (looked : List ℕ) → AreFew style ss looked → (n ≡ passes → ⊥)
    → sent_by_looks style passes ss looked n ≤ bytes_before ss (ends_below style n + 1)
looks_most style passes n ss looked few ne = elim (cases_Bool (n == 0 || end_pass style (n - 1))) [
  | inl t ↦ omega (arith, looks_cut style passes n ss looked ne t, before_more ss (ends_below style n))
  | inr f ↦ omega (arith, looks_in style passes n ss looked ne f, inner_most style n ss looked few f)
]

looks_least : (style passes n : ℕ) (ss : List (List ℕ)) (looked : List ℕ) → (n ≡ passes → ⊥) → bytes_before ss (ends_below style n) ≤ sent_by_looks style passes ss looked n
looks_least style passes n ss looked ne = elim (cases_Bool (n == 0 || end_pass style (n - 1))) [
  | inl t ↦ omega (arith, looks_cut style passes n ss looked ne t)
  | inr f ↦ omega (arith, looks_in style passes n ss looked ne f)
]

-- two numbers of passes of one segment, the second after more of them
looks_step : (style passes n m : ℕ) (ss : List (List ℕ)) (looked : List ℕ) → AreFew style ss looked → AreGrowing style passes looked → n < m → m ≤ passes
    → IsInOneSegment style n (m - n) → sent_by_looks style passes ss looked n ≤ sent_by_looks style passes ss looked m
looks_step style passes n m ss looked few grows lt le one =
    let ne : n ≡ passes → ⊥ = λ (e : n ≡ passes). omega arith in
    let most = looks_most style passes n ss looked few ne in
    let flat : ends_below style (m - 1) ≡ ends_below style n = below_within style n (m - n) (m - 1) one (omega arith) (omega arith) in
    let next : m - 1 + 1 ≡ m = omega arith in
    elim (cases_eq m passes) [
      | inl all ↦ omega (arith, looks_all style passes m ss looked all, before_most ss (ends_below style n + 1))
      | inr other ↦
          let later : (m == 0) ≡ false = ne_eqb m 0 (λ (e : m ≡ 0). omega arith) in
          elim (cases_Bool (end_pass style (m - 1))) [
            | inl t ↦
                let up : ends_below style m ≡ ends_below style n + 1 = ap (ends_below style) (sym next) ∙ below_ended style (m - 1) t ∙ ap (λ (k : ℕ). k + 1) flat in
                let least = looks_least style passes m ss looked other in
                let least' : bytes_before ss (ends_below style n + 1) ≤ sent_by_looks style passes ss looked m = rw up at least in
                omega arith
            | inr f ↦
                let same : ends_below style m ≡ ends_below style n = ap (ends_below style) (sym next) ∙ below_still style (m - 1) f ∙ flat in
                let in_m : (m == 0 || end_pass style (m - 1)) ≡ false = ap (λ (b : Bool). b || end_pass style (m - 1)) later ∙ f in
                let here = looks_in style passes m ss looked other in_m in
                let here' : sent_by_looks style passes ss looked m ≡ bytes_before ss (ends_below style n) + less_last_ff (get_or ss (ends_below style n) []) (get_or looked (m - 1) 0) =
                rw same at here in
                elim (cases_Bool (n == 0 || end_pass style (n - 1))) [
                  | inl cut_n ↦ omega (arith, looks_cut style passes n ss looked ne cut_n)
                  | inr in_n ↦
                      let parts = or_parts (n == 0) (end_pass style (n - 1)) in_n in
                      let some : n ≡ 0 → ⊥ = eqb-false n 0 parts.0 in
                      let positive : 1 ≤ n = above n some in
                      let sum : n - 1 + (m - n) ≡ m - 1 = omega arith in
                      let more : get_or looked (n - 1) 0 ≤ get_or looked (n - 1 + (m - n)) 0 = looked_on style passes looked (n - 1) (m - n) grows (omega arith)
                      (λ (k : ℕ) low below. elim (cases_eq k (n - 1)) [
                        | inl e ↦ rw e parts.1
                        | inr later_k ↦ one k (omega arith) (omega arith)
                      ]) in
                      let more' : get_or looked (n - 1) 0 ≤ get_or looked (m - 1) 0 = rw sum at more in
                      omega (arith, looks_in style passes n ss looked ne in_n, less_grows (get_or ss (ends_below style n) []) (get_or looked (n - 1) 0) (get_or looked (m - 1) 0) more')
                ]
          ]
    ]
  where
    above : (n : ℕ) → (n ≡ 0 → ⊥) → 1 ≤ n
    above zero ne = absurd (ne refl)
    above (suc n) ne = omega arith

pub looks_rise : (style passes : ℕ) (ss : List (List ℕ)) (looked : List ℕ) → AreFew style ss looked → AreGrowing style passes looked
    → Rises style passes (bytes_before ss (length ss)) (sent_by_looks style passes ss looked)
looks_rise style passes ss looked few grows = record {
  grows = λ (n m : ℕ) le within one. elim (cases_eq n m) [
    | inl same ↦ rw same (omega arith)
    | inr other ↦ looks_step style passes n m ss looked few grows (omega arith) within one
  ];
  bound = λ (n : ℕ) le. elim (cases_eq n passes) [
    | inl all ↦ omega (arith, looks_all style passes n ss looked all)
    | inr other ↦ omega (arith, looks_most style passes n ss looked few other, before_most ss (ends_below style n + 1))
  ];
}
