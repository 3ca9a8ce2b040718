-- The code's table is the definition's, a row for each state, and how contexts move.
use Rattle.std.proofs.Common.{◌≡◌, ◌<◌, ◌≤◌, ◌+◌, ◌-◌, ◌*◌, ◌/◌, ◌%◌, ℕ, zero, suc, Bool, true, false, not, List, [], ◌∷◌, ◌++◌, get_or, refl, ap, sym, ◌∙◌, arith, inl, inr, if◌then◌else◌}
use Rattle.std.specs.Prelude.{slice_index_or}
use mir.Val.{bool_byte}
use Rattle.std.proofs.lemmas.List.{map-set}
use Rattle.std.proofs.Math.ListN.{set, get_or-map, get_or-append}
use Rattle.std.proofs.lemmas.Bool.{cases_lt, cases_eq, lt-leb, le-leb, eq-eqb, ne_eqb}
use Rattle.std.proofs.Math.Seq.{map-set_same}
use Rattle.std.proofs.lemmas.List.{get_or-append-add}
use Rattle.jx_mq.specs.declared.table.TheConstants.{QE, NEXT}
use Rattle.jx_coder_specs.specs.MqTable.{mq_rows, mq_row_at, mq_row_of, mq_mps, mq_moved, mq_adapted}
use Rattle.jx_mq.specs.States.{state_of, row_in, symbol_in, contexts_of, next_state, IsNarrowed}
use Rattle.jx_mq.proofs.Rows.{row_in_range}

-- what the code's table has for a state
abbrev eight_of : ℕ → List ℕ
eight_of state =
    next_state state 0 true ∷ next_state state 0 false ∷ next_state state 0 true ∷ next_state state 0 false ∷ state ∷ state ∷ state ∷ state ∷ []

-- and for n states
nexts : ℕ → ℕ → List ℕ
nexts state zero = []
nexts state (suc n) = eight_of state ++ nexts (state + 1) n

next_at : (n i state at j k : ℕ) → i < n → at ≡ state + i → j < 8 → k ≡ 8 * i + j → get_or (nexts state n) k 0 ≡ get_or (eight_of at) j 0
unfolding nexts
next_at zero i state at j k less e inside f = absurd (omega arith)
next_at (suc n) zero state at j k less e inside f =
    let same : at ≡ state = omega arith in
    let here : k ≡ j = omega arith in
    ap (λ (m : ℕ). get_or (eight_of state ++ nexts (state + 1) n) m 0) here ∙
    get_or-append (eight_of state) (nexts (state + 1) n) 0 j inside ∙
    ap (λ (s : ℕ). get_or (eight_of s) j 0) (sym same)
next_at (suc n) (suc i) state at j k less e inside f =
    let over : 8 + (k - 8) ≡ k = omega arith in
    ap (λ (m : ℕ). get_or (eight_of state ++ nexts (state + 1) n) m 0) (sym over) ∙
    get_or-append-add (eight_of state) (nexts (state + 1) n) (k - 8) 0 ∙
    next_at n i (state + 1) at j (k - 8) (omega arith) (omega arith) inside (omega arith)

next_is : NEXT ≡ nexts 0 94
unfolding mq_row_at mq_rows nexts
next_is = refl

widths : ℕ → ℕ → List ℕ
widths state zero = []
widths state (suc n) = (mq_row_at (row_in state)).qe * 65536 ∷ widths (state + 1) n

width_at : (n i state at : ℕ) → i < n → at ≡ state + i → get_or (widths state n) i 0 ≡ (mq_row_at (row_in at)).qe * 65536
unfolding widths
width_at zero i state at less e = absurd (omega arith)
width_at (suc n) zero state at less e = let same : at ≡ state = omega arith in rw same refl
width_at (suc n) (suc i) state at less e = width_at n i (state + 1) at (omega arith) (omega arith)

qe_is : QE ≡ widths 0 94
unfolding mq_row_at mq_rows widths
qe_is = refl

-- Qe of a state
pub width_is : (state : ℕ) → state < 94 → get_or QE state 0 ≡ (mq_row_at (row_in state)).qe * 65536
width_is state inside = ap (λ (l : List ℕ). get_or l state 0) qe_is ∙ width_at 94 state 0 state inside (omega arith)

pub record IsWidth (state width : ℕ) : Type 0 where
  pub qe : width / 65536 ≡ (mq_row_at (row_in state)).qe
  pub wide : width % 65536 ≡ 0
  pub some : 65536 ≤ width
  pub most : width ≤ 1442906112

pub width_known : (state : ℕ) → state < 94 → IsWidth state (get_or QE state 0)
width_known state inside =
    let is = width_is state inside in
    let row = row_in_range (row_in state) in
    let some = row.some in
    let most = row.most in
    record { qe = omega arith; wide = omega arith; some = omega arith; most = omega arith }

next_from : (state j : ℕ) → state < 94 → j < 8 → get_or NEXT (state * 8 + j) 0 ≡ get_or (eight_of state) j 0
next_from state j inside less =
    ap (λ (l : List ℕ). get_or l (state * 8 + j) 0) next_is ∙ next_at 94 state 0 state j (state * 8 + j) inside (omega arith) less (omega arith)

kept_at : (state a : ℕ) (is_mps : Bool) → 32768 ≤ a → next_state state a is_mps ≡ state
kept_at state a is_mps most = rw (le-leb 32768 a most) refl

moved_at : (state a : ℕ) (is_mps : Bool) → a < 32768 → next_state state a is_mps ≡ next_state state 0 is_mps
moved_at state a is_mps less = rw (lt-leb 32768 a less) refl

next_known : (state a top d : ℕ) (is_mps : Bool) → state < 94 → a < 65536 → top ≡ a / 16384 → d ≡ (if is_mps then 0 else 1) →
    get_or NEXT (state * 8 + top * 2 + d) 0 ≡ next_state state a is_mps
next_known state a top d true inside room e f =
    let d_is : d ≡ 0 = f in
    elim (cases_lt a 32768) [
      | inl less ↦
          rw (moved_at state a true less)
          (elim (cases_lt a 16384) [
            | inl low ↦ let at : state * 8 + top * 2 + d ≡ state * 8 + 0 = omega arith in rw at (next_from state 0 inside (omega arith))
            | inr high ↦ let at : state * 8 + top * 2 + d ≡ state * 8 + 2 = omega arith in rw at (next_from state 2 inside (omega arith))
          ])
      | inr most ↦
          rw (kept_at state a true most)
          (elim (cases_lt a 49152) [
            | inl low ↦ let at : state * 8 + top * 2 + d ≡ state * 8 + 4 = omega arith in rw at (next_from state 4 inside (omega arith))
            | inr high ↦ let at : state * 8 + top * 2 + d ≡ state * 8 + 6 = omega arith in rw at (next_from state 6 inside (omega arith))
          ])
    ]
next_known state a top d false inside room e f =
    let d_is : d ≡ 1 = f in
    elim (cases_lt a 32768) [
      | inl less ↦
          rw (moved_at state a false less)
          (elim (cases_lt a 16384) [
            | inl low ↦ let at : state * 8 + top * 2 + d ≡ state * 8 + 1 = omega arith in rw at (next_from state 1 inside (omega arith))
            | inr high ↦ let at : state * 8 + top * 2 + d ≡ state * 8 + 3 = omega arith in rw at (next_from state 3 inside (omega arith))
          ])
      | inr most ↦
          rw (kept_at state a false most)
          (elim (cases_lt a 49152) [
            | inl low ↦ let at : state * 8 + top * 2 + d ≡ state * 8 + 5 = omega arith in rw at (next_from state 5 inside (omega arith))
            | inr high ↦ let at : state * 8 + top * 2 + d ≡ state * 8 + 7 = omega arith in rw at (next_from state 7 inside (omega arith))
          ])
    ]

not_byte : (b : Bool) → bool_byte (not b) ≡ (if b then 0 else 1)
not_byte true = refl
not_byte false = refl

-- the place in the table by the two top bits of A, which is in the upper half of 32 bits
pub next_is_at : (state a : ℕ) (is_mps : Bool) → state < 94 → a < 4294967296 →
    get_or NEXT (state * 8 + a / 1073741824 * 2 + bool_byte (not is_mps)) 0 ≡ next_state state (a / 65536) is_mps
next_is_at state a is_mps inside room =
    next_known state (a / 65536) (a / 1073741824) (bool_byte (not is_mps)) is_mps inside (omega arith) (omega arith) (not_byte is_mps)

state_known : (row : ℕ) (symbol : Bool) → row < 47 → state_of row symbol < 94
state_known row true less = omega arith
state_known row false less = omega arith

either_below : (test : Bool) (x y : ℕ) → x < 94 → y < 94 → (if test then x else y) < 94
either_below true x y p q = p
either_below false x y p q = q

-- the state after a state is one of the table's
pub next_below : (state a : ℕ) (is_mps : Bool) → state < 94 → next_state state a is_mps < 94
next_below state a is_mps inside =
    let row = row_in_range (row_in state) in
    elim (cases_lt a 32768) [
      | inl less ↦ rw (lt-leb 32768 a less) (either_below is_mps _ _ (state_known _ _ row.after_mps) (state_known _ _ row.after_lps))
      | inr most ↦ rw (kept_at state a is_mps most) inside
    ]

row_again : (row : ℕ) (symbol : Bool) → row_in (state_of row symbol) ≡ row
row_again row true = omega arith
row_again row false = omega arith

symbol_again : (row : ℕ) (symbol : Bool) → symbol_in (state_of row symbol) ≡ symbol
symbol_again row true = let e : (2 * row + 1) % 2 ≡ 1 = omega arith in rw e refl
symbol_again row false = let e : (2 * row + 0) % 2 ≡ 0 = omega arith in rw e refl

-- a state is set
pub contexts_moved : (states : List ℕ) (label row : ℕ) (symbol : Bool) → contexts_of (set states label (state_of row symbol)) ≡ mq_moved (contexts_of states) label row symbol
contexts_moved states label row symbol =
    let rows = map-set (λ (s : ℕ). row_in s) states label (state_of row symbol) in
    let symbols = map-set (λ (s : ℕ). symbol_in s) states label (state_of row symbol) in
    rw (rows, symbols, row_again row symbol, symbol_again row symbol) refl

-- a state from its parts
state_again : (state : ℕ) → state_of (row_in state) (symbol_in state) ≡ state
state_again state =
    elim (cases_eq (state % 2) 1) [
      | inl odd ↦ rw (eq-eqb (state % 2) 1 odd) (omega arith)
      | inr even ↦ rw (ne_eqb (state % 2) 1 even) (omega arith)
    ]

kept_again : (states : List ℕ) (label state : ℕ) → row_in state ≡ slice_index_or (contexts_of states).rows label 0 → symbol_in state ≡ mq_mps (contexts_of states) label →
    contexts_of (set states label state) ≡ contexts_of states
kept_again states label state row symbol =
    let rows : row_in state ≡ row_in (get_or states label 0) = row ∙ get_or-map (λ (s : ℕ). row_in s) states label 0 in
    let symbols : symbol_in state ≡ symbol_in (get_or states label 0) = symbol ∙ get_or-map (λ (s : ℕ). symbol_in s) states label 0 in
    rw (map-set_same (λ (s : ℕ). row_in s) states label state 0 rows, map-set_same (λ (s : ℕ). symbol_in s) states label state 0 symbols) refl

pub adapted_by : (states : List ℕ) (before label state after : ℕ) (is_mps : Bool) → row_in state ≡ slice_index_or (contexts_of states).rows label 0 → symbol_in state ≡ mq_mps (contexts_of states) label →
    IsNarrowed before (mq_row_of (contexts_of states) label).qe after is_mps →
    contexts_of (set states label (next_state state after is_mps)) ≡ mq_adapted before (contexts_of states) label is_mps
adapted_by states before label state after true row symbol narrowed =
    let same = narrowed.mps refl in
    elim (cases_lt after 32768) [
      | inl less ↦
          let lost = lt-leb 32768 after less in
          rw (← same, lost, row, symbol) (contexts_moved states label _ _)
      | inr most ↦
          let kept = le-leb 32768 after most in
          rw (← same, kept) (kept_again states label state row symbol)
    ]
adapted_by states before label state after false row symbol narrowed =
    let lost = lt-leb 32768 after (narrowed.lps refl) in
    rw (lost, row, symbol) (contexts_moved states label _ _)
