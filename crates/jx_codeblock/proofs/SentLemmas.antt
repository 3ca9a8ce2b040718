-- How many bytes of a block are sent, by its pieces and by its segments.
use Rattle.std.proofs.Common.{◌≡◌, ℕ, zero, suc, ◌+◌, ◌-◌, ◌<◌, ◌≤◌, ◌==◌, nat_le, ◌||◌, Bool, true, false, List, [], ◌∷◌, ◌++◌, inl, inr, ◌⊎◌, ◌∙◌, ap, sym, subst, refl, arith, cond, length, take, get_or, replicate, length-append}
use Rattle.std.specs.List.{filter, sum_by}
use Rattle.std.proofs.Math.Seq.{take-length}
use Rattle.std.proofs.lemmas.Bool.{cases_lt, cases_eq, cases_Bool, cond-true, cond-false, eq-eqb, ne_eqb, le-leb, lt-leb, or_left, or_right, both_ways}
use Rattle.std.proofs.lemmas.List.{get_or-replicate, get_or_append_left, get_or-append_right, length-replicate}
use Rattle.std.proofs.lemmas.List.Sums.{sum_by-cons}
use Rattle.jx_base.specs.Passes.{end_pass}
use Rattle.jx_base.specs.Pieces.{PieceValue, ArePieces, bytes_in}
use Rattle.jx_codeblock.specs.Segments.{ends_below, segments_of, bytes_before, less_last_ff, sent_by_looks, sent_by_pieces}
use Rattle.jx_codeblock.proofs.EndLemmas.{below_ended, below_still, below_grows, below_within, below_more}
use Rattle.jx_codeblock.specs.Groups.{onto_first, joined_on, ends_it, groups}
use Rattle.jx_codeblock.specs.Tables.{rows}
use Rattle.jx_codeblock.proofs.GroupLemmas.{segments_are}
use Rattle.jx_codeblock.proofs.PartLemmas.{IsCut}
use Rattle.jx_base.proofs.PieceLemmas.{pieces_end}

-- ---- by pieces
abbrev ended_by : ℕ → PieceValue → Bool
ended_by n p = nat_le (p.first + p.passes) n

pub sent_in : (n : ℕ) (p : PieceValue) (ps : List PieceValue) → p.first + p.passes ≤ n → sent_by_pieces (p ∷ ps) n ≡ length p.bytes + sent_by_pieces ps n
unfolding sent_by_pieces
sent_in n p ps le =
    ap bytes_in (cond-true (ended_by n p) (p ∷ filter (ended_by n) ps) (filter (ended_by n) ps) (le-leb (p.first + p.passes) n le))
    ∙ sum_by-cons (λ (q : PieceValue). length q.bytes) p (filter (ended_by n) ps)

pub sent_out : (n : ℕ) (p : PieceValue) (ps : List PieceValue) → n < p.first + p.passes → sent_by_pieces (p ∷ ps) n ≡ sent_by_pieces ps n
unfolding sent_by_pieces
sent_out n p ps lt = ap bytes_in (cond-false (ended_by n p) (p ∷ filter (ended_by n) ps) (filter (ended_by n) ps) (lt-leb (p.first + p.passes) n lt))

pub sent_nil : (n : ℕ) → sent_by_pieces [] n ≡ 0
unfolding sent_by_pieces
sent_nil n = refl

pub sent_none : (style layer first passes n : ℕ) (ps : List PieceValue) → ArePieces style layer first passes ps → n ≤ first → sent_by_pieces ps n ≡ 0
sent_none style layer first passes n [] are le = sent_nil n
sent_none style layer first passes n (p ∷ ps) are le =
    let begins : p.first ≡ first = are.0.begins in
    let some : 1 ≤ p.passes = are.0.some in
    sent_out n p ps (omega arith) ∙ sent_none style p.layer (first + p.passes) passes n ps are.1 (omega arith)

pub sent_all : (style layer first passes : ℕ) (ps : List PieceValue) → ArePieces style layer first passes ps → sent_by_pieces ps passes ≡ bytes_in ps
sent_all style layer first passes [] are = sent_nil passes
sent_all style layer first passes (p ∷ ps) are =
    let begins : p.first ≡ first = are.0.begins in
    let within : first + p.passes ≤ passes = pieces_end style p.layer (first + p.passes) passes ps are.1 in
    sent_in passes p ps (omega arith)
    ∙ ap (λ (n : ℕ). length p.bytes + n) (sent_all style p.layer (first + p.passes) passes ps are.1)
    ∙ sym (sum_by-cons (λ (q : PieceValue). length q.bytes) p ps)

-- ---- number by number
rows_at : (style layer first passes before k : ℕ) (ps : List PieceValue) → ArePieces style layer first passes ps → first + k < passes
    → get_or (rows before ps) k 0 ≡ before + sent_by_pieces ps (first + k + 1)
rows_at style layer first passes before k [] are lt = let e : first ≡ passes = are in absurd (omega arith)
rows_at style layer first passes before k (p ∷ ps) are lt =
    let begins : p.first ≡ first = are.0.begins in
    let some : 1 ≤ p.passes = are.0.some in
    let sent : ℕ = before + length p.bytes in
    elim (cases_lt k (p.passes - 1)) [
      | inl less ↦
          let out : sent_by_pieces (p ∷ ps) (first + k + 1) ≡ sent_by_pieces ps (first + k + 1) = sent_out (first + k + 1) p ps (omega arith) in
          let none : sent_by_pieces ps (first + k + 1) ≡ 0 = sent_none style p.layer (first + p.passes) passes (first + k + 1) ps are.1 (omega arith) in
          let long : length (replicate (p.passes - 1) before) ≡ p.passes - 1 = length-replicate (p.passes - 1) before in
          get_or_append_left (replicate (p.passes - 1) before) (sent ∷ rows sent ps) 0 k (omega arith)
          ∙ get_or-replicate (p.passes - 1) k before 0 less ∙ omega arith
      | inr ge ↦
          let right : get_or (rows before (p ∷ ps)) k 0 ≡ get_or (sent ∷ rows sent ps) (k - (p.passes - 1)) 0 =
          get_or-append_right (replicate (p.passes - 1) before) (sent ∷ rows sent ps) (p.passes - 1) k 0 (length-replicate (p.passes - 1) before) ge in
          let inside : sent_by_pieces (p ∷ ps) (first + k + 1) ≡ length p.bytes + sent_by_pieces ps (first + k + 1) = sent_in (first + k + 1) p ps (omega arith) in
          elim (cases_eq k (p.passes - 1)) [
            | inl same ↦
                let z : k - (p.passes - 1) ≡ 0 = omega arith in
                let none : sent_by_pieces ps (first + k + 1) ≡ 0 = sent_none style p.layer (first + p.passes) passes (first + k + 1) ps are.1 (omega arith) in
                right ∙ ap (λ (i : ℕ). get_or (sent ∷ rows sent ps) i 0) z ∙ omega arith
            | inr more ↦
                let s : k - (p.passes - 1) ≡ suc (k - p.passes) = omega arith in
                let there : first + p.passes + (k - p.passes) + 1 ≡ first + k + 1 = omega arith in
                let again : get_or (rows sent ps) (k - p.passes) 0 ≡ sent + sent_by_pieces ps (first + p.passes + (k - p.passes) + 1) =
                rows_at style p.layer (first + p.passes) passes sent (k - p.passes) ps are.1 (omega arith) in
                right ∙ ap (λ (i : ℕ). get_or (sent ∷ rows sent ps) i 0) s ∙ again ∙ ap (λ (n : ℕ). sent + sent_by_pieces ps n) there ∙ omega arith
          ]
    ]

pub table_at : (style layer passes n : ℕ) (ps : List PieceValue) → ArePieces style layer 0 passes ps → n ≤ passes → get_or (0 ∷ rows 0 ps) n 0 ≡ sent_by_pieces ps n
table_at style layer passes zero ps are le = sym (sent_none style layer 0 passes 0 ps are (omega arith))
table_at style layer passes (suc k) ps are le =
    let e : 0 + k + 1 ≡ suc k = omega arith in
    rows_at style layer 0 passes 0 k ps are (omega arith) ∙ ap (λ (n : ℕ). 0 + sent_by_pieces ps n) e ∙ omega arith

-- ---- by segments
pub before_next : (s : List ℕ) (ss : List (List ℕ)) (k : ℕ) → bytes_before (s ∷ ss) (suc k) ≡ length s + bytes_before ss k
before_next s ss k = sum_by-cons (λ (t : List ℕ). length t) s (take k ss)

onto_before : (bytes : List ℕ) (ss : List (List ℕ)) (k : ℕ) → bytes_before (onto_first bytes ss) (suc k) ≡ length bytes + bytes_before ss (suc k)
onto_before bytes [] k = before_next bytes [] k ∙ ap (λ (n : ℕ). length bytes + n) (nothing k)
  where
    nothing : (k : ℕ) → bytes_before [] k ≡ bytes_before [] (suc k)
    nothing zero = refl
    nothing (suc k) = refl
onto_before bytes (s ∷ ss) k = before_next (bytes ++ s) ss k ∙ omega (arith, length-append bytes s, before_next s ss k)

joined_total : (ends : Bool) (bytes : List ℕ) (ss : List (List ℕ)) → sum_by (λ (t : List ℕ). length t) (joined_on ends bytes ss) ≡ length bytes + sum_by (λ (t : List ℕ). length t) ss
joined_total true bytes ss = sum_by-cons (λ (t : List ℕ). length t) bytes ss
joined_total false bytes [] = sum_by-cons (λ (t : List ℕ). length t) bytes []
joined_total false bytes (s ∷ ss) =
    sum_by-cons (λ (t : List ℕ). length t) (bytes ++ s) ss ∙ omega (arith, length-append bytes s, sum_by-cons (λ (t : List ℕ). length t) s ss)

pub groups_total : (style : ℕ) (ps : List PieceValue) → sum_by (λ (t : List ℕ). length t) (groups style ps) ≡ bytes_in ps
groups_total style [] = refl
groups_total style (p ∷ ps) =
    joined_total (ends_it style p) p.bytes (groups style ps)
    ∙ ap (λ (n : ℕ). length p.bytes + n) (groups_total style ps)
    ∙ sym (sum_by-cons (λ (q : PieceValue). length q.bytes) p ps)

pub all_before : (ss : List (List ℕ)) → bytes_before ss (length ss) ≡ sum_by (λ (t : List ℕ). length t) ss
all_before ss = ap (sum_by (λ (t : List ℕ). length t)) (take-length ss)

-- at the end of a segment all bytes of its pieces are sent
before_groups : (style layer first passes n : ℕ) (ps : List PieceValue) → ArePieces style layer first passes ps → first ≤ n → n < passes
    → (n ≡ first) ⊎ (end_pass style (n - 1) ≡ true) → bytes_before (groups style ps) (ends_below style n - ends_below style first) ≡ sent_by_pieces ps n
before_groups style layer first passes n [] are le lt at = let e : first ≡ passes = are in absurd (omega arith)
before_groups style layer first passes n (p ∷ ps) are le lt at =
    let begins : p.first ≡ first = are.0.begins in
    let some : 1 ≤ p.passes = are.0.some in
    let key : ends_below style p.first ≡ ends_below style first = ap (ends_below style) begins in
    elim (cases_lt n (first + p.passes)) [
      | inl less ↦
          let flat : ends_below style n ≡ ends_below style p.first = below_within style p.first p.passes n are.0.segment (omega arith) (omega arith) in
          let z : ends_below style n - ends_below style first ≡ 0 = omega arith in
          let here : n ≡ first = elim at [
            | inl e ↦ e
            | inr ends ↦ elim (cases_eq n first) [
              | inl e ↦ e
              | inr ne ↦ absurd (both_ways (end_pass style (n - 1)) (are.0.segment (n - 1) (omega arith) (omega arith)) ends)
            ]
          ] in
          ap (bytes_before (groups style (p ∷ ps))) z ∙ sym (sent_none style layer first passes n (p ∷ ps) are (omega arith))
      | inr ge ↦
          let last : ℕ = p.first + p.passes - 1 in
          let next : last + 1 ≡ first + p.passes = omega arith in
          let flat : ends_below style last ≡ ends_below style p.first = below_within style p.first p.passes last are.0.segment (omega arith) (omega arith) in
          let ended : end_pass style (n - 1) ≡ true = elim at [
            | inl e ↦ absurd (omega arith)
            | inr ends ↦ ends
          ] in
          let b : ℕ = ends_below style (first + p.passes) in
          let grows : b ≤ ends_below style n = below_grows style (first + p.passes) n (omega arith) in
          let again : bytes_before (groups style ps) (ends_below style n - b) ≡ sent_by_pieces ps n = before_groups style p.layer (first + p.passes) passes n ps are.1 ge lt (inr ended) in
          let inside : sent_by_pieces (p ∷ ps) n ≡ length p.bytes + sent_by_pieces ps n = sent_in n p ps (omega arith) in
          elim (cases_Bool (ends_it style p)) [
            | inl yes_it ↦
                let c : b ≡ ends_below style first + 1 = ap (ends_below style) (sym next) ∙ below_ended style last yes_it ∙ ap (λ (k : ℕ). k + 1) (flat ∙ key) in
                let count : ends_below style n - ends_below style first ≡ suc (ends_below style n - b) = omega arith in
                rw (count, yes_it) (before_next p.bytes (groups style ps) (ends_below style n - b) ∙ ap (λ (k : ℕ). length p.bytes + k) again ∙ sym inside)
            | inr no_it ↦
                let c : b ≡ ends_below style first = ap (ends_below style) (sym next) ∙ below_still style last no_it ∙ flat ∙ key in
                elim (cases_eq n (first + p.passes)) [
                  | inl same ↦
                      let there : n - 1 ≡ last = omega arith in
                      absurd (both_ways (end_pass style last) no_it (subst (λ (k : ℕ). end_pass style k ≡ true) there ended))
                  | inr ne ↦
                      let more : b + 1 ≤ ends_below style n = below_more style (first + p.passes) (n - 1) n (omega arith) (omega arith) ended in
                      let count : ends_below style n - ends_below style first ≡ suc (ends_below style n - b - 1) = omega arith in
                      let count' : ends_below style n - b ≡ suc (ends_below style n - b - 1) = omega arith in
                      let again' : bytes_before (groups style ps) (suc (ends_below style n - b - 1)) ≡ sent_by_pieces ps n = rw count' at again in
                      rw (count, no_it) (onto_before p.bytes (groups style ps) (ends_below style n - b - 1) ∙ ap (λ (k : ℕ). length p.bytes + k) again' ∙ sym inside)
                ]
          ]
    ]

pub same_at_cuts : (style layer passes n : ℕ) (ps : List PieceValue) (looked : List ℕ) → ArePieces style layer 0 passes ps → n ≤ passes → IsCut style passes n
    → sent_by_looks style passes (segments_of style passes ps) looked n ≡ sent_by_pieces ps n
unfolding sent_by_looks
same_at_cuts style layer passes n ps looked are le is =
    let ss : List (List ℕ) = segments_of style passes ps in
    let same : ss ≡ groups style ps = segments_are style layer passes ps are in
    let inner : ℕ = bytes_before ss (ends_below style n) + less_last_ff (get_or ss (ends_below style n) []) (get_or looked (n - 1) 0) in
    elim (cases_eq n passes) [
      | inl e ↦
          cond-true (n == passes) (bytes_before ss (length ss)) (cond (n == 0 || end_pass style (n - 1)) (bytes_before ss (ends_below style n)) inner) (eq-eqb n passes e)
          ∙ all_before ss ∙ ap (sum_by (λ (t : List ℕ). length t)) same ∙ groups_total style ps
          ∙ sym (sent_all style layer 0 passes ps are) ∙ ap (sent_by_pieces ps) (sym e)
      | inr ne ↦
          let at : (n == 0 || end_pass style (n - 1)) ≡ true = elim is [
            | inl z ↦ or_left (n == 0) (end_pass style (n - 1)) (eq-eqb n 0 z)
            | inr other ↦ elim other [
              | inl e ↦ absurd (ne e)
              | inr ends ↦ or_right (n == 0) (end_pass style (n - 1)) ends
            ]
          ] in
          let at' : (n ≡ 0) ⊎ (end_pass style (n - 1) ≡ true) = elim is [
            | inl z ↦ inl z
            | inr other ↦ elim other [
              | inl e ↦ absurd (ne e)
              | inr ends ↦ inr ends
            ]
          ] in
          let less : ends_below style n - ends_below style 0 ≡ ends_below style n = omega arith in
          cond-false (n == passes) (bytes_before ss (length ss)) (cond (n == 0 || end_pass style (n - 1)) (bytes_before ss (ends_below style n)) inner) (ne_eqb n passes ne)
          ∙ cond-true (n == 0 || end_pass style (n - 1)) (bytes_before ss (ends_below style n)) inner at
          ∙ ap (λ (xs : List (List ℕ)). bytes_before xs (ends_below style n)) same
          ∙ ap (bytes_before (groups style ps)) (sym less)
          ∙ before_groups style layer 0 passes n ps are (omega arith) (omega arith) at'
    ]
