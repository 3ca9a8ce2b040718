-- The pieces of the layers below one: they are a block's first pieces, and have its first segments, the last of them as far as its bytes
-- are sent.
use Rattle.std.proofs.Common.{◌≡◌, ℕ, ◌+◌, ◌-◌, ◌<◌, ◌≤◌, max, nat_lt, true, false, List, [], ◌∷◌, ◌++◌, inl, inr, ◌∙◌, ap, sym, subst, refl, arith, length, take, drop, get_or}
use Rattle.std.specs.List.{All, concat}
use Rattle.std.proofs.lemmas.Bool.{cases_lt, cond-true, cond-false, lt-ltb, le-ltb}
use Rattle.std.proofs.lemmas.List.{drop-take, take-take}
use Rattle.std.proofs.lemmas.List.Elements.{All-nil, All-cons, All-head, All-tail}
use Rattle.jx_base.specs.Pieces.{PieceValue, ArePieces, IsInOneSegment, passes_below}
use Rattle.jx_packet_header.specs.Parts.{cut}
use Rattle.jx_codeblock.specs.declared.LayerEnd.{LayerEnd}
use Rattle.jx_codeblock.specs.FirstLayers.{pieces_below, sent_below}
use Rattle.jx_codeblock.specs.Jobs.{AreEnds}
use Rattle.jx_codeblock.specs.Segments.{bytes_before, ends_below, segments_of}
use Rattle.jx_codeblock.proofs.EndLemmas.{below_grows}
use Rattle.jx_codeblock.proofs.FrontLemmas.{front, front_all, front_before, front_bytes, front_long, sent_high, sent_low}
use Rattle.jx_codeblock.proofs.GroupLemmas.{segments_are}
use Rattle.jx_codeblock.proofs.PartLemmas.{ends_within}
use Rattle.jx_codeblock.proofs.RegroupLemmas.{HaveBytes, Sends, regroup}
use Rattle.jx_codeblock.proofs.RoomLemmas.{before_more}
use Rattle.jx_codeblock.proofs.ShareLemmas.{earlier_below, exact, from_ends, more_ends, of_layer, parts_all}
use Rattle.jx_base.proofs.PieceLemmas.{pieces_end}

-- ---- one piece
below_in : (m : ℕ) (p : PieceValue) (ps : List PieceValue) → p.layer < m
    → (pieces_below m (p ∷ ps) ≡ p ∷ pieces_below m ps) × (passes_below m (p ∷ ps) ≡ p.passes + passes_below m ps)
below_in m p ps lt =
    let at : nat_lt p.layer m ≡ true = lt-ltb p.layer m lt in (
      cond-true (nat_lt p.layer m) (p ∷ pieces_below m ps) (pieces_below m ps) at,
      cond-true (nat_lt p.layer m) (p.passes + passes_below m ps) (passes_below m ps) at,
    )

below_out : (m : ℕ) (p : PieceValue) (ps : List PieceValue) → m ≤ p.layer → (pieces_below m (p ∷ ps) ≡ pieces_below m ps) × (passes_below m (p ∷ ps) ≡ passes_below m ps)
below_out m p ps le =
    let at : nat_lt p.layer m ≡ false = le-ltb p.layer m le in (
      cond-false (nat_lt p.layer m) (p ∷ pieces_below m ps) (pieces_below m ps) at,
      cond-false (nat_lt p.layer m) (p.passes + passes_below m ps) (passes_below m ps) at,
    )

none_below : (m : ℕ) (ps : List PieceValue) → All (λ (p : PieceValue). m ≤ p.layer) ps → (pieces_below m ps ≡ []) × (passes_below m ps ≡ 0)
none_below m [] each = (refl, refl)
none_below m (p ∷ ps) each =
    let P : PieceValue → Type 0 = λ q. m ≤ q.layer in
    let here = below_out m p ps (All-head P p ps each) in
    let more = none_below m ps (All-tail P p ps each) in
    (here.0 ∙ more.0, here.1 ∙ more.1)

layers_from : (style layer first passes m : ℕ) (ps : List PieceValue) → m ≤ layer → ArePieces style layer first passes ps → All (λ (p : PieceValue). m ≤ p.layer) ps
layers_from style layer first passes m [] le are = All-nil (λ (p : PieceValue). m ≤ p.layer)
layers_from style layer first passes m (p ∷ ps) le are =
    let at : layer ≤ p.layer = are.0.layers in
    All-cons (λ (q : PieceValue). m ≤ q.layer) p ps (omega arith) (layers_from style p.layer (first + p.passes) passes m ps (omega arith) are.1)

-- ---- a block's first pieces
pub below_are : (style layer first passes m : ℕ) (ps : List PieceValue) → ArePieces style layer first passes ps
    → ArePieces style layer first (first + passes_below m ps) (pieces_below m ps)
below_are style layer first passes m [] are = omega arith
below_are style layer first passes m (p ∷ ps) are =
    elim (cases_lt p.layer m) [
      | inl lt ↦
          let here = below_in m p ps lt in
          let sum : first + p.passes + passes_below m ps ≡ first + (p.passes + passes_below m ps) = omega arith in
          let more : ArePieces style p.layer (first + p.passes) (first + (p.passes + passes_below m ps)) (pieces_below m ps) =
          subst (λ (n : ℕ). ArePieces style p.layer (first + p.passes) n (pieces_below m ps)) sum (below_are style p.layer (first + p.passes) passes m ps are.1) in
          let all : ArePieces style layer first (first + (p.passes + passes_below m ps)) (p ∷ pieces_below m ps) = (are.0, more) in
          subst (λ (qs : List PieceValue). ArePieces style layer first (first + passes_below m (p ∷ ps)) qs) (sym here.0)
          (subst (λ (n : ℕ). ArePieces style layer first (first + n) (p ∷ pieces_below m ps)) (sym here.1) all)
      | inr ge ↦
          let none = none_below m (p ∷ ps)
          (All-cons (λ (q : PieceValue). m ≤ q.layer) p ps ge (layers_from style p.layer (first + p.passes) passes m ps ge are.1)) in
          subst (λ (qs : List PieceValue). ArePieces style layer first (first + passes_below m (p ∷ ps)) qs) (sym none.0) (omega (arith, none.1))
    ]

pub below_most : (style layer first passes m : ℕ) (ps : List PieceValue) → ArePieces style layer first passes ps → first + passes_below m ps ≤ passes
below_most style layer first passes m [] are = let e : first ≡ passes = are in omega arith
below_most style layer first passes m (p ∷ ps) are =
    let more : first + p.passes + passes_below m ps ≤ passes = below_most style p.layer (first + p.passes) passes m ps are.1 in
    elim (cases_lt p.layer m) [
      | inl lt ↦ omega (arith, (below_in m p ps lt).1)
      | inr ge ↦ omega (arith, (below_out m p ps ge).1)
    ]

pub below_have : (sent : ℕ → ℕ) (bytes : List ℕ) (m : ℕ) (ps : List PieceValue) → HaveBytes sent bytes ps → HaveBytes sent bytes (pieces_below m ps)
below_have sent bytes m [] have = tt
below_have sent bytes m (p ∷ ps) have =
    let P : List PieceValue → Type 0 = λ qs. HaveBytes sent bytes qs in
    elim (cases_lt p.layer m) [
      | inl lt ↦ subst P (sym (below_in m p ps lt).0) (have.0, below_have sent bytes m ps have.1)
      | inr ge ↦ subst P (sym (below_out m p ps ge).0) (below_have sent bytes m ps have.1)
    ]

-- ---- they have the passes that were asked
none_sent : (m layer first all : ℕ) (ends : List LayerEnd) → m ≤ layer → AreEnds layer first all ends → sent_below m ends ≡ 0
none_sent m layer first all [] le are = refl
none_sent m layer first all (e ∷ ends) le are =
    let at : layer ≤ e.layer = are.0 in
    cond-false (nat_lt e.layer m) (max e.passes (sent_below m ends)) (sent_below m ends) (le-ltb e.layer m (omega arith))
    ∙ none_sent m (e.layer + 1) e.passes all ends (omega arith) are.2

ends_from : (m layer first all : ℕ) (ends : List LayerEnd) → m ≤ layer → AreEnds layer first all ends → All (λ (e : LayerEnd). m ≤ e.layer) ends
ends_from m layer first all [] le are = All-nil (λ (e : LayerEnd). m ≤ e.layer)
ends_from m layer first all (e ∷ ends) le are =
    let at : layer ≤ e.layer = are.0 in
    All-cons (λ (f : LayerEnd). m ≤ f.layer) e ends (omega arith) (ends_from m (e.layer + 1) e.passes all ends (omega arith) are.2)

pub sent_most : (m layer first all : ℕ) (ends : List LayerEnd) → AreEnds layer first all ends → sent_below m ends ≤ all
sent_most m layer first all [] are = omega arith
sent_most m layer first all (e ∷ ends) are =
    let more : sent_below m ends ≤ all = sent_most m (e.layer + 1) e.passes all ends are.2 in
    let here : e.passes ≤ all = ends_within (e.layer + 1) e.passes all ends are.2 in
    elim (cases_lt e.layer m) [
      | inl lt ↦ omega (arith, cond-true (nat_lt e.layer m) (max e.passes (sent_below m ends)) (sent_below m ends) (lt-ltb e.layer m lt))
      | inr ge ↦ omega (arith, cond-false (nat_lt e.layer m) (max e.passes (sent_below m ends)) (sent_below m ends) (le-ltb e.layer m ge))
    ]

pub asked_below : (sent : ℕ → ℕ) (bytes : List ℕ) (style m layer first all : ℕ) (ends : List LayerEnd) → AreEnds layer first all ends
    → first + passes_below m (from_ends sent bytes style first ends) ≡ max first (sent_below m ends)
asked_below sent bytes style m layer first all [] are = omega arith
asked_below sent bytes style m layer first all (e ∷ ends) are =
    let lt : first < e.passes = are.1 in
    let runs : List ℕ = cut style first (e.passes - first) in
    let rest : List PieceValue = from_ends sent bytes style e.passes ends in
    let whole : passes_below m (from_ends sent bytes style first (e ∷ ends)) ≡ passes_below m (of_layer sent bytes e.layer first runs ++ rest) =
    ap (passes_below m) (more_ends sent bytes style first e ends) in
    elim (cases_lt e.layer m) [
      | inl before ↦
          let here = earlier_below sent bytes style m e.layer first e.passes runs rest before (exact sent bytes style first e lt) in
          let more = asked_below sent bytes style m (e.layer + 1) e.passes all ends are.2 in
          omega (arith, cond-true (nat_lt e.layer m) (max e.passes (sent_below m ends)) (sent_below m ends) (lt-ltb e.layer m before))
      | inr later ↦
          let each : All (λ (f : LayerEnd). m ≤ f.layer) (e ∷ ends) = ends_from m e.layer first all (e ∷ ends) later (omega arith, lt, are.2) in
          let none : passes_below m (from_ends sent bytes style first (e ∷ ends)) ≡ 0 =
          (none_below m (from_ends sent bytes style first (e ∷ ends)) (parts_all sent bytes (λ (n : ℕ). m ≤ n) style first (e ∷ ends) each)).1 in
          omega (arith, none_sent m e.layer first all (e ∷ ends) later (omega arith, lt, are.2))
    ]

-- ---- their segments
module _ (style passes : ℕ) (ss : List (List ℕ)) (sent : ℕ → ℕ) (sends : Sends style passes ss sent) where
  pub sent_grows : (layer first n : ℕ) (ps : List PieceValue) → n ≤ passes → ArePieces style layer first n ps → sent first ≤ sent n
  sent_grows layer first n [] le are = let e : first ≡ n = are in rw e (omega arith)
  sent_grows layer first n (p ∷ ps) le are =
      let begins : p.first ≡ first = are.0.begins in
      let within : first + p.passes ≤ n = pieces_end style p.layer (first + p.passes) n ps are.1 in
      let run : p.passes ≡ first + p.passes - first = omega arith in
      let one : IsInOneSegment style first (first + p.passes - first) = subst (λ (k : ℕ). IsInOneSegment style first k) run (subst (λ (k : ℕ). IsInOneSegment style k p.passes) begins are.0.segment) in
      let here : sent first ≤ sent (first + p.passes) = sends.grows first (first + p.passes) (omega arith) (omega arith) one in
      let more : sent (first + p.passes) ≤ sent n = sent_grows p.layer (first + p.passes) n ps le are.1 in
      omega arith

  cut_bytes : (x y m : ℕ) (bytes : List ℕ) → y ≤ m → take (y - x) (drop x (take m bytes)) ≡ take (y - x) (drop x bytes)
  cut_bytes x y m bytes le = elim (cases_lt x m) [
    | inl lt ↦
        let sum : m ≡ x + (m - x) = omega arith in
        ap (λ (k : ℕ). take (y - x) (drop x (take k bytes))) sum
        ∙ ap (take (y - x)) (drop-take x (m - x) bytes) ∙ take-take (y - x) (m - x) (drop x bytes) (omega arith)
    | inr ge ↦
        let z : y - x ≡ 0 = omega arith in
        rw z refl
  ]

  have_front : (layer first n : ℕ) (bytes : List ℕ) (ps : List PieceValue) → n ≤ passes → ArePieces style layer first n ps → HaveBytes sent bytes ps
      → HaveBytes sent (take (sent n) bytes) ps
  have_front layer first n bytes [] le are have = tt
  have_front layer first n bytes (p ∷ ps) le are have =
      let begins : p.first ≡ first = are.0.begins in
      let there : sent (p.first + p.passes) ≡ sent (first + p.passes) = ap (λ (k : ℕ). sent (k + p.passes)) begins in
      let more : sent (first + p.passes) ≤ sent n = sent_grows p.layer (first + p.passes) n ps le are.1 in (
        have.0 ∙ sym (cut_bytes (sent p.first) (sent (p.first + p.passes)) (sent n) bytes (omega arith)),
        have_front p.layer (first + p.passes) n bytes ps le are.1 have.1,
      )

  module _ (n : ℕ) (some : 1 ≤ n) (within : n ≤ passes) where
    abbrev last : ℕ
    last = ends_below style (n - 1)

    abbrev short : ℕ
    short = sent n - bytes_before ss last

    there : last < length ss
    there =
        let long : length ss ≡ ends_below style (passes - 1) + 1 = sends.long (omega arith) in
        let low : last ≤ ends_below style (passes - 1) = below_grows style (n - 1) (passes - 1) (omega arith) in
        omega arith

    fits : short ≤ length (get_or ss last [])
    fits =
        let high = sent_high style passes ss sent sends n some within in
        omega (arith, before_more ss last)

    sum : bytes_before ss last + short ≡ sent n
    sum = let low = sent_low style passes ss sent sends n some within in omega arith

    front_sends : Sends style n (front ss last short) sent
    front_sends = record {
      cut = λ (k : ℕ) (lt : k < n) ended.
          let low : ends_below style k ≤ last = below_grows style k (n - 1) (omega arith) in
          sends.cut k (omega arith) ended ∙ sym (front_before ss last short (ends_below style k) there low);
      all = sym (front_all ss last short there fits ∙ sum);
      none = sends.none;
      grows = λ (k l : ℕ) le (most : l ≤ n) one. sends.grows k l le (omega arith) one;
      long = λ any. front_long ss last short there;
    }

    pub front_segments : (layer : ℕ) (ps : List PieceValue) → ArePieces style layer 0 n ps → HaveBytes sent (concat ss) ps
        → segments_of style n ps ≡ front ss last short
    front_segments layer ps are have =
        let bytes : take (sent n) (concat ss) ≡ concat (front ss last short) =
        ap (λ (k : ℕ). take k (concat ss)) (sym sum) ∙ sym (front_bytes ss last short there fits) in
        let own : HaveBytes sent (concat (front ss last short)) ps =
        subst (λ (bs : List ℕ). HaveBytes sent bs ps) bytes (have_front layer 0 n (concat ss) ps within are have) in
        segments_are style layer n ps are
        ∙ regroup style n (front ss last short) sent front_sends layer ps are own (λ (none : n ≡ 0). absurd (omega arith))
