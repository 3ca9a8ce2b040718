-- No marker stands in the bytes that are sent, wherever passes are cut.
use Rattle.std.proofs.Common.{◌≡◌, ℕ, zero, suc, ◌+◌, ◌-◌, ◌<◌, ◌≤◌, ◌==◌, ◌&&◌, nat_lt, Bool, true, false, List, [], ◌∷◌, ◌++◌, inl, inr, ◌∙◌, ap, sym, subst, refl, arith, length, take, drop, get_or}
use Rattle.std.specs.List.{concat}
use Rattle.std.proofs.Math.Seq.{take-append-add}
use Rattle.std.proofs.lemmas.Bool.{cases_lt, cases_Bool, cond-true, cond-false, and_from, eq-eqb, eqb-true, lt-ltb, both_ways}
use Rattle.std.proofs.lemmas.List.{take-append-le}
use Rattle.std.proofs.lemmas.List.Sums.{sum_by-cons}
use Rattle.jx_base.specs.Markers.{HasNoMarker}
use Rattle.jx_base.specs.Pieces.{PieceValue, ArePieces}
use Rattle.jx_codeblock.specs.Groups.{joined_on, ends_it, groups}
use Rattle.jx_codeblock.specs.Segments.{bytes_before, less_last_ff, sent_by_pieces}
use Rattle.jx_codeblock.specs.Tables.{bytes_joined}
use Rattle.jx_codeblock.proofs.CopyLemmas.{take_nil}
use Rattle.jx_codeblock.proofs.SentLemmas.{sent_in, sent_out, sent_none}
use Rattle.jx_base.proofs.Markers.{append_clean, clean_after}

no_ff : ◌≡◌ {A = ℕ} 0 255 → ⊥
no_ff e = omega arith

pub none_clean : HasNoMarker 0 []
none_clean = no_ff

-- ---- bytes without markers, parts of them and one after another
pub drop_clean : (n x : ℕ) (xs : List ℕ) → HasNoMarker x xs → HasNoMarker 0 (drop n xs)
drop_clean zero x xs h = clean_after x 0 xs h no_ff
drop_clean (suc n) x [] h = no_ff
drop_clean (suc n) x (b ∷ bs) h = drop_clean n b bs h.1

abbrev last_of : ℕ → ℕ → List ℕ → ℕ
last_of x zero xs = x
last_of x (suc n) [] = x
last_of x (suc n) (b ∷ bs) = last_of b n bs

clean_front : (n x : ℕ) (xs : List ℕ) → HasNoMarker x xs → n ≤ length xs → (last_of x n xs ≡ 255 → ⊥) → HasNoMarker x (take n xs)
clean_front zero x xs h le ne = ne
clean_front (suc n) x [] h le ne = absurd (omega arith)
clean_front (suc n) x (b ∷ bs) h le ne = (h.0, clean_front n b bs h.1 (omega arith) ne)

before_ff : (n x : ℕ) (xs : List ℕ) → HasNoMarker x xs → n < length xs → last_of x (suc n) xs ≡ 255 → last_of x n xs ≡ 255 → ⊥
before_ff n x [] h lt e f = absurd (omega arith)
before_ff zero x (b ∷ bs) h lt e f = let small : b ≤ 143 = h.0 f in let large : b ≡ 255 = e in omega arith
before_ff (suc n) x (b ∷ bs) h lt e f = before_ff n b bs h.1 (omega arith) e f

last_is : (n x : ℕ) (xs : List ℕ) → n < length xs → last_of x (suc n) xs ≡ get_or xs n 0
last_is n x [] lt = absurd (omega arith)
last_is zero x (b ∷ bs) lt = refl
last_is (suc n) x (b ∷ bs) lt = last_is n b bs (omega arith)

-- some bytes of a segment, less a last FF
pub less_clean : (segment : List ℕ) (n : ℕ) → HasNoMarker 0 segment → n ≤ length segment → HasNoMarker 0 (take (less_last_ff segment n) segment)
less_clean segment zero h le = no_ff
less_clean segment (suc m) h le =
    let back : suc m - 1 ≡ m = omega arith in
    let last : last_of 0 (suc m) segment ≡ get_or segment m 0 = last_is m 0 segment (omega arith) in
    let P : ℕ → Type 0 = λ n. HasNoMarker 0 (take n segment) in
    elim (cases_Bool (get_or segment (suc m - 1) 0 == 255)) [
      | inl t ↦
          let here : get_or segment m 0 ≡ 255 = ap (λ (k : ℕ). get_or segment k 0) (sym back) ∙ eqb-true (get_or segment (suc m - 1) 0) 255 t in
          let all : (nat_lt 0 (suc m) && get_or segment (suc m - 1) 0 == 255) ≡ true =
          and_from (nat_lt 0 (suc m)) (get_or segment (suc m - 1) 0 == 255) (lt-ltb 0 (suc m) (omega arith)) t in
          let fewer : less_last_ff segment (suc m) ≡ m = cond-true (nat_lt 0 (suc m) && get_or segment (suc m - 1) 0 == 255) (suc m - 1) (suc m) all ∙ back in
          subst P (sym fewer) (clean_front m 0 segment h (omega arith) (before_ff m 0 segment h (omega arith) (last ∙ here)))
      | inr f ↦
          let none : (nat_lt 0 (suc m) && get_or segment (suc m - 1) 0 == 255) ≡ false =
          ap (λ (b : Bool). b && get_or segment (suc m - 1) 0 == 255) (lt-ltb 0 (suc m) (omega arith)) ∙ f in
          let same : less_last_ff segment (suc m) ≡ suc m = cond-false (nat_lt 0 (suc m) && get_or segment (suc m - 1) 0 == 255) (suc m - 1) (suc m) none in
          subst P (sym same) (clean_front (suc m) 0 segment h le
          (λ (e : last_of 0 (suc m) segment ≡ 255).
          let here : get_or segment (suc m - 1) 0 ≡ 255 = ap (λ (k : ℕ). get_or segment k 0) back ∙ sym last ∙ e in
          both_ways (get_or segment (suc m - 1) 0 == 255) f (eq-eqb (get_or segment (suc m - 1) 0) 255 here)))
    ]

-- ---- segments
abbrev pub AllClean : List (List ℕ) → Type 0
AllClean [] = Unit {0}
AllClean (s ∷ ss) = HasNoMarker 0 s × AllClean ss

joined_clean : (ends : Bool) (bytes : List ℕ) (ss : List (List ℕ)) → HasNoMarker 0 bytes → AllClean ss → AllClean (joined_on ends bytes ss)
joined_clean true bytes ss h k = (h, k)
joined_clean false bytes [] h k = (h, tt)
joined_clean false bytes (s ∷ ss) h k = (append_clean 0 bytes s h k.0, k.1)

pub groups_clean : (style layer first passes : ℕ) (ps : List PieceValue) → ArePieces style layer first passes ps → AllClean (groups style ps)
groups_clean style layer first passes [] are = tt
groups_clean style layer first passes (p ∷ ps) are =
    joined_clean (ends_it style p) p.bytes (groups style ps) are.0.markers (groups_clean style p.layer (first + p.passes) passes ps are.1)

-- the first segments, and some bytes of the next
pub front_clean : (ss : List (List ℕ)) (k j : ℕ) → AllClean ss → j ≤ length (get_or ss k []) → HasNoMarker 0 (take j (get_or ss k []))
    → HasNoMarker 0 (take (bytes_before ss k + j) (concat ss))
front_clean [] k j all le h = subst (λ (xs : List ℕ). HasNoMarker 0 xs) (sym (take_nil (bytes_before [] k + j))) no_ff
front_clean (s ∷ ss) zero j all le h =
    let n : 0 + j ≡ j = omega arith in
    subst (λ (xs : List ℕ). HasNoMarker 0 xs) (sym (ap (λ (m : ℕ). take m (s ++ concat ss)) n ∙ take-append-le j s (concat ss) le)) h
front_clean (s ∷ ss) (suc k) j all le h =
    let n : bytes_before (s ∷ ss) (suc k) + j ≡ length s + (bytes_before ss k + j) = omega (arith, sum_by-cons (λ (t : List ℕ). length t) s (take k ss)) in
    subst (λ (xs : List ℕ). HasNoMarker 0 xs) (sym (ap (λ (m : ℕ). take m (s ++ concat ss)) n ∙ take-append-add s (concat ss) (bytes_before ss k + j)))
    (append_clean 0 s (take (bytes_before ss k + j) (concat ss)) all.0 (front_clean ss k j all.1 le h))

-- ---- pieces
pub pieces_clean : (style layer first passes n : ℕ) (ps : List PieceValue) → ArePieces style layer first passes ps → HasNoMarker 0 (take (sent_by_pieces ps n) (bytes_joined ps))
pieces_clean style layer first passes n [] are = subst (λ (xs : List ℕ). HasNoMarker 0 xs) (sym (take_nil (sent_by_pieces [] n))) no_ff
pieces_clean style layer first passes n (p ∷ ps) are =
    let begins : p.first ≡ first = are.0.begins in
    elim (cases_lt n (p.first + p.passes)) [
      | inl before ↦
          let none : sent_by_pieces (p ∷ ps) n ≡ 0 = sent_out n p ps before ∙ sent_none style p.layer (first + p.passes) passes n ps are.1 (omega arith) in
          subst (λ (k : ℕ). HasNoMarker 0 (take k (bytes_joined (p ∷ ps)))) (sym none) no_ff
      | inr ended ↦
          let all : sent_by_pieces (p ∷ ps) n ≡ length p.bytes + sent_by_pieces ps n = sent_in n p ps ended in
          subst (λ (xs : List ℕ). HasNoMarker 0 xs)
          (sym (ap (λ (k : ℕ). take k (bytes_joined (p ∷ ps))) all ∙ take-append-add p.bytes (bytes_joined ps) (sent_by_pieces ps n)))
          (append_clean 0 p.bytes (take (sent_by_pieces ps n) (bytes_joined ps)) are.0.markers (pieces_clean style p.layer (first + p.passes) passes n ps are.1))
    ]
