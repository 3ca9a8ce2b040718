-- Where pieces begin, and the bytes from there on.
use Rattle.std.proofs.Common.{◌≡◌, ℕ, zero, suc, ◌+◌, ◌-◌, ◌<◌, ◌≤◌, List, [], ◌∷◌, ◌++◌, inl, inr, ◌∙◌, ap, sym, refl, arith, length, map, take, drop, get_or, append-nil}
use Rattle.std.specs.List.Sorted.{IsNonDecreasing}
use Rattle.std.proofs.Math.Seq.{drop-append-add}
use Rattle.std.proofs.lemmas.Bool.{cases_lt}
use Rattle.std.proofs.lemmas.Grind.{flat_map-append}
use Rattle.std.proofs.lemmas.List.{drop-map, get_or_append_left, get_or_push, length-map, length_push, take-append-drop}
use Rattle.std.proofs.lemmas.List.Concat.{length-flat_map}
use Rattle.std.proofs.lemmas.List.Sorted.{IsNonDecreasingBy-from_default}
use Rattle.std.proofs.lemmas.List.Sums.{sum_by-cons, sum_by-take-drop}
use Rattle.jx_base.specs.declared.pieces.Piece.{Piece}
use Rattle.jx_base.specs.Pieces.{PieceValue, value_of, bytes_in}
use Rattle.jx_codeblock.specs.Starts.{AreStarts}
use Rattle.jx_codeblock.specs.Tables.{bytes_joined}
use Rattle.jx_codeblock.proofs.DropLemmas.{drop_one, first_piece, no_piece}

-- ---- they never fall, and the first is 0
before_grows : (i j : ℕ) (ps : List PieceValue) → i ≤ j → bytes_in (take i ps) ≤ bytes_in (take j ps)
before_grows zero j ps le = omega arith
before_grows (suc i) zero ps le = absurd (omega arith)
before_grows (suc i) (suc j) [] le = omega arith
before_grows (suc i) (suc j) (p ∷ ps) le =
    omega (arith, before_grows i j ps (omega arith), sum_by-cons (λ (q : PieceValue). length q.bytes) p (take i ps), sum_by-cons (λ (q : PieceValue). length q.bytes) p (take j ps))

pub starts_rise : (ps : List PieceValue) (starts : List ℕ) → AreStarts ps starts → IsNonDecreasing starts
starts_rise ps starts h =
    IsNonDecreasingBy-from_default (λ (n : ℕ). n) starts 0 (λ (i j : ℕ) le lt.
    let here : get_or starts i 0 ≡ bytes_in (take i ps) = h.each i (omega arith) in
    let there : get_or starts j 0 ≡ bytes_in (take j ps) = h.each j lt in
    omega (arith, before_grows i j ps le))

pub first_start : (ps : List PieceValue) (starts : List ℕ) (place : ℕ) → AreStarts ps starts → get_or starts 0 0 ≤ place
first_start ps [] place h = omega arith
first_start ps (s ∷ starts) place h =
    let e : s ≡ bytes_in (take 0 ps) = h.each 0 (omega arith) in
    omega arith

-- ---- the piece that is found
pub found_begins : (starts : List ℕ) (place count k : ℕ) → k ≡ count - 1 → ((i : ℕ) → i < count → get_or starts i 0 ≤ place) → get_or starts 0 0 ≤ place → get_or starts k 0 ≤ place
found_begins starts place zero k e below first = rw e first
found_begins starts place (suc count) k e below first = let last : k ≡ count = omega arith in rw last (below count (omega arith))

pub found_start : (ps : List PieceValue) (starts : List ℕ) (k : ℕ) → AreStarts ps starts → k ≤ length starts - 1 → get_or starts k 0 ≡ bytes_in (take k ps)
found_start ps [] k h le = let z : k ≡ 0 = omega arith in rw z refl
found_start ps (s ∷ starts) k h le = h.each k (omega arith)

pub found_within : (ps : List Piece) (starts : List ℕ) (k : ℕ) → AreStarts (map value_of ps) starts → k ≤ length starts - 1 → k ≤ length ps
found_within ps starts k h le = omega (arith, h.few, length-map ps value_of)

-- ---- the bytes from there on
pub from_there : (ps : List Piece) (k start from : ℕ) → start ≡ bytes_in (take k (map value_of ps)) → start ≤ from
    → drop (from - start) (bytes_joined (map value_of (drop k ps))) ≡ drop from (bytes_joined (map value_of ps))
from_there ps k start from begins le =
    let vs : List PieceValue = map value_of ps in
    let front : List ℕ = bytes_joined (take k vs) in
    let rest : List ℕ = bytes_joined (drop k vs) in
    let whole : front ++ rest ≡ bytes_joined vs = sym (flat_map-append (λ (p : PieceValue). p.bytes) (take k vs) (drop k vs)) ∙ ap bytes_joined (take-append-drop k vs) in
    let long : length front ≡ start = length-flat_map (λ (p : PieceValue). p.bytes) (take k vs) ∙ sym begins in
    let sum : from ≡ length front + (from - start) = omega arith in
    ap (λ (qs : List PieceValue). drop (from - start) (bytes_joined qs)) (sym (drop-map value_of k ps))
    ∙ sym (drop-append-add front rest (from - start))
    ∙ ap (λ (n : ℕ). drop n (front ++ rest)) (sym sum)
    ∙ ap (drop from) whole

-- the same from the piece that is found
pub there_same : (ps rest : List Piece) (starts : List ℕ) (k start from : ℕ) → AreStarts (map value_of ps) starts → k ≤ length starts - 1 → start ≡ get_or starts k 0 → start ≤ from
    → rest ≡ drop k ps → drop (from - start) (bytes_joined (map value_of rest)) ≡ drop from (bytes_joined (map value_of ps))
there_same ps rest starts k start from h le is before e =
    ap (λ (qs : List Piece). drop (from - start) (bytes_joined (map value_of qs))) e ∙ from_there ps k start from (is ∙ found_start (map value_of ps) starts k h le) before

-- where nothing is asked
pub none_between : (out bytes : List ℕ) (from to : ℕ) → to ≤ from → out ≡ out ++ take (to - from) (drop from bytes)
none_between out bytes from to le = let z : to - from ≡ 0 = omega arith in rw z (sym (append-nil out))

-- ---- a list of them
pub left_next : (ps : List Piece) (i start whole : ℕ) → i < length ps → start + bytes_in (map value_of (drop i ps)) ≡ whole
    → start + length (first_piece ps i).bytes.now + bytes_in (map value_of (drop (i + 1) ps)) ≡ whole
left_next ps i start whole lt h =
    let e : bytes_in (map value_of (drop i ps)) ≡ length (first_piece ps i).bytes.now + bytes_in (map value_of (drop (i + 1) ps)) =
    ap bytes_in (drop_one ps i no_piece lt) ∙ sum_by-cons (λ (p : PieceValue). length p.bytes) (value_of (first_piece ps i)) (map value_of (drop (i + 1) ps)) in
    omega arith

pub one_longer : (starts more : List ℕ) (i start : ℕ) → length starts ≡ i → more ≡ starts ++ start ∷ [] → length more ≡ i + 1
one_longer starts more i start long e = ap (λ (l : List ℕ). length l) e ∙ length_push starts start ∙ ap (λ (n : ℕ). n + 1) long

pub starts_next : (ps : List Piece) (starts more : List ℕ) (i start : ℕ) → length starts ≡ i → start + bytes_in (map value_of (drop i ps)) ≡ bytes_in (map value_of ps)
    → more ≡ starts ++ start ∷ [] → ((j : ℕ) → j < length starts → get_or starts j 0 ≡ bytes_in (take j (map value_of ps)))
    → (j : ℕ) → j < length more → get_or more j 0 ≡ bytes_in (take j (map value_of ps))
starts_next ps starts more i start long left e each j lt = elim (cases_lt j (length starts)) [
  | inl less ↦ ap (λ (l : List ℕ). get_or l j 0) e ∙ get_or_append_left starts (start ∷ []) 0 j less ∙ each j less
  | inr ge ↦
      let vs : List PieceValue = map value_of ps in
      let grown : length more ≡ length starts + 1 = ap (λ (l : List ℕ). length l) e ∙ length_push starts start in
      let same : length starts ≡ j = omega arith in
      let here : i ≡ j = omega arith in
      let rest : bytes_in (drop i vs) ≡ bytes_in (map value_of (drop i ps)) = ap bytes_in (drop-map value_of i ps) in
      let split : bytes_in (take i vs) + bytes_in (drop i vs) ≡ bytes_in vs = sum_by-take-drop (λ (p : PieceValue). length p.bytes) vs i in
      let begins : start ≡ bytes_in (take i vs) = omega arith in
      ap (λ (l : List ℕ). get_or l j 0) e ∙ get_or_push starts start 0 j same ∙ begins ∙ ap (λ (k : ℕ). bytes_in (take k vs)) here
]

pub starts_all : (ps : List Piece) (starts : List ℕ) (i : ℕ) → i ≡ length ps → length starts ≡ i
    → ((j : ℕ) → j < length starts → get_or starts j 0 ≡ bytes_in (take j (map value_of ps))) → AreStarts (map value_of ps) starts
starts_all ps starts i done long each = record { few = omega (arith, length-map ps value_of); each = each }

pub no_starts : (ps : List PieceValue) (starts : List ℕ) → starts ≡ [] → AreStarts ps starts
no_starts ps starts e = rw e (record { few = omega arith; each = λ (i : ℕ) lt. absurd (omega arith) })
