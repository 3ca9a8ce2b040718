-- PPM and PPT: in ascending index, and their data.
use Rattle.std.proofs.Common.{◌≡◌, ◌∙◌, ◌<◌, ◌≤◌, ◌+◌, ℕ, zero, suc, arith, true, false, nat_lt, List, [], ◌∷◌, ◌++◌, length, drop, get_or, refl, sym, ap, subst, max, add-one, append-nil}
use Rattle.std.specs.List.{All, flat_map, insert, position_or_len}
use Rattle.std.proofs.lemmas.Bool.Decides.{nat_tests}
use Rattle.std.proofs.lemmas.List.Sums.{position_or_len_is}
use Rattle.std.proofs.lemmas.List.Edits.{insert_end}
use Rattle.std.proofs.lemmas.List.Sorted.{All-permutation, IsPermutation-insert}
use Rattle.std.proofs.lemmas.List.Elements.{All-nil, All-cons, All-tail, All-head, All-append}
use Rattle.jx_codestream.specs.declared.Body.{Body}
use Rattle.jx_codestream.specs.declared.packed.PackedSegment.{PackedSegment}
use Rattle.jx_codestream.specs.PackedHeaders.{LieIn, PackedLieIn, ascending, data_in_order, data_of, some_piece, with_packed}
use Rattle.jx_codestream.proofs.PieceLemmas.{some_lies}

lower : (index other : ℕ) → index < other → nat_lt index other ≡ true
lower index other h = grind (arith, nat_tests)

pub first_passes : (sorted : List PackedSegment) (index place : ℕ) (none : PackedSegment) → place < length sorted → ((k : ℕ) (d : PackedSegment) → k < place → nat_lt index (get_or sorted k d).index ≡ false)
    → index < (get_or sorted place none).index → place ≡ position_or_len (λ (q : PackedSegment). nat_lt index q.index) sorted
first_passes sorted index place none inside before here =
    sym (position_or_len_is (λ (q : PackedSegment). nat_lt index q.index) sorted place none (omega (arith, inside)) (λ k below. before k none below) (λ _. lower index (get_or sorted place none).index here))

pub none_passes : (sorted : List PackedSegment) (index place : ℕ) → length sorted ≤ place → ((k : ℕ) (d : PackedSegment) → k < place → nat_lt index (get_or sorted k d).index ≡ false)
    → length sorted ≡ position_or_len (λ (q : PackedSegment). nat_lt index q.index) sorted
none_passes sorted index place all before =
    let none : PackedSegment = record { place = 0; index = 0; length = 0 } in
    sym (position_or_len_is (λ (q : PackedSegment). nat_lt index q.index) sorted (length sorted) none (omega arith) (λ k below. before k none (omega (arith, below, all))) (λ inside. absurd (omega arith)))

-- none of these has a higher index
abbrev pub AreBelow : ℕ → List PackedSegment → Type 0
AreBelow most sorted = All (λ (other : PackedSegment). other.index ≤ most) sorted

not_higher : (index other most : ℕ) → other ≤ most → most ≤ index → nat_lt index other ≡ false
not_higher index other most low high = grind (arith, nat_tests)

pub goes_last : (sorted : List PackedSegment) (p : PackedSegment) (most : ℕ) → AreBelow most sorted → most ≤ p.index → sorted ++ p ∷ [] ≡ with_packed sorted p
goes_last sorted p most below high =
    let last : position_or_len (λ (q : PackedSegment). nat_lt p.index q.index) sorted ≡ length sorted =
    position_or_len_is (λ (q : PackedSegment). nat_lt p.index q.index) sorted (length sorted) p (omega arith)
    (λ k inside. not_higher p.index (get_or sorted k p).index most (below k p inside) high) (λ inside. absurd (omega arith)) in
    sym (ap (λ (n : ℕ). insert sorted n p) last ∙ insert_end sorted p)

pub below_more : (sorted : List PackedSegment) (p : PackedSegment) (most next : ℕ) → AreBelow most sorted → most ≤ next → p.index ≤ next → AreBelow next (with_packed sorted p)
below_more sorted p most next below up own =
    All-permutation (λ (q : PackedSegment). q.index ≤ next) (p ∷ sorted) (with_packed sorted p)
    (IsPermutation-insert sorted (position_or_len (λ (q : PackedSegment). nat_lt p.index q.index) sorted) p)
    (All-cons (λ (q : PackedSegment). q.index ≤ next) p sorted own (λ k none inside. (let low = below k none inside in omega arith)))

pub below_next : (sorted next : List PackedSegment) (p : PackedSegment) (most now : ℕ) → AreBelow most sorted → now ≡ max most p.index → next ≡ with_packed sorted p → AreBelow now next
below_next sorted next p most now below is made =
    subst (AreBelow now) (sym made) (below_more sorted p most now below (omega (arith, is)) (omega (arith, is)))

-- a list from an element on
from_it : {A : Type 0} (xs : List A) (i : ℕ) (none : A) → i < length xs → drop i xs ≡ get_or xs i none ∷ drop (suc i) xs
from_it [] i none inside = absurd (omega (arith, inside))
from_it (x ∷ xs) zero none inside = refl
from_it (x ∷ xs) (suc i) none inside = from_it xs i none (omega arith)

pub from_here : {A : Type 0} (xs : List A) (i : ℕ) (none : A) → i < length xs → drop i xs ≡ get_or xs i none ∷ drop (i + 1) xs
from_here xs i none inside = rw add-one (from_it xs i none inside)

pub ascends : (sorted next : List PackedSegment) (packed : List PackedSegment) (i : ℕ) (none : PackedSegment) (all : List PackedSegment) → i < length packed
    → next ≡ with_packed sorted (get_or packed i none) → ascending sorted (drop i packed) ≡ all → ascending next (drop (i + 1) packed) ≡ all
ascends sorted next packed i none all inside made same =
    ap (λ (s : List PackedSegment). ascending s (drop (i + 1) packed)) made ∙ sym (ap (λ (xs : List PackedSegment). ascending sorted xs) (from_here packed i none inside)) ∙ same

-- what holds of each holds of them in ascending index
pub all_ascending : (P : PackedSegment → Type 0) (sorted packed : List PackedSegment) → All P sorted → All P packed → All P (ascending sorted packed)
all_ascending P sorted [] before h = before
all_ascending P sorted (p ∷ packed) before h =
    all_ascending P (with_packed sorted p) packed
    (All-permutation P (p ∷ sorted) (with_packed sorted p) (IsPermutation-insert sorted (position_or_len (λ (q : PackedSegment). nat_lt p.index q.index) sorted) p)
    (All-cons P p sorted (All-head P p packed h) before)) (All-tail P p packed h)

abbrev Inside : List ℕ → Body → Type 0
Inside b piece = piece.at + piece.length ≤ length b

data_lies : (b : List ℕ) (packed : List PackedSegment) → PackedLieIn b packed → LieIn b (flat_map (λ (p : PackedSegment). some_piece (data_of p)) packed)
data_lies b [] h = All-nil (Inside b)
data_lies b (p ∷ packed) h =
    All-append (Inside b) (some_piece (data_of p)) (flat_map (λ (q : PackedSegment). some_piece (data_of q)) packed)
    (some_lies b (data_of p) (All-head (λ (q : PackedSegment). q.place + 5 + q.length ≤ length b) p packed h))
    (data_lies b packed (All-tail (λ (q : PackedSegment). q.place + 5 + q.length ≤ length b) p packed h))

pub order_lies : (b : List ℕ) (packed : List PackedSegment) → PackedLieIn b packed → LieIn b (data_in_order packed)
order_lies b packed h =
    let P : PackedSegment → Type 0 = λ (q : PackedSegment). q.place + 5 + q.length ≤ length b in
    data_lies b (ascending [] packed) (all_ascending P [] packed (All-nil P) h)

-- one alone
pub one_in_order : (p : PackedSegment) → data_in_order (p ∷ []) ≡ some_piece (data_of p)
one_in_order p = append-nil (some_piece (data_of p))
