-- The lengths of packets, and how many segments they take.
use Rattle.std.proofs.Common.{◌≡◌, inl, inr, ℕ, zero, suc, ◌+◌, ◌-◌, ◌*◌, ◌/◌, ◌%◌, ◌^◌, ◌<◌, ◌≤◌, nat_eq, nat_le, true, false, List, [], ◌∷◌, ◌++◌, length, drop, take, get_or, refl, sym, ap, ◌∙◌, append_assoc, append-nil, arith}
use Rattle.std.proofs.lemmas.List.{at_drop_all, at_drop_more}
use Rattle.std.specs.Prelude.{sum_by}
use Rattle.std.proofs.lemmas.Bool.{cases_lt, cond-false, cond-true}
use Rattle.std.proofs.lemmas.Bool.Decides.{nat_tests}
use Rattle.std.proofs.lemmas.List.Sums.{sum_by-cons}
use Rattle.jx_packet_header.specs.Words.{size}
use Rattle.jx_marker.specs.declared.Segment.TheVariants as segment
use Rattle.jx_marker.specs.Segments.{spelling}
use Rattle.jx_codestream.specs.Spells.{all_bytes}
use Rattle.jx_tier2_writer.specs.Lengths.{filled, length_bytes, length_segments, length_size, numbered, septets}
use Rattle.jx_tier2_writer.proofs.HeldLemmas.{septets_long}
use Rattle.jx_packet_header.proofs.PutLemmas.{size_small}

-- the last of five groups of seven digits
abbrev last_of : ℕ → List ℕ → List ℕ
last_of size groups = take (5 - (5 - size)) (drop (5 - size) groups)

last_septets : (size n : ℕ) → 1 ≤ size → size ≤ 5
    → last_of size ((128 + n / 268435456 % 128) ∷ (128 + n / 2097152 % 128) ∷ (128 + n / 16384 % 128) ∷ (128 + n / 128 % 128) ∷ (n % 128) ∷ []) ≡ septets size n
last_septets zero n some few = absurd (omega arith)
last_septets (suc zero) n some few = refl
last_septets (suc (suc zero)) n some few = refl
last_septets (suc (suc (suc zero))) n some few = refl
last_septets (suc (suc (suc (suc zero)))) n some few = refl
last_septets (suc (suc (suc (suc (suc zero))))) n some few = refl
last_septets (suc (suc (suc (suc (suc (suc size)))))) n some few = absurd (omega arith)

pub groups_last : (size n a b c d e : ℕ) → 1 ≤ size → size ≤ 5 → a ≡ 128 + n / 268435456 % 128 → b ≡ 128 + n / 2097152 % 128 → c ≡ 128 + n / 16384 % 128 → d ≡ 128 + n / 128 % 128 → e ≡ n % 128
    → last_of size (a ∷ b ∷ c ∷ d ∷ e ∷ []) ≡ septets size n
groups_last size n a b c d e some few ea eb ec ed ee =
    ap (λ (x : ℕ). last_of size (x ∷ b ∷ c ∷ d ∷ e ∷ [])) ea
    ∙ ap (λ (x : ℕ). last_of size ((128 + n / 268435456 % 128) ∷ x ∷ c ∷ d ∷ e ∷ [])) eb
    ∙ ap (λ (x : ℕ). last_of size ((128 + n / 268435456 % 128) ∷ (128 + n / 2097152 % 128) ∷ x ∷ d ∷ e ∷ [])) ec
    ∙ ap (λ (x : ℕ). last_of size ((128 + n / 268435456 % 128) ∷ (128 + n / 2097152 % 128) ∷ (128 + n / 16384 % 128) ∷ x ∷ e ∷ [])) ed
    ∙ ap (λ (x : ℕ). last_of size ((128 + n / 268435456 % 128) ∷ (128 + n / 2097152 % 128) ∷ (128 + n / 16384 % 128) ∷ (128 + n / 128 % 128) ∷ x ∷ [])) ee
    ∙ last_septets size n some few

pub long : (n : ℕ) → length (length_bytes n) ≡ length_size n
long n = septets_long (length_size n) n

-- a length that has room, and one that has none
pub filled_on : (held : List ℕ) (n : ℕ) (rest : List ℕ) → length held + length_size n ≤ 65532 → filled held (n ∷ rest) ≡ filled (held ++ length_bytes n) rest
filled_on held n rest le =
    let fits : nat_le (length held + length (length_bytes n)) 65532 ≡ true = (let e : length (length_bytes n) ≡ length_size n = long n in grind (arith, nat_tests)) in
    cond-true (nat_le (length held + length (length_bytes n)) 65532) (filled (held ++ length_bytes n) rest) (held ∷ filled (length_bytes n) rest) fits

pub filled_over : (held : List ℕ) (n : ℕ) (rest : List ℕ) → 65532 < length held + length_size n → filled held (n ∷ rest) ≡ held ∷ filled (length_bytes n) rest
filled_over held n rest lt =
    let over : nat_le (length held + length (length_bytes n)) 65532 ≡ false = (let e : length (length_bytes n) ≡ length_size n = long n in grind (arith, nat_tests)) in
    cond-false (nat_le (length held + length (length_bytes n)) 65532) (filled (held ++ length_bytes n) rest) (held ∷ filled (length_bytes n) rest) over

-- ---- how many segments there are
-- a length of w binary digits takes at most n bytes, seven in each
size_in : (m w n : ℕ) → m < 2 ^ w → w ≤ 7 * n → 1 ≤ n → length_size m ≤ n
size_in m w n lt le some = let s : size m ≤ w = size_small m w lt in grind (arith)

one_weight : (n : ℕ) → n < 2 ^ 32 → length_size n * 16384 ≤ 32768 + n
one_weight n lt = elim (cases_lt n 16384) [
  | inl a ↦ let s : length_size n ≤ 2 = size_in n 14 2 a (omega arith) (omega arith) in omega arith
  | inr a ↦ elim (cases_lt n 2097152) [
    | inl b ↦ let s : length_size n ≤ 3 = size_in n 21 3 b (omega arith) (omega arith) in omega arith
    | inr b ↦ let s : length_size n ≤ 5 = size_in n 32 5 lt (omega arith) (omega arith) in omega arith
  ]
]

abbrev pub weight : List ℕ → ℕ
weight lengths = sum_by length_size lengths

abbrev itself : ℕ → ℕ
itself n = n

most_weight : (lengths : List ℕ) → sum_by (λ (n : ℕ). n) lengths < 2 ^ 32 → weight lengths * 16384 ≤ 32768 * length lengths + sum_by (λ (n : ℕ). n) lengths
most_weight [] lt = omega arith
most_weight (n ∷ lengths) lt =
    let sum : sum_by (λ (n : ℕ). n) (n ∷ lengths) ≡ n + sum_by (λ (n : ℕ). n) lengths = sum_by-cons (λ (n : ℕ). n) n lengths in
    let own : weight (n ∷ lengths) ≡ length_size n + weight lengths = sum_by-cons length_size n lengths in
    let one : length_size n * 16384 ≤ 32768 + n = one_weight n (omega arith) in
    let rest : weight lengths * 16384 ≤ 32768 * length lengths + sum_by (λ (n : ℕ). n) lengths = most_weight lengths (omega arith) in
    omega arith

-- 256 segments with at least 65,528 bytes each would be more than there are
pub few_segments : (lengths : List ℕ) (number : ℕ) → length lengths ≤ 2 ^ 22 → sum_by (λ (n : ℕ). n) lengths < 2 ^ 32 → number * 65528 ≤ weight lengths → number < 256
few_segments lengths number few lt le = let most : weight lengths * 16384 ≤ 32768 * length lengths + sum_by (λ (n : ℕ). n) lengths = most_weight lengths lt in omega arith

-- a segment that has no room for one length more was appended
pub flushed : (comps number n : ℕ) (out mid held put rest : List ℕ) → 65532 < length held + length_size n
    → mid ≡ out ++ spelling comps (segment.Plt (number ∷ held)) → put ≡ length_bytes n
    → mid ++ all_bytes comps (numbered (number + 1) (filled put rest)) ≡ out ++ all_bytes comps (numbered number (filled held (n ∷ rest)))
flushed comps number n out mid held put rest lt first second =
    let own : List ℕ = spelling comps (segment.Plt (number ∷ held)) in
    let later : List ℕ = all_bytes comps (numbered (number + 1) (filled (length_bytes n) rest)) in
    ap (λ (xs : List ℕ). mid ++ all_bytes comps (numbered (number + 1) (filled xs rest))) second
    ∙ ap (λ (xs : List ℕ). xs ++ later) first
    ∙ append_assoc out own later
    ∙ ap (λ (x : List (List ℕ)). out ++ all_bytes comps (numbered number x)) (sym (filled_over held n rest lt))

-- ---- the lengths one after another: one more is held, and the last segment is appended
pub walk_next : (comps number next n i d : ℕ) (lengths out more held after base : List ℕ) → i < length lengths → n ≡ get_or lengths i d
    → ((rest : List ℕ) → more ++ all_bytes comps (numbered next (filled after rest)) ≡ out ++ all_bytes comps (numbered number (filled held (n ∷ rest))))
    → out ++ all_bytes comps (numbered number (filled held (drop i lengths))) ≡ base
    → more ++ all_bytes comps (numbered next (filled after (drop (i + 1) lengths))) ≡ base
walk_next comps number next n i d lengths out more held after base lt is step was =
    let F : List ℕ → List ℕ = λ xs. out ++ all_bytes comps (numbered number (filled held xs)) in
    step (drop (i + 1) lengths) ∙ ap (λ (k : ℕ). F (k ∷ drop (i + 1) lengths)) is ∙ sym (at_drop_more F lengths i d lt) ∙ was

pub weight_next : (number next held after n i d : ℕ) (lengths : List ℕ) → i < length lengths → n ≡ get_or lengths i d
    → next * 65528 + after ≤ number * 65528 + held + length_size n → number * 65528 + held + weight (drop i lengths) ≤ weight lengths
    → next * 65528 + after + weight (drop (i + 1) lengths) ≤ weight lengths
weight_next number next held after n i d lengths lt is few was =
    let F : List ℕ → ℕ = λ xs. weight xs in
    let e : weight (drop i lengths) ≡ length_size n + weight (drop (i + 1) lengths) =
    at_drop_more F lengths i d lt ∙ ap (λ (k : ℕ). F (k ∷ drop (i + 1) lengths)) (sym is) ∙ sum_by-cons length_size n (drop (i + 1) lengths) in
    omega arith

pub walk_last : (comps number i : ℕ) (lengths out more held base : List ℕ) → length lengths ≤ i → more ≡ out ++ spelling comps (segment.Plt (number ∷ held))
    → out ++ all_bytes comps (numbered number (filled held (drop i lengths))) ≡ base → more ≡ base
walk_last comps number i lengths out more held base over put was =
    let F : List ℕ → List ℕ = λ xs. out ++ all_bytes comps (numbered number (filled held xs)) in
    put ∙ ap (λ (xs : List ℕ). out ++ xs) (sym (append-nil (spelling comps (segment.Plt (number ∷ held))))) ∙ sym (at_drop_all F lengths i over) ∙ was

pub some_segments : (comps : ℕ) (lengths : List ℕ) → nat_eq (length lengths) 0 ≡ false → all_bytes comps (numbered 0 (filled [] lengths)) ≡ all_bytes comps (length_segments lengths)
some_segments comps [] some = absurd cc
some_segments comps (n ∷ lengths) some = refl
