-- Pieces of the file: their first bytes and what follows them.
use Rattle.std.proofs.Common.{◌≡◌, ◌∙◌, ◌<◌, ◌≤◌, ◌+◌, ◌-◌, ◌^◌, ◌==◌, ◌++◌, ◌∷◌, [], ℕ, zero, suc, Bool, true, false, nat_lt, min, arith, List, length, take, drop, set, refl, sym, ap, subst, inl, inr, append-nil, append_assoc, get_or, add-one, ◌⊎◌}
use Rattle.std.specs.List.{All}
use Rattle.std.proofs.lemmas.Bool.{cases_Bool, le-ltb, lt-leb, le-leb, lt-ltb, ltb-true, ltb-false, ne_eqb, eq-eqb}
use Rattle.std.proofs.lemmas.List.{length-append, length-drop, length-take, drop_all, take_all}
use Rattle.std.proofs.lemmas.List.Elements.{All-nil, All-cons, All-head, All-tail, All-append}
use Rattle.std.proofs.lemmas.List.Sums.{sum_by-cons}
use Rattle.jx_codestream.specs.declared.Body.{Body}
use Rattle.jx_codestream.specs.declared.parts.PlacedPart.{PlacedPart}
use Rattle.jx_codestream.specs.PackedHeaders.{LieIn, after_bytes, after_share, first_bytes, joined_bytes, share_fits, share_of, share_size, shared_out, shares_fit, some_piece, together, window, with_heads}

pub some_none : (piece : Body) → piece.length ≡ 0 → some_piece piece ≡ []
some_none piece h = rw (eq-eqb piece.length 0 h) refl

pub some_is : (piece : Body) → 0 < piece.length → some_piece piece ≡ piece ∷ []
some_is piece h = rw (ne_eqb piece.length 0 (λ e. absurd (omega arith))) refl

zero_or_more : (n : ℕ) → (n ≡ 0) ⊎ (0 < n)
zero_or_more n = grind arith

pub together_cons : (piece : Body) (pieces : List Body) → together (piece ∷ pieces) ≡ piece.length + together pieces
together_cons piece pieces = sum_by-cons (λ (p : Body). p.length) piece pieces

-- the first piece is left out where it is empty

pub together_some : (piece : Body) (pieces : List Body) → together (some_piece piece ++ pieces) ≡ piece.length + together pieces
together_some piece pieces = elim (zero_or_more piece.length) [
  | inl none ↦ rw (some_none piece none) (omega (arith, none))
  | inr some ↦ rw (some_is piece some) (together_cons piece pieces)
]

min_zero : (n : ℕ) → min n 0 ≡ 0
min_zero n = omega arith

pub first_some : (n : ℕ) (piece : Body) (pieces : List Body) → first_bytes n (some_piece piece ++ pieces) ≡ first_bytes n (piece ∷ pieces)
first_some n piece pieces = elim (zero_or_more piece.length) [
  | inl none ↦
      let short : min n piece.length ≡ 0 = omega (arith, none) in
      let left : n ≡ n - piece.length = omega (arith, none) in
      rw (some_none piece none) (ap (λ (m : ℕ). first_bytes m pieces) left
      ∙ ap (λ (x : List Body). x ++ first_bytes (n - piece.length) pieces) (sym (some_none (record { at = piece.at; length = min n piece.length }) short)))
  | inr some ↦ rw (some_is piece some) refl
]

pub after_some : (n : ℕ) (piece : Body) (pieces : List Body) → after_bytes n (some_piece piece ++ pieces) ≡ after_bytes n (piece ∷ pieces)
after_some n piece pieces = elim (zero_or_more piece.length) [
  | inl none ↦
      let left : n ≡ n - piece.length = omega (arith, none) in
      rw (some_none piece none, le-ltb n piece.length (omega (arith, none))) (ap (λ (m : ℕ). after_bytes m pieces) left)
  | inr some ↦ rw (some_is piece some) refl
]

-- a whole piece

pub first_whole : (n : ℕ) (piece : Body) (pieces : List Body) → piece.length ≤ n → first_bytes n (piece ∷ pieces) ≡ some_piece piece ++ first_bytes (n - piece.length) pieces
first_whole n piece pieces h =
    let all : min n piece.length ≡ piece.length = omega arith in
    ap (λ (m : ℕ). some_piece (record { at = piece.at; length = m }) ++ first_bytes (n - piece.length) pieces) all

pub after_whole : (n : ℕ) (piece : Body) (pieces : List Body) → piece.length ≤ n → after_bytes n (piece ∷ pieces) ≡ after_bytes (n - piece.length) pieces
after_whole n piece pieces h = rw (le-ltb n piece.length h) refl

-- a part of a piece

pub first_none : (pieces : List Body) → first_bytes 0 pieces ≡ []
first_none [] = refl
first_none (piece ∷ pieces) =
    let none : min 0 piece.length ≡ 0 = omega arith in
    let left : 0 - piece.length ≡ 0 = omega arith in
    ap (λ (x : List Body). x ++ first_bytes (0 - piece.length) pieces) (some_none (record { at = piece.at; length = min 0 piece.length }) none)
    ∙ ap (λ (m : ℕ). first_bytes m pieces) left ∙ first_none pieces

pub first_part : (n : ℕ) (piece : Body) (pieces : List Body) → n < piece.length → first_bytes n (piece ∷ pieces) ≡ some_piece (record { at = piece.at; length = n })
first_part n piece pieces h =
    let all : min n piece.length ≡ n = omega arith in
    let left : n - piece.length ≡ 0 = omega arith in
    ap (λ (m : ℕ). some_piece (record { at = piece.at; length = m }) ++ first_bytes (n - piece.length) pieces) all
    ∙ ap (λ (m : ℕ). some_piece (record { at = piece.at; length = n }) ++ first_bytes m pieces) left
    ∙ ap (λ (x : List Body). some_piece (record { at = piece.at; length = n }) ++ x) (first_none pieces) ∙ append-nil (some_piece (record { at = piece.at; length = n }))

pub after_part : (n : ℕ) (piece : Body) (pieces : List Body) → n < piece.length → after_bytes n (piece ∷ pieces) ≡ record { at = piece.at + n; length = piece.length - n } ∷ pieces
after_part n piece pieces h = rw (lt-ltb n piece.length h) refl

-- bytes that are taken piece by piece: `taken` were, so many more are wanted of the rest

pub first_goes : (w : ℕ) (f n : Body) (later rest taken more all : List Body) → f.length ≤ w → later ≡ n ∷ rest → more ≡ taken ++ some_piece f → taken ++ first_bytes w (some_piece f ++ later) ≡ all
    → more ++ first_bytes (w - f.length) (some_piece n ++ rest) ≡ all
first_goes w f n later rest taken more all h is made same =
    let next : List Body = first_bytes (w - f.length) (some_piece n ++ rest) in
    let here : first_bytes w (some_piece f ++ later) ≡ some_piece f ++ next =
    first_some w f later ∙ first_whole w f later h ∙ ap (λ (x : List Body). some_piece f ++ first_bytes (w - f.length) x) is ∙ ap (λ (x : List Body). some_piece f ++ x) (sym (first_some (w - f.length) n rest)) in
    ap (λ (x : List Body). x ++ next) made ∙ append_assoc taken (some_piece f) next ∙ ap (λ (x : List Body). taken ++ x) (sym here) ∙ same

pub after_goes : (w : ℕ) (f n : Body) (later rest all : List Body) → f.length ≤ w → later ≡ n ∷ rest → after_bytes w (some_piece f ++ later) ≡ all → after_bytes (w - f.length) (some_piece n ++ rest) ≡ all
after_goes w f n later rest all h is same =
    after_some (w - f.length) n rest ∙ ap (after_bytes (w - f.length)) (sym is) ∙ sym (after_some w f later ∙ after_whole w f later h) ∙ same

pub sum_goes : (count w total : ℕ) (f n : Body) (later rest : List Body) → f.length ≤ w → later ≡ n ∷ rest → count + together (some_piece f ++ later) ≡ w + total
    → count + together (some_piece n ++ rest) ≡ (w - f.length) + total
sum_goes count w total f n later rest h is same =
    omega (arith, same, together_some f later, together_some n rest, ap together is, together_cons n rest)

pub all_goes : (P : Body → Type 0) (f n : Body) (later rest : List Body) → later ≡ n ∷ rest → All P (some_piece f ++ later) → All P (some_piece n ++ rest)
all_goes P f n later rest is all =
    let after : All P later = elim (zero_or_more f.length) [
      | inl none ↦ subst (λ (x : List Body). All P (x ++ later)) (some_none f none) all
      | inr some ↦ All-tail P f later (subst (λ (x : List Body). All P (x ++ later)) (some_is f some) all)
    ] in
    let whole : All P (n ∷ rest) = subst (All P) is after in
    elim (zero_or_more n.length) [
      | inl none ↦ subst (λ (x : List Body). All P (x ++ rest)) (sym (some_none n none)) (All-tail P n rest whole)
      | inr some ↦ subst (λ (x : List Body). All P (x ++ rest)) (sym (some_is n some)) whole
    ]

pub take_ends : (count w : ℕ) (f : Body) (later taken more all : List Body) → w < f.length → more ≡ taken ++ some_piece (record { at = f.at; length = w })
    → taken ++ first_bytes w (some_piece f ++ later) ≡ first_bytes count all → after_bytes w (some_piece f ++ later) ≡ after_bytes count all → count + together (some_piece f ++ later) ≡ w + together all
    → (count ≤ together all) × (more ≡ first_bytes count all) × (some_piece (record { at = f.at + w; length = f.length - w }) ++ later ≡ after_bytes count all)
take_ends count w f later taken more all h made first after sum = (
  omega (arith, sum, h, together_some f later),
  made ∙ ap (λ (x : List Body). taken ++ x) (sym (first_some w f later ∙ first_part w f later h)) ∙ first,
  ap (λ (x : List Body). x ++ later) (some_is (record { at = f.at + w; length = f.length - w }) (omega arith)) ∙ sym (after_some w f later ∙ after_part w f later h) ∙ after,
)

-- how many bytes they have

pub together_first : (n : ℕ) (pieces : List Body) → together (first_bytes n pieces) ≡ min n (together pieces)
together_first n [] = omega arith
together_first n (piece ∷ pieces) =
    let later : together (first_bytes (n - piece.length) pieces) ≡ min (n - piece.length) (together pieces) = together_first (n - piece.length) pieces in
    together_some (record { at = piece.at; length = min n piece.length }) (first_bytes (n - piece.length) pieces) ∙ omega (arith, later, together_cons piece pieces)

pub together_after : (n : ℕ) (pieces : List Body) → together (after_bytes n pieces) ≡ together pieces - n
together_after n [] = omega arith
together_after n (piece ∷ pieces) = elim (cases_Bool (nat_lt n piece.length)) [
  | inl t ↦
      let less : n < piece.length = ltb-true n piece.length t in
      rw t (together_cons (record { at = piece.at + n; length = piece.length - n }) pieces ∙ omega (arith, less, together_cons piece pieces))
  | inr f ↦
      let most : piece.length ≤ n = ltb-false n piece.length f in
      rw f (together_after (n - piece.length) pieces ∙ omega (arith, most, together_cons piece pieces))
]

-- they lie in the file

abbrev Inside : List ℕ → Body → Type 0
Inside b piece = piece.at + piece.length ≤ length b

pub some_lies : (b : List ℕ) (piece : Body) → Inside b piece → LieIn b (some_piece piece)
some_lies b piece h = elim (zero_or_more piece.length) [
  | inl none ↦ subst (LieIn b) (sym (some_none piece none)) (All-nil (Inside b))
  | inr some ↦ subst (LieIn b) (sym (some_is piece some)) (All-cons (Inside b) piece [] h (All-nil (Inside b)))
]

pub first_lies : (b : List ℕ) (n : ℕ) (pieces : List Body) → LieIn b pieces → LieIn b (first_bytes n pieces)
first_lies b n [] h = All-nil (Inside b)
first_lies b n (piece ∷ pieces) h =
    let own : piece.at + piece.length ≤ length b = All-head (Inside b) piece pieces h in
    All-append (Inside b) (some_piece (record { at = piece.at; length = min n piece.length })) (first_bytes (n - piece.length) pieces)
    (some_lies b (record { at = piece.at; length = min n piece.length }) (omega arith)) (first_lies b (n - piece.length) pieces (All-tail (Inside b) piece pieces h))

pub after_lies : (b : List ℕ) (n : ℕ) (pieces : List Body) → LieIn b pieces → LieIn b (after_bytes n pieces)
after_lies b n [] h = All-nil (Inside b)
after_lies b n (piece ∷ pieces) h = elim (cases_Bool (nat_lt n piece.length)) [
  | inl t ↦
      let less : n < piece.length = ltb-true n piece.length t in
      let own : piece.at + piece.length ≤ length b = All-head (Inside b) piece pieces h in
      rw t (All-cons (Inside b) (record { at = piece.at + n; length = piece.length - n }) pieces (omega arith) (All-tail (Inside b) piece pieces h))
  | inr f ↦ rw f (after_lies b (n - piece.length) pieces (All-tail (Inside b) piece pieces h))
]

pub lie_fit : (b : List ℕ) (pieces : List Body) → length b ≤ 4294967295 → LieIn b pieces → All (λ (piece : Body). piece.at + piece.length < 2 ^ 32) pieces
lie_fit b pieces few lie k none inside = let own = lie k none inside in omega arith

-- their joined bytes

pub joined_long : (b : List ℕ) (pieces : List Body) → LieIn b pieces → length (joined_bytes b pieces) ≡ together pieces
joined_long b [] h = refl
joined_long b (piece ∷ pieces) h =
    let own : piece.at + piece.length ≤ length b = All-head (Inside b) piece pieces h in
    let here : length (window b piece) ≡ piece.length = simp (length-take, length-drop) (omega arith) in
    omega (arith, length-append (window b piece) (joined_bytes b pieces), here, joined_long b pieces (All-tail (Inside b) piece pieces h), together_cons piece pieces)

-- one share

pub share_starts : (b : List ℕ) (pieces front : List Body) → LieIn b pieces → 4 ≤ together pieces → front ≡ first_bytes 4 pieces → length (joined_bytes b front) ≡ 4
share_starts b pieces front lie long is =
    ap (λ (x : List Body). length (joined_bytes b x)) is ∙ joined_long b (first_bytes 4 pieces) (first_lies b 4 pieces lie) ∙ omega (arith, together_first 4 pieces)

pub share_short : (b : List ℕ) (pieces : List Body) → together pieces < 4 → share_fits b pieces ≡ false
share_short b pieces h = lt-leb (4 + share_size b pieces) (together pieces) (omega arith)

-- so many bytes follow the number, or fewer

pub share_ends : (b : List ℕ) (pieces next : List Body) (size : ℕ) → 4 ≤ together pieces → next ≡ after_bytes 4 pieces → size ≡ share_size b pieces → together next < size → share_fits b pieces ≡ false
share_ends b pieces next size long is named short =
    let left : together next ≡ together pieces - 4 = ap together is ∙ together_after 4 pieces in
    lt-leb (4 + share_size b pieces) (together pieces) (omega arith)

pub share_is_there : (b : List ℕ) (pieces next : List Body) (size : ℕ) → 4 ≤ together pieces → next ≡ after_bytes 4 pieces → size ≡ share_size b pieces → size ≤ together next → share_fits b pieces ≡ true
share_is_there b pieces next size long is named enough =
    let left : together next ≡ together pieces - 4 = ap together is ∙ together_after 4 pieces in
    le-leb (4 + share_size b pieces) (together pieces) (omega arith)

pub share_same : (b : List ℕ) (pieces next share : List Body) (size : ℕ) → next ≡ after_bytes 4 pieces → size ≡ share_size b pieces → share ≡ first_bytes size next → share ≡ share_of b pieces
unfolding share_of
share_same b pieces next share size is named made = made ∙ ap (λ (n : ℕ). first_bytes n next) named ∙ ap (first_bytes (share_size b pieces)) is

pub rest_same : (b : List ℕ) (pieces next rest : List Body) (size : ℕ) → next ≡ after_bytes 4 pieces → size ≡ share_size b pieces → rest ≡ after_bytes size next → rest ≡ after_share b pieces
unfolding after_share
rest_same b pieces next rest size is named made = made ∙ ap (λ (n : ℕ). after_bytes n next) named ∙ ap (after_bytes (share_size b pieces)) is

pub share_lies : (b : List ℕ) (pieces : List Body) → LieIn b pieces → LieIn b (after_share b pieces)
unfolding after_share
share_lies b pieces h = after_lies b (share_size b pieces) (after_bytes 4 pieces) (after_lies b 4 pieces h)

-- all shares, one place after the other

drop_set : {A : Type 0} (xs : List A) (i : ℕ) (x : A) → drop (suc i) (set xs i x) ≡ drop (suc i) xs
drop_set [] i x = refl
drop_set (y ∷ ys) zero x = refl
drop_set (y ∷ ys) (suc i) x = drop_set ys i x

take_set : {A : Type 0} (xs : List A) (i : ℕ) (x : A) → i < length xs → take (suc i) (set xs i x) ≡ take i xs ++ x ∷ []
take_set [] i x inside = absurd (omega (arith, inside))
take_set (y ∷ ys) zero x inside = refl
take_set {A} (y ∷ ys) (suc i) x inside = ap (λ (t : List A). y ∷ t) (take_set ys i x (omega arith))

from_it : {A : Type 0} (xs : List A) (i : ℕ) (none : A) → i < length xs → drop i xs ≡ get_or xs i none ∷ drop (suc i) xs
from_it [] i none inside = absurd (omega (arith, inside))
from_it (x ∷ xs) zero none inside = refl
from_it (x ∷ xs) (suc i) none inside = from_it xs i none (omega arith)

-- the share of a place isn't there
pub share_lacks : (b : List ℕ) (left : List Body) (parts : List PlacedPart) (i : ℕ) (none : PlacedPart) (fit : Bool) → i < length parts → shares_fit b left (drop i parts) ≡ fit → share_fits b left ≡ false → fit ≡ false
share_lacks b left parts i none fit inside same lacks =
    sym same ∙ ap (λ (x : List PlacedPart). shares_fit b left x) (from_it parts i none inside) ∙ rw lacks refl

-- it is there
pub share_goes_on : (b : List ℕ) (left next : List Body) (parts after : List PlacedPart) (i : ℕ) (none : PlacedPart) (part : PlacedPart) (fit : Bool) → i < length parts → share_fits b left ≡ true
    → next ≡ after_share b left → after ≡ set parts i part → shares_fit b left (drop i parts) ≡ fit → shares_fit b next (drop (i + 1) after) ≡ fit
share_goes_on b left next parts after i none part fit inside there is made same =
    let later : drop (i + 1) after ≡ drop (suc i) parts = ap (drop (i + 1)) made ∙ rw add-one (drop_set parts i part) in
    ap (λ (x : List PlacedPart). shares_fit b next x) later ∙ ap (λ (x : List Body). shares_fit b x (drop (suc i) parts)) is
    ∙ sym (ap (λ (x : List PlacedPart). shares_fit b left x) (from_it parts i none inside) ∙ rw there refl) ∙ same

pub share_given : (b : List ℕ) (left next share : List Body) (parts after all : List PlacedPart) (i : ℕ) (none part : PlacedPart) → i < length parts → share ≡ share_of b left → next ≡ after_share b left
    → part ≡ with_heads (get_or parts i none) share → after ≡ set parts i part → take i parts ++ shared_out b left (drop i parts) ≡ all → take (i + 1) after ++ shared_out b next (drop (i + 1) after) ≡ all
share_given b left next share parts after all i none part inside own is given made same =
    let later : drop (i + 1) after ≡ drop (suc i) parts = ap (drop (i + 1)) made ∙ rw add-one (drop_set parts i part) in
    let front : take (i + 1) after ≡ take i parts ++ part ∷ [] = ap (take (i + 1)) made ∙ rw add-one (take_set parts i part inside) in
    let rest : shared_out b next (drop (i + 1) after) ≡ shared_out b (after_share b left) (drop (suc i) parts) =
    ap (λ (x : List PlacedPart). shared_out b next x) later ∙ ap (λ (x : List Body). shared_out b x (drop (suc i) parts)) is in
    let here : part ≡ with_heads (get_or parts i none) (share_of b left) = given ∙ ap (with_heads (get_or parts i none)) own in
    ap (λ (x : List PlacedPart). x ++ shared_out b next (drop (i + 1) after)) front ∙ ap (λ (x : List PlacedPart). (take i parts ++ part ∷ []) ++ x) rest
    ∙ append_assoc (take i parts) (part ∷ []) (shared_out b (after_share b left) (drop (suc i) parts))
    ∙ ap (λ (p : PlacedPart). take i parts ++ p ∷ shared_out b (after_share b left) (drop (suc i) parts)) here
    ∙ sym (ap (λ (x : List PlacedPart). take i parts ++ shared_out b left x) (from_it parts i none inside)) ∙ same

-- all are given
pub shares_over : (b : List ℕ) (left : List Body) (parts : List PlacedPart) (i : ℕ) (fit : Bool) → length parts ≤ i → shares_fit b left (drop i parts) ≡ fit → (together left == 0) ≡ fit
shares_over b left parts i fit past same = sym (ap (λ (x : List PlacedPart). shares_fit b left x) (drop_all i parts past)) ∙ same

pub shares_given : (b : List ℕ) (left : List Body) (parts all : List PlacedPart) (i : ℕ) → length parts ≤ i → take i parts ++ shared_out b left (drop i parts) ≡ all → parts ≡ all
shares_given b left parts all i past same =
    sym (ap (λ (x : List PlacedPart). take i parts ++ shared_out b left x) (drop_all i parts past) ∙ append-nil (take i parts) ∙ take_all i parts past) ∙ same
