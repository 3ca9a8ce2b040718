-- The segments of a code-block by the pieces that they came in.
use Rattle.std.proofs.Common.{◌≡◌, ◌∙◌, ℕ, zero, suc, ◌+◌, ◌-◌, ◌==◌, ◌^◌, ◌<◌, ◌≤◌, List, [], ◌∷◌, ◌++◌, inl, inr, map, length, take, drop, get_or, slice_index_or, slice_set, Vec, Global, ap, sym, refl, add-one, arith, append_assoc, append-nil, length-append, Bool, true, false, cond, if◌then◌else◌}
use Rattle.std.specs.List.{All, filter, flat_map, range_with_len}
use Rattle.std.proofs.lemmas.Bool.{cases_eq, cond-false, cond-true, eq-eqb, ne_eqb}
use Rattle.std.proofs.lemmas.List.{drop_more, length-map, map-append, take_more}
use Rattle.std.proofs.lemmas.List.Elements.{All-cons, All-nil}
use Rattle.std.proofs.lemmas.List.Sums.{sum_by-cons}
use Rattle.std.proofs.Math.Seq.{take-length}
use Rattle.jx_base.specs.declared.pieces.Block.{Block}
use Rattle.jx_base.specs.declared.pieces.Piece.{Piece}
use Rattle.jx_base.specs.Passes.{end_pass}
use Rattle.jx_base.specs.Pieces.{PieceValue, bytes_in, value_of}
use Rattle.jx_tier1_specs.specs.Short.{AreShort}
use Rattle.jx_codeblock.specs.Recoding.{own_segments}
use Rattle.jx_codeblock.specs.Segments.{ends_below, segment_at, segment_count, segments_of}
use Rattle.jx_same.specs.Lists.{bytes_at}
use Rattle.jx_base.specs.Limits.{most_bytes}

-- ---- how many passes end a segment
pub ends_next : (style n : ℕ) → ends_below style (n + 1) ≡ ends_below style n + (if end_pass style n then 1 else 0)
ends_next style n = rw add-one refl

at_most : (b : Bool) → cond b 1 0 ≤ 1
at_most true = omega arith
at_most false = omega arith

pub ends_few : (style n : ℕ) → ends_below style n ≤ n
ends_few style zero = omega arith
ends_few style (suc n) = omega (arith, ends_few style n, at_most (end_pass style n))

pub count_some : (style n : ℕ) → 0 < n → segment_count style n ≡ ends_below style (n - 1) + 1
count_some style zero some = absurd (omega arith)
count_some style (suc n) some = let e : suc n - 1 ≡ n = omega arith in rw (e, add-one) refl

-- ---- a segment piece by piece
by_test : (b : Bool) (p : PieceValue) (qs : List PieceValue) → flat_map (λ (q : PieceValue). q.bytes) (cond b (p ∷ qs) qs) ≡ cond b p.bytes [] ++ flat_map (λ (q : PieceValue). q.bytes) qs
by_test true p qs = refl
by_test false p qs = refl

segment_more : (style number : ℕ) (p : PieceValue) (ps : List PieceValue)
    → segment_at style (p ∷ ps) number ≡ (if ends_below style p.first == number then p.bytes else []) ++ segment_at style ps number
segment_more style number p ps = by_test (ends_below style p.first == number) p (filter (λ (q : PieceValue). ends_below style q.first == number) ps)

pub segment_goes : (style number : ℕ) (pieces : List Piece) (k : ℕ) (d : Piece) (xs ys all : List ℕ) → k < length pieces
    → xs ++ segment_at style (map value_of (drop k pieces)) number ≡ all
    → ys ≡ xs ++ (if ends_below style (get_or pieces k d).first == number then (get_or pieces k d).bytes.now else [])
    → ys ++ segment_at style (map value_of (drop (k + 1) pieces)) number ≡ all
segment_goes style number pieces k d xs ys all lt old step =
    let own : List ℕ = if ends_below style (get_or pieces k d).first == number then (get_or pieces k d).bytes.now else [] in
    let rest : List ℕ = segment_at style (map value_of (drop (k + 1) pieces)) number in
    ap (λ (zs : List ℕ). zs ++ rest) step ∙ append_assoc xs own rest
    ∙ ap (λ (zs : List ℕ). xs ++ zs) (sym (segment_more style number (value_of (get_or pieces k d)) (map value_of (drop (k + 1) pieces))))
    ∙ ap (λ (ps : List Piece). xs ++ segment_at style (map value_of ps) number) (sym (drop_more pieces k d lt)) ∙ old

drop_all : {X : Type 0} (xs : List X) (k : ℕ) → length xs ≤ k → drop k xs ≡ []
drop_all [] zero le = refl
drop_all [] (suc k) le = refl
drop_all (x ∷ xs) zero le = absurd (omega arith)
drop_all (x ∷ xs) (suc k) le = drop_all xs k (omega arith)

pub segment_ends : (style number : ℕ) (pieces : List Piece) (k : ℕ) (xs : List ℕ) → length pieces ≤ k
    → xs ++ segment_at style (map value_of (drop k pieces)) number ≡ segment_at style (map value_of pieces) number
    → xs ≡ segment_at style (map value_of pieces) number
segment_ends style number pieces k xs le old =
    sym (append-nil xs) ∙ ap (λ (ps : List Piece). xs ++ segment_at style (map value_of ps) number) (sym (drop_all pieces k le)) ∙ old

-- ---- lists of bytes by their numbers
abbrev pub no_piece : Piece
no_piece = record { layer = 0; first = 0; passes = 0; bytes = record { ref_ptr = (0, 0); now = [] } }

pub put_goes : (style i n : ℕ) (p : Piece) (xs ys : List ℕ) → n ≡ ends_below style p.first → ys ≡ xs ++ (if n == i then p.bytes.now else [])
    → ys ≡ xs ++ (if ends_below style p.first == i then p.bytes.now else [])
put_goes style i n p xs ys is step = step ∙ ap (λ (m : ℕ). xs ++ (if m == i then p.bytes.now else [])) is

abbrev rows_of : List (Vec ℕ Global) → List (List ℕ)
rows_of vecs = map (λ (v : Vec ℕ Global). v.items) vecs

pub rows_begin : (i : ℕ) → bytes_at [] i ≡ []
rows_begin i = refl

pub rows_more : (vecs : List (Vec ℕ Global)) (v : Vec ℕ Global) (i : ℕ) → bytes_at (rows_of vecs) i ≡ [] → v.items ≡ [] → bytes_at (rows_of (vecs ++ v ∷ [])) i ≡ []
rows_more [] v zero none empty = empty
rows_more [] v (suc i) none empty = refl
rows_more (w ∷ vecs) v zero none empty = none
rows_more (w ∷ vecs) v (suc i) none empty = rows_more vecs v i none empty

set_same : (vecs : List (Vec ℕ Global)) (i : ℕ) (v : Vec ℕ Global) → i < length vecs → bytes_at (rows_of (slice_set vecs i v)) i ≡ v.items
set_same [] i v lt = absurd (omega arith)
set_same (w ∷ vecs) zero v lt = refl
set_same (w ∷ vecs) (suc i) v lt = set_same vecs i v (omega arith)

set_other : (vecs : List (Vec ℕ Global)) (i j : ℕ) (v : Vec ℕ Global) → (i ≡ j → ⊥) → bytes_at (rows_of (slice_set vecs i v)) j ≡ bytes_at (rows_of vecs) j
set_other [] i j v ne = refl
set_other (w ∷ vecs) zero zero v ne = absurd (ne refl)
set_other (w ∷ vecs) zero (suc j) v ne = refl
set_other (w ∷ vecs) (suc i) zero v ne = refl
set_other (w ∷ vecs) (suc i) (suc j) v ne = set_other vecs i j v (λ e. ne (ap (λ (n : ℕ). suc n) e))

row_get : (vecs : List (Vec ℕ Global)) (i : ℕ) (w : Vec ℕ Global) → i < length vecs → w ≡ slice_index_or vecs i w → bytes_at (rows_of vecs) i ≡ w.items
row_get [] i w lt e = absurd (omega arith)
row_get (x ∷ vecs) zero w lt e = ap (λ (y : Vec ℕ Global). y.items) (sym e)
row_get (x ∷ vecs) (suc i) w lt e = row_get vecs i w (omega arith) e

other_row : (row bytes : List ℕ) (number i : ℕ) → (number ≡ i → ⊥) → row ≡ row ++ (if number == i then bytes else [])
other_row row bytes number i ne = sym (append-nil row) ∙ ap (λ (xs : List ℕ). row ++ xs) (sym (cond-false (number == i) bytes [] (ne_eqb number i ne)))

pub put_past : (vecs : List (Vec ℕ Global)) (number i : ℕ) (bytes : List ℕ) → length vecs ≤ number → i < length vecs
    → bytes_at (rows_of vecs) i ≡ bytes_at (rows_of vecs) i ++ (if number == i then bytes else [])
put_past vecs number i bytes past inside = other_row (bytes_at (rows_of vecs) i) bytes number i (λ (e : number ≡ i). omega arith)

pub put_there : (vecs : List (Vec ℕ Global)) (number k i : ℕ) (v w : Vec ℕ Global) (bytes : List ℕ) → k ≡ number → k < length vecs → w ≡ slice_index_or vecs k w → v.items ≡ w.items ++ bytes
    → bytes_at (rows_of (slice_set vecs k v)) i ≡ bytes_at (rows_of vecs) i ++ (if number == i then bytes else [])
put_there vecs number k i v w bytes is lt at made = elim (cases_eq k i) [
  | inl e ↦
      ap (bytes_at (rows_of (slice_set vecs k v))) (sym e) ∙ set_same vecs k v lt ∙ made
      ∙ ap (λ (xs : List ℕ). xs ++ bytes) (sym (row_get vecs k w lt at) ∙ ap (bytes_at (rows_of vecs)) e)
      ∙ ap (λ (xs : List ℕ). bytes_at (rows_of vecs) i ++ xs) (sym (cond-true (number == i) bytes [] (eq-eqb number i (sym is ∙ e))))
  | inr ne ↦ set_other vecs k i v ne ∙ other_row (bytes_at (rows_of vecs) i) bytes number i (λ (e : number ≡ i). ne (is ∙ e))
]

-- ---- all segments
rows_from : (xs : List (List ℕ)) (f : ℕ → List ℕ) (a : ℕ) → ((i : ℕ) → i < length xs → bytes_at xs i ≡ f (a + i)) → xs ≡ map f (range_with_len a (length xs))
rows_from [] f a each = refl
rows_from (x ∷ xs) f a each =
    let first : x ≡ f a = each 0 (omega arith) ∙ ap f (let e : a + 0 ≡ a = omega arith in e) in
    let rest : xs ≡ map f (range_with_len (a + 1) (length xs)) =
    rows_from xs f (a + 1) (λ i lt. each (suc i) (omega arith) ∙ ap f (let e : a + suc i ≡ a + 1 + i = omega arith in e)) in
    ap (λ (y : List ℕ). y ∷ xs) first ∙ ap (λ (ys : List (List ℕ)). f a ∷ ys) rest

pub rows_are : (b : Block) (vecs : List (Vec ℕ Global)) (pieces : List PieceValue) → pieces ≡ b.pieces → length vecs ≡ segment_count b.style.bits b.passes
    → ((i : ℕ) → i < length vecs → bytes_at (rows_of vecs) i ≡ segment_at b.style.bits pieces i) → rows_of vecs ≡ own_segments b
unfolding segments_of
rows_are b vecs pieces own long each =
    let all : length (rows_of vecs) ≡ length vecs = length-map vecs (λ (v : Vec ℕ Global). v.items) in
    let is : rows_of vecs ≡ map (segment_at b.style.bits pieces) (range_with_len 0 (length (rows_of vecs))) =
    rows_from (rows_of vecs) (segment_at b.style.bits pieces) 0 (λ i lt. each i (omega arith) ∙ ap (segment_at b.style.bits pieces) (let e : i ≡ 0 + i = omega arith in e)) in
    is ∙ ap (λ (n : ℕ). map (segment_at b.style.bits pieces) (range_with_len 0 n)) (all ∙ long)
    ∙ ap (λ (ps : List PieceValue). map (segment_at b.style.bits ps) (range_with_len 0 (segment_count b.style.bits b.passes))) own

-- none is longer than its block
segment_fits : (style number : ℕ) (ps : List PieceValue) → length (segment_at style ps number) ≤ bytes_in ps
segment_fits style number [] = omega arith
segment_fits style number (p ∷ ps) =
    let sum : bytes_in (p ∷ ps) ≡ length p.bytes + bytes_in ps = sum_by-cons (λ (q : PieceValue). length q.bytes) p ps in
    let own : List ℕ = if ends_below style p.first == number then p.bytes else [] in
    let here : length (segment_at style (p ∷ ps) number) ≡ length (own ++ segment_at style ps number) = ap (λ (s : List ℕ). length s) (segment_more style number p ps) in
    omega (arith, here, length-append own (segment_at style ps number), own_fits (ends_below style p.first == number) p.bytes, segment_fits style number ps, sum)
  where
    own_fits : (b : Bool) (bytes : List ℕ) → length (cond b bytes []) ≤ length bytes
    own_fits true bytes = omega arith
    own_fits false bytes = omega arith

all_mapped : {X Y : Type 0} (P : Y → Type 0) (f : X → Y) (xs : List X) → ((x : X) → P (f x)) → All P (map f xs)
all_mapped P f [] each = All-nil P
all_mapped P f (x ∷ xs) each = All-cons P (f x) (map f xs) (each x) (all_mapped P f xs each)

pub own_short : (b : Block) → bytes_in b.pieces ≤ most_bytes → AreShort (own_segments b)
unfolding segments_of
own_short b few =
    all_mapped (λ (s : List ℕ). length s < 2 ^ 32) (segment_at b.style.bits b.pieces) (range_with_len 0 (segment_count b.style.bits b.passes))
    (λ i. (let fits : length (segment_at b.style.bits b.pieces i) ≤ bytes_in b.pieces = segment_fits b.style.bits i b.pieces in omega arith))

-- ---- lists that are compared item by item
pub takes_go : {X Y : Type 0} (f : X → Y) (xs ys : List X) (k : ℕ) (d : X) → k < length xs → k < length ys → map f (take k xs) ≡ map f (take k ys)
    → f (get_or xs k d) ≡ f (get_or ys k d) → map f (take (k + 1) xs) ≡ map f (take (k + 1) ys)
takes_go {X} {Y} f xs ys k d lx ly before here =
    ap (map f) (take_more xs k d lx) ∙ map-append f (take k xs) (get_or xs k d ∷ [])
    ∙ ap (λ (zs : List Y). zs ++ f (get_or xs k d) ∷ []) before ∙ ap (λ (z : Y). map f (take k ys) ++ z ∷ []) here
    ∙ sym (map-append f (take k ys) (get_or ys k d ∷ [])) ∙ ap (map f) (sym (take_more ys k d ly))

pub takes_end : {X Y : Type 0} (f : X → Y) (xs ys : List X) (k : ℕ) → k ≡ length xs → k ≡ length ys → map f (take k xs) ≡ map f (take k ys) → map f xs ≡ map f ys
takes_end f xs ys k ex ey all =
    ap (map f) (sym (take-length xs)) ∙ ap (λ n. map f (take n xs)) (sym ex) ∙ all ∙ ap (λ n. map f (take n ys)) ey ∙ ap (map f) (take-length ys)

pub bytes_go : (xs ys : List ℕ) (k d : ℕ) → k < length xs → k < length ys → take k xs ≡ take k ys → get_or xs k d ≡ get_or ys k d → take (k + 1) xs ≡ take (k + 1) ys
bytes_go xs ys k d lx ly before here =
    take_more xs k d lx ∙ ap (λ (zs : List ℕ). zs ++ get_or xs k d ∷ []) before ∙ ap (λ (z : ℕ). take k ys ++ z ∷ []) here ∙ sym (take_more ys k d ly)

pub bytes_end : (xs ys : List ℕ) (k : ℕ) → k ≡ length xs → k ≡ length ys → take k xs ≡ take k ys → xs ≡ ys
bytes_end xs ys k ex ey all = sym (take-length xs) ∙ ap (λ n. take n xs) (sym ex) ∙ all ∙ ap (λ n. take n ys) ey ∙ take-length ys
