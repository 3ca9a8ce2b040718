-- Where the pieces of the file lie that are packed packet headers, and how many bytes they have together.
use Rattle.std.proofs.Common.{◌≡◌, ℕ, zero, suc, ◌+◌, ◌-◌, ◌<◌, ◌≤◌, ◌==◌, nat_lt, min, Bool, true, false, List, [], ◌∷◌, ◌++◌, length, take, drop, filter, flat_map, sum_by, insert, Option, None, Some, refl, sym, ap, ◌∙◌, subst, cond, arith, length-append, inl, inr}
use Rattle.std.specs.List.{AllByRecursion, position_or_len}
use Rattle.std.proofs.lemmas.Bool.{cases_lt, eqb-true, lt-ltb, le-ltb, cond-true, cond-false}
use Rattle.std.proofs.lemmas.List.Sums.{sum_by-cons, sum_by-append, sum_by-insert}
use Rattle.jx_marker.specs.Segments.{spelling}
use Rattle.jx_marker.specs.declared.Segment.{Segment}
use Rattle.jx_marker.specs.declared.Segment.TheVariants as segment
use Rattle.jx_codestream.specs.declared.Body.{Body}
use Rattle.jx_codestream.specs.declared.packed.PackedSegment.{PackedSegment}
use Rattle.jx_codestream.specs.declared.parts.PlacedPart.{PlacedPart}
use Rattle.jx_codestream.specs.PackedHeaders.{after_bytes, after_share, ascending, both_heads, data_in_order, data_of, first_bytes, heads_by, heads_of, packed_at, packed_from, share_of, share_size, shared_out, some_piece, together, with_heads, with_packed}
use Rattle.jx_codestream.specs.Spells.{all_bytes}
use Rattle.jx_tier2_reader.specs.Data.{packed_pieces}

-- ---- lists
all_join : {X : Type 0} (P : X → Type 0) (xs ys : List X) → AllByRecursion P xs → AllByRecursion P ys → AllByRecursion P (xs ++ ys)
all_join P [] ys a b = b
all_join P (x ∷ xs) ys a b = (a.0, all_join P xs ys a.1 b)

all_take : {X : Type 0} (P : X → Type 0) (n : ℕ) (xs : List X) → AllByRecursion P xs → AllByRecursion P (take n xs)
all_take P zero xs a = tt
all_take P (suc n) [] a = tt
all_take P (suc n) (x ∷ xs) a = (a.0, all_take P n xs a.1)

all_drop : {X : Type 0} (P : X → Type 0) (n : ℕ) (xs : List X) → AllByRecursion P xs → AllByRecursion P (drop n xs)
all_drop P zero xs a = a
all_drop P (suc n) [] a = tt
all_drop P (suc n) (x ∷ xs) a = all_drop P n xs a.1

-- ---- pieces that end at most at a place, and have at most so many bytes together
abbrev EndBy : ℕ → Body → Type 0
EndBy n piece = piece.at + piece.length ≤ n

pub record AreWithin (n most : ℕ) (pieces : List Body) : Type 0 where
  pub inside : AllByRecursion (λ (piece : Body). piece.at + piece.length ≤ n) pieces
  pub few : together pieces ≤ most

pub within_none : (n most : ℕ) → AreWithin n most []
within_none n most = record { inside = tt; few = omega arith }

pub within_more : (n most more : ℕ) (pieces : List Body) → most ≤ more → AreWithin n most pieces → AreWithin n more pieces
within_more n most more pieces le w = record { inside = w.inside; few = (let few = w.few in omega arith) }

pub within_join : (n most more : ℕ) (xs ys : List Body) → AreWithin n most xs → AreWithin n more ys → AreWithin n (most + more) (xs ++ ys)
within_join n most more xs ys a b = record {
  inside = all_join (EndBy n) xs ys a.inside b.inside;
  few = (let x = a.few in let y = b.few in let sum : together (xs ++ ys) ≡ together xs + together ys = sum_by-append (λ (piece : Body). piece.length) xs ys in omega arith);
}

some_within : (n : ℕ) (piece : Body) → piece.at + piece.length ≤ n → AreWithin n piece.length (some_piece piece)
some_within n piece inside = by (piece.length == 0)
  where
    by : (none : Bool) → AreWithin n piece.length (cond none [] (piece ∷ []))
    by true = within_none n piece.length
    by false = record {
      inside = (inside, tt);
      few = (let sum : together (piece ∷ []) ≡ piece.length + 0 = sum_by-cons (λ (x : Body). x.length) piece [] in omega arith);
    }

pub both_within : (n most more : ℕ) (x y : Option (List Body)) → AreWithin n most (packed_pieces x) → AreWithin n more (packed_pieces y) → AreWithin n (most + more) (packed_pieces (both_heads x y))
both_within n most more None y a b = within_more n more (most + more) (packed_pieces y) (omega arith) b
both_within n most more (Some xs) None a b = within_more n most (most + more) xs (omega arith) a
both_within n most more (Some xs) (Some ys) a b = within_join n most more xs ys a b

-- ---- PPM and PPT among segments
pub record SegmentsWithin (n most : ℕ) (packed : List PackedSegment) : Type 0 where
  pub inside : AllByRecursion (λ (p : PackedSegment). p.place + 5 + p.length ≤ n) packed
  pub few : sum_by (λ (p : PackedSegment). p.length) packed ≤ most

no_segments : (n most : ℕ) → SegmentsWithin n most []
no_segments n most = record { inside = tt; few = omega arith }

one_segment : (n at most : ℕ) (index : ℕ) (bytes : List ℕ) → 5 + length bytes ≤ most → at + most ≤ n → SegmentsWithin n most (record { place = at; index = index; length = length bytes } ∷ [])
one_segment n at most index bytes low high =
    let p : PackedSegment = record { place = at; index = index; length = length bytes } in
    let sum : sum_by (λ (x : PackedSegment). x.length) (p ∷ []) ≡ length bytes + 0 = sum_by-cons (λ (x : PackedSegment). x.length) p [] in
    record { inside = (omega arith, tt); few = omega arith }

segment_within : (n comps at : ℕ) (s : Segment) → at + length (spelling comps s) ≤ n → SegmentsWithin n (length (spelling comps s)) (packed_at at s)
segment_within n comps at (segment.Ppm index bytes) le = one_segment n at (length (spelling comps (segment.Ppm index bytes))) index bytes (omega arith) le
segment_within n comps at (segment.Ppt index bytes) le = one_segment n at (length (spelling comps (segment.Ppt index bytes))) index bytes (omega arith) le
segment_within n comps at segment.Soc le = no_segments n _
segment_within n comps at (segment.Siz siz) le = no_segments n _
segment_within n comps at (segment.Cod cod) le = no_segments n _
segment_within n comps at (segment.Coc comp shape) le = no_segments n _
segment_within n comps at (segment.Qcd quant) le = no_segments n _
segment_within n comps at (segment.Qcc comp quant) le = no_segments n _
segment_within n comps at (segment.Rgn comp shift) le = no_segments n _
segment_within n comps at (segment.Poc entries) le = no_segments n _
segment_within n comps at (segment.Crg bytes) le = no_segments n _
segment_within n comps at (segment.Com bytes) le = no_segments n _
segment_within n comps at (segment.Plt bytes) le = no_segments n _
segment_within n comps at (segment.Plm bytes) le = no_segments n _
segment_within n comps at (segment.Tlm bytes) le = no_segments n _
segment_within n comps at (segment.Sot sot) le = no_segments n _
segment_within n comps at segment.Sod le = no_segments n _
segment_within n comps at segment.Eoc le = no_segments n _
segment_within n comps at (segment.Skipped code) le = no_segments n _

segments_join : (n most more : ℕ) (xs ys : List PackedSegment) → SegmentsWithin n most xs → SegmentsWithin n more ys → SegmentsWithin n (most + more) (xs ++ ys)
segments_join n most more xs ys a b = record {
  inside = all_join (λ (p : PackedSegment). p.place + 5 + p.length ≤ n) xs ys a.inside b.inside;
  few = (let x = a.few in let y = b.few in
      let sum : sum_by (λ (p : PackedSegment). p.length) (xs ++ ys) ≡ sum_by (λ (p : PackedSegment). p.length) xs + sum_by (λ (p : PackedSegment). p.length) ys =
      sum_by-append (λ (p : PackedSegment). p.length) xs ys in
      omega arith);
}

pub segments_within : (n comps at : ℕ) (ss : List Segment) → at + length (all_bytes comps ss) ≤ n → SegmentsWithin n (length (all_bytes comps ss)) (packed_from comps at ss)
segments_within n comps at [] le = no_segments n _
segments_within n comps at (s ∷ ss) le =
    let sum : length (spelling comps s ++ all_bytes comps ss) ≡ length (spelling comps s) + length (all_bytes comps ss) = length-append (spelling comps s) (all_bytes comps ss) in
    subst (λ (m : ℕ). SegmentsWithin n m (packed_from comps at (s ∷ ss))) (sym sum)
    (segments_join n (length (spelling comps s)) (length (all_bytes comps ss)) (packed_at at s) (packed_from comps (at + length (spelling comps s)) ss)
    (segment_within n comps at s (omega arith)) (segments_within n comps (at + length (spelling comps s)) ss (omega arith)))

-- in ascending index
sorted_within : (n most more : ℕ) (sorted ps : List PackedSegment) → SegmentsWithin n most sorted → SegmentsWithin n more ps → SegmentsWithin n (most + more) (ascending sorted ps)
sorted_within n most more sorted [] a b = record { inside = a.inside; few = (let x = a.few in omega arith) }
sorted_within n most more sorted (p ∷ ps) a b =
    let size : PackedSegment → ℕ = λ (x : PackedSegment). x.length in
    let Low : PackedSegment → Type 0 = λ (x : PackedSegment). x.place + 5 + x.length ≤ n in
    let i : ℕ = position_or_len (λ (q : PackedSegment). nat_lt p.index q.index) sorted in
    let own : sum_by size (with_packed sorted p) ≡ sum_by size sorted + p.length = sum_by-insert size sorted i p in
    let sum : sum_by size (p ∷ ps) ≡ p.length + sum_by size ps = sum_by-cons size p ps in
    let few_sorted : sum_by size sorted ≤ most = a.few in
    let few_all : sum_by size (p ∷ ps) ≤ more = b.few in
    let next : SegmentsWithin n (most + p.length) (with_packed sorted p) = record {
      inside = all_join Low (take i sorted) (p ∷ drop i sorted) (all_take Low i sorted a.inside) (b.inside.0, all_drop Low i sorted a.inside);
      few = omega arith;
    } in
    let rest : SegmentsWithin n (more - p.length) ps = record { inside = b.inside.1; few = omega arith } in
    let same : most + p.length + (more - p.length) ≡ most + more = omega arith in
    subst (λ (m : ℕ). SegmentsWithin n m (ascending (with_packed sorted p) ps)) same (sorted_within n (most + p.length) (more - p.length) (with_packed sorted p) ps next rest)

data_within : (n : ℕ) (sorted : List PackedSegment) → AllByRecursion (λ (p : PackedSegment). p.place + 5 + p.length ≤ n) sorted
    → AreWithin n (sum_by (λ (p : PackedSegment). p.length) sorted) (flat_map (λ (p : PackedSegment). some_piece (data_of p)) sorted)
data_within n [] all = within_none n 0
data_within n (p ∷ sorted) all =
    subst (λ (m : ℕ). AreWithin n m (some_piece (data_of p) ++ flat_map (λ (q : PackedSegment). some_piece (data_of q)) sorted)) (sym (sum_by-cons (λ (q : PackedSegment). q.length) p sorted))
    (within_join n p.length (sum_by (λ (q : PackedSegment). q.length) sorted) (some_piece (data_of p)) (flat_map (λ (q : PackedSegment). some_piece (data_of q)) sorted)
    (some_within n (data_of p) all.0) (data_within n sorted all.1))

pub order_within : (n most : ℕ) (packed : List PackedSegment) → SegmentsWithin n most packed → AreWithin n most (data_in_order packed)
order_within n most packed w =
    let s : SegmentsWithin n (0 + most) (ascending [] packed) = sorted_within n 0 most [] packed (no_segments n 0) w in
    within_more n (sum_by (λ (p : PackedSegment). p.length) (ascending [] packed)) most (data_in_order packed) (let few = s.few in omega arith) (data_within n (ascending [] packed) s.inside)

pub heads_within : (n most : ℕ) (packed : List PackedSegment) → SegmentsWithin n most packed → AreWithin n most (packed_pieces (heads_by packed))
heads_within n most [] w = within_none n most
heads_within n most (p ∷ ps) w = order_within n most (p ∷ ps) w

-- ---- shares of PPM's data
first_none : (pieces : List Body) → together (first_bytes 0 pieces) ≡ 0
first_none [] = refl
first_none (piece ∷ pieces) =
    let none : 0 - piece.length ≡ 0 = omega arith in
    let zero_long : min 0 piece.length ≡ 0 = omega arith in
    ap (λ (m : ℕ). together (some_piece (record { at = piece.at; length = m }) ++ first_bytes (0 - piece.length) pieces)) zero_long
    ∙ ap (λ (m : ℕ). together (first_bytes m pieces)) none ∙ first_none pieces

some_sum : (piece : Body) → together (some_piece piece) ≡ piece.length
some_sum piece = by (piece.length == 0) refl
  where
    by : (b : Bool) → (piece.length == 0) ≡ b → together (cond b [] (piece ∷ [])) ≡ piece.length
    by true e = sym (eqb-true piece.length 0 e)
    by false e = (let sum : together (piece ∷ []) ≡ piece.length + 0 = sum_by-cons (λ (x : Body). x.length) piece [] in omega arith)

-- the first bytes, and those behind them
record Parted (n : ℕ) (pieces first after : List Body) : Type 0 where
  pub first_in : AllByRecursion (λ (piece : Body). piece.at + piece.length ≤ n) first
  pub after_in : AllByRecursion (λ (piece : Body). piece.at + piece.length ≤ n) after
  pub sum : together first + together after ≤ together pieces

parted : (n k : ℕ) (pieces : List Body) → AllByRecursion (λ (piece : Body). piece.at + piece.length ≤ n) pieces → Parted n pieces (first_bytes k pieces) (after_bytes k pieces)
parted n k [] all = record { first_in = tt; after_in = tt; sum = omega arith }
parted n k (piece ∷ pieces) all =
    let again = parted n (k - piece.length) pieces all.1 in
    let some : Body = record { at = piece.at; length = min k piece.length } in
    let own : piece.at + piece.length ≤ n = all.0 in
    let more = some_within n some (let e : min k piece.length ≤ piece.length = omega arith in omega arith) in
    let rest : Body = record { at = piece.at + k; length = piece.length - k } in
    let whole : together (piece ∷ pieces) ≡ piece.length + together pieces = sum_by-cons (λ (x : Body). x.length) piece pieces in
    let front : together (some_piece some ++ first_bytes (k - piece.length) pieces) ≡ min k piece.length + together (first_bytes (k - piece.length) pieces) =
    sum_by-append (λ (x : Body). x.length) (some_piece some) (first_bytes (k - piece.length) pieces) ∙ ap (λ (m : ℕ). m + together (first_bytes (k - piece.length) pieces)) (some_sum some) in
    elim (cases_lt k piece.length) [
      | inl lt ↦
          let test : nat_lt k piece.length ≡ true = lt-ltb k piece.length lt in
          let none : k - piece.length ≡ 0 = omega arith in
          let gone : together (first_bytes (k - piece.length) pieces) ≡ 0 = ap (λ (m : ℕ). together (first_bytes m pieces)) none ∙ first_none pieces in
          let back : together (rest ∷ pieces) ≡ (piece.length - k) + together pieces = sum_by-cons (λ (x : Body). x.length) rest pieces in
          subst (λ (after : List Body). Parted n (piece ∷ pieces) (first_bytes k (piece ∷ pieces)) after) (sym (cond-true (nat_lt k piece.length) (rest ∷ pieces) (after_bytes (k - piece.length) pieces) test))
          (record {
            first_in = all_join (EndBy n) (some_piece some) (first_bytes (k - piece.length) pieces) more.inside again.first_in;
            after_in = (omega arith, all.1);
            sum = (let e : min k piece.length ≡ k = omega arith in omega arith);
          })
      | inr ge ↦
          let test : nat_lt k piece.length ≡ false = le-ltb k piece.length ge in
          let later = again.sum in
          subst (λ (after : List Body). Parted n (piece ∷ pieces) (first_bytes k (piece ∷ pieces)) after) (sym (cond-false (nat_lt k piece.length) (rest ∷ pieces) (after_bytes (k - piece.length) pieces) test))
          (record {
            first_in = all_join (EndBy n) (some_piece some) (first_bytes (k - piece.length) pieces) more.inside again.first_in;
            after_in = again.after_in;
            sum = (let e : min k piece.length ≡ piece.length = omega arith in omega arith);
          })
    ]

share_parted : (b : List ℕ) (n : ℕ) (pieces : List Body) → AllByRecursion (λ (piece : Body). piece.at + piece.length ≤ n) pieces → Parted n pieces (share_of b pieces) (after_share b pieces)
unfolding share_of after_share
share_parted b n pieces all =
    let front = parted n 4 pieces all in
    let own = parted n (share_size b pieces) (after_bytes 4 pieces) front.after_in in
    record { first_in = own.first_in; after_in = own.after_in; sum = (let x = front.sum in let y = own.sum in omega arith) }

pub shares_within : (b : List ℕ) (n t : ℕ) (pieces : List Body) (parts : List PlacedPart) → AllByRecursion (λ (piece : Body). piece.at + piece.length ≤ n) pieces
    → AreWithin n (together pieces) (packed_pieces (heads_of (filter (λ (p : PlacedPart). p.sot.tile == t) (shared_out b pieces parts))))
shares_within b n t pieces [] all = within_none n (together pieces)
shares_within b n t pieces (p ∷ parts) all =
    let cut = share_parted b n pieces all in
    let own : AreWithin n (together (share_of b pieces)) (share_of b pieces) = record { inside = cut.first_in; few = omega arith } in
    let later = shares_within b n t (after_share b pieces) parts cut.after_in in
    let sum = cut.sum in
    by (p.sot.tile == t) own later sum
  where
    rest : List PlacedPart
    rest = filter (λ (q : PlacedPart). q.sot.tile == t) (shared_out b (after_share b pieces) parts)

    by : (c : Bool) → AreWithin n (together (share_of b pieces)) (share_of b pieces) → AreWithin n (together (after_share b pieces)) (packed_pieces (heads_of rest))
        → together (share_of b pieces) + together (after_share b pieces) ≤ together pieces
        → AreWithin n (together pieces) (packed_pieces (heads_of (cond c (with_heads p (share_of b pieces) ∷ rest) rest)))
    by true own later sum =
        within_more n (together (share_of b pieces) + together (after_share b pieces)) (together pieces) (packed_pieces (both_heads (Some (share_of b pieces)) (heads_of rest))) sum
        (both_within n (together (share_of b pieces)) (together (after_share b pieces)) (Some (share_of b pieces)) (heads_of rest) own later)
    by false own later sum = within_more n (together (after_share b pieces)) (together pieces) (packed_pieces (heads_of rest)) (omega arith) later
