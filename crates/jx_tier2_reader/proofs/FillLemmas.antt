-- The coded bytes that some parts tell of, where no piece has a marker.
use Rattle.std.proofs.Common.{◌≡◌, ◌∙◌, ℕ, zero, suc, ◌+◌, ◌-◌, List, [], ◌∷◌, ◌++◌, length, map, take, drop, refl, sym, ap, subst, arith, append-nil, length-append, length-drop}
use Rattle.std.specs.List.{AllByRecursion, flat_map}
use Rattle.std.proofs.lemmas.List.{take-append-le, drop-append-le}
use Rattle.std.proofs.lemmas.List.Sums.{sum_by-cons, sum_by-append}
use Rattle.std.proofs.Math.Seq.{take-append_seam}
use Rattle.jx_base.specs.Joined.{joined, joined_below}
use Rattle.jx_base.specs.Markers.{HasNoMarker}
use Rattle.jx_base.specs.Pieces.{PieceValue}
use Rattle.jx_packet_header.specs.declared.HeaderPart.{HeaderPart}
use Rattle.jx_tier2_reader.specs.Carries.{header_part_of}
use Rattle.jx_tier2_reader.specs.Data.{parts_length}
use Rattle.jx_tier2_reader.specs.Written.{AreClear}

abbrev pub bytes_in_all : List PieceValue → List ℕ
bytes_in_all qs = flat_map (λ (q : PieceValue). q.bytes) qs

abbrev pub AreUnmarked : List PieceValue → Type 0
AreUnmarked qs = AllByRecursion (λ (q : PieceValue). HasNoMarker 0 q.bytes) qs

-- bytes that are those of parts
pub record Fills (parts : List HeaderPart) (bytes : List ℕ) : Type 0 where
  pub long : length bytes ≡ parts_length parts
  pub clear : AreClear parts bytes

fills_none : Fills [] []
fills_none = record { long = refl; clear = tt }

clear_join : (ps qs : List HeaderPart) (xs ys : List ℕ) → length xs ≡ parts_length ps → AreClear ps xs → AreClear qs ys → AreClear (ps ++ qs) (xs ++ ys)
clear_join [] qs [] ys e a b = b
clear_join [] qs (x ∷ xs) ys e a b = absurd (omega (arith, e))
clear_join (p ∷ ps) qs xs ys e a b =
    let sum : parts_length (p ∷ ps) ≡ p.length + parts_length ps = sum_by-cons (λ (x : HeaderPart). x.length) p ps in
    let front : take p.length (xs ++ ys) ≡ take p.length xs = take-append-le p.length xs ys (omega arith) in
    let back : drop p.length (xs ++ ys) ≡ drop p.length xs ++ ys = drop-append-le p.length xs ys (omega arith) in
    (subst (HasNoMarker 0) (sym front) a.0, subst (AreClear (ps ++ qs)) (sym back) (clear_join ps qs (drop p.length xs) ys (omega (arith, length-drop p.length xs)) a.1 b))

fills_join : (ps qs : List HeaderPart) (xs ys : List ℕ) → Fills ps xs → Fills qs ys → Fills (ps ++ qs) (xs ++ ys)
fills_join ps qs xs ys a b = record {
  long = length-append xs ys ∙ ap (λ (n : ℕ). n + length ys) a.long ∙ ap (λ (n : ℕ). parts_length ps + n) b.long ∙ sym (sum_by-append (λ (x : HeaderPart). x.length) ps qs);
  clear = clear_join ps qs xs ys a.long a.clear b.clear;
}

fills_one : (j : ℕ) (q : PieceValue) → HasNoMarker 0 q.bytes → Fills (header_part_of j q ∷ []) q.bytes
fills_one j q h =
    let all : take (length q.bytes) q.bytes ≡ q.bytes = ap (take (length q.bytes)) (sym (append-nil q.bytes)) ∙ take-append_seam q.bytes [] in
    record {
      long = (let e : parts_length (header_part_of j q ∷ []) ≡ length q.bytes + 0 = sum_by-cons (λ (x : HeaderPart). x.length) (header_part_of j q) [] in omega arith);
      clear = (subst (HasNoMarker 0) (sym all) h, tt);
    }

fills_pieces : (j : ℕ) (qs : List PieceValue) → AreUnmarked qs → Fills (map (header_part_of j) qs) (bytes_in_all qs)
fills_pieces j [] all = fills_none
fills_pieces j (q ∷ qs) all = fills_join (header_part_of j q ∷ []) (map (header_part_of j) qs) q.bytes (bytes_in_all qs) (fills_one j q all.0) (fills_pieces j qs all.1)

fills_below : (pieces : ℕ → List PieceValue) (m : ℕ) → ((j : ℕ) → AreUnmarked (pieces j)) → Fills (joined_below (λ j. map (header_part_of j) (pieces j)) 0 m) (joined_below (λ j. bytes_in_all (pieces j)) 0 m)
fills_below pieces zero all = fills_none
fills_below pieces (suc m) all =
    fills_join (joined_below (λ j. map (header_part_of j) (pieces j)) 0 m) (map (header_part_of (0 + m)) (pieces (0 + m))) (joined_below (λ j. bytes_in_all (pieces j)) 0 m) (bytes_in_all (pieces (0 + m)))
    (fills_below pieces m all) (fills_pieces (0 + m) (pieces (0 + m)) (all (0 + m)))

pub fills_joined : (pieces : ℕ → List PieceValue) (n : ℕ) → ((j : ℕ) → AreUnmarked (pieces j)) → Fills (joined (λ j. map (header_part_of j) (pieces j)) 0 n) (joined (λ j. bytes_in_all (pieces j)) 0 n)
unfolding joined
fills_joined pieces n all = fills_below pieces (n - 0) all
