-- A marker, a length and what follows, in front of other bytes.
use Rattle.std.proofs.Common.{◌≡◌, ◌≤◌, ◌+◌, ◌-◌, ℕ, suc, List, ◌∷◌, ◌++◌, [], length, arith, append_assoc, refl, ap₂, true, false, ◌&&◌, ◌==◌, not, None, slice_index, ltb, length-append}
use Rattle.std.proofs.lemmas.Bool.Decides.{nat_tests}
use Rattle.std.proofs.lemmas.List.{take_at}
use Rattle.std.specs.List.{AllByRecursion, flat_map}
use Rattle.std.proofs.lemmas.Bool.{and_right}
use Rattle.byteorder.specs.Endian.{big_from}
use Rattle.byteorder.specs.Numbers.{big_from-cons, big_number-reads_back}
use Rattle.jx_marker.specs.Codes.{SOT}
use Rattle.jx_marker.specs.declared.Segment.{Segment}
use Rattle.jx_marker.specs.Markers.{has_length}
use Rattle.jx_marker.specs.Values.{values_from}
use Rattle.jx_marker.specs.Segments.{with_length, length_at, body_at, value_of}
use Rattle.jx_marker.specs.Rules.{breaks_1, breaks_2, least_length, first_true, rules_inside}
use Rattle.jx_marker.specs.Ranges.{FitsLength}
use Rattle.jx_marker.specs.Laws.{StandsAt}
use Rattle.jx_marker.proofs.RuleLemmas.{clear_broken}

-- a byte, and a number, behind a front
pub slice_past : (front xs : List ℕ) (k : ℕ) → slice_index (front ++ xs) (length front + k) ≡ slice_index xs k
slice_past [] xs k = let e : 0 + k ≡ k = omega arith in rw e refl
slice_past (a ∷ front) xs k = let e : suc (length front) + k ≡ suc (length front + k) = omega arith in rw e (slice_past front xs k)

pub big_from_past : (front xs : List ℕ) (n k : ℕ) → big_from (length front + k) n (front ++ xs) ≡ big_from k n xs
big_from_past [] xs n k = let e : 0 + k ≡ k = omega arith in rw e refl
big_from_past (a ∷ front) xs n k =
    let e : suc (length front) + k ≡ suc (length front + k) = omega arith in
    rw (e, big_from-cons) (big_from_past front xs n k)

-- values that were spelled one after the other
pub values_read : {A : Type 0} (value_at : ℕ → List ℕ → A) (bytes_of : A → List ℕ) (size : ℕ) (P : A → Type 0)
    (width : (value : A) → length (bytes_of value) ≡ size)
    (each : (front rest : List ℕ) (value : A) → P value → value_at (length front) (front ++ (bytes_of value ++ rest)) ≡ value)
    (values : List A) (front : List ℕ) (at : ℕ) → at ≡ length front → AllByRecursion P values
    → values_from value_at size (length values) at (front ++ flat_map bytes_of values) ≡ values
values_read value_at bytes_of size P width each [] front at place fits = refl
values_read {A} value_at bytes_of size P width each (value ∷ values) front at place fits =
    let here : value_at at (front ++ (bytes_of value ++ flat_map bytes_of values)) ≡ value = rw place (each front (flat_map bytes_of values) value fits.0) in
    let after : at + size ≡ length (front ++ bytes_of value) = omega (arith, length-append front (bytes_of value), width value) in
    let more : values_from value_at size (length values) (at + size) (front ++ (bytes_of value ++ flat_map bytes_of values)) ≡ values
    = simp append_assoc at (values_read value_at bytes_of size P width each values (front ++ bytes_of value) (at + size) after fits.1) in
    ap₂ (λ (x : A) (xs : List A). x ∷ xs) here more

pub front_length : (code : ℕ) (body rest : List ℕ) → FitsLength body → length_at (with_length code body ++ rest) ≡ 2 + length body
front_length code body rest fits = big_number-reads_back 2 (2 + length body) (body ++ rest) fits

pub front_body : (code : ℕ) (body rest : List ℕ) → FitsLength body → body_at (with_length code body ++ rest) ≡ body
front_body code body rest fits =
    let size : 2 + length body - 2 ≡ length body = omega arith in
    rw (front_length code body rest fits, size) (take_at body rest (length body) refl)

-- what rule 1 asks of a whole segment
pub record IsWhole (comps code : ℕ) (body : List ℕ) : Type 0 where
  pub follows : has_length code ≡ true
  pub fits : FitsLength body
  pub least : least_length comps code ≤ 2 + length body
  pub sot : ((code == SOT) && not (2 + length body == 10)) ≡ false
  pub inside : first_true (rules_inside comps code body) ≡ None

front_marker : (code : ℕ) (tail : List ℕ) → has_length code ≡ true → breaks_2 (255 ∷ code ∷ tail) ≡ false
unfolding breaks_2
front_marker code tail follows = rw follows (grind (arith, nat_tests))

front_long : (comps code x y : ℕ) (tail : List ℕ) (n : ℕ) → length_at (255 ∷ code ∷ x ∷ y ∷ tail) ≡ n → n ≤ 2 + length tail → least_length comps code ≤ n
    → ((code == SOT) && not (n == 10)) ≡ false → breaks_1 comps (255 ∷ code ∷ x ∷ y ∷ tail) ≡ false
unfolding breaks_1
front_long comps code x y tail n is room least sot =
    let one : ltb (length (255 ∷ code ∷ x ∷ y ∷ tail)) 2 ≡ false = grind (arith, nat_tests) in
    let two : ltb (length (255 ∷ code ∷ x ∷ y ∷ tail)) 4 ≡ false = grind (arith, nat_tests) in
    let three : ltb (length (255 ∷ code ∷ x ∷ y ∷ tail)) (2 + n) ≡ false = grind (arith, nat_tests) in
    let four : ltb n (least_length comps code) ≡ false = grind (arith, nat_tests) in
    rw (is, one, two, three, four, sot) (and_right (has_length code) false refl)

pub whole_read : (comps code : ℕ) (body rest : List ℕ) (segment : Segment) → IsWhole comps code body → value_of comps code body ≡ segment
    → StandsAt comps (with_length code body ++ rest) segment (length (with_length code body))
whole_read comps code body rest segment whole is =
    let bytes : List ℕ = with_length code body ++ rest in
    let n : length_at bytes ≡ 2 + length body = front_length code body rest whole.fits in
    let inner : body_at bytes ≡ body = front_body code body rest whole.fits in
    let x : ℕ = slice_index bytes 2 in
    let y : ℕ = slice_index bytes 3 in
    record {
      rules = clear_broken comps bytes (record {
        marker = front_marker code (x ∷ y ∷ (body ++ rest)) whole.follows;
        long = front_long comps code x y (body ++ rest) (2 + length body) n (omega (arith, length-append body rest)) whole.least whole.sot;
        inside = rw inner whole.inside;
      });
      value = rw (whole.follows, inner) is;
      takes = rw (whole.follows, n) (omega arith);
    }
