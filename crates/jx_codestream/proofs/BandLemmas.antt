-- The bands of a component, by their numbers.
use Rattle.std.proofs.Common.{◌≡◌, ◌≢◌, ◌∙◌, ◌≤◌, ◌+◌, ◌-◌, ◌*◌, ℕ, zero, suc, arith, List, [], ◌∷◌, ◌++◌, refl, sym, ap}
use Rattle.std.specs.List.{range_with_len}
use Rattle.std.proofs.lemmas.Bool.{ne_eqb}
use Rattle.jx_base.specs.declared.names.Band.{Band}
use Rattle.jx_base.specs.declared.names.Band.TheVariants.{LL, HL, LH, HH}
use Rattle.jx_base.specs.Joined.{joined}
use Rattle.jx_base.proofs.Joined.{joined_none, joined_next}
use Rattle.jx_geom.specs.declared.shape.CompShape.{CompShape}
use Rattle.jx_geom.specs.Ranges.{HasBand}
use Rattle.jx_geom.specs.Rects.{band_level}
use Rattle.jx_codestream.specs.Params.{number_of, band_count, level_of}
use Rattle.jx_codestream.specs.BandNumbers.{numbers_at, all_numbers}
use Rattle.jx_base.proofs.Lists.{range_push}

range_up : (n : ℕ) → range_with_len 0 (n + 1) ≡ range_with_len 0 n ++ n ∷ []
range_up n = let last : 0 + n ≡ n = omega arith in range_push 0 n ∙ ap (λ (k : ℕ). range_with_len 0 n ++ k ∷ []) last

three_on : (xs : List ℕ) (a b c : ℕ) → ((xs ++ a ∷ []) ++ b ∷ []) ++ c ∷ [] ≡ xs ++ a ∷ b ∷ c ∷ []
three_on [] a b c = refl
three_on (x ∷ xs) a b c = ap (λ (ys : List ℕ). x ∷ ys) (three_on xs a b c)

three_more : (n a b c m : ℕ) → a ≡ n → b ≡ n + 1 → c ≡ n + 2 → m ≡ n + 3 → range_with_len 0 n ++ a ∷ b ∷ c ∷ [] ≡ range_with_len 0 m
three_more n a b c m ha hb hc hm =
    let one : range_with_len 0 (n + 1) ≡ range_with_len 0 n ++ n ∷ [] = range_up n in
    let two : range_with_len 0 ((n + 1) + 1) ≡ range_with_len 0 (n + 1) ++ (n + 1) ∷ [] = range_up (n + 1) in
    let three : range_with_len 0 (((n + 1) + 1) + 1) ≡ range_with_len 0 ((n + 1) + 1) ++ ((n + 1) + 1) ∷ [] = range_up ((n + 1) + 1) in
    let last : m ≡ ((n + 1) + 1) + 1 = omega arith in
    let second : c ≡ (n + 1) + 1 = omega arith in
    sym (rw (last, ha, hb, second) (three ∙ ap (λ (xs : List ℕ). xs ++ ((n + 1) + 1) ∷ []) (two ∙ ap (λ (xs : List ℕ). xs ++ (n + 1) ∷ []) one)
    ∙ three_on (range_with_len 0 n) n (n + 1) ((n + 1) + 1)))

numbers_above : (r : ℕ) → r ≢ 0 → numbers_at r ≡ (3 * r - 2) ∷ (3 * r - 1) ∷ 3 * r ∷ []
numbers_above r some = rw (ne_eqb r 0 some) refl

-- the bands of the resolutions from 0 up have the numbers from 0 up
pub numbers : (levels : ℕ) → all_numbers levels ≡ range_with_len 0 (band_count levels)
numbers zero = joined_next numbers_at 0 0 (omega arith) ∙ ap (λ (xs : List ℕ). xs ++ numbers_at 0) (joined_none numbers_at 0 0 (omega arith))
numbers (suc n) =
    joined_next numbers_at 0 (suc n) (omega arith)
    ∙ ap (λ (xs : List ℕ). xs ++ numbers_at (suc n)) (ap (λ (k : ℕ). joined numbers_at 0 k) (omega arith) ∙ numbers n)
    ∙ ap (λ (xs : List ℕ). range_with_len 0 (band_count n) ++ xs) (numbers_above (suc n) (λ e. absurd (omega (arith, e))))
    ∙ three_more (band_count n) (3 * suc n - 2) (3 * suc n - 1) (3 * suc n) (band_count (suc n)) (omega arith) (omega arith) (omega arith) (omega arith)

pub levels : (shape : CompShape) (r : ℕ) (b : Band) → r ≤ shape.levels → HasBand r b → level_of shape.levels (number_of r b) ≡ band_level shape r b
levels shape r LL inside has = omega arith
levels shape r HL inside has = omega (arith, has)
levels shape r LH inside has = omega (arith, has)
levels shape r HH inside has = omega (arith, has)
