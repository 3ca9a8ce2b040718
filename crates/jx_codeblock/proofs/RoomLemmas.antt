-- The bytes of a part lie within those of its block.
use Rattle.std.proofs.Common.{◌≡◌, ℕ, zero, suc, ◌+◌, ◌-◌, ◌<◌, ◌≤◌, true, false, List, [], ◌∷◌, ◌++◌, ◌∙◌, ap, sym, refl, arith, length, take, map, get_or, Bor, append-nil}
use Rattle.std.specs.List.{range_with_len}
use Rattle.std.proofs.lemmas.List.{length-map}
use Rattle.std.proofs.lemmas.List.Sums.{sum_by-cons}
use Rattle.jx_base.proofs.Lists.{range_next, push_on}
use Rattle.jx_base.specs.Passes.{end_pass}
use Rattle.jx_tier1_specs.specs.Segments.{bytes_of}
use Rattle.jx_codeblock.specs.Segments.{ends_below, bytes_before}
use Rattle.jx_codeblock.specs.Tables.{AreFew}
use Rattle.jx_codeblock.proofs.EndLemmas.{below_ended, below_still, below_few}
use Rattle.jx_base.specs.Limits.{most_bytes}

before_nil : (k : ℕ) → bytes_before [] k ≡ 0
before_nil zero = refl
before_nil (suc k) = refl

-- one segment more
pub before_more : (ss : List (List ℕ)) (k : ℕ) → bytes_before ss (k + 1) ≡ bytes_before ss k + length (get_or ss k [])
before_more [] k = before_nil (k + 1) ∙ sym (omega (arith, before_nil k))
before_more (s ∷ ss) zero = sum_by-cons (λ (t : List ℕ). length t) s [] ∙ omega arith
before_more (s ∷ ss) (suc k) =
    let e : suc k + 1 ≡ suc (k + 1) = omega arith in
    ap (bytes_before (s ∷ ss)) e
    ∙ sum_by-cons (λ (t : List ℕ). length t) s (take (k + 1) ss)
    ∙ omega (arith, before_more ss k, sum_by-cons (λ (t : List ℕ). length t) s (take k ss))

pub before_most : (ss : List (List ℕ)) (k : ℕ) → bytes_before ss k ≤ bytes_before ss (length ss)
before_most [] k = omega (arith, before_nil k)
before_most (s ∷ ss) zero = omega arith
before_most (s ∷ ss) (suc k) =
    omega (arith, before_most ss k, sum_by-cons (λ (t : List ℕ). length t) s (take k ss), sum_by-cons (λ (t : List ℕ). length t) s (take (length ss) ss))

-- what was looked at lies within the bytes up to the end of its segment
pub few_bytes : (style passes from at before : ℕ) (slices : List (Bor (List ℕ))) (looked : List ℕ) → AreFew style (map bytes_of slices) looked
    → bytes_before (map bytes_of slices) (length slices) ≤ most_bytes → before ≡ bytes_before (map bytes_of slices) at → at ≡ ends_below style passes → from + 1 ≡ passes
    → end_pass style from ≡ false → before + get_or looked from 0 ≤ most_bytes
few_bytes style passes from at before slices looked few most b a next flat =
    let ss : List (List ℕ) = map bytes_of slices in
    let l : length ss ≡ length slices = length-map slices bytes_of in
    let most' : bytes_before ss (length ss) ≤ most_bytes = rw l most in
    let here : get_or looked from 0 ≤ length (get_or ss (ends_below style from) []) = few from in
    let same : at ≡ ends_below style from = a ∙ ap (ends_below style) (sym next) ∙ below_still style from flat in
    let here' : get_or looked from 0 ≤ length (get_or ss at []) = rw same here in
    omega (arith, before_more ss at, before_most ss (at + 1))

-- the segment after a pass
pub next_ended : (style pass at before : ℕ) (ss : List (List ℕ)) → at ≡ ends_below style pass → before ≡ bytes_before ss at → end_pass style pass ≡ true
    → (at + 1 ≡ ends_below style (pass + 1)) × (before + length (get_or ss at []) ≡ bytes_before ss (at + 1))
next_ended style pass at before ss a b e = (omega (arith, below_ended style pass e), omega (arith, before_more ss at))

pub next_still : (style pass at : ℕ) → at ≡ ends_below style pass → end_pass style pass ≡ false → at ≡ ends_below style (pass + 1)
next_still style pass at a e = omega (arith, below_still style pass e)

pub next_most : (style pass at : ℕ) → at ≡ ends_below style pass → at ≤ pass
next_most style pass at a = omega (arith, below_few style pass)

pub next_bytes : (at before : ℕ) (slices : List (Bor (List ℕ))) → before ≡ bytes_before (map bytes_of slices) at → bytes_before (map bytes_of slices) (length slices) ≤ most_bytes
    → before + length (get_or (map bytes_of slices) at []) ≤ most_bytes
next_bytes at before slices b most =
    let ss : List (List ℕ) = map bytes_of slices in
    let l : length ss ≡ length slices = length-map slices bytes_of in
    let most' : bytes_before ss (length ss) ≤ most_bytes = rw l most in
    omega (arith, before_more ss at, before_most ss (at + 1))

-- a list of numbers one after another
pub listed_next : (table more : List ℕ) (f : ℕ → ℕ) (n last : ℕ) (whole : List ℕ) → n < last → table ++ map f (range_with_len n (last - n)) ≡ whole
    → more ≡ table ++ f n ∷ [] → more ++ map f (range_with_len (n + 1) (last - (n + 1))) ≡ whole
listed_next table more f n last whole lt h e =
    ap (λ (l : List ℕ). l ++ map f (range_with_len (n + 1) (last - (n + 1)))) e
    ∙ push_on table (map f (range_with_len (n + 1) (last - (n + 1)))) (f n)
    ∙ ap (λ (l : List ℕ). table ++ map f l) (sym (range_next n last lt)) ∙ h

pub listed_all : (table whole : List ℕ) (f : ℕ → ℕ) (n last : ℕ) → last ≤ n → table ++ map f (range_with_len n (last - n)) ≡ whole → table ≡ whole
listed_all table whole f n last le h =
    let z : last - n ≡ 0 = omega arith in
    let h' : table ++ [] ≡ whole = rw z at h in
    sym (append-nil table) ∙ h'

pub listed_at : (f : ℕ → ℕ) (from count n : ℕ) → n < count → get_or (map f (range_with_len from count)) n 0 ≡ f (from + n)
listed_at f from zero n lt = absurd (omega arith)
listed_at f from (suc count) zero lt = let e : from + 0 ≡ from = omega arith in rw e refl
listed_at f from (suc count) (suc n) lt = let e : from + 1 + n ≡ from + suc n = omega arith in listed_at f (from + 1) count n (omega arith) ∙ ap f e
