-- The first mark in a piece, looked for from one place on.
use Rattle.std.proofs.Common.{◌≡◌, ℕ, zero, suc, ◌+◌, ◌-◌, ◌<◌, ◌≤◌, ◌==◌, ◌&&◌, ◌||◌, nat_lt, Bool, true, false, List, [], ◌∷◌, Some, None, is_some, length, slice_index, cond, refl, sym, ap, ◌∙◌, arith}
use Rattle.std.specs.List.{find, range_with_len}
use Rattle.jx_tier2_reader.specs.Data.{is_marked, has_mark_below}
use Rattle.jx_base.proofs.Lists.{range_next}

pub mark_here : (bytes : List ℕ) (i n : ℕ) → i < n → is_marked bytes i ≡ true → find (is_marked bytes) (range_with_len i (n - i)) ≡ Some i
mark_here bytes i n h e = rw range_next (rw e refl)

pub mark_on : (bytes : List ℕ) (i n : ℕ) → i < n → is_marked bytes i ≡ false →
    find (is_marked bytes) (range_with_len i (n - i)) ≡ find (is_marked bytes) (range_with_len (i + 1) (n - (i + 1)))
mark_on bytes i n h e = rw (range_next i n h) (rw e refl)

pub mark_none : (bytes : List ℕ) (i n : ℕ) → n ≤ i → find (is_marked bytes) (range_with_len i (n - i)) ≡ None
mark_none bytes i n h = let e : n - i ≡ 0 = omega arith in rw e refl

-- ---- whether there is one
some_first : (p : ℕ → Bool) (x : ℕ) (xs : List ℕ) → is_some (find p (x ∷ xs)) ≡ (p x || is_some (find p xs))
some_first p x xs = by (p x)
  where
    by : (b : Bool) → is_some (cond b (Some x) (find p xs)) ≡ (b || is_some (find p xs))
    by true = refl
    by false = refl

or_later : (a b c : Bool) → ((a || b) || c) ≡ (a || (b || c))
or_later true b c = refl
or_later false b c = refl

-- a place that isn't the last is marked where its byte and the next are a pair
pair_is : (bytes : List ℕ) (j i : ℕ) → j + 1 ≡ i → i < length bytes → is_marked bytes j ≡ ((slice_index bytes j == 255) && nat_lt 143 (slice_index bytes i))
pair_is bytes j i e h =
    let apart : (j + 1 == length bytes) ≡ false = grind arith in
    ap (λ (b : Bool). (slice_index bytes j == 255) && (b || nat_lt 143 (slice_index bytes (j + 1)))) apart
    ∙ ap (λ (k : ℕ). (slice_index bytes j == 255) && nat_lt 143 (slice_index bytes k)) e

pub pair_on : (bytes : List ℕ) (i : ℕ) (found : Bool) → 1 ≤ i → i < length bytes →
    ((found || ((slice_index bytes (i - 1) == 255) && nat_lt 143 (slice_index bytes i))) || is_some (find (is_marked bytes) (range_with_len (i + 1 - 1) (length bytes - (i + 1)))))
    ≡ (found || is_some (find (is_marked bytes) (range_with_len (i - 1) (length bytes - i))))
pair_on bytes i found from h =
    let pair : Bool = (slice_index bytes (i - 1) == 255) && nat_lt 143 (slice_index bytes i) in
    let later : List ℕ = range_with_len (i + 1 - 1) (length bytes - (i + 1)) in
    let is : is_marked bytes (i - 1) ≡ pair = pair_is bytes (i - 1) i (omega arith) h in
    let n : length bytes - i ≡ (length bytes - 1) - (i - 1) = omega arith in
    let a : i - 1 + 1 ≡ i + 1 - 1 = omega arith in
    let m : (length bytes - 1) - (i - 1 + 1) ≡ length bytes - (i + 1) = omega arith in
    let range : range_with_len (i - 1) (length bytes - i) ≡ (i - 1) ∷ later =
    ap (range_with_len (i - 1)) n ∙ range_next (i - 1) (length bytes - 1) (omega arith)
    ∙ ap (λ (k : ℕ). (i - 1) ∷ range_with_len k ((length bytes - 1) - (i - 1 + 1))) a ∙ ap (λ (k : ℕ). (i - 1) ∷ range_with_len (i + 1 - 1) k) m in
    or_later found pair (is_some (find (is_marked bytes) later))
    ∙ ap (λ (b : Bool). found || (b || is_some (find (is_marked bytes) later))) (sym is)
    ∙ ap (λ (b : Bool). found || b) (sym (some_first (is_marked bytes) (i - 1) later))
    ∙ ap (λ (xs : List ℕ). found || is_some (find (is_marked bytes) xs)) (sym range)

below_more : (p : ℕ → Bool) (a m : ℕ) → is_some (find p (range_with_len a (suc m))) ≡ (is_some (find p (range_with_len a m)) || p (a + m))
below_more p a zero =
    let e : a ≡ a + 0 = omega arith in
    some_first p a [] ∙ or_none (p a) ∙ ap p e
  where
    or_none : (b : Bool) → (b || false) ≡ b
    or_none true = refl
    or_none false = refl
below_more p a (suc m) =
    let e : a + 1 + m ≡ a + suc m = omega arith in
    let rest : Bool = is_some (find p (range_with_len (a + 1) m)) in
    some_first p a (range_with_len (a + 1) (suc m)) ∙ ap (λ (b : Bool). p a || b) (below_more p (a + 1) m ∙ ap (λ (k : ℕ). rest || p k) e)
    ∙ sym (or_later (p a) rest (p (a + suc m))) ∙ ap (λ (b : Bool). b || p (a + suc m)) (sym (some_first p a (range_with_len (a + 1) m)))

-- the last place is marked where FF stands there
pub last_more : (bytes : List ℕ) → 0 < length bytes → has_mark_below bytes (length bytes) ≡ (has_mark_below bytes (length bytes - 1) || (slice_index bytes (length bytes - 1) == 255))
last_more bytes h =
    let m : ℕ = length bytes - 1 in
    let e : length bytes ≡ suc m = omega arith in
    let last : (m + 1 == length bytes) ≡ true = grind arith in
    ap (has_mark_below bytes) e ∙ below_more (is_marked bytes) 0 m
    ∙ ap (λ (k : ℕ). has_mark_below bytes m || is_marked bytes k) (let z : 0 + m ≡ m = omega arith in z)
    ∙ ap (λ (b : Bool). has_mark_below bytes m || ((slice_index bytes m == 255) && (b || nat_lt 143 (slice_index bytes (m + 1))))) last
    ∙ ap (λ (b : Bool). has_mark_below bytes m || b) (and_true (slice_index bytes m == 255))
  where
    and_true : (b : Bool) → (b && true) ≡ b
    and_true true = refl
    and_true false = refl

pub last_kept : (bytes : List ℕ) → has_mark_below bytes (length bytes - 1) ≡ true → has_mark_below bytes (length bytes) ≡ true
last_kept [] h = h
last_kept (byte ∷ rest) h = last_more (byte ∷ rest) (omega arith) ∙ ap (λ (b : Bool). b || (slice_index (byte ∷ rest) (length (byte ∷ rest) - 1) == 255)) h
