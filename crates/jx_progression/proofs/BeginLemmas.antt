-- Where the precinct rows and columns begin: the standard's condition on a place of the reference grid holds exactly where
-- one stands.
use Rattle.std.proofs.Common.{◌≡◌, ◌≢◌, ℕ, zero, suc, ◌+◌, ◌*◌, ◌/◌, ◌%◌, ◌^◌, ◌==◌, ◌≤◌, ◌<◌, true, ◌&&◌, ◌||◌, not, inl, inr, ◌⊎◌, max, refl, arith, ap, sym, subst, ◌∙◌}
use Rattle.std.proofs.Math.Nat.{mul-div_cancel, mul-mod_left, one-le-mul}
use Rattle.std.proofs.lemmas.Nat.{pow_pos, pow-add, mod-pow-add, le-div, div-add-mod'}
use Rattle.std.proofs.lemmas.Bool.Decides.{nat_tests}
use Rattle.std.proofs.lemmas.Bool.{cases_lt, cases_eq}
use Rattle.jx_base.specs.declared.names.Span.{Span}
use Rattle.jx_base.specs.Numbers.{ceil_of}
use Rattle.jx_base.specs.Places.{InSpan}
use Rattle.jx_base.proofs.Ceilings.{ceil_from, below_ceil}
use Rattle.jx_geom.specs.Spans.{scaled, cells, reference_of}
use Rattle.jx_geom.proofs.SpanLemmas.{scaled_to, cells_to_place, cells_low, twice_scaled_times, reference_latest}
use Rattle.jx_progression.specs.Loops.{begins_at, cell_of}

-- ---- multiples
ceil_exact : (n b : ℕ) → 0 < b → ceil_of (n * b) b ≡ n
unfolding ceil_of
ceil_exact n b h =
    let d : n * b / b ≡ n = mul-div_cancel n h in
    let m : n * b % b ≡ 0 = mul-mod_left n b in
    rw (d, m) (omega arith)

abbrev stride : ℕ → ℕ → ℕ → ℕ
stride first up pp = 2 ^ pp * (2 ^ up * first)

stride_is : (first up pp : ℕ) → first * 2 ^ (pp + up) ≡ stride first up pp
stride_is first up pp = ap (λ (n : ℕ). first * n) (pow-add 2 pp up) ∙ regroup first (2 ^ pp) (2 ^ up)
  where
    regroup : (a b c : ℕ) → a * (b * c) ≡ b * (c * a)
    regroup a b c = grind arith

cell_times : (first up pp n : ℕ) → 0 < first → cell_of first up pp (n * stride first up pp) ≡ n
unfolding cell_of
cell_times first up pp n h =
    let a : n * stride first up pp ≡ n * 2 ^ pp * 2 ^ up * first = regroup n (2 ^ pp) (2 ^ up) first in
    let b : ceil_of (n * stride first up pp) first ≡ n * 2 ^ pp * 2 ^ up = ap (λ (m : ℕ). ceil_of m first) a ∙ ceil_exact (n * 2 ^ pp * 2 ^ up) first h in
    let c : ceil_of (ceil_of (n * stride first up pp) first) (2 ^ up) ≡ n * 2 ^ pp = ap (λ (m : ℕ). ceil_of m (2 ^ up)) b ∙ ceil_exact (n * 2 ^ pp) (2 ^ up) (pow_pos up) in
    ap (λ (m : ℕ). m / 2 ^ pp) c ∙ mul-div_cancel n (pow_pos pp)
  where
    regroup : (n a b c : ℕ) → n * (a * (b * c)) ≡ n * a * b * c
    regroup n a b c = grind arith

cell_start : (s : Span) (first up pp : ℕ) → cell_of first up pp s.low ≡ (scaled (scaled s first) (2 ^ up)).low / 2 ^ pp
unfolding cell_of scaled
cell_start s first up pp = refl

-- a number and a power are divided together
power_mod : (low up pp : ℕ) → low * 2 ^ up % 2 ^ (pp + up) ≡ (low % 2 ^ pp) * 2 ^ up
power_mod low up pp =
    let d : low * 2 ^ up / 2 ^ up ≡ low = mul-div_cancel low (pow_pos up) in
    let m : low * 2 ^ up % 2 ^ up ≡ 0 = mul-mod_left low (2 ^ up) in
    mod-pow-add (low * 2 ^ up) pp up ∙ ap (λ (n : ℕ). (n % 2 ^ pp) * 2 ^ up + low * 2 ^ up % 2 ^ up) d ∙ (let e : (low % 2 ^ pp) * 2 ^ up + low * 2 ^ up % 2 ^ up ≡ (low % 2 ^ pp) * 2 ^ up = omega arith in e)

-- ---- what a place says
abbrev Begins : (start low step up pp x : ℕ) → Type 0
Begins start low step up pp x = (x % (step * 2 ^ (pp + up)) ≡ 0) ⊎ ((x ≡ start) × (0 < low % 2 ^ pp))

begins_to : (start low step up pp x : ℕ) → begins_at start low step up pp x ≡ true → Begins start low step up pp x
unfolding begins_at
begins_to start low step up pp x h = by (x % (step * 2 ^ (pp + up))) (low * 2 ^ up % 2 ^ (pp + up)) (power_mod low up pp) refl refl
  where
    by : (m n : ℕ) → n ≡ (low % 2 ^ pp) * 2 ^ up → x % (step * 2 ^ (pp + up)) ≡ m → low * 2 ^ up % 2 ^ (pp + up) ≡ n → Begins start low step up pp x
    by m n e em en = elim (cases_eq m 0) [
      | inl none ↦ inl (em ∙ none)
      | inr some ↦
          let r : ((x % (step * 2 ^ (pp + up)) == 0) || ((x == start) && not (low * 2 ^ up % 2 ^ (pp + up) == 0))) ≡ true = h in
          let both : (x ≡ start) × (n ≢ 0) = split m n some (subst (λ (k : ℕ). ((m == 0) || ((x == start) && not (k == 0))) ≡ true) en (subst (λ (k : ℕ). ((k == 0) || ((x == start) && not (low * 2 ^ up % 2 ^ (pp + up) == 0))) ≡ true) em r)) in
          inr (both.0, positive (low % 2 ^ pp) (2 ^ up) (λ z. both.1 (e ∙ z)))
    ]
      where
        split : (m n : ℕ) → m ≢ 0 → ((m == 0) || ((x == start) && not (n == 0))) ≡ true → (x ≡ start) × (n ≢ 0)
        split m n some r = grind (arith, nat_tests)

        positive : (a b : ℕ) → (a * b ≡ 0 → ⊥) → 0 < a
        positive zero b none = absurd (none (let z : 0 * b ≡ 0 = omega arith in z))
        positive (suc a) b none = omega arith

begins_from : (start low step up pp x : ℕ) → Begins start low step up pp x → begins_at start low step up pp x ≡ true
unfolding begins_at
begins_from start low step up pp x (inl none) = ap (λ (k : ℕ). (k == 0) || ((x == start) && not (low * 2 ^ up % 2 ^ (pp + up) == 0))) none
begins_from start low step up pp x (inr both) =
    let some : 0 < (low % 2 ^ pp) * 2 ^ up = one-le-mul both.1 (pow_pos up) in
    let e : low * 2 ^ up % 2 ^ (pp + up) ≡ (low % 2 ^ pp) * 2 ^ up = power_mod low up pp in
    join (x % (step * 2 ^ (pp + up))) (low * 2 ^ up % 2 ^ (pp + up)) both.0 (omega arith)
  where
    join : (m n : ℕ) → x ≡ start → 0 < n → ((m == 0) || ((x == start) && not (n == 0))) ≡ true
    join m n same some = grind (arith, nat_tests)

-- ---- in one direction
module _ (s : Span) (first up pp : ℕ) (some : 0 < first) where
  abbrev low : ℕ
  low = (scaled (scaled s first) (2 ^ up)).low

  abbrev point : ℕ → ℕ
  point u = reference_of s.low low (2 ^ pp) (2 ^ up * first) u

  latest : (u : ℕ) → InSpan (cells (scaled (scaled s first) (2 ^ up)) (2 ^ pp)) u → point u ≡ max s.low (u * stride first up pp)
  latest u i = reference_latest s first (2 ^ up) (2 ^ pp) u some (pow_pos up) (pow_pos pp) i

  -- the span has a place where it has a cell
  has_place : (u : ℕ) → InSpan (cells (scaled (scaled s first) (2 ^ up)) (2 ^ pp)) u → s.low < s.high
  has_place u i =
      let place = cells_to_place (scaled (scaled s first) (2 ^ up)) (2 ^ pp) u (pow_pos pp) i in
      let n = max low (u * 2 ^ pp) in
      let j = scaled_to s first (n * 2 ^ up) some (scaled_to (scaled s first) (2 ^ up) n (pow_pos up) place.0) in
      let from : s.low ≤ n * 2 ^ up * first = j.from in
      let below : n * 2 ^ up * first < s.high = j.below in
      omega arith

  -- a cell that begins before the span's first place stands there
  early : (n : ℕ) → n < low → n * 2 ^ up * first < s.low
  unfolding scaled
  early n lt = below_ceil s.low first (n * 2 ^ up) some (below_ceil (ceil_of s.low first) (2 ^ up) n (pow_pos up) lt)

  late : (n : ℕ) → low ≤ n → s.low ≤ n * 2 ^ up * first
  unfolding scaled
  late n le = ceil_from s.low first (n * 2 ^ up) some (ceil_from (ceil_of s.low first) (2 ^ up) n (pow_pos up) le)

  regroup : (u : ℕ) → u * stride first up pp ≡ u * 2 ^ pp * 2 ^ up * first
  regroup u = by u (2 ^ pp) (2 ^ up) first
    where
      by : (n a b c : ℕ) → n * (a * (b * c)) ≡ n * a * b * c
      by n a b c = grind arith

  pub record Stands (u x : ℕ) : Type 0 where
    pub inside : InSpan s x
    pub begins : begins_at s.low low first up pp x ≡ true
    pub cell : cell_of first up pp x ≡ u

  pub stands : (u : ℕ) → InSpan (cells (scaled (scaled s first) (2 ^ up)) (2 ^ pp)) u → Stands u (point u)
  stands u i = elim (cases_lt (u * 2 ^ pp) low) [
    | inl lt ↦
        let from : low / 2 ^ pp ≤ u = rw (cells_low (scaled (scaled s first) (2 ^ up)) (2 ^ pp)) at i.from in
        let back : u * 2 ^ pp ≤ low = omega arith in
        let upper : u ≤ low / 2 ^ pp = le-div u low (2 ^ pp) (pow_pos pp) back in
        let same : u ≡ low / 2 ^ pp = omega arith in
        let product : u * 2 ^ pp ≡ low / 2 ^ pp * 2 ^ pp = ap (λ (n : ℕ). n * 2 ^ pp) same in
        let whole : low / 2 ^ pp * 2 ^ pp + low % 2 ^ pp ≡ low = div-add-mod' low (2 ^ pp) in
        let left : 0 < low % 2 ^ pp = omega arith in
        let before : u * 2 ^ pp * 2 ^ up * first < s.low = early (u * 2 ^ pp) lt in
        let group : u * stride first up pp ≡ u * 2 ^ pp * 2 ^ up * first = regroup u in
        let e : point u ≡ max s.low (u * stride first up pp) = latest u i in
        let is : point u ≡ s.low = omega arith in
        let high : s.low < s.high = has_place u i in
        record {
          inside = record { from = omega arith; below = omega arith };
          begins = begins_from s.low low first up pp (point u) (inr (is, left));
          cell = ap (cell_of first up pp) is ∙ cell_start s first up pp ∙ sym same;
        }
    | inr ge ↦
        let after : s.low ≤ u * 2 ^ pp * 2 ^ up * first = late (u * 2 ^ pp) ge in
        let group : u * stride first up pp ≡ u * 2 ^ pp * 2 ^ up * first = regroup u in
        let e : point u ≡ max s.low (u * stride first up pp) = latest u i in
        let is : point u ≡ u * stride first up pp = omega arith in
        let high : u * 2 ^ pp * 2 ^ up * first < s.high = twice_scaled_times s first (2 ^ up) (2 ^ pp) u some (pow_pos up) (pow_pos pp) i in
        record {
          inside = record { from = omega arith; below = omega arith };
          begins = begins_from s.low low first up pp (point u) (inl (ap (λ (n : ℕ). n % (first * 2 ^ (pp + up))) (is ∙ ap (λ (n : ℕ). u * n) (sym (stride_is first up pp))) ∙ mul-mod_left u (first * 2 ^ (pp + up))));
          cell = ap (cell_of first up pp) is ∙ cell_times first up pp u some;
        }
  ]

  pub stands_back : (x : ℕ) → s.low ≤ x → begins_at s.low low first up pp x ≡ true → InSpan (cells (scaled (scaled s first) (2 ^ up)) (2 ^ pp)) (cell_of first up pp x) → point (cell_of first up pp x) ≡ x
  stands_back x from h i = elim (begins_to s.low low first up pp x h) [
    | inl none ↦
        let n = x / (first * 2 ^ (pp + up)) in
        let whole : x / (first * 2 ^ (pp + up)) * (first * 2 ^ (pp + up)) + x % (first * 2 ^ (pp + up)) ≡ x = div-add-mod' x (first * 2 ^ (pp + up)) in
        let times : x / (first * 2 ^ (pp + up)) * (first * 2 ^ (pp + up)) ≡ x = omega arith in
        let is : x ≡ n * stride first up pp = sym times ∙ ap (λ (m : ℕ). n * m) (stride_is first up pp) in
        let cell : cell_of first up pp x ≡ n = ap (cell_of first up pp) is ∙ cell_times first up pp n some in
        let e : point (cell_of first up pp x) ≡ max s.low (cell_of first up pp x * stride first up pp) = latest (cell_of first up pp x) i in
        let back : cell_of first up pp x * stride first up pp ≡ x = ap (λ (m : ℕ). m * stride first up pp) cell ∙ sym is in
        omega arith
    | inr both ↦
        let cell : cell_of first up pp x ≡ low / 2 ^ pp = ap (cell_of first up pp) both.0 ∙ cell_start s first up pp in
        let whole : low / 2 ^ pp * 2 ^ pp + low % 2 ^ pp ≡ low = div-add-mod' low (2 ^ pp) in
        let product : cell_of first up pp x * 2 ^ pp ≡ low / 2 ^ pp * 2 ^ pp = ap (λ (m : ℕ). m * 2 ^ pp) cell in
        let left : 0 < low % 2 ^ pp = both.1 in
        let before : cell_of first up pp x * 2 ^ pp * 2 ^ up * first < s.low = early (cell_of first up pp x * 2 ^ pp) (omega arith) in
        let group : cell_of first up pp x * stride first up pp ≡ cell_of first up pp x * 2 ^ pp * 2 ^ up * first = regroup (cell_of first up pp x) in
        let e : point (cell_of first up pp x) ≡ max s.low (cell_of first up pp x * stride first up pp) = latest (cell_of first up pp x) i in
        let same : x ≡ s.low = both.0 in
        omega arith
  ]
