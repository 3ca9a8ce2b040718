-- One direction: a span that is scaled by two steps one after another, and a band of a span that was scaled before.
use Rattle.std.proofs.Common.{◌≡◌, ℕ, ◌+◌, ◌-◌, ◌*◌, ◌^◌, ◌≤◌, ◌<◌, ◌⊎◌, inl, inr, ◌∙◌, ap, sym, refl, arith}
use Rattle.std.proofs.Math.Nat.{le_antisymm, mul_assoc, mul_comm, mul-sub, one-le-mul, zero-mul}
use Rattle.std.proofs.lemmas.Nat.{pow-add, pow_pos}
use Rattle.jx_base.specs.declared.names.Span.{Span}
use Rattle.jx_base.specs.Numbers.{ceil_of}
use Rattle.jx_base.specs.Places.{span_of}
use Rattle.jx_base.proofs.Ceilings.{ceil_reaches, ceil_least, ceil_from}
use Rattle.jx_geom.specs.Spans.{scaled, band_span}

turned : (n a b : ℕ) → n * b * a ≡ n * (a * b)
turned n a b = mul_assoc n b a ∙ ap (λ k. n * k) (mul_comm b a)

-- a quotient rounded up of a quotient rounded up
pub ceil_twice : (x a b : ℕ) → 0 < a → 0 < b → ceil_of (ceil_of x a) b ≡ ceil_of x (a * b)
ceil_twice x a b ha hb =
    let hc : 0 < a * b = one-le-mul ha hb in
    let n : ℕ = ceil_of x (a * b) in
    let m : ℕ = ceil_of (ceil_of x a) b in
    let reach : x ≤ n * (a * b) = ceil_reaches x (a * b) hc in
    let up : x ≤ n * b * a = omega (arith, turned n a b) in
    let first : m ≤ n = ceil_least (ceil_of x a) b n hb (ceil_least x a (n * b) ha up) in
    let inner : ceil_of x a ≤ m * b = ceil_reaches (ceil_of x a) b hb in
    let outer : x ≤ m * b * a = ceil_from x a (m * b) ha inner in
    let second : n ≤ m = ceil_least x (a * b) m hc (omega (arith, turned m a b)) in
    le_antisymm first second

times_less : (c m k : ℕ) → (c - m) * k ≡ c * k - m * k
times_less c m k = mul_comm (c - m) k ∙ mul-sub k c m ∙ ap (λ (n : ℕ). n - k * m) (mul_comm k c) ∙ ap (λ (n : ℕ). c * k - n) (mul_comm k m)

times_more : (n m k : ℕ) → (n + m) * k ≡ n * k + m * k
times_more n m k = grind arith

-- multiples that are taken off
pub ceil_less : (y m k : ℕ) → 0 < k → ceil_of (y - m * k) k ≡ ceil_of y k - m
ceil_less y m k h =
    let c : ℕ = ceil_of y k in
    let n : ℕ = ceil_of (y - m * k) k in
    let reach : y ≤ c * k = ceil_reaches y k h in
    let first : n ≤ c - m = ceil_least (y - m * k) k (c - m) h (omega (arith, times_less c m k)) in
    let under : y - m * k ≤ n * k = ceil_reaches (y - m * k) k h in
    let more : c ≤ n + m = ceil_least y k (n + m) h (omega (arith, times_more n m k)) in
    le_antisymm first (omega arith)

pub zero_times : (n : ℕ) → 0 * n ≡ 0
zero_times n = zero-mul n

-- half a step of a level, where the level is there, or the band is the low one
half_moved : (d level off : ℕ) → (off ≡ 0) ⊎ (1 ≤ level) → off * 2 ^ (level - 1) * 2 ^ d ≡ off * 2 ^ (level + d - 1)
half_moved d level off (inl none) = rw none (ap (λ (n : ℕ). n * 2 ^ d) (zero_times (2 ^ (level - 1))) ∙ zero_times (2 ^ d) ∙ sym (zero_times (2 ^ (level + d - 1))))
half_moved d level off (inr some) =
    let whole : level - 1 + d ≡ level + d - 1 = omega arith in
    mul_assoc off (2 ^ (level - 1)) (2 ^ d) ∙ ap (λ (n : ℕ). off * n) (sym (pow-add 2 (level - 1) d)) ∙ ap (λ (n : ℕ). off * 2 ^ n) whole

pub band_end : (y d level off : ℕ) → (off ≡ 0) ⊎ (1 ≤ level) → ceil_of (ceil_of y (2 ^ d) - off * 2 ^ (level - 1)) (2 ^ level) ≡ ceil_of (y - off * 2 ^ (level + d - 1)) (2 ^ (level + d))
band_end y d level off one =
    let m : ℕ = off * 2 ^ (level - 1) in
    let order : d + level ≡ level + d = omega arith in
    ap (λ (n : ℕ). ceil_of n (2 ^ level)) (sym (ceil_less y m (2 ^ d) (pow_pos d)))
    ∙ ceil_twice (y - m * 2 ^ d) (2 ^ d) (2 ^ level) (pow_pos d) (pow_pos level)
    ∙ ap (λ (n : ℕ). ceil_of (y - m * 2 ^ d) n) (sym (pow-add 2 d level))
    ∙ ap (λ (n : ℕ). ceil_of (y - m * 2 ^ d) (2 ^ n)) order
    ∙ ap (λ (n : ℕ). ceil_of (y - n) (2 ^ (level + d))) (half_moved d level off one)

spans_same : (a b c d : ℕ) → a ≡ c → b ≡ d → span_of a b ≡ span_of c d
spans_same a b c d e h = rw (e, h) refl

pub scaled_twice : (s : Span) (a b : ℕ) → 0 < a → 0 < b → scaled (scaled s a) b ≡ scaled s (a * b)
unfolding scaled
scaled_twice s a b ha hb = spans_same _ _ _ _ (ceil_twice s.low a b ha hb) (ceil_twice s.high a b ha hb)

pub band_scaled : (s : Span) (d level off : ℕ) → (off ≡ 0) ⊎ (1 ≤ level) → band_span (scaled s (2 ^ d)) level off ≡ band_span s (level + d) off
unfolding scaled band_span
band_scaled s d level off one = spans_same _ _ _ _ (band_end s.low d level off one) (band_end s.high d level off one)
