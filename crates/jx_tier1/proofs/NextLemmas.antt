-- What a place that becomes significant changes for those behind it.
use Rattle.std.proofs.Common.{◌≡◌, ◌≢◌, ◌<◌, ◌≤◌, ◌+◌, ℕ, max, refl, sym, ap, ◌∙◌, arith, inl, inr}
use Rattle.std.specs.Int.{bit_at}
use Rattle.std.proofs.lemmas.Bool.{cases_eq}
use Rattle.std.proofs.lemmas.Nat.Bits.{bit_at-lt}
use Rattle.jx_tier1.specs.Places.{of_three, of_nine, of_eight}

first_of_three : (a b c : ℕ) → a ≤ max (max a b) c
first_of_three a b c = omega arith

second_of_three : (a b c : ℕ) → b ≤ max (max a b) c
second_of_three a b c = omega arith

third_of_three : (a b c : ℕ) → c ≤ max (max a b) c
third_of_three a b c = omega arith

three_le : (a b c : ℕ) → a ≤ 1 → b ≤ 1 → c ≤ 1 → max (max a b) c ≤ 1
three_le a b c p q r = omega arith

three_less : (w i : ℕ) → of_three w i ≤ 1
three_less w i =
    let a = bit_at-lt w i in
    let b = bit_at-lt w (i + 1) in
    let c = bit_at-lt w (i + 2) in
    three_le (bit_at w i) (bit_at w (i + 1)) (bit_at w (i + 2)) (omega arith) (omega arith) (omega arith)

pub nine_less : (w i : ℕ) → of_nine w i ≤ 1
nine_less w i = three_le (of_three w i) (of_three w (i + 6)) (of_three w (i + 12)) (three_less w i) (three_less w (i + 6)) (three_less w (i + 12))

four_le : (a b c d : ℕ) → a ≤ 1 → b ≤ 1 → c ≤ 1 → d ≤ 1 → max (max a b) (max c d) ≤ 1
four_le a b c d p q r s = omega arith

pub eight_less : (w i : ℕ) → of_eight w i ≤ 1
eight_less w i =
    let a = bit_at-lt w (i + 6) in
    let b = bit_at-lt w (i + 8) in
    four_le (of_three w i) (of_three w (i + 12)) (bit_at w (i + 6)) (bit_at w (i + 8)) (three_less w i) (three_less w (i + 12)) (omega arith) (omega arith)

exactly_one : (n m : ℕ) → n ≤ 1 → 1 ≤ m → m ≤ n → n ≡ 1
exactly_one n m a b c = omega arith

through : (a b c : ℕ) → a ≤ b → b ≤ c → a ≤ c
through a b c p q = omega arith

one_le : (n : ℕ) → n ≡ 1 → 1 ≤ n
one_le n e = omega arith

-- one of the nine is 1
pub by_first : (w i : ℕ) → bit_at w i ≡ 1 → of_nine w i ≡ 1
by_first w i e =
    exactly_one (of_nine w i) (bit_at w i) (nine_less w i) (one_le (bit_at w i) e)
    (through (bit_at w i) (of_three w i) (of_nine w i) (first_of_three (bit_at w i) (bit_at w (i + 1)) (bit_at w (i + 2)))
    (first_of_three (of_three w i) (of_three w (i + 6)) (of_three w (i + 12))))

pub by_second : (w i : ℕ) → bit_at w (i + 1) ≡ 1 → of_nine w i ≡ 1
by_second w i e =
    exactly_one (of_nine w i) (bit_at w (i + 1)) (nine_less w i) (one_le (bit_at w (i + 1)) e)
    (through (bit_at w (i + 1)) (of_three w i) (of_nine w i) (second_of_three (bit_at w i) (bit_at w (i + 1)) (bit_at w (i + 2)))
    (first_of_three (of_three w i) (of_three w (i + 6)) (of_three w (i + 12))))

pub by_third : (w i : ℕ) → bit_at w (i + 2) ≡ 1 → of_nine w i ≡ 1
by_third w i e =
    exactly_one (of_nine w i) (bit_at w (i + 2)) (nine_less w i) (one_le (bit_at w (i + 2)) e)
    (through (bit_at w (i + 2)) (of_three w i) (of_nine w i) (third_of_three (bit_at w i) (bit_at w (i + 1)) (bit_at w (i + 2)))
    (first_of_three (of_three w i) (of_three w (i + 6)) (of_three w (i + 12))))

pub by_fourth : (w i : ℕ) → bit_at w (i + 6) ≡ 1 → of_nine w i ≡ 1
by_fourth w i e =
    exactly_one (of_nine w i) (bit_at w (i + 6)) (nine_less w i) (one_le (bit_at w (i + 6)) e)
    (through (bit_at w (i + 6)) (of_three w (i + 6)) (of_nine w i) (first_of_three (bit_at w (i + 6)) (bit_at w (i + 6 + 1)) (bit_at w (i + 6 + 2)))
    (second_of_three (of_three w i) (of_three w (i + 6)) (of_three w (i + 12))))

absorbed : (n f : ℕ) → n ≤ 1 → f ≡ 1 → 1 ≡ max n f
absorbed n f a e = omega arith

kept : (n f : ℕ) → f ≡ 0 → n ≡ max n f
kept n f e = omega arith

-- a window with a bit more, and the places that follow it
pub record IsRaised (w v f p : ℕ) : Type 0 where
  pub there : bit_at v (p + 7) ≡ 1
  pub others : (i : ℕ) → i ≢ p + 7 → bit_at v i ≡ bit_at w i
  pub below : bit_at f (p + 1) ≡ 1
  pub first : bit_at f (p + 5) ≡ 1
  pub second : bit_at f (p + 6) ≡ 1
  pub third : bit_at f (p + 7) ≡ 1
  pub rest : (i : ℕ) → i ≢ p + 1 → i ≢ p + 5 → i ≢ p + 6 → i ≢ p + 7 → bit_at f i ≡ 0

one_more : (w v f p i j : ℕ) → of_nine v i ≡ 1 → bit_at f j ≡ 1 → i ≡ j → of_nine v i ≡ max (of_nine w i) (bit_at f i)
one_more w v f p i j a b e =
    let c : bit_at f i ≡ 1 = ap (λ (n : ℕ). bit_at f n) e ∙ b in
    a ∙ absorbed (of_nine w i) (bit_at f i) (nine_less w i) c

at_index : (v i j : ℕ) → bit_at v j ≡ 1 → i ≡ j → bit_at v i ≡ 1
at_index v i j e f = ap (λ (n : ℕ). bit_at v n) f ∙ e

pub same_nine : (w v i p : ℕ) → ((j : ℕ) → j ≢ p + 7 → bit_at v j ≡ bit_at w j) → p < i → i ≢ p + 1 → i ≢ p + 5 → i ≢ p + 6 → i ≢ p + 7 → of_nine v i ≡ of_nine w i
same_nine w v i p h l a b c d =
    rw (
      h i d,
      h (i + 1) (λ z. c (omega arith)),
      h (i + 2) (λ z. b (omega arith)),
      h (i + 6) (λ z. a (omega arith)),
      h (i + 6 + 1) (λ z. absurd (omega arith)),
      h (i + 6 + 2) (λ z. absurd (omega arith)),
      h (i + 12) (λ z. absurd (omega arith)),
      h (i + 12 + 1) (λ z. absurd (omega arith)),
      h (i + 12 + 2) (λ z. absurd (omega arith)),
    )
    refl

pub nine_raised : (w v f p i : ℕ) → IsRaised w v f p → p < i → of_nine v i ≡ max (of_nine w i) (bit_at f i)
nine_raised w v f p i r l =
    elim (cases_eq i (p + 1)) [
      | inl e ↦ one_more w v f p i (p + 1) (by_fourth v i (at_index v (i + 6) (p + 7) r.there (omega arith))) r.below e
      | inr a ↦ elim (cases_eq i (p + 5)) [
        | inl e ↦ one_more w v f p i (p + 5) (by_third v i (at_index v (i + 2) (p + 7) r.there (omega arith))) r.first e
        | inr b ↦ elim (cases_eq i (p + 6)) [
          | inl e ↦ one_more w v f p i (p + 6) (by_second v i (at_index v (i + 1) (p + 7) r.there (omega arith))) r.second e
          | inr c ↦ elim (cases_eq i (p + 7)) [
            | inl e ↦ one_more w v f p i (p + 7) (by_first v i (at_index v i (p + 7) r.there e)) r.third e
            | inr d ↦ same_nine w v i p r.others l a b c d ∙ kept (of_nine w i) (bit_at f i) (r.rest i a b c d)
          ]
        ]
      ]
    ]

no_more : (a n : ℕ) → a ≤ n → n ≡ 0 → a ≡ 0
no_more a n l e = omega arith

all_none : (a b c d : ℕ) → a ≡ 0 → b ≡ 0 → c ≡ 0 → d ≡ 0 → max (max a b) (max c d) ≡ 0
all_none a b c d e f g h = omega arith

-- of eight no more than of nine
pub eight_none : (w i : ℕ) → of_nine w i ≡ 0 → of_eight w i ≡ 0
eight_none w i e =
    let j : i + 6 + 2 ≡ i + 8 = omega arith in
    let a = first_of_three (of_three w i) (of_three w (i + 6)) (of_three w (i + 12)) in
    let b = second_of_three (of_three w i) (of_three w (i + 6)) (of_three w (i + 12)) in
    let c = third_of_three (of_three w i) (of_three w (i + 6)) (of_three w (i + 12)) in
    let d = first_of_three (bit_at w (i + 6)) (bit_at w (i + 6 + 1)) (bit_at w (i + 6 + 2)) in
    let f = third_of_three (bit_at w (i + 6)) (bit_at w (i + 6 + 1)) (bit_at w (i + 6 + 2)) in
    let g = ap (λ (n : ℕ). bit_at w n) j in
    all_none (of_three w i) (of_three w (i + 12)) (bit_at w (i + 6)) (bit_at w (i + 8))
    (no_more (of_three w i) (of_nine w i) a e) (no_more (of_three w (i + 12)) (of_nine w i) c e)
    (no_more (bit_at w (i + 6)) (of_three w (i + 6)) d (no_more (of_three w (i + 6)) (of_nine w i) b e))
    (sym g ∙ no_more (bit_at w (i + 6 + 2)) (of_three w (i + 6)) f (no_more (of_three w (i + 6)) (of_nine w i) b e))
