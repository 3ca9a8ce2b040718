-- Windows of lists of words.
use Rattle.std.proofs.Common.{◌≡◌, ◌<◌, ◌+◌, ◌-◌, ◌*◌, ◌/◌, ◌%◌, ◌==◌, ◌&&◌, ℕ, zero, suc, Bool, true, false, refl, sym, ap, ◌∙◌, arith, subst, inl, inr, if◌then◌else◌, List, get_or}
use Rattle.std.specs.Int.{bit_at}
use Rattle.std.proofs.lemmas.Bool.{cases_eq, eq-eqb, ne_eqb}
use Rattle.std.proofs.lemmas.Nat.Bits.{bit_at-zero}
use Rattle.std.proofs.Math.Nat.{mul-le-mul_right}
use Rattle.jx_tier1.specs.Places.{AreColumns, six_of, in_window}
use Rattle.jx_tier1.specs.Blocks.{bit_in, Draws, seen_if, Sees}
use Rattle.jx_tier1.proofs.BitLemmas.{bit_shl, bit_shr}

abbrev word_of : ℕ → List ℕ → ℕ → ℕ → ℕ
word_of wide words stripe group = get_or words (stripe * wide + group) 0

-- a bit by its stripe, group and place
bit_is : (wide : ℕ) (words : List ℕ) (column row stripe group i : ℕ) → (row + 3) / 4 ≡ stripe → (column + 7) / 8 ≡ group
    → 6 * ((column + 7) % 8) + (row + 3) % 4 ≡ i → bit_in wide words column row ≡ bit_at (word_of wide words stripe group) i
bit_is wide words column row stripe group i e f g =
    ap (λ (n : ℕ). bit_at (get_or words (n * wide + (column + 7) / 8) 0) (6 * ((column + 7) % 8) + (row + 3) % 4)) e
    ∙ (ap (λ (n : ℕ). bit_at (get_or words (stripe * wide + n) 0) (6 * ((column + 7) % 8) + (row + 3) % 4)) f
    ∙ ap (λ (n : ℕ). bit_at (get_or words (stripe * wide + group) 0) n) g)

-- the row below a word
last : (causal : Bool) (w i bit : ℕ) → bit ≡ bit_at w i → bit_at (if causal then 0 else w) i ≡ (if causal && true then 0 else bit)
last true w i bit e = bit_at-zero i
last false w i bit e = sym e

others : (causal : Bool) (bit : ℕ) → (if causal && false then 0 else bit) ≡ bit
others true bit = refl
others false bit = refl

-- six rows of a column of a word
pub six_shown : (causal : Bool) (wide : ℕ) (words : List ℕ) (s group c column row : ℕ) → (column + 7) / 8 ≡ group → (column + 7) % 8 ≡ c → row < 6
    → six_of (word_of wide words (s + 1) group) (word_of wide words s group) (if causal then 0 else word_of wide words (s + 2) group) c row
    ≡ seen_if causal row (bit_in wide words column (4 * s + row))
six_shown causal wide words s group c column zero e f l =
    let g : 6 * ((column + 7) % 8) + (4 * s + 0 + 3) % 4 ≡ 6 * c + 3 = omega arith in
    sym (others causal (bit_in wide words column (4 * s + 0)) ∙ bit_is wide words column (4 * s + 0) s group (6 * c + 3) (omega arith) e g)
six_shown causal wide words s group c column (suc row) e f l =
    elim (cases_eq row 4) [
      | inl p ↦
          (let d : suc row ≡ 5 = omega arith in
          let g : 6 * ((column + 7) % 8) + (4 * s + suc row + 3) % 4 ≡ 6 * c = omega arith in
          let b = bit_is wide words column (4 * s + suc row) (s + 2) group (6 * c) (omega arith) e g in
          ap (λ (z : Bool). if z then bit_at (if causal then 0 else word_of wide words (s + 2) group) (6 * c) else bit_at (word_of wide words (s + 1) group) (6 * c + row)) (eq-eqb row 4 p)
          ∙ (last causal (word_of wide words (s + 2) group) (6 * c) (bit_in wide words column (4 * s + suc row)) b
          ∙ sym (ap (λ (z : Bool). if causal && z then 0 else bit_in wide words column (4 * s + suc row)) (eq-eqb (suc row) 5 d))))
      | inr p ↦
          (let g : 6 * ((column + 7) % 8) + (4 * s + suc row + 3) % 4 ≡ 6 * c + row = omega arith in
          let b = bit_is wide words column (4 * s + suc row) (s + 1) group (6 * c + row) (omega arith) e g in
          ap (λ (z : Bool). if z then bit_at (if causal then 0 else word_of wide words (s + 2) group) (6 * c) else bit_at (word_of wide words (s + 1) group) (6 * c + row)) (ne_eqb row 4 p)
          ∙ (sym b
          ∙ sym (ap (λ (z : Bool). if causal && z then 0 else bit_in wide words column (4 * s + suc row)) (ne_eqb (suc row) 5 (λ q. p (omega arith)))
          ∙ others causal (bit_in wide words column (4 * s + suc row)))))
    ]

-- a window of words
pub window_shown : (causal : Bool) (wide : ℕ) (words : List ℕ) (s t left own right w column row : ℕ)
    → AreColumns (word_of wide words (s + 1) t) (word_of wide words s t) (if causal then 0 else word_of wide words (s + 2) t) left
    → AreColumns (word_of wide words (s + 1) (t + 1)) (word_of wide words s (t + 1)) (if causal then 0 else word_of wide words (s + 2) (t + 1)) own
    → AreColumns (word_of wide words (s + 1) (t + 2)) (word_of wide words s (t + 2)) (if causal then 0 else word_of wide words (s + 2) (t + 2)) right
    → bit_at w (6 * column + row) ≡ in_window left own right column row → column < 10 → row < 6
    → bit_at w (6 * column + row) ≡ seen_if causal row (bit_in wide words (8 * t + column) (4 * s + row))
window_shown causal wide words s t left own right w column row a b d e l m =
    e ∙ elim (cases_eq column 0) [
      | inl p ↦
          (let i : 48 + row ≡ 6 * 7 + 6 + row = omega arith in
          ap (λ (z : Bool). if z then bit_at left (48 + row) else if column == 9 then bit_at right (6 + row) else bit_at own (6 * column + row)) (eq-eqb column 0 p)
          ∙ (ap (λ (n : ℕ). bit_at left n) i
          ∙ (a.rows 7 row (omega arith) m ∙ six_shown causal wide words s t 7 (8 * t + column) row (omega arith) (omega arith) m)))
      | inr p ↦
          (ap (λ (z : Bool). if z then bit_at left (48 + row) else if column == 9 then bit_at right (6 + row) else bit_at own (6 * column + row)) (ne_eqb column 0 p)
          ∙ elim (cases_eq column 9) [
            | inl q ↦
                (let i : 6 + row ≡ 6 * 0 + 6 + row = omega arith in
                ap (λ (z : Bool). if z then bit_at right (6 + row) else bit_at own (6 * column + row)) (eq-eqb column 9 q)
                ∙ (ap (λ (n : ℕ). bit_at right n) i
                ∙ (d.rows 0 row (omega arith) m ∙ six_shown causal wide words s (t + 2) 0 (8 * t + column) row (omega arith) (omega arith) m)))
            | inr q ↦
                (let i : 6 * column + row ≡ 6 * (column - 1) + 6 + row = omega arith in
                ap (λ (z : Bool). if z then bit_at right (6 + row) else bit_at own (6 * column + row)) (ne_eqb column 9 q)
                ∙ (ap (λ (n : ℕ). bit_at own n) i
                ∙ (b.rows (column - 1) row (omega arith) m ∙ six_shown causal wide words s (t + 1) (column - 1) (8 * t + column) row (omega arith) (omega arith) m)))
          ])
    ]

-- what words show, their windows show
pub sees : (causal : Bool) (wide : ℕ) (F : ℕ → ℕ → ℕ) (words : List ℕ) (s t w : ℕ) → Draws wide F words → t + 2 < wide
    → ((column row : ℕ) → column < 10 → row < 6 → bit_at w (6 * column + row) ≡ seen_if causal row (bit_in wide words (8 * t + column) (4 * s + row)))
    → Sees causal F (8 * t) (4 * s) w
sees causal wide F words s t w d l h = record {
  at = λ column row p q.
      h column row p q ∙ ap (λ (n : ℕ). if causal && row == 5 then 0 else n) (d.at (8 * t + column) (4 * s + row) (omega arith));
}

-- columns of words that stand elsewhere by the name
pub columns_as : (causal : Bool) (words : List ℕ) (i j k a b d w : ℕ)
    → AreColumns (get_or words i 0) (get_or words j 0) (if causal then 0 else get_or words k 0) w → i ≡ a → j ≡ b → k ≡ d
    → AreColumns (get_or words a 0) (get_or words b 0) (if causal then 0 else get_or words d 0) w
columns_as causal words i j k a b d w h e f g =
    subst (λ (n : ℕ). AreColumns (get_or words a 0) (get_or words b 0) (if causal then 0 else get_or words n 0) w) g
    (subst (λ (n : ℕ). AreColumns (get_or words a 0) (get_or words n 0) (if causal then 0 else get_or words k 0) w) f
    (subst (λ (n : ℕ). AreColumns (get_or words n 0) (get_or words j 0) (if causal then 0 else get_or words k 0) w) e h))

-- a window whose places stand one bit higher
pub sees_higher : (causal : Bool) (F : ℕ → ℕ → ℕ) (x y w : ℕ) → Sees causal F x y w → Sees causal F x y (w * 2 % 18446744073709551616 / 2)
sees_higher causal F x y w s = record {
  at = λ column row l m.
      let i : ℕ = 6 * column + row in
      let e : i + 1 - 1 ≡ i = omega arith in
      bit_shr (w * 2 % 18446744073709551616) 1 i
      ∙ (bit_shl w 1 (i + 1) (omega arith) (omega arith) ∙ (ap (λ (n : ℕ). bit_at w n) e ∙ s.at column row l m));
}

-- there is room for a window behind a word
pub spot_room : (r s t h w : ℕ) → r ≡ (s + 1) * w + t + 1 → s < h → t + 2 < w → r + w + 1 < (h + 2) * w
spot_room r s t h w e l m =
    let n = mul-le-mul_right {m = s + 2} {n = h + 1} w (omega arith) in
    omega arith
