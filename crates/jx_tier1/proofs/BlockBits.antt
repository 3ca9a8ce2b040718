-- Lists of words of which one is another one.
use Rattle.std.proofs.Common.{◌≡◌, ◌≢◌, ◌<◌, ◌+◌, ◌*◌, ◌/◌, ◌%◌, ℕ, sym, ap, ◌∙◌, arith, inl, inr, length, List, get_or, set}
use Rattle.std.specs.Int.{bit_at}
use Rattle.std.proofs.lemmas.Bool.{cases_eq}
use Rattle.std.proofs.lemmas.List.{get_or-set_same, get_or-set_other}
use Rattle.jx_tier1.specs.Blocks.{bit_in, Draws, place_in}
use Rattle.jx_tier1.proofs.MarkLemmas.{same_place}

-- where a word stands in a list
pub record IsWordAt (wide s t at : ℕ) (words : List ℕ) : Type 0 where
  pub spot : at ≡ place_in wide s t
  pub group : t + 2 < wide
  pub size : at < length words

-- a column and a row of the word, both counted from 1 on
pub record IsOwn (s t column row : ℕ) : Type 0 where
  pub group : (column + 7) / 8 ≡ t + 1
  pub stripe : (row + 3) / 4 ≡ s + 1

spot_as : (wide s t : ℕ) → (s + 1) * wide + t + 1 ≡ (s + 1) * wide + (t + 1)
spot_as wide s t = omega arith

own_index : (wide s t at column row : ℕ) → at ≡ place_in wide s t → IsOwn s t column row → (row + 3) / 4 * wide + (column + 7) / 8 ≡ at
own_index wide s t at column row e o =
    ap (λ (n : ℕ). n * wide + (column + 7) / 8) o.stripe ∙ (ap (λ (n : ℕ). (s + 1) * wide + n) o.group ∙ (sym (spot_as wide s t) ∙ sym e))

other_index : (wide s t at column row : ℕ) → at ≡ place_in wide s t → t + 2 < wide → (column + 7) / 8 < wide → (IsOwn s t column row → ⊥)
    → (row + 3) / 4 * wide + (column + 7) / 8 ≢ at
other_index wide s t at column row e l m n =
    λ z. let p = same_place wide ((column + 7) / 8) ((row + 3) / 4) (t + 1) (s + 1) m (omega arith) (z ∙ (e ∙ spot_as wide s t)) in
    n (record { group = p.0; stripe = p.1 })

-- a bit of the word
pub bit_here : (wide s t at w column row : ℕ) (words : List ℕ) → IsWordAt wide s t at words → IsOwn s t column row
    → bit_in wide (set words at w) column row ≡ bit_at w (6 * ((column + 7) % 8) + (row + 3) % 4)
bit_here wide s t at w column row words a o =
    ap (λ (n : ℕ). bit_at n (6 * ((column + 7) % 8) + (row + 3) % 4))
    (ap (λ (n : ℕ). get_or (set words at w) n 0) (own_index wide s t at column row a.spot o) ∙ get_or-set_same words at w 0 a.size)

pub bit_there : (wide s t at column row : ℕ) (words : List ℕ) → IsWordAt wide s t at words → IsOwn s t column row
    → bit_in wide words column row ≡ bit_at (get_or words at 0) (6 * ((column + 7) % 8) + (row + 3) % 4)
bit_there wide s t at column row words a o =
    ap (λ (n : ℕ). bit_at (get_or words n 0) (6 * ((column + 7) % 8) + (row + 3) % 4)) (own_index wide s t at column row a.spot o)

-- a bit of another one
pub bit_elsewhere : (wide s t at w column row : ℕ) (words : List ℕ) → IsWordAt wide s t at words → (column + 7) / 8 < wide → (IsOwn s t column row → ⊥)
    → bit_in wide (set words at w) column row ≡ bit_in wide words column row
bit_elsewhere wide s t at w column row words a l n =
    ap (λ (z : ℕ). bit_at z (6 * ((column + 7) % 8) + (row + 3) % 4))
    (get_or-set_other words at ((row + 3) / 4 * wide + (column + 7) / 8) w 0 (other_index wide s t at column row a.spot a.group l n))

-- whether it is one of the word
pub own_or_not : (s t column row : ℕ) (A : Type 0) → (IsOwn s t column row → A) → ((IsOwn s t column row → ⊥) → A) → A
own_or_not s t column row A f g =
    elim (cases_eq ((column + 7) / 8) (t + 1)) [
      | inl p ↦ elim (cases_eq ((row + 3) / 4) (s + 1)) [
        | inl q ↦ f (record { group = p; stripe = q })
        | inr q ↦ g (λ o. q o.stripe)
      ]
      | inr p ↦ g (λ o. p o.group)
    ]

-- columns and rows of the word by its bits
own_column : (t column : ℕ) → (column + 7) / 8 ≡ t + 1 → 8 * t + ((column + 7) % 8 + 1) ≡ column
own_column t column e = omega arith

own_row : (s row : ℕ) → (row + 3) / 4 ≡ s + 1 → 4 * s + ((row + 3) % 4 + 1) ≡ row
own_row s row e = omega arith

-- the list shows another value where it shows the first one elsewhere and the word shows it here
pub draws_put : (wide s t at w : ℕ) (F H : ℕ → ℕ → ℕ) (words : List ℕ) → IsWordAt wide s t at words → Draws wide F words
    → ((column row : ℕ) → (IsOwn s t column row → ⊥) → H column row ≡ F column row)
    → ((c r : ℕ) → c < 8 → r < 4 → bit_at w (6 * c + r) ≡ H (8 * t + (c + 1)) (4 * s + (r + 1))) → Draws wide H (set words at w)
draws_put wide s t at w F H words a d others own = record {
  at = λ column row l.
      own_or_not s t column row (bit_in wide (set words at w) column row ≡ H column row)
      (λ o.
      bit_here wide s t at w column row words a o
      ∙ (own ((column + 7) % 8) ((row + 3) % 4) (omega arith) (omega arith)
      ∙ (ap (λ (n : ℕ). H n (4 * s + ((row + 3) % 4 + 1))) (own_column t column o.group) ∙ ap (λ (n : ℕ). H column n) (own_row s row o.stripe))))
      (λ n. bit_elsewhere wide s t at w column row words a l n ∙ (d.at column row l ∙ sym (others column row n)));
}

-- a place of the block by its column and row from 0 on
pub column_within : (x width : ℕ) → x < width → (x + 1 + 7) / 8 < (width + 7) / 8 + 2
column_within x width l = omega arith

pub own_place : (s t x y : ℕ) → x / 8 ≡ t → y / 4 ≡ s → IsOwn s t (x + 1) (y + 1)
own_place s t x y e f = record { group = omega arith; stripe = omega arith }

pub own_bit : (s t x y p : ℕ) → x ≡ 8 * t + p / 6 → y ≡ 4 * s + p % 6 → p < 48 → p % 6 < 4 → 6 * ((x + 1 + 7) % 8) + (y + 1 + 3) % 4 ≡ p
own_bit s t x y p e f l m = omega arith
