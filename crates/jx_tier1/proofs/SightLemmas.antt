-- What a window shows of a place's neighbours.
use Rattle.std.proofs.Common.{◌≡◌, ◌<◌, ◌≤◌, ◌+◌, ◌*◌, ◌/◌, ◌%◌, ◌==◌, ◌&&◌, ◌||◌, ℕ, Bool, true, false, not, refl, sym, ap, ◌∙◌, arith, inl, inr, if◌then◌else◌}
use Rattle.std.specs.Int.{bit_at}
use Rattle.std.proofs.lemmas.Bool.{cases_eq, eq-eqb, eqb-true, ne_eqb, le-ltb, lt-ltb, true≢false}
use Rattle.std.proofs.lemmas.Nat.Bits.{bit_at-lt}
use Rattle.jx_base.specs.declared.names.Band.{Band}
use Rattle.jx_base.specs.declared.names.Band.TheVariants.{LL, HL, LH, HH}
use Rattle.jx_tier1_specs.specs.declared.question.Plane.{Plane}
use Rattle.jx_tier1_specs.specs.Cells.{Cells}
use Rattle.jx_tier1_specs.specs.Near.{one_at, sides_of, upright_of, diagonals_of, has_near}
use Rattle.jx_tier1_specs.specs.Labels.{significance_row}
use Rattle.jx_tier1_specs.specs.Pass.{label_at}
use Rattle.jx_tier1.specs.Blocks.{seen_if, Sees}
use Rattle.jx_tier1.specs.Contexts.{first_label}
use Rattle.jx_tier1.specs.Marks.{mark}
use Rattle.jx_tier1.specs.Places.{of_nine, of_eight, HasNine}
use Rattle.jx_tier1.proofs.BitLemmas.{all_below, below_all}
use Rattle.jx_tier1.proofs.WindowLemmas.{seen, hidden, one_le_one}

-- a row that is hidden, or isn't
pub shown : (causal : Bool) (row n : ℕ) → (causal && row == 5) ≡ false → seen_if causal row n ≡ n
shown causal row n e = ap (λ (b : Bool). if b then 0 else n) e

last_hidden : (y r e : ℕ) → y % 4 ≡ 0 → r < 4 → e < 3 → r + e ≡ 5 → (true && (y + r) % 4 == 3 && y + r + e == y + r + 2) ≡ true
last_hidden y r e f l m p =
    let a : (y + r) % 4 ≡ 3 = omega arith in
    let b : y + r + e ≡ y + r + 2 = omega arith in
    rw (eq-eqb ((y + r) % 4) 3 a, eq-eqb (y + r + e) (y + r + 2) b) refl

none_hidden : (causal : Bool) (y r e : ℕ) → y % 4 ≡ 0 → r < 4 → e < 3 → (r + e ≡ 5 → ⊥) → (causal && (y + r) % 4 == 3 && y + r + e == y + r + 2) ≡ false
none_hidden false y r e f l m n = refl
none_hidden true y r e f l m n =
    elim (cases_eq ((y + r) % 4) 3) [
      | inl p ↦ rw (eq-eqb ((y + r) % 4) 3 p, ne_eqb (y + r + e) (y + r + 2) (λ z. n (omega arith))) refl
      | inr p ↦ rw (ne_eqb ((y + r) % 4) 3 p) refl
    ]

pub not_five : (causal : Bool) (row : ℕ) → (row ≡ 5 → ⊥) → (causal && row == 5) ≡ false
not_five false row n = refl
not_five true row n = ne_eqb row 5 n

pub near_as : (g : Cells) (causal : Bool) (y r e column : ℕ) → y % 4 ≡ 0 → r < 4 → e < 3
    → seen_if causal (r + e) (mark g column (y + r + e)) ≡ one_at g causal (y + r) column (y + r + e)
near_as g true y r e column f l m =
    elim (cases_eq (r + e) 5) [
      | inl p ↦
          (ap (λ (b : Bool). if true && b then 0 else mark g column (y + r + e)) (eq-eqb (r + e) 5 p)
          ∙ sym (hidden g true (y + r) column (y + r + e) (last_hidden y r e f l m p)))
      | inr p ↦
          (shown true (r + e) (mark g column (y + r + e)) (not_five true (r + e) p)
          ∙ sym (seen g true (y + r) column (y + r + e) (none_hidden true y r e f l m p)))
    ]
near_as g false y r e column f l m = sym (seen g false (y + r) column (y + r + e) refl)

pub seen_near : (g : Cells) (causal : Bool) (x y w c r d e i column row : ℕ) → Sees causal (mark g) x y w → y % 4 ≡ 0 → c < 8 → r < 4 → d < 3 → e < 3
    → i ≡ 6 * c + r + (6 * d + e) → column ≡ x + c + d → row ≡ y + r + e → bit_at w i ≡ one_at g causal (y + r) column row
seen_near g causal x y w c r d e i column row s f p q l m h j k =
    let a : i ≡ 6 * (c + d) + (r + e) = omega arith in
    let b : x + (c + d) ≡ column = omega arith in
    let o : y + (r + e) ≡ y + r + e = omega arith in
    ap (λ (n : ℕ). bit_at w n) a
    ∙ (s.at (c + d) (r + e) (omega arith) (omega arith)
    ∙ (ap (λ (n : ℕ). seen_if causal (r + e) (mark g n (y + (r + e)))) b
    ∙ (ap (λ (n : ℕ). seen_if causal (r + e) (mark g column n)) o
    ∙ (near_as g causal y r e column f q m ∙ ap (λ (n : ℕ). one_at g causal (y + r) column n) (sym k)))))

-- the nine of a place, in the order of a window's bits
pub record SeesNine (g : Cells) (causal : Bool) (x y w i : ℕ) : Type 0 where
  pub north_west : bit_at w i ≡ one_at g causal y x y
  pub west : bit_at w (i + 1) ≡ one_at g causal y x (y + 1)
  pub south_west : bit_at w (i + 2) ≡ one_at g causal y x (y + 2)
  pub north : bit_at w (i + 6) ≡ one_at g causal y (x + 1) y
  pub here : bit_at w (i + 6 + 1) ≡ one_at g causal y (x + 1) (y + 1)
  pub south : bit_at w (i + 6 + 2) ≡ one_at g causal y (x + 1) (y + 2)
  pub north_east : bit_at w (i + 12) ≡ one_at g causal y (x + 2) y
  pub east : bit_at w (i + 12 + 1) ≡ one_at g causal y (x + 2) (y + 1)
  pub south_east : bit_at w (i + 12 + 2) ≡ one_at g causal y (x + 2) (y + 2)

pub sees_nine : (g : Cells) (causal : Bool) (x y w c r : ℕ) → Sees causal (mark g) x y w → y % 4 ≡ 0 → c < 8 → r < 4 → SeesNine g causal (x + c) (y + r) w (6 * c + r)
sees_nine g causal x y w c r s f p q =
    let i : ℕ = 6 * c + r in
    record {
      north_west = seen_near g causal x y w c r 0 0 i (x + c) (y + r) s f p q (omega arith) (omega arith) (omega arith) (omega arith) (omega arith);
      west = seen_near g causal x y w c r 0 1 (i + 1) (x + c) (y + r + 1) s f p q (omega arith) (omega arith) (omega arith) (omega arith) (omega arith);
      south_west = seen_near g causal x y w c r 0 2 (i + 2) (x + c) (y + r + 2) s f p q (omega arith) (omega arith) (omega arith) (omega arith) (omega arith);
      north = seen_near g causal x y w c r 1 0 (i + 6) (x + c + 1) (y + r) s f p q (omega arith) (omega arith) (omega arith) (omega arith) (omega arith);
      here = seen_near g causal x y w c r 1 1 (i + 6 + 1) (x + c + 1) (y + r + 1) s f p q (omega arith) (omega arith) (omega arith) (omega arith) (omega arith);
      south = seen_near g causal x y w c r 1 2 (i + 6 + 2) (x + c + 1) (y + r + 2) s f p q (omega arith) (omega arith) (omega arith) (omega arith) (omega arith);
      north_east = seen_near g causal x y w c r 2 0 (i + 12) (x + c + 2) (y + r) s f p q (omega arith) (omega arith) (omega arith) (omega arith) (omega arith);
      east = seen_near g causal x y w c r 2 1 (i + 12 + 1) (x + c + 2) (y + r + 1) s f p q (omega arith) (omega arith) (omega arith) (omega arith) (omega arith);
      south_east = seen_near g causal x y w c r 2 2 (i + 12 + 2) (x + c + 2) (y + r + 2) s f p q (omega arith) (omega arith) (omega arith) (omega arith) (omega arith);
    }

shifted : (w i j p : ℕ) → bit_at w i ≡ p → j ≡ i → bit_at w j ≡ p
shifted w i j p e f = ap (λ (n : ℕ). bit_at w n) f ∙ e

-- the label of a first bit
pub label_seen : (k : Plane) (g : Cells) (x y w i n : ℕ) → SeesNine g k.causal x y w i → HasNine w i n → first_label k.band n ≡ label_at k g x y
unfolding first_label sides_of upright_of diagonals_of
label_seen k g x y w i n s h =
    rw (
      h.west ∙ s.west,
      h.east ∙ shifted w (i + 12 + 1) (i + 13) (one_at g k.causal y (x + 2) (y + 1)) s.east (omega arith),
      h.north ∙ s.north,
      h.south ∙ shifted w (i + 6 + 2) (i + 8) (one_at g k.causal y (x + 1) (y + 2)) s.south (omega arith),
      h.north_west ∙ s.north_west,
      h.north_east ∙ s.north_east,
      h.south_west ∙ s.south_west,
      h.south_east ∙ shifted w (i + 12 + 2) (i + 14) (one_at g k.causal y (x + 2) (y + 2)) s.south_east (omega arith),
    )
    refl

-- label 0 is that of a place by which nothing is significant
empty_row : (band : Band) → significance_row band 0 0 0 ≡ 0
unfolding significance_row
empty_row LL = refl
empty_row HL = refl
empty_row LH = refl
empty_row HH = refl

zero_row : (band : Band) → ℕ → Bool
zero_row band n = not (significance_row band (n / 15) (n / 5 % 3) (n % 5) == 0) || n == 0

only_zero : (band : Band) → all_below 45 (zero_row band) ≡ true
unfolding zero_row significance_row
only_zero LL = refl
only_zero HL = refl
only_zero LH = refl
only_zero HH = refl

by_zero : (a b : Bool) → (not a || b) ≡ true → a ≡ true → b ≡ true
by_zero true b e f = e
by_zero false b e f = absurd (true≢false (sym f))

pub row_empty : (band : Band) (s u d : ℕ) → s ≤ 2 → u ≤ 2 → d ≤ 4 → significance_row band s u d ≡ 0 → s + u + d ≡ 0
unfolding zero_row
row_empty band s u d a b c e =
    let n : ℕ = 15 * s + 5 * u + d in
    let p : n / 15 ≡ s = omega arith in
    let q : n / 5 % 3 ≡ u = omega arith in
    let r : n % 5 ≡ d = omega arith in
    let f : significance_row band (n / 15) (n / 5 % 3) (n % 5) ≡ 0 = rw (p, q, r) e in
    let t : (n == 0) ≡ true =
    by_zero (significance_row band (n / 15) (n / 5 % 3) (n % 5) == 0) (n == 0) (below_all 45 n (zero_row band) (only_zero band) (omega arith))
    (eq-eqb (significance_row band (n / 15) (n / 5 % 3) (n % 5)) 0 f) in
    let z : n ≡ 0 = eqb-true n 0 t in
    omega arith

-- how many neighbours there are of each kind
pub record HasNone (g : Cells) (causal : Bool) (x y : ℕ) : Type 0 where
  pub sides : sides_of g causal x y ≡ 0
  pub upright : upright_of g causal x y ≡ 0
  pub diagonals : diagonals_of g causal x y ≡ 0

none_of_eight : (g : Cells) (causal : Bool) (x y w i : ℕ) → SeesNine g causal x y w i → of_eight w i ≡ 0 → HasNone g causal x y
unfolding sides_of upright_of diagonals_of
none_of_eight g causal x y w i s e =
    let a = s.north_west in
    let b = s.west in
    let c = s.south_west in
    let d = s.north in
    let f = shifted w (i + 6 + 2) (i + 8) (one_at g causal y (x + 1) (y + 2)) s.south (omega arith) in
    let h = s.north_east in
    let j = s.east in
    let k = s.south_east in
    record {
      sides = rw (sym b, sym j) (omega arith);
      upright = rw (sym d, sym f) (omega arith);
      diagonals = rw (sym a, sym h, sym c, sym k) (omega arith);
    }

pub nine_as_eight : (w i : ℕ) → bit_at w (i + 6 + 1) ≡ 0 → of_nine w i ≡ of_eight w i
nine_as_eight w i e =
    let f : i + 6 + 2 ≡ i + 8 = omega arith in
    let z = ap (λ (n : ℕ). bit_at w n) f in
    omega arith

pub label_none : (k : Plane) (g : Cells) (x y w i : ℕ) → SeesNine g k.causal x y w i → of_eight w i ≡ 0 → label_at k g x y ≡ 0
label_none k g x y w i s e =
    let n = none_of_eight g k.causal x y w i s e in
    rw (n.sides, n.upright, n.diagonals) (empty_row k.band)

-- how many neighbours there are at most
record HasFew (g : Cells) (causal : Bool) (x y : ℕ) : Type 0 where
  sides : sides_of g causal x y ≤ 2
  upright : upright_of g causal x y ≤ 2
  diagonals : diagonals_of g causal x y ≤ 4

few_of : (g : Cells) (causal : Bool) (x y : ℕ) → HasFew g causal x y
unfolding sides_of upright_of diagonals_of
few_of g causal x y =
    let a = one_le_one g causal y x y in
    let b = one_le_one g causal y x (y + 1) in
    let c = one_le_one g causal y x (y + 2) in
    let d = one_le_one g causal y (x + 1) y in
    let e = one_le_one g causal y (x + 1) (y + 2) in
    let f = one_le_one g causal y (x + 2) y in
    let h = one_le_one g causal y (x + 2) (y + 1) in
    let j = one_le_one g causal y (x + 2) (y + 2) in
    record { sides = omega arith; upright = omega arith; diagonals = omega arith }

-- of none of a kind no neighbour
eight_of_none : (g : Cells) (causal : Bool) (x y w i : ℕ) → SeesNine g causal x y w i → sides_of g causal x y + upright_of g causal x y + diagonals_of g causal x y ≡ 0
    → of_eight w i ≡ 0
unfolding sides_of upright_of diagonals_of
eight_of_none g causal x y w i s e =
    let a = s.north_west in
    let b = s.west in
    let c = s.south_west in
    let d = s.north in
    let f = shifted w (i + 6 + 2) (i + 8) (one_at g causal y (x + 1) (y + 2)) s.south (omega arith) in
    let h = s.north_east in
    let j = s.east in
    let k = s.south_east in
    rw (a, b, c, d, f, h, j, k) (omega arith)

pub label_some : (k : Plane) (g : Cells) (x y w i : ℕ) → SeesNine g k.causal x y w i → of_eight w i ≡ 1 → label_at k g x y ≡ 0 → ⊥
label_some k g x y w i s e z =
    let f = few_of g k.causal x y in
    let r = row_empty k.band (sides_of g k.causal x y) (upright_of g k.causal x y) (diagonals_of g k.causal x y) f.sides f.upright f.diagonals z in
    let n = eight_of_none g k.causal x y w i s r in
    omega arith

-- whether a neighbour is significant
pub near_seen : (g : Cells) (causal : Bool) (x y w i : ℕ) → SeesNine g causal x y w i → (of_eight w i == 1) ≡ has_near g causal x y
near_seen g causal x y w i s =
    let n : ℕ = sides_of g causal x y + upright_of g causal x y + diagonals_of g causal x y in
    elim (cases_eq (of_eight w i) 0) [
      | inl p ↦
          (let a = none_of_eight g causal x y w i s p in
          let b = a.sides in
          let c = a.upright in
          let d = a.diagonals in
          ne_eqb (of_eight w i) 1 (λ q. omega arith) ∙ sym (le-ltb 0 n (omega arith)))
      | inr p ↦
          (let a = bit_at-lt w i in
          let b = bit_at-lt w (i + 1) in
          let c = bit_at-lt w (i + 2) in
          let d = bit_at-lt w (i + 6) in
          let e = bit_at-lt w (i + 8) in
          let f = bit_at-lt w (i + 12) in
          let h = bit_at-lt w (i + 12 + 1) in
          let j = bit_at-lt w (i + 12 + 2) in
          eq-eqb (of_eight w i) 1 (omega arith)
          ∙ sym (elim (cases_eq n 0) [
            | inl q ↦ absurd (p (eight_of_none g causal x y w i s q))
            | inr q ↦ lt-ltb 0 n (omega arith)
          ]))
    ]
