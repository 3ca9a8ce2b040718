-- What was visited, as a pass goes from word to word.
use Rattle.std.proofs.Common.{◌≡◌, ◌≢◌, ◌<◌, ◌≤◌, ◌+◌, ◌*◌, ◌/◌, ◌%◌, ℕ, suc, Bool, true, false, sym, ap, ◌∙◌, arith, subst, inl, inr, List, get_or, set, if◌then◌else◌}
use Rattle.std.specs.Int.{bit_at}
use Rattle.std.proofs.lemmas.Bool.{cases_eq}
use Rattle.std.proofs.lemmas.Bool.Decides.{nat_tests}
use Rattle.jx_tier1_specs.specs.declared.coef.Coef.{Coef}
use Rattle.jx_tier1_specs.specs.Cells.{Cells, coef_at}
use Rattle.jx_tier1_specs.specs.Near.{one_if}
use Rattle.jx_tier1.specs.Blocks.{BlockWords, bit_in, wide_for}
use Rattle.jx_tier1.specs.BlockPasses.{IsVisited, is_before, passes_at, AreVisited}
use Rattle.jx_tier1.specs.WordPasses.{Picks, in_word, coef_in}
use Rattle.jx_tier1.proofs.BlockBits.{IsWordAt, IsOwn, bit_here, bit_there, bit_elsewhere, column_within, own_place, own_bit}
use Rattle.jx_tier1.proofs.FlagLemmas.{word_there}
use Rattle.jx_tier1.proofs.WordMoves.{Moves}

-- places before a word
here_before : (s t x y : ℕ) → x / 8 ≡ t → y / 4 ≡ s → is_before s t x y ≡ false
here_before s t x y e f = grind (arith, nat_tests)

here_behind : (s t x y : ℕ) → x / 8 ≡ t → y / 4 ≡ s → is_before s (t + 1) x y ≡ true
here_behind s t x y e f = grind (arith, nat_tests)

other_before : (s t x y : ℕ) → (x / 8 ≡ t → y / 4 ≡ s → ⊥) → is_before s (t + 1) x y ≡ is_before s t x y
other_before s t x y n =
    elim (cases_eq (y / 4) s) [
      | inl e ↦ (let m : x / 8 ≢ t = λ z. n z e in grind (arith, nat_tests))
      | inr e ↦ grind (arith, nat_tests)
    ]

row_end : (s t x y : ℕ) → x / 8 < t → is_before s t x y ≡ is_before (s + 1) 0 x y
row_end s t x y l = grind (arith, nat_tests)

pub none_before : (x y : ℕ) → is_before 0 0 x y ≡ false
none_before x y = grind (arith, nat_tests)

all_before : (s x y : ℕ) → y / 4 < s → is_before s 0 x y ≡ true
all_before s x y l = grind (arith, nat_tests)

by_test : (n : ℕ) (b d : Bool) → d ≡ b → (if d then suc n else n) ≡ (if b then suc n else n)
by_test n b d e = ap (λ (z : Bool). if z then suc n else n) e

-- a place whose coefficient and bit are others
visited_as : (m n number : ℕ) (c d : Coef) (i j : ℕ) → n ≡ m → d ≡ c → j ≡ i → IsVisited m number c i → IsVisited n number d j
visited_as m n number c d i j e f h v =
    subst (λ (z : ℕ). IsVisited z number d j) (sym e) (subst (λ (z : Coef). IsVisited m number z j) (sym f) (subst (λ (z : ℕ). IsVisited m number c z) (sym h) v))

abbrev visited_bit : BlockWords → ℕ → ℕ → ℕ
visited_bit b x y = bit_in (wide_for b.width) b.visited (x + 1) (y + 1)

-- one more word
pub word_visited : (R : Coef → Coef → Type 0) (n number s t : ℕ) (g h : Cells) (b o : BlockWords) → Moves R t s g h → AreVisited n number s t g b
    → ((x y : ℕ) → x < g.width → y < g.height → (x / 8 ≡ t → y / 4 ≡ s → ⊥) → visited_bit o x y ≡ visited_bit b x y)
    → ((x y : ℕ) → x < g.width → y < g.height → x / 8 ≡ t → y / 4 ≡ s → IsVisited n number (coef_at g x y) (visited_bit b x y)
    → IsVisited (suc n) number (coef_at h x y) (visited_bit o x y))
    → AreVisited n number s (t + 1) h o
word_visited R n number s t g h b o m v others own = record {
  at = λ x y p q.
      (let l : x < g.width = (let e = m.width in omega arith) in
      let r : y < g.height = (let e = m.height in omega arith) in
      let u = v.at x y l r in
      let else_ : (x / 8 ≡ t → y / 4 ≡ s → ⊥) → IsVisited (passes_at n s (t + 1) x y) number (coef_at h x y) (visited_bit o x y) = λ z.
      visited_as (passes_at n s t x y) (passes_at n s (t + 1) x y) number (coef_at g x y) (coef_at h x y) (visited_bit b x y) (visited_bit o x y)
      (by_test n (is_before s t x y) (is_before s (t + 1) x y) (other_before s t x y z)) (m.stays x y l z) (others x y l r z) u in
      elim (cases_eq (x / 8) t) [
        | inl e ↦ elim (cases_eq (y / 4) s) [
          | inl f ↦
              (let w = subst (λ (z : ℕ). IsVisited z number (coef_at g x y) (visited_bit b x y)) (by_test n false (is_before s t x y) (here_before s t x y e f)) u in
              subst (λ (z : ℕ). IsVisited z number (coef_at h x y) (visited_bit o x y)) (sym (by_test n true (is_before s (t + 1) x y) (here_behind s t x y e f)))
              (own x y l r e f w))
          | inr f ↦ else_ (λ a c. f c)
        ]
        | inr e ↦ else_ (λ a c. e a)
      ]);
}

-- a stripe's end, and the block's
pub stripe_visited : (n number s t : ℕ) (g : Cells) (b : BlockWords) → t ≡ (g.width + 7) / 8 → AreVisited n number s t g b → AreVisited n number (s + 1) 0 g b
stripe_visited n number s t g b e v = record {
  at = λ x y p q. subst (λ (z : ℕ). IsVisited z number (coef_at g x y) (visited_bit b x y))
      (by_test n (is_before (s + 1) 0 x y) (is_before s t x y) (row_end s t x y (omega arith))) (v.at x y p q);
}

pub block_visited : (n number s : ℕ) (g : Cells) (b : BlockWords) → g.height ≤ 4 * s → AreVisited n number s 0 g b → AreVisited (suc n) number 0 0 g b
block_visited n number s g b e v = record {
  at = λ x y p q. subst (λ (z : ℕ). IsVisited z number (coef_at g x y) (visited_bit b x y))
      (by_test n true (is_before s 0 x y) (all_before s x y (omega arith)) ∙ sym (by_test (suc n) false (is_before 0 0 x y) (none_before x y))) (v.at x y p q);
}

-- of a place of the word, before the pass comes to it
pub own_visited : (n number s t : ℕ) (g : Cells) (b : BlockWords) (x y : ℕ) → AreVisited n number s t g b → x < g.width → y < g.height → x / 8 ≡ t → y / 4 ≡ s
    → IsVisited n number (coef_at g x y) (visited_bit b x y)
own_visited n number s t g b x y v l r e f =
    subst (λ (z : ℕ). IsVisited z number (coef_at g x y) (visited_bit b x y)) (by_test n false (is_before s t x y) (here_before s t x y e f)) (v.at x y l r)

-- a place of the word by its bit
pub record HasBit (g : Cells) (s t x y p : ℕ) : Type 0 where
  pub has : in_word g (8 * t) (4 * s) p ≡ true
  pub column : x ≡ 8 * t + p / 6
  pub row : y ≡ 4 * s + p % 6
  pub few : p < 48
  pub gap : p % 6 < 4

pub bit_of_place : (g : Cells) (s t x y : ℕ) → x < g.width → y < g.height → x / 8 ≡ t → y / 4 ≡ s → HasBit g s t x y (6 * (x % 8) + y % 4)
bit_of_place g s t x y l r e f = record {
  has = word_there g (8 * t) (4 * s) (x % 8) (y % 4) (omega arith) (omega arith) (omega arith) (omega arith);
  column = omega arith;
  row = omega arith;
  few = omega arith;
  gap = omega arith;
}

coef_as : (g : Cells) (s t x y p : ℕ) → HasBit g s t x y p → coef_in g (8 * t) (4 * s) p ≡ coef_at g x y
coef_as g s t x y p b = ap (λ (n : ℕ). coef_at g n (4 * s + p % 6)) (sym b.column) ∙ ap (λ (n : ℕ). coef_at g x n) (sym b.row)

-- the bit of a place in a list whose word is another one
pub place_here : (wide s t at w x y p : ℕ) (g : Cells) (words : List ℕ) → IsWordAt wide s t at words → HasBit g s t x y p → bit_in wide (set words at w) (x + 1) (y + 1) ≡ bit_at w p
place_here wide s t at w x y p g words a b =
    let gap = b.gap in
    let few = b.few in
    let column = b.column in
    let row = b.row in
    bit_here wide s t at w (x + 1) (y + 1) words a (own_place s t x y (omega arith) (omega arith))
    ∙ ap (λ (n : ℕ). bit_at w n) (own_bit s t x y p column row few gap)

pub place_there_in : (wide s t at x y p : ℕ) (g : Cells) (words : List ℕ) → IsWordAt wide s t at words → HasBit g s t x y p
    → bit_in wide words (x + 1) (y + 1) ≡ bit_at (get_or words at 0) p
place_there_in wide s t at x y p g words a b =
    let gap = b.gap in
    let few = b.few in
    let column = b.column in
    let row = b.row in
    bit_there wide s t at (x + 1) (y + 1) words a (own_place s t x y (omega arith) (omega arith))
    ∙ ap (λ (n : ℕ). bit_at (get_or words at 0) n) (own_bit s t x y p column row few gap)

own_parts : (s t x y : ℕ) → IsOwn s t (x + 1) (y + 1) → (x / 8 ≡ t) × (y / 4 ≡ s)
own_parts s t x y o = let a = o.group in let b = o.stripe in (omega arith, omega arith)

pub place_elsewhere : (width s t at w x y : ℕ) (words : List ℕ) → IsWordAt (wide_for width) s t at words → x < width → (x / 8 ≡ t → y / 4 ≡ s → ⊥)
    → bit_in (wide_for width) (set words at w) (x + 1) (y + 1) ≡ bit_in (wide_for width) words (x + 1) (y + 1)
place_elsewhere width s t at w x y words a l n =
    bit_elsewhere (wide_for width) s t at w (x + 1) (y + 1) words a (column_within x width l) (λ o. let p = own_parts s t x y o in n p.0 p.1)

-- the bit of a place that a word picks or doesn't
pub picked : (T : Coef → Bool) (g : Cells) (s t x y w p : ℕ) → Picks T g (8 * t) (4 * s) w → HasBit g s t x y p → bit_at w p ≡ one_if (T (coef_at g x y))
picked T g s t x y w p k b = k.place p b.has ∙ ap (λ (c : Coef). one_if (T c)) (coef_as g s t x y p b)
