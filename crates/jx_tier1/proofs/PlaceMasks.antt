-- Masks of the places of a word.
use Rattle.std.proofs.Common.{◌≡◌, ◌<◌, ◌≤◌, ◌+◌, ◌-◌, ◌*◌, ◌/◌, ◌%◌, ◌&&◌, ℕ, min, true, refl, sym, ap, ◌∙◌, arith, inl, inr, w64}
use Rattle.std.specs.Prelude.{nat_lt}
use Rattle.std.specs.Int.{bit_at}
use Rattle.std.specs.Int.Bits.{bit_and}
use Rattle.std.proofs.lemmas.Bool.{cases_lt, lt-ltb, le-ltb, true≢false}
use Rattle.std.proofs.lemmas.Nat.Bits.{bit_at_not, bit_at_above}
use Rattle.jx_tier1_specs.specs.Cells.{Cells}
use Rattle.jx_tier1_specs.specs.Near.{one_if}
use Rattle.jx_tier1.specs.Places.{IsWord}
use Rattle.jx_tier1.specs.WordPasses.{Picks, in_word}
use Rattle.jx_tier1.proofs.BitLemmas.{bit_shr, and_bit}
use Rattle.jx_tier1.proofs.DueWords.{place_of}
use Rattle.jx_tier1.proofs.FlagLemmas.{word_there}

-- a word's own places of a window
pub own_bits : (w p i : ℕ) → bit_at (bit_and (w / 128) p) i ≡ min (bit_at w (i + 7)) (bit_at p i)
own_bits w p i = and_bit (w / 128) p i (bit_at w (i + 7)) (bit_at p i) (bit_shr w 7 i) refl

less_zero : (n : ℕ) → min n 0 ≡ 0
less_zero n = omega arith

zero_less : (n : ℕ) → min 0 n ≡ 0
zero_less n = omega arith

pub word_second : (a p : ℕ) → IsWord p → IsWord (bit_and a p)
word_second a p w = record {
  between = λ i l. and_bit a p i (bit_at a i) 0 refl (w.between i l) ∙ less_zero (bit_at a i);
  behind = λ i l. and_bit a p i (bit_at a i) 0 refl (w.behind i l) ∙ less_zero (bit_at a i);
}

pub word_first : (p a : ℕ) → IsWord p → IsWord (bit_and p a)
word_first p a w = record {
  between = λ i l. and_bit p a i 0 (bit_at a i) (w.between i l) refl ∙ zero_less (bit_at a i);
  behind = λ i l. and_bit p a i 0 (bit_at a i) (w.behind i l) refl ∙ zero_less (bit_at a i);
}

-- places that aren't among others
pub without_bits : (p q i : ℕ) → p < 18446744073709551616 → q < 18446744073709551616 → bit_at (bit_and p (18446744073709551615 - q)) i ≡ min (bit_at p i) (1 - bit_at q i)
without_bits p q i l m =
    let n : ℕ = 18446744073709551615 - q in
    elim (cases_lt i 64) [
      | inl f ↦ and_bit p n i (bit_at p i) (1 - bit_at q i) refl (bit_at_not w64 q i m f)
      | inr f ↦
          (let z : bit_at p i ≡ 0 = bit_at_above p 64 i l f in
          and_bit p n i 0 (bit_at n i) z refl
          ∙ (zero_less (bit_at n i) ∙ (sym (zero_less (1 - bit_at q i)) ∙ ap (λ (y : ℕ). min y (1 - bit_at q i)) (sym z))))
    ]

-- the places of the block
pub record AreRows (all some high wide : ℕ) : Type 0 where
  pub rows : (i : ℕ) → i < 64 → bit_at all i ≡ one_if (nat_lt (i % 6) high && nat_lt i 48)
  pub below : (i : ℕ) → i < 6 * wide → bit_at some i ≡ 1
  pub behind : (i : ℕ) → 6 * wide ≤ i → bit_at some i ≡ 0

row_bit : (i high : ℕ) → i % 6 < high → i < 48 → one_if (nat_lt (i % 6) high && nat_lt i 48) ≡ 1
row_bit i high l m = rw (lt-ltb (i % 6) high l, lt-ltb i 48 m) refl

gap_bit : (i high : ℕ) → high ≤ i % 6 → one_if (nat_lt (i % 6) high && nat_lt i 48) ≡ 0
gap_bit i high l = rw (le-ltb (i % 6) high l) refl

pub block_places : (g : Cells) (x y rows columns high wide : ℕ) → AreRows rows columns high wide → x < g.width → y < g.height
    → high ≡ min 4 (g.height - y) → wide ≡ min 8 (g.width - x) → Picks (λ c. true) g x y (bit_and rows columns)
block_places g x y rows columns high wide a l m e f = record {
  place = λ i h.
      (let p = place_of g x y i h in
      let few = p.few in
      let gap = p.gap in
      let column = p.column in
      let row = p.row in
      and_bit rows columns i 1 1 (a.rows i (omega arith) ∙ row_bit i high (omega arith) few) (a.below i (omega arith)));
  none = λ i h.
      elim (cases_lt i (6 * wide)) [
        | inr q ↦ (and_bit rows columns i (bit_at rows i) 0 refl (a.behind i q) ∙ less_zero (bit_at rows i))
        | inl q ↦ elim (cases_lt (i % 6) high) [
          | inr r ↦ (and_bit rows columns i 0 (bit_at columns i) (a.rows i (omega arith) ∙ gap_bit i high r) refl ∙ zero_less (bit_at columns i))
          | inl r ↦
              (let j : 6 * (i / 6) + i % 6 ≡ i = omega arith in
              let t = word_there g x y (i / 6) (i % 6) (omega arith) (omega arith) (omega arith) (omega arith) in
              absurd (true≢false (sym t ∙ (ap (λ (n : ℕ). in_word g x y n) j ∙ h))))
        ]
      ];
}

pub block_word : (rows columns high wide : ℕ) → AreRows rows columns high wide → high ≤ 4 → wide ≤ 8 → IsWord (bit_and rows columns)
block_word rows columns high wide a l m = record {
  between = λ i q.
      elim (cases_lt i 64) [
        | inl r ↦ (and_bit rows columns i 0 (bit_at columns i) (a.rows i r ∙ gap_bit i high (omega arith)) refl ∙ zero_less (bit_at columns i))
        | inr r ↦ (and_bit rows columns i (bit_at rows i) 0 refl (a.behind i (omega arith)) ∙ less_zero (bit_at rows i))
      ];
  behind = λ i q. and_bit rows columns i (bit_at rows i) 0 refl (a.behind i (omega arith)) ∙ less_zero (bit_at rows i);
}
