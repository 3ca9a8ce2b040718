-- What is due in a word, as a significance pass goes through it.
use Rattle.std.proofs.Common.{◌≡◌, ◌≢◌, ◌<◌, ◌≤◌, ◌+◌, ◌*◌, ◌/◌, ◌%◌, ◌&&◌, ℕ, min, max, Bool, true, false, not, sym, ap, ◌∙◌, arith, inl, inr}
use Rattle.std.specs.Prelude.{nat_lt}
use Rattle.std.specs.Int.{bit_at}
use Rattle.std.proofs.lemmas.Bool.{cases_eq, cases_lt, lt-ltb}
use Rattle.std.proofs.lemmas.Bool.Decides.{nat_tests}
use Rattle.std.proofs.lemmas.List.{get_or-set_same, get_or-set_other}
use Rattle.std.proofs.lemmas.Nat.Bits.{bit_at-lt}
use Rattle.jx_tier1_specs.specs.declared.coef.Coef.{Coef}
use Rattle.jx_tier1_specs.specs.declared.question.Plane.{Plane}
use Rattle.jx_tier1_specs.specs.Cells.{Cells, zero_coef, with_coef, significant}
use Rattle.jx_tier1_specs.specs.Near.{one_if}
use Rattle.jx_tier1_specs.specs.Pass.{is_decided}
use Rattle.jx_tier1.specs.Places.{IsWord, of_nine}
use Rattle.jx_tier1.specs.Sights.{IsBit}
use Rattle.jx_tier1.specs.WordPasses.{IsDue, coef_in, in_word}
use Rattle.jx_tier1.specs.WordScan.{has_place}
use Rattle.jx_tier1.proofs.MarkLemmas.{IsWholeAt, same_place, index_below}
use Rattle.jx_tier1.proofs.NextLemmas.{IsRaised, nine_less, nine_raised}

-- a place by its tests
pub record IsPlaceOf (g : Cells) (x y i : ℕ) : Type 0 where
  pub few : i < 48
  pub gap : i % 6 < 4
  pub column : x + i / 6 < g.width
  pub row : y + i % 6 < g.height

tests_of : (n m a b c d e f : ℕ) → (nat_lt n m && (nat_lt a b && (nat_lt c d && nat_lt e f))) ≡ true → (n < m) × (a < b) × (c < d) × (e < f)
tests_of n m a b c d e f h = grind (arith, nat_tests)

pub place_of : (g : Cells) (x y i : ℕ) → in_word g x y i ≡ true → IsPlaceOf g x y i
place_of g x y i e =
    let t = tests_of i 48 (i % 6) 4 (x + i / 6) g.width (y + i % 6) g.height e in
    record { few = t.0; gap = t.1; column = t.2; row = t.3 }

-- a bit of a word that is no place of the block
pub no_place : (g : Cells) (x y i : ℕ) → i < 48 → in_word g x y i ≡ false → has_place g x y i ≡ false
no_place g x y i l e = sym (ap (λ (b : Bool). b && has_place g x y i) (lt-ltb i 48 l)) ∙ e

pub some_place : (g : Cells) (x y i : ℕ) → i < 48 → in_word g x y i ≡ has_place g x y i
some_place g x y i l = ap (λ (b : Bool). b && has_place g x y i) (lt-ltb i 48 l)

-- another place's coefficient stays
pub coef_other : (g : Cells) (x y i j : ℕ) (coef : Coef) → IsPlaceOf g x y i → IsPlaceOf g x y j → i ≢ j
    → coef_in (with_coef g (x + j / 6) (y + j % 6) coef) x y i ≡ coef_in g x y i
coef_other g x y i j coef p q n =
    get_or-set_other g.coefs ((y + j % 6) * g.width + (x + j / 6)) ((y + i % 6) * g.width + (x + i / 6)) coef zero_coef
    (λ e. let s = same_place g.width (x + i / 6) (y + i % 6) (x + j / 6) (y + j % 6) p.column q.column e in
    let a = s.0 in
    let b = s.1 in
    n (omega arith))

pub coef_same : (g : Cells) (x y i : ℕ) (coef : Coef) → IsWholeAt g (x + i / 6) (y + i % 6) → coef_in (with_coef g (x + i / 6) (y + i % 6) coef) x y i ≡ coef
coef_same g x y i coef s = get_or-set_same g.coefs ((y + i % 6) * g.width + (x + i / 6)) coef zero_coef (index_below g (x + i / 6) (y + i % 6) s)

-- a place that was decided
pub decided_next : (k : Plane) (c : Coef) → c.planes ≡ k.number + 1 → is_decided k c ≡ true
decided_next k c e = lt-ltb k.number c.planes (omega arith)

spread : (n f o : ℕ) → n ≤ 1 → f ≤ 1 → o ≤ 1 → max (min n o) (min f o) ≡ min (max n f) o
spread n f o a b c = omega arith

pub bit_le : (n i : ℕ) → bit_at n i ≤ 1
bit_le n i = let a = bit_at-lt n i in omega arith

-- a bit is 0: the place is decided
pub due_zero : (k : Plane) (g : Cells) (x y w free due seen rest b : ℕ) (coef : Coef) → IsDue k g x y w free due seen b → IsPlaceOf g x y b
    → IsWholeAt g (x + b / 6) (y + b % 6) → bit_at due b ≡ 1 → coef.planes ≡ k.number + 1
    → ((i : ℕ) → i ≤ b → bit_at rest i ≡ 0) → ((i : ℕ) → b < i → bit_at rest i ≡ bit_at due i)
    → IsDue k (with_coef g (x + b / 6) (y + b % 6) coef) x y w free rest seen (b + 1)
due_zero k g x y w free due seen rest b coef d p s one e before behind =
    let h : Cells = with_coef g (x + b / 6) (y + b % 6) coef in
    let same : (i : ℕ) → (i ≢ b) → in_word g x y i ≡ true → coef_in h x y i ≡ coef_in g x y i =
    λ (i : ℕ) (n : i ≢ b) (t : in_word g x y i ≡ true). coef_other g x y i b coef (place_of g x y i t) p n in
    record {
      free = λ i l t. d.free i (omega arith) t ∙ ap (λ (z : Coef). one_if (not (significant z))) (sym (same i (λ z. absurd (omega arith)) t));
      none = λ i t. d.none i t;
      fresh = λ i l t. ap (λ (z : Coef). is_decided k z) (same i (λ z. absurd (omega arith)) t) ∙ d.fresh i (omega arith) t;
      due = λ i l. behind i (omega arith) ∙ d.due i (omega arith);
      before = λ i l. before i (omega arith);
      seen = λ i l t. elim (cases_eq i b) [
        | inl z ↦
            (let a : bit_at seen i ≡ 1 = ap (λ (n : ℕ). bit_at seen n) z ∙ (d.coming b (omega arith) ∙ one) in
            let c : coef_in h x y i ≡ coef = ap (λ (n : ℕ). coef_in h x y n) z ∙ coef_same g x y b coef s in
            a ∙ sym (ap one_if (ap (λ (n : Coef). is_decided k n) c ∙ decided_next k coef e)))
        | inr z ↦ d.seen i (omega arith) t ∙ ap (λ (n : Coef). one_if (is_decided k n)) (sym (same i z t))
      ];
      coming = λ i l. d.coming i (omega arith) ∙ sym (behind i (omega arith));
      blank = λ i t. d.blank i t;
    }

-- a bit is 1: places behind it become due
pub due_one : (k : Plane) (g : Cells) (x y w v f free due seen next after b : ℕ) (coef : Coef) → IsDue k g x y w free due seen b → IsPlaceOf g x y b
    → IsWholeAt g (x + b / 6) (y + b % 6) → bit_at due b ≡ 1 → coef.planes ≡ k.number + 1 → IsRaised w v f b
    → ((i : ℕ) → i ≤ b → bit_at next i ≡ 0) → ((i : ℕ) → b < i → bit_at next i ≡ max (bit_at due i) (min (bit_at f i) (bit_at free i)))
    → ((i : ℕ) → bit_at after i ≡ max (bit_at seen i) (min (bit_at f i) (bit_at free i)))
    → ((i : ℕ) → i ≤ b → bit_at f i ≡ 0)
    → IsDue k (with_coef g (x + b / 6) (y + b % 6) coef) x y v free next after (b + 1)
due_one k g x y w v f free due seen next after b coef d p s one e r before behind more low =
    let h : Cells = with_coef g (x + b / 6) (y + b % 6) coef in
    let same : (i : ℕ) → (i ≢ b) → in_word g x y i ≡ true → coef_in h x y i ≡ coef_in g x y i =
    λ (i : ℕ) (n : i ≢ b) (t : in_word g x y i ≡ true). coef_other g x y i b coef (place_of g x y i t) p n in
    let kept : (i : ℕ) → i ≤ b → bit_at after i ≡ bit_at seen i =
    λ (i : ℕ) (l : i ≤ b). more i ∙ (let z = low i l in let q : max (bit_at seen i) (min (bit_at f i) (bit_at free i)) ≡ bit_at seen i = omega arith in q) in
    record {
      free = λ i l t. d.free i (omega arith) t ∙ ap (λ (z : Coef). one_if (not (significant z))) (sym (same i (λ z. absurd (omega arith)) t));
      none = λ i t. d.none i t;
      fresh = λ i l t. ap (λ (z : Coef). is_decided k z) (same i (λ z. absurd (omega arith)) t) ∙ d.fresh i (omega arith) t;
      due = λ i l.
          behind i (omega arith)
          ∙ (ap (λ (n : ℕ). max n (min (bit_at f i) (bit_at free i))) (d.due i (omega arith))
          ∙ (spread (of_nine w i) (bit_at f i) (bit_at free i) (nine_less w i) (bit_le f i) (bit_le free i)
          ∙ ap (λ (n : ℕ). min n (bit_at free i)) (sym (nine_raised w v f b i r (omega arith)))));
      before = λ i l. before i (omega arith);
      seen = λ i l t. kept i (omega arith) ∙ elim (cases_eq i b) [
        | inl z ↦
            (let a : bit_at seen i ≡ 1 = ap (λ (n : ℕ). bit_at seen n) z ∙ (d.coming b (omega arith) ∙ one) in
            let c : coef_in h x y i ≡ coef = ap (λ (n : ℕ). coef_in h x y n) z ∙ coef_same g x y b coef s in
            a ∙ sym (ap one_if (ap (λ (n : Coef). is_decided k n) c ∙ decided_next k coef e)))
        | inr z ↦ d.seen i (omega arith) t ∙ ap (λ (n : Coef). one_if (is_decided k n)) (sym (same i z t))
      ];
      coming = λ i l. more i ∙ (ap (λ (n : ℕ). max n (min (bit_at f i) (bit_at free i))) (d.coming i (omega arith)) ∙ sym (behind i (omega arith)));
      blank = λ i t.
          let a = d.blank i t in
          let c = d.none i t in
          more i ∙ (let q : max (bit_at seen i) (min (bit_at f i) (bit_at free i)) ≡ 0 = omega arith in q);
    }

-- places that aren't due are passed over
pub due_later : (k : Plane) (g : Cells) (x y w free due seen a b : ℕ) → IsDue k g x y w free due seen a → a ≤ b
    → ((i : ℕ) → a ≤ i → i < b → bit_at due i ≡ 0) → IsDue k g x y w free due seen b
due_later k g x y w free due seen a b d l none = record {
  free = λ i m t. d.free i (omega arith) t;
  none = λ i t. d.none i t;
  fresh = λ i m t. d.fresh i (omega arith) t;
  due = λ i m. d.due i (omega arith);
  before = λ i m. elim (cases_lt i a) [ inl p ↦ d.before i p | inr p ↦ none i p m ];
  seen = λ i m t. elim (cases_lt i a) [
    | inl p ↦ d.seen i p t
    | inr p ↦ d.coming i p ∙ (none i p m ∙ sym (ap one_if (d.fresh i p t)))
  ];
  coming = λ i m. d.coming i (omega arith);
  blank = λ i t. d.blank i t;
}

-- bits of what is left behind a place
pub less_bit : (a b : ℕ) → a ≡ 0 → max a b ≡ b
less_bit a b e = omega arith

pub more_bit : (d n o p i : ℕ) → ((j : ℕ) → j ≤ p → bit_at n j ≡ 0) → ((j : ℕ) → p < j → bit_at n j ≡ bit_at d j) → bit_at n i ≤ max (bit_at d i) (bit_at o i)
more_bit d n o p i before behind =
    elim (cases_lt p i) [
      | inl l ↦ let e = behind i l in omega arith
      | inr l ↦ let e = before i l in omega arith
    ]

-- a bit of a word of places
pub bit_of_word : (w i : ℕ) → IsWord w → bit_at w i ≡ 1 → IsBit i
bit_of_word w i s e = record {
  column = elim (cases_lt i 48) [ inl l ↦ l | inr l ↦ let z = s.behind i l in absurd (omega arith) ];
  row = elim (cases_lt (i % 6) 4) [ inl l ↦ l | inr l ↦ let z = s.between i l in absurd (omega arith) ];
}

pub above : (a b : ℕ) → a ≡ 1 → a ≤ b → b ≤ 1 → b ≡ 1
above a b e l m = omega arith

pub less_behind : (d n p i : ℕ) → ((j : ℕ) → j ≤ p → bit_at n j ≡ 0) → ((j : ℕ) → p < j → bit_at n j ≡ bit_at d j) → bit_at n i ≤ bit_at d i
less_behind d n p i before behind =
    elim (cases_lt p i) [
      | inl l ↦ let e = behind i l in omega arith
      | inr l ↦ let e = before i l in omega arith
    ]

pub some_bit : (n i : ℕ) → (bit_at n i ≡ 0 → ⊥) → bit_at n i ≡ 1
some_bit n i h =
    let a = bit_le n i in
    elim (cases_eq (bit_at n i) 0) [ inl e ↦ absurd (h e) | inr e ↦ omega arith ]
