-- Bits that are written.
use Rattle.std.proofs.Common.{◌≡◌, ℕ, zero, suc, ◌+◌, ◌-◌, ◌*◌, ◌/◌, ◌%◌, ◌^◌, ◌<◌, ◌≤◌, ◌==◌, nat_le, Bool, true, false, List, [], ◌∷◌, ◌++◌, replicate, refl, sym, ap, ◌∙◌, subst, cond, arith, append_assoc, pow_mono, inl, inr, ◌⊎◌}
use Rattle.std.proofs.lemmas.Bool.Decides.{nat_tests}
use Rattle.std.proofs.lemmas.Bool.{cases_lt}
use Rattle.std.proofs.lemmas.Nat.{leading_le, leading_length}
use Rattle.std.proofs.Math.Nat.{two-pow-succ}
use Rattle.std.specs.Int.Count.{count_leading_zeros}
use Rattle.jx_packet_header.specs.declared.HeaderPart.{HeaderPart}
use Rattle.jx_packet_header.specs.Parts.{width}
use Rattle.jx_packet_header.specs.LeavesFit.{AreShort, AllFit}
use Rattle.jx_tagtree.specs.Header.{low_bits}
use Rattle.jx_tagtree.specs.TagTree.{Tree, query, tree_after}
use Rattle.jx_tagtree.specs.Leaves.{Written, least_leaf, told_after}
use Rattle.jx_tagtree.specs.Questions.{all_bits, after_all}
use Rattle.jx_packet_header.specs.Packet.{asked}
use Rattle.jx_packet_header.specs.Written.{least_of, raise_of}
use Rattle.jx_packet_header.specs.Words.{pass_word, powers, size}
use Rattle.jx_packet_header.proofs.WordLemmas.{word_one, word_two, word_few, word_some, word_many}

-- a bit that was written was the first of those to come
pub push_first : (bits new rest : List Bool) (b : Bool) → new ≡ bits ++ b ∷ [] → new ++ rest ≡ bits ++ b ∷ rest
push_first bits new rest b e = ap (λ (l : List Bool). l ++ rest) e ∙ append_assoc bits (b ∷ []) rest

pub number_next : (place value : ℕ) → 0 < place → low_bits place value ≡ (value / 2 ^ (place - 1) % 2 == 1) ∷ low_bits (place - 1) value
number_next zero value lt = absurd (omega arith)
number_next (suc n) value lt = let e : n ≡ suc n - 1 = omega arith in ap (λ (k : ℕ). (value / 2 ^ k % 2 == 1) ∷ low_bits k value) e

pub ones_next : (n : ℕ) → 0 < n → replicate n true ≡ true ∷ replicate (n - 1) true
ones_next zero lt = absurd (omega arith)
ones_next (suc n) lt = let e : n ≡ suc n - 1 = omega arith in ap (λ (k : ℕ). true ∷ replicate k true) e

-- the code words of the numbers of passes, in the pieces that are written
pub put_one : low_bits 1 0 ≡ pass_word 1
put_one = sym word_one

pub put_two : low_bits 2 2 ≡ pass_word 2
put_two = sym word_two

pub put_few : (n : ℕ) (bits mid : List Bool) → 2 < n → n ≤ 5 → mid ≡ bits ++ replicate 2 true → mid ++ low_bits 2 (n - 3) ≡ bits ++ pass_word n
put_few n bits mid gt le e = ap (λ (l : List Bool). l ++ low_bits 2 (n - 3)) e ∙ append_assoc bits (replicate 2 true) (low_bits 2 (n - 3)) ∙ ap (λ (l : List Bool). bits ++ l) (sym (word_few n (omega arith) le))

pub put_some : (n : ℕ) (bits mid : List Bool) → 5 < n → n ≤ 36 → mid ≡ bits ++ replicate 4 true → mid ++ low_bits 5 (n - 6) ≡ bits ++ pass_word n
put_some n bits mid gt le e = ap (λ (l : List Bool). l ++ low_bits 5 (n - 6)) e ∙ append_assoc bits (replicate 4 true) (low_bits 5 (n - 6)) ∙ ap (λ (l : List Bool). bits ++ l) (sym (word_some n (omega arith) le))

pub put_many : (n : ℕ) (bits mid : List Bool) → 36 < n → mid ≡ bits ++ replicate 9 true → mid ++ low_bits 7 (n - 37) ≡ bits ++ pass_word n
put_many n bits mid gt e = ap (λ (l : List Bool). l ++ low_bits 7 (n - 37)) e ∙ append_assoc bits (replicate 9 true) (low_bits 7 (n - 37)) ∙ ap (λ (l : List Bool). bits ++ l) (sym (word_many n (omega arith)))

-- ---- queries that are written
pub same_least : (w first : Written) → w.leaves ≡ first.leaves → w.tree.wide ≡ first.tree.wide → w.tree.high ≡ first.tree.high → least_of w ≡ least_of first
same_least w first l wide high =
    ap (λ (ls : List ℕ). least_leaf w.tree.wide w.tree.high ls) l ∙ ap (λ (n : ℕ). least_leaf n w.tree.high first.leaves) wide ∙ ap (λ (n : ℕ). least_leaf first.tree.wide n first.leaves) high

pub asked_bits : (v : ℕ → ℕ) (tree : Tree) (leaf n left : ℕ) → 0 < left →
    all_bits v tree (asked leaf n left) ≡ (query v tree leaf (n + 1)).bits ++ all_bits v (tree_after v tree leaf (n + 1)) (asked leaf (n + 1) (left - 1))
asked_bits v tree leaf n zero lt = absurd (omega arith)
asked_bits v tree leaf n (suc left) lt = let e : left ≡ suc left - 1 = omega arith in ap (λ (k : ℕ). (query v tree leaf (n + 1)).bits ++ all_bits v (tree_after v tree leaf (n + 1)) (asked leaf (n + 1) k)) e

pub asked_after : (v : ℕ → ℕ) (tree : Tree) (leaf n left : ℕ) → 0 < left →
    after_all v tree (asked leaf n left) ≡ after_all v (tree_after v tree leaf (n + 1)) (asked leaf (n + 1) (left - 1))
asked_after v tree leaf n zero lt = absurd (omega arith)
asked_after v tree leaf n (suc left) lt = let e : left ≡ suc left - 1 = omega arith in ap (λ (k : ℕ). after_all v (tree_after v tree leaf (n + 1)) (asked leaf (n + 1) k)) e

pub count_bits : (first w new : Written) (bits next : List Bool) (leaf n left less : ℕ) → least_of w ≡ least_of first → 0 < left → less ≡ left - 1 →
    next ≡ bits ++ (query (least_of w) w.tree leaf (n + 1)).bits → new ≡ told_after w leaf (n + 1) →
    next ++ all_bits (least_of first) new.tree (asked leaf (n + 1) less) ≡ bits ++ all_bits (least_of first) w.tree (asked leaf n left)
count_bits first w new bits next leaf n left less same lt is e after =
    let v = least_of first in
    let tree : new.tree ≡ tree_after v w.tree leaf (n + 1) = ap (λ (x : Written). x.tree) after ∙ ap (λ (u : ℕ → ℕ). tree_after u w.tree leaf (n + 1)) same in
    let q = (query v w.tree leaf (n + 1)).bits in
    ap (λ (x : Tree). next ++ all_bits v x (asked leaf (n + 1) less)) tree
    ∙ ap (λ (k : ℕ). next ++ all_bits v (tree_after v w.tree leaf (n + 1)) (asked leaf (n + 1) k)) is
    ∙ ap (λ (l : List Bool). l ++ all_bits v (tree_after v w.tree leaf (n + 1)) (asked leaf (n + 1) (left - 1))) (e ∙ ap (λ (u : ℕ → ℕ). bits ++ (query u w.tree leaf (n + 1)).bits) same)
    ∙ append_assoc bits q (all_bits v (tree_after v w.tree leaf (n + 1)) (asked leaf (n + 1) (left - 1)))
    ∙ ap (λ (l : List Bool). bits ++ l) (sym (asked_bits v w.tree leaf n left lt))

pub count_after : (first w new : Written) (leaf n left less : ℕ) → least_of w ≡ least_of first → 0 < left → less ≡ left - 1 → new ≡ told_after w leaf (n + 1) →
    after_all (least_of first) new.tree (asked leaf (n + 1) less) ≡ after_all (least_of first) w.tree (asked leaf n left)
count_after first w new leaf n left less same lt is after =
    let v = least_of first in
    let tree : new.tree ≡ tree_after v w.tree leaf (n + 1) = ap (λ (x : Written). x.tree) after ∙ ap (λ (u : ℕ → ℕ). tree_after u w.tree leaf (n + 1)) same in
    ap (λ (x : Tree). after_all v x (asked leaf (n + 1) less)) tree
    ∙ ap (λ (k : ℕ). after_all v (tree_after v w.tree leaf (n + 1)) (asked leaf (n + 1) k)) is
    ∙ sym (asked_after v w.tree leaf n left lt)

-- ---- sizes
powers_le : (n m : ℕ) → powers n m ≤ n
powers_le zero m = omega arith
powers_le (suc n) m = by (nat_le (2 ^ n) m) (powers_le n m)
  where
    by : (b : Bool) → powers n m ≤ n → powers n m + cond b 1 0 ≤ suc n
    by true le = omega arith
    by false le = omega arith

pub size_le : (m : ℕ) → size m ≤ 32
unfolding size
size_le m = powers_le 32 m

-- a number reaches no power of 2 that is above it, and each that isn't
powers_small : (n m w : ℕ) → m < 2 ^ w → powers n m ≤ w
powers_small zero m w lt = omega arith
powers_small (suc n) m w lt = by (cases_lt n w) (powers_small n m w lt)
  where
    step : (b : Bool) → powers n m ≤ n → n < w → powers n m + cond b 1 0 ≤ w
    step true le l = omega arith
    step false le l = omega arith

    by : (n < w) ⊎ (w ≤ n) → powers n m ≤ w → powers (suc n) m ≤ w
    by (inl l) i = step (nat_le (2 ^ n) m) (powers_le n m) l
    by (inr ge) i =
        let p : 2 ^ w ≤ 2 ^ n = pow_mono ge in
        let none : nat_le (2 ^ n) m ≡ false = (let l : m < 2 ^ n = omega arith in grind (arith, nat_tests)) in
        ap-le (nat_le (2 ^ n) m) none i
      where
        ap-le : (b : Bool) → b ≡ false → powers n m ≤ w → powers n m + cond b 1 0 ≤ w
        ap-le false e i = omega arith
        ap-le true e i = absurd cc

powers_large : (n m w : ℕ) → 2 ^ w ≤ m → w < n → w < powers n m
powers_large zero m w ge lt = absurd (omega arith)
powers_large (suc n) m w ge lt = by (λ (l : w < n). powers_large n m w ge l) (cases_lt w n)
  where
    all : (k : ℕ) → k ≤ w → powers k m ≡ k
    all zero le = refl
    all (suc k) le =
        let p : 2 ^ k ≤ 2 ^ w = pow_mono (let l : k ≤ w = omega arith in l) in
        let yes : nat_le (2 ^ k) m ≡ true = (let l : 2 ^ k ≤ m = omega arith in grind (arith, nat_tests)) in
        ap (λ (b : Bool). powers k m + cond b 1 0) yes ∙ ap (λ (j : ℕ). j + 1) (all k (omega arith)) ∙ (let s : k + 1 ≡ suc k = omega arith in s)

    more : (b : Bool) → w < powers n m → w < powers n m + cond b 1 0
    more true i = omega arith
    more false i = omega arith

    by : (w < n → w < powers n m) → (w < n) ⊎ (n ≤ w) → w < powers (suc n) m
    by again (inl l) = more (nat_le (2 ^ n) m) (again l)
    by again (inr le) =
        let e : n ≡ w = omega arith in
        let a : powers w m ≡ w = all w (omega arith) in
        let yes : nat_le (2 ^ n) m ≡ true = (let l : 2 ^ n ≤ m = subst (λ (k : ℕ). 2 ^ k ≤ m) (sym e) ge in grind (arith, nat_tests)) in
        let f : powers n m ≡ w = ap (λ (k : ℕ). powers k m) e ∙ a in
        one (nat_le (2 ^ n) m) yes f
      where
        one : (b : Bool) → b ≡ true → powers n m ≡ w → w < powers n m + cond b 1 0
        one true e f = omega arith
        one false e f = absurd cc

pub size_small : (m w : ℕ) → m < 2 ^ w → size m ≤ w
unfolding size
size_small m w lt = powers_small 32 m w lt

pub size_fits : (m w : ℕ) → m < 2 ^ 32 → size m ≤ w → m < 2 ^ w
unfolding size
size_fits m w short le = elim (cases_lt m (2 ^ w)) [
  | inl lt ↦ lt
  | inr ge ↦ elim (cases_lt w 32) [
    | inl small ↦ absurd (let l : w < powers 32 m = powers_large 32 m w ge small in omega arith)
    | inr big ↦ (let p : 2 ^ 32 ≤ 2 ^ w = pow_mono big in omega arith)
  ]
]

-- the leading zeros of a number that is stored in 32 bits
pub zeros_few : (m n : ℕ) → n ≡ count_leading_zeros 32 m → n ≤ 32
zeros_few m n is = omega (arith, leading_le 32 m)

pub size_is : (m : ℕ) → m < 2 ^ 32 → 32 - count_leading_zeros 32 m ≡ size m
unfolding size
size_is m short = (let top = leading_length 32 m short in by top.0 top.1 top.2 top.3)
  where
    by : (w : ℕ) → count_leading_zeros 32 m + w ≡ 32 → m < 2 ^ w → 2 ^ w ≤ 2 * m + 1 → 32 - count_leading_zeros 32 m ≡ powers 32 m
    by zero e below above = let le : powers 32 m ≤ 0 = powers_small 32 m 0 below in omega arith
    by (suc w) e below above =
        let twice : 2 ^ suc w ≡ 2 ^ w + 2 ^ w = two-pow-succ w in
        let half : 2 ^ w ≤ m = omega arith in
        let most : powers 32 m ≤ suc w = powers_small 32 m (suc w) below in
        let least : w < powers 32 m = powers_large 32 m w half (omega arith) in
        omega arith

pub raise_fits : (lblock : ℕ) (parts : List HeaderPart) → AreShort parts → AllFit (lblock + raise_of lblock parts) parts
raise_fits lblock parts s = all parts (raise_of lblock parts) s (omega arith)
  where
    all : (ps : List HeaderPart) (k : ℕ) → AreShort ps → raise_of lblock ps ≤ k → AllFit (lblock + k) ps
    all [] k s le = tt
    all (p ∷ ps) k s le = (size_fits p.length (width (lblock + k) p.passes) s.0 (omega arith), all ps k s.1 (omega arith))

pub raise_least : (lblock raise : ℕ) (parts : List HeaderPart) → AllFit (lblock + raise) parts → raise_of lblock parts ≤ raise
raise_least lblock raise [] f = omega arith
raise_least lblock raise (p ∷ ps) f =
    let s : size p.length ≤ width (lblock + raise) p.passes = size_small p.length (width (lblock + raise) p.passes) f.0 in
    let i : raise_of lblock ps ≤ raise = raise_least lblock raise ps f.1 in
    omega arith
