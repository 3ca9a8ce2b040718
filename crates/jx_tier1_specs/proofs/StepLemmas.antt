-- A pass at a place goes the same way again where a grid answers that its result may become.
use Rattle.std.proofs.Common.{◌≡◌, ◌≤◌, ◌+◌, ◌*◌, ◌==◌, ℕ, Bool, true, false, not, ◌&&◌, ◌||◌, refl, ap, ◌∙◌, arith, if◌then◌else◌}
use Rattle.std.proofs.lemmas.Bool.Decides.{nat_tests}
use Rattle.std.proofs.lemmas.Bool.{ltb-false, not-true, and_parts}
use Rattle.jx_tier1_specs.specs.declared.coef.Coef.{Coef}
use Rattle.jx_tier1_specs.specs.declared.question.Plane.{Plane}
use Rattle.jx_tier1_specs.specs.Cells.{Cells, coef_at, significant}
use Rattle.jx_tier1_specs.specs.Asking.{Asking, Told}
use Rattle.jx_tier1_specs.specs.Pass.{IsScan, shift_of, is_decided, with_bit, with_sign, changed, label_at, sign_of, bit_of, significance_at, refinement_at, usual_at}
use Rattle.jx_tier1_specs.specs.Needs.{bit_at_place, followed}
use Rattle.jx_tier1_specs.proofs.FrontLemmas.{IsClean, zero_before, more_before, sign_before, zero_clean, more_clean, sign_clean, more_seen, sign_bit_seen, sign_seen}
use Rattle.jx_tier1_specs.proofs.GridLemmas.{AreClean, IsIn, with_front, with_clean, seen_at}
use Rattle.jx_tier1_specs.proofs.LeafLemmas.{AllLeaves, IsBack, Back, back_told}
use Rattle.jx_tier1_specs.proofs.WroteLemmas.{or_false}

pub or_right : (a b : Bool) → a || b ≡ false → b ≡ false
or_right true b h = absurd (cc)
or_right false b h = h

pub no_bits : (n : ℕ) → not (n == 0) ≡ false → n ≡ 0
no_bits n h = grind (arith, nat_tests)

pub clean_at : (k : Plane) (m : Cells) (x y : ℕ) → AreClean k.planes (k.number + 1) m → IsClean k.planes (k.number + 1) (coef_at m x y)
clean_at k m x y a = a.at (y * m.width + x)

-- the leaves of a first bit
bit_back_at : (k : Plane) (m : Cells) (x y : ℕ) → IsScan k → IsIn m x y → AreClean k.planes (k.number + 1) m
    → (coef_at m x y).bits ≡ 0 → (coef_at m x y).planes ≤ k.number → (bit : Bool)
    → AllLeaves (if bit then sign_of k m x y else Told (changed m x y (with_bit k false))) (IsBack k.planes (k.number + 1) m (bit_of k m x y))
bit_back_at k m x y s i a z u true = λ n.
    let c : Coef = coef_at m x y in
    let cl : IsClean k.planes (k.number + 1) c = clean_at k m x y a in
    record {
      front = with_front k.planes m x y (with_sign k n c) a.whole i (sign_before k n c s u cl z);
      clean = with_clean k.planes (k.number + 1) m x y (with_sign k n c) i a (sign_clean k n c s u cl);
      follows = λ g f.
          let p = seen_at k.planes m x y (with_sign k n c) g a.whole i f in
          let e : bit_at_place g (shift_of k) x y ≡ true = sign_bit_seen k n c (coef_at g x y) s u cl p in
          ap (λ (b : Bool). followed g (if b then sign_of k m x y else Told (changed m x y (with_bit k false)))) e
          ∙ ap (λ (b : Bool). changed m x y (with_sign k b)) (sign_seen k n c (coef_at g x y) s u cl p);
    }
bit_back_at k m x y s i a z u false =
    let c : Coef = coef_at m x y in
    let cl : IsClean k.planes (k.number + 1) c = clean_at k m x y a in
    record {
      front = with_front k.planes m x y (with_bit k false c) a.whole i (zero_before k c cl);
      clean = with_clean k.planes (k.number + 1) m x y (with_bit k false c) i a (zero_clean k c cl);
      follows = λ g f.
          let p = seen_at k.planes m x y (with_bit k false c) g a.whole i f in
          let e : bit_at_place g (shift_of k) x y ≡ false = more_seen k false c (coef_at g x y) s u cl p in
          ap (λ (b : Bool). followed g (if b then sign_of k m x y else Told (changed m x y (with_bit k false)))) e;
    }

bit_back : (k : Plane) (m : Cells) (x y : ℕ) → IsScan k → IsIn m x y → AreClean k.planes (k.number + 1) m
    → (coef_at m x y).bits ≡ 0 → (coef_at m x y).planes ≤ k.number → Back k.planes (k.number + 1) m (bit_of k m x y)
bit_back k m x y s i a z u = λ b. bit_back_at k m x y s i a z u b

pub if_back : (planes most : ℕ) (m : Cells) (b : Bool) (t u : Asking Cells) → (b ≡ true → Back planes most m t) → (b ≡ false → Back planes most m u)
    → Back planes most m (if b then t else u)
if_back planes most m true t u f g = f refl
if_back planes most m false t u f g = g refl

abbrev pub PassBack : Plane → Cells → Asking Cells → Type 0
PassBack k m t = Back k.planes (k.number + 1) m t

pub significance_back : (k : Plane) (m : Cells) (x y : ℕ) → IsScan k → IsIn m x y → AreClean k.planes (k.number + 1) m → PassBack k m (significance_at k m x y)
significance_back k m x y s i a =
    let c : Coef = coef_at m x y in
    let p : Bool = significant c || is_decided k c in
    let l : Bool = label_at k m x y == 0 in
    if_back k.planes (k.number + 1) m (p || l) (Told m) (bit_of k m x y) (λ e. back_told k.planes (k.number + 1) m a)
    (λ e. bit_back k m x y s i a (no_bits c.bits (or_false (significant c) (is_decided k c) (or_false p l e)))
    (ltb-false k.number c.planes (or_right (significant c) (is_decided k c) (or_false p l e))))

pub usual_back : (k : Plane) (m : Cells) (x y : ℕ) → IsScan k → IsIn m x y → AreClean k.planes (k.number + 1) m → PassBack k m (usual_at k m x y)
usual_back k m x y s i a =
    let c : Coef = coef_at m x y in
    if_back k.planes (k.number + 1) m (significant c || is_decided k c) (Told m) (bit_of k m x y) (λ e. back_told k.planes (k.number + 1) m a)
    (λ e. bit_back k m x y s i a (no_bits c.bits (or_false (significant c) (is_decided k c) e))
    (ltb-false k.number c.planes (or_right (significant c) (is_decided k c) e)))

pub refinement_back : (k : Plane) (m : Cells) (x y : ℕ) → IsScan k → IsIn m x y → AreClean k.planes (k.number + 1) m → PassBack k m (refinement_at k m x y)
refinement_back k m x y s i a =
    let c : Coef = coef_at m x y in
    let cl : IsClean k.planes (k.number + 1) c = clean_at k m x y a in
    if_back k.planes (k.number + 1) m (significant c && not (is_decided k c)) _ (Told m)
    (λ e. λ b.
    let u = ltb-false k.number c.planes (not-true (is_decided k c) ((and_parts (significant c) (not (is_decided k c)) e).1)) in
    record {
      front = with_front k.planes m x y (with_bit k b c) a.whole i (more_before k b c s u cl);
      clean = with_clean k.planes (k.number + 1) m x y (with_bit k b c) i a (more_clean k b c s u cl);
      follows = λ g f.
          ap (λ (d : Bool). changed m x y (with_bit k d)) (more_seen k b c (coef_at g x y) s u cl (seen_at k.planes m x y (with_bit k b c) g a.whole i f));
    })
    (λ e. back_told k.planes (k.number + 1) m a)
