-- The run mode goes the same way again where a grid answers that its result may become.
use Rattle.std.proofs.Common.{◌≡◌, ◌<◌, ◌≤◌, ◌+◌, ◌%◌, ◌==◌, nat_lt, nat_le, ℕ, zero, suc, Bool, true, false, not, ◌&&◌, refl, sym, ap, ◌∙◌, arith, subst, lit<, if◌then◌else◌}
use Rattle.std.proofs.lemmas.Bool.{leb-true, ltb-false, not-true, and_parts}
use Rattle.jx_tier1_specs.specs.declared.coef.Coef.{Coef}
use Rattle.jx_tier1_specs.specs.declared.question.Plane.{Plane}
use Rattle.jx_tier1_specs.specs.Cells.{Cells, coef_at, significant}
use Rattle.jx_tier1_specs.specs.Asking.{Told}
use Rattle.jx_tier1_specs.specs.Pass.{IsScan, shift_of, is_decided, with_bit, with_sign, changed, label_at, is_quiet, is_run, zeroed, number_in_run, named_at, place_at, run_at, usual_at, cleanup_at}
use Rattle.jx_tier1_specs.specs.Needs.{bit_at_place, first_of_four, followed}
use Rattle.jx_tier1_specs.proofs.FrontLemmas.{zero_before, sign_before, zero_clean, sign_clean, more_seen, sign_bit_seen, sign_seen}
use Rattle.jx_tier1_specs.proofs.GridLemmas.{IsFront, AreClean, IsIn, front_same, front_next, with_front, with_clean, seen_at, below_with, above_with}
use Rattle.jx_tier1_specs.proofs.LeafLemmas.{AllLeaves, IsBack}
use Rattle.jx_tier1_specs.proofs.StepLemmas.{no_bits, clean_at, if_back, PassBack, usual_back}

-- a coefficient that is left to the cleanup pass and insignificant
pub record IsLeft (k : Plane) (c : Coef) : Type 0 where
  pub bits : c.bits ≡ 0
  pub planes : c.planes ≤ k.number

quiet_left : (k : Plane) (g : Cells) (x y : ℕ) → is_quiet k g x y ≡ true → IsLeft k (coef_at g x y)
quiet_left k g x y h =
    let c : Coef = coef_at g x y in
    let a : Bool = not (significant c) in
    let b : Bool = not (is_decided k c) in
    let ab = (and_parts (a && b) (label_at k g x y == 0) h).0 in
    record {
      bits = no_bits c.bits (not-true (significant c) ((and_parts a b ab).0));
      planes = ltb-false k.number c.planes (not-true (is_decided k c) ((and_parts a b ab).1));
    }

-- the four places of a run
abbrev pub AreLeft : Plane → Cells → ℕ → ℕ → Type 0
AreLeft k g x y = (n : ℕ) → n < 4 → IsLeft k (coef_at g x (y + n))

left_at : (k : Plane) (g : Cells) (x y n : ℕ) → is_quiet k g x y ≡ true → is_quiet k g x (y + 1) ≡ true → is_quiet k g x (y + 2) ≡ true
    → is_quiet k g x (y + 3) ≡ true → n < 4 → IsLeft k (coef_at g x (y + n))
left_at k g x y zero a b c d l = let e : y + 0 ≡ y = omega arith in subst (λ (r : ℕ). IsLeft k (coef_at g x r)) (sym e) (quiet_left k g x y a)
left_at k g x y (suc zero) a b c d l = quiet_left k g x (y + 1) b
left_at k g x y (suc (suc zero)) a b c d l = quiet_left k g x (y + 2) c
left_at k g x y (suc (suc (suc zero))) a b c d l = quiet_left k g x (y + 3) d
left_at k g x y (suc (suc (suc (suc n)))) a b c d l = absurd (omega arith)

pub record IsRun (k : Plane) (g : Cells) (x y : ℕ) : Type 0 where
  pub rows : y + 4 ≤ g.height
  pub left : AreLeft k g x y

pub is_one : (k : Plane) (g : Cells) (x y : ℕ) → is_run k g x y ≡ true → IsRun k g x y
is_one k g x y h =
    let t : Bool = y % 4 == 0 in
    let w : Bool = nat_le (y + 4) g.height in
    let a : Bool = is_quiet k g x y in
    let b : Bool = is_quiet k g x (y + 1) in
    let c : Bool = is_quiet k g x (y + 2) in
    let d : Bool = is_quiet k g x (y + 3) in
    let abc = (and_parts (t && w && a && b && c) d h).0 in
    let ab = (and_parts (t && w && a && b) c abc).0 in
    let pa = (and_parts (t && w && a) b ab).0 in
    let p = (and_parts (t && w) a pa).0 in
    record {
      rows = leb-true (y + 4) g.height ((and_parts t w p).1);
      left = λ n l. left_at k g x y n ((and_parts (t && w) a pa).1) ((and_parts (t && w && a) b ab).1) ((and_parts (t && w && a && b) c abc).1) ((and_parts (t && w && a && b && c) d h).1) l;
    }

-- rows that are decided to be 0
pub record AreZeroed (k : Plane) (count : ℕ) (g : Cells) (x y : ℕ) : Type 0 where
  pub front : IsFront k.planes g (zeroed k count g x y)
  pub clean : AreClean k.planes (k.number + 1) (zeroed k count g x y)

pub zero_rows : (k : Plane) (count : ℕ) (g : Cells) (x y : ℕ) → AreClean k.planes (k.number + 1) g → x < g.width → y + count ≤ g.height → AreZeroed k count g x y
zero_rows k zero g x y a p q = record { front = front_same k.planes g; clean = a }
zero_rows k (suc n) g x y a p q =
    let c : Coef = coef_at g x y in
    let i : IsIn g x y = record { column = p; row = omega arith } in
    let h : Cells = changed g x y (with_bit k false) in
    let r = zero_rows k n h x (y + 1) (with_clean k.planes (k.number + 1) g x y (with_bit k false c) i a (zero_clean k c (clean_at k g x y a))) p (omega arith) in
    record {
      front = front_next k.planes g h (zeroed k n h x (y + 1)) (with_front k.planes g x y (with_bit k false c) a.whole i (zero_before k c (clean_at k g x y a))) r.front;
      clean = r.clean;
    }

pub left_same : (k : Plane) (c d : Coef) → d ≡ c → IsLeft k c → IsLeft k d
left_same k c d e h = subst (λ (x : Coef). IsLeft k x) (sym e) h

pub zero_seen : (k : Plane) (count i : ℕ) (g : Cells) (x y : ℕ) (h : Cells) → IsScan k → AreClean k.planes (k.number + 1) g → x < g.width → y + count ≤ g.height
    → i < count → IsLeft k (coef_at g x (y + i)) → IsFront k.planes (zeroed k count g x y) h → bit_at_place h (shift_of k) x (y + i) ≡ false
zero_seen k zero i g x y h s a p q l t f = absurd (omega arith)
zero_seen k (suc n) zero g x y h s a p q l t f =
    let c : Coef = coef_at g x y in
    let e : y + 0 ≡ y = omega arith in
    let i : IsIn g x y = record { column = p; row = omega arith } in
    let m : Cells = changed g x y (with_bit k false) in
    let cl = clean_at k g x y a in
    let r = zero_rows k n m x (y + 1) (with_clean k.planes (k.number + 1) g x y (with_bit k false c) i a (zero_clean k c cl)) p (omega arith) in
    let u : IsLeft k c = subst (λ (z : ℕ). IsLeft k (coef_at g x z)) e t in
    let seen = seen_at k.planes g x y (with_bit k false c) h a.whole i (front_next k.planes m (zeroed k n m x (y + 1)) h r.front f) in
    subst (λ (z : ℕ). bit_at_place h (shift_of k) x z ≡ false) (sym e) (more_seen k false c (coef_at h x y) s u.planes cl seen)
zero_seen k (suc n) (suc i) g x y h s a p q l t f =
    let c : Coef = coef_at g x y in
    let e : y + suc i ≡ y + 1 + i = omega arith in
    let j : IsIn g x y = record { column = p; row = omega arith } in
    let m : Cells = changed g x y (with_bit k false) in
    let cl = clean_at k g x y a in
    let b = with_clean k.planes (k.number + 1) g x y (with_bit k false c) j a (zero_clean k c cl) in
    let u : IsLeft k (coef_at g x (y + 1 + i)) = subst (λ (z : ℕ). IsLeft k (coef_at g x z)) e t in
    let v : IsLeft k (coef_at m x (y + 1 + i)) =
    left_same k (coef_at g x (y + 1 + i)) (coef_at m x (y + 1 + i)) (below_with g x y (y + 1 + i) (with_bit k false c) (omega arith) (omega arith)) u in
    subst (λ (z : ℕ). bit_at_place h (shift_of k) x z ≡ false) (sym e) (zero_seen k n i m x (y + 1) h s b p (omega arith) (omega arith) v f)

-- the first of four
pub first_none : (g : Cells) (s x y : ℕ) → ((i : ℕ) → i < 4 → bit_at_place g s x (y + i) ≡ false) → first_of_four g s x y ≡ 4
first_none g s x y h =
    let e : y + 0 ≡ y = omega arith in
    let a : bit_at_place g s x y ≡ false = subst (λ (z : ℕ). bit_at_place g s x z ≡ false) e (h 0 (omega arith)) in
    rw (a, h 1 (omega arith), h 2 (omega arith), h 3 (omega arith)) refl

first_is : (g : Cells) (s x y n : ℕ) → n < 4 → ((i : ℕ) → i < n → bit_at_place g s x (y + i) ≡ false) → bit_at_place g s x (y + n) ≡ true
    → first_of_four g s x y ≡ n
first_is g s x y zero l h t =
    let e : y + 0 ≡ y = omega arith in
    let a : bit_at_place g s x y ≡ true = subst (λ (z : ℕ). bit_at_place g s x z ≡ true) e t in
    rw a refl
first_is g s x y (suc zero) l h t =
    let e : y + 0 ≡ y = omega arith in
    let a : bit_at_place g s x y ≡ false = subst (λ (z : ℕ). bit_at_place g s x z ≡ false) e (h 0 (omega arith)) in
    rw (a, t) refl
first_is g s x y (suc (suc zero)) l h t =
    let e : y + 0 ≡ y = omega arith in
    let a : bit_at_place g s x y ≡ false = subst (λ (z : ℕ). bit_at_place g s x z ≡ false) e (h 0 (omega arith)) in
    rw (a, h 1 (omega arith), t) refl
first_is g s x y (suc (suc (suc zero))) l h t =
    let e : y + 0 ≡ y = omega arith in
    let a : bit_at_place g s x y ≡ false = subst (λ (z : ℕ). bit_at_place g s x z ≡ false) e (h 0 (omega arith)) in
    rw (a, h 1 (omega arith), h 2 (omega arith), t) refl
first_is g s x y (suc (suc (suc (suc n)))) l h t = absurd (omega arith)

pub record IsNumber (h l : Bool) : Type 0 where
  pub few : number_in_run h l < 4
  pub any : nat_lt (number_in_run h l) 4 ≡ true
  pub high : nat_le 2 (number_in_run h l) ≡ h
  pub low : (number_in_run h l % 2 == 1) ≡ l

pub number_is : (h l : Bool) → IsNumber h l
number_is true true = record { few = lit< tt; any = refl; high = refl; low = refl }
number_is true false = record { few = lit< tt; any = refl; high = refl; low = refl }
number_is false true = record { few = lit< tt; any = refl; high = refl; low = refl }
number_is false false = record { few = lit< tt; any = refl; high = refl; low = refl }

-- a grid that answers for the named place goes to it
named_follows : (k : Plane) (m : Cells) (x y : ℕ) (h l n : Bool) (g : Cells) → first_of_four g (shift_of k) x y ≡ number_in_run h l
    → (coef_at g x (y + number_in_run h l)).negative ≡ n
    → followed g (run_at k m x y) ≡ zeroed k (number_in_run h l) (changed m x (y + number_in_run h l) (with_sign k n)) x y
named_follows k m x y h l n g e t =
    let f : ℕ = first_of_four g (shift_of k) x y in
    let d = number_is h l in
    let N : ℕ = number_in_run h l in
    let v : Cells = zeroed k 4 m x y in
    ap (λ (b : Bool). followed g (if b then place_at k m x y else Told v)) (ap (λ (z : ℕ). nat_lt z 4) e ∙ d.any)
    ∙ (ap (λ (b : Bool). followed g (named_at k m x y (number_in_run b (f % 2 == 1)))) (ap (λ (z : ℕ). nat_le 2 z) e ∙ d.high)
    ∙ (ap (λ (b : Bool). followed g (named_at k m x y (number_in_run h b))) (ap (λ (z : ℕ). z % 2 == 1) e ∙ d.low)
    ∙ ap (λ (b : Bool). zeroed k N (changed m x (y + N) (with_sign k b)) x y) t))

-- what a grid shows after a named place
pub record AreSeen (k : Plane) (m : Cells) (x y n : ℕ) (negative : Bool) (g : Cells) : Type 0 where
  pub first : first_of_four g (shift_of k) x y ≡ n
  pub sign : (coef_at g x (y + n)).negative ≡ negative

abbrev pub named_cells : Plane → Cells → ℕ → ℕ → ℕ → Bool → Cells
named_cells k m x y n negative = zeroed k n (changed m x (y + n) (with_sign k negative)) x y

pub record AreNamed (k : Plane) (m : Cells) (x y n : ℕ) (negative : Bool) : Type 0 where
  pub front : IsFront k.planes m (named_cells k m x y n negative)
  pub clean : AreClean k.planes (k.number + 1) (named_cells k m x y n negative)
  pub seen : (g : Cells) → IsFront k.planes (named_cells k m x y n negative) g → AreSeen k m x y n negative g

pub named_is : (k : Plane) (m : Cells) (x y n : ℕ) (negative : Bool) → IsScan k → AreClean k.planes (k.number + 1) m → x < m.width → IsRun k m x y → n < 4
    → AreNamed k m x y n negative
named_is k m x y n negative s a p r l =
    let c : Coef = coef_at m x (y + n) in
    let rows = r.rows in
    let i : IsIn m x (y + n) = record { column = p; row = omega arith } in
    let t = r.left n l in
    let cl = clean_at k m x (y + n) a in
    let q : Cells = changed m x (y + n) (with_sign k negative) in
    let b : AreClean k.planes (k.number + 1) q = with_clean k.planes (k.number + 1) m x (y + n) (with_sign k negative c) i a (sign_clean k negative c s t.planes cl) in
    let z = zero_rows k n q x y b p (omega arith) in
    let f : IsFront k.planes m q = with_front k.planes m x (y + n) (with_sign k negative c) a.whole i (sign_before k negative c s t.planes cl t.bits) in
    record {
      front = front_next k.planes m q (named_cells k m x y n negative) f z.front;
      clean = z.clean;
      seen = λ g h.
          let w = seen_at k.planes m x (y + n) (with_sign k negative c) g a.whole i (front_next k.planes q (named_cells k m x y n negative) g z.front h) in
          record {
            first = first_is g (shift_of k) x y n l
                (λ j o. zero_seen k n j q x y g s b p (omega arith) o
                (left_same k (coef_at m x (y + j)) (coef_at q x (y + j)) (above_with m x (y + n) (y + j) (with_sign k negative c) (omega arith) (omega arith)) (r.left j (omega arith))) h)
                (sign_bit_seen k negative c (coef_at g x (y + n)) s t.planes cl w);
            sign = sign_seen k negative c (coef_at g x (y + n)) s t.planes cl w;
          };
    }

-- the leaves of the run mode
run_back_at : (k : Plane) (m : Cells) (x y : ℕ) → IsScan k → AreClean k.planes (k.number + 1) m → x < m.width → IsRun k m x y → (any : Bool)
    → AllLeaves (if any then place_at k m x y else Told (zeroed k 4 m x y)) (IsBack k.planes (k.number + 1) m (run_at k m x y))
run_back_at k m x y s a p r true = λ h. λ l. λ n.
    let d = number_is h l in
    let w = named_is k m x y (number_in_run h l) n s a p r d.few in
    record {
      front = w.front;
      clean = w.clean;
      follows = λ g f. let e = w.seen g f in named_follows k m x y h l n g e.first e.sign;
    }
run_back_at k m x y s a p r false =
    let z = zero_rows k 4 m x y a p r.rows in
    record {
      front = z.front;
      clean = z.clean;
      follows = λ g f.
          ap (λ (b : ℕ). followed g (if nat_lt b 4 then place_at k m x y else Told (zeroed k 4 m x y)))
          (first_none g (shift_of k) x y (λ i l. zero_seen k 4 i m x y g s a p r.rows l (r.left i l) f));
    }

pub cleanup_back : (k : Plane) (m : Cells) (x y : ℕ) → IsScan k → IsIn m x y → AreClean k.planes (k.number + 1) m → PassBack k m (cleanup_at k m x y)
cleanup_back k m x y s i a =
    if_back k.planes (k.number + 1) m (is_run k m x y) (run_at k m x y) (usual_at k m x y)
    (λ e. λ b. run_back_at k m x y s a i.column (is_one k m x y e) b)
    (λ e. usual_back k m x y s i a)
