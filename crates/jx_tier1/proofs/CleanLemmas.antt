-- What a cleanup pass asks at the bits of a word.
use Rattle.std.proofs.Common.{◌≡◌, ◌<◌, ◌≤◌, ◌+◌, ◌-◌, ◌/◌, ◌%◌, ◌==◌, ◌&&◌, ◌||◌, ℕ, min, Bool, true, false, not, refl, sym, ap, ◌∙◌, arith, inl, inr, if◌then◌else◌}
use Rattle.std.specs.Prelude.{nat_lt, nat_le}
use Rattle.std.specs.Int.{bit_at}
use Rattle.std.proofs.lemmas.Bool.{cases_eq, cases_lt, cases_Bool, eq-eqb, ne_eqb, le-leb}
use Rattle.std.proofs.lemmas.Bool.Decides.{nat_tests}
use Rattle.jx_tier1_specs.specs.declared.question.Plane.{Plane}
use Rattle.jx_tier1_specs.specs.Cells.{Cells, significant}
use Rattle.jx_tier1_specs.specs.Near.{one_if}
use Rattle.jx_tier1_specs.specs.Asking.{Told}
use Rattle.jx_tier1_specs.specs.Pass.{is_decided, label_at, is_quiet, is_run, bit_of, run_at, usual_at}
use Rattle.jx_tier1.specs.Places.{of_nine}
use Rattle.jx_tier1.specs.WordPasses.{Cleans, coef_in, in_word, quiet_bit, four_quiet}
use Rattle.jx_tier1.specs.WordScan.{has_place, pass_at_bit}
use Rattle.jx_tier1.proofs.DueWords.{IsPlaceOf, place_of, no_place, some_place}
use Rattle.jx_tier1.proofs.NextLemmas.{nine_less}
use Rattle.jx_tier1.proofs.SightLemmas.{label_none, label_some, nine_as_eight}
use Rattle.jx_tier1.proofs.SignificanceWord.{nine_at, own_none}
use Rattle.jx_tier1.proofs.WordScanLemmas.{at_place, at_no_place, place_there, no_row}

-- bits of a word that are places of the block, and bits that aren't
pub in_there : (g : Cells) (x y i : ℕ) → i < 48 → i % 6 < 4 → x + i / 6 < g.width → y + i % 6 < g.height → in_word g x y i ≡ true
in_there g x y i l a b c = some_place g x y i l ∙ place_there g x y i a b c

and_none : (a b : Bool) → b ≡ false → (a && b) ≡ false
and_none true b e = e
and_none false b e = refl

pub in_no_row : (g : Cells) (x y i : ℕ) → g.height ≤ y + i % 6 → in_word g x y i ≡ false
in_no_row g x y i l = and_none (nat_lt i 48) (has_place g x y i) (no_row g x y i l)

-- a place that is left and has label 0
quiet_by : (s e l : Bool) (d n : ℕ) → d ≡ one_if (not (s || e)) → n ≤ 1 → (s ≡ false → one_if l ≡ 1 - n) → one_if (not s && not e && l) ≡ min d (1 - n)
quiet_by true e l d n a b f = omega arith
quiet_by false true l d n a b f = omega arith
quiet_by false false l d n a b f = let c = f refl in omega arith

pub quiet_is : (k : Plane) (g : Cells) (x y w v d z b i : ℕ) → Cleans k g x y w v d z b → y % 4 ≡ 0 → b ≤ i → in_word g x y i ≡ true
    → one_if (is_quiet k g (x + i / 6) (y + i % 6)) ≡ quiet_bit d w i
quiet_is k g x y w v d z b i c f l t =
    let p = place_of g x y i t in
    let n = nine_at k g x y w i c.sight.window f p.few p.gap in
    quiet_by (significant (coef_in g x y i)) (is_decided k (coef_in g x y i)) (label_at k g (x + i / 6) (y + i % 6) == 0) (bit_at d i) (of_nine w i) (c.due i l t)
    (nine_less w i)
    (λ s. let e = nine_as_eight w i (own_none k g x y w i c.sight.window p.few p s) in
    let m = nine_less w i in
    elim (cases_eq (of_nine w i) 0) [
      | inl o ↦
          (let a = eq-eqb (label_at k g (x + i / 6) (y + i % 6)) 0 (label_none k g (x + i / 6) (y + i % 6) w i n (sym e ∙ o)) in
          ap one_if a ∙ omega arith)
      | inr o ↦
          (let one : of_nine w i ≡ 1 = omega arith in
          let a = ne_eqb (label_at k g (x + i / 6) (y + i % 6)) 0 (λ r. label_some k g (x + i / 6) (y + i % 6) w i n (sym e ∙ one) r) in
          ap one_if a ∙ omega arith)
    ])

-- four of them
and_min : (a b : Bool) → one_if (a && b) ≡ min (one_if a) (one_if b)
and_min true true = omega arith
and_min true false = omega arith
and_min false true = omega arith
and_min false false = omega arith

all_four : (t w a b c e : Bool) (p q r s : ℕ) → t ≡ true → w ≡ true → one_if a ≡ p → one_if b ≡ q → one_if c ≡ r → one_if e ≡ s
    → one_if (t && w && a && b && c && e) ≡ min (min p q) (min r s)
all_four t w a b c e p q r s i j m n o u =
    rw (i, j)
    (let f = and_min a b in
    let h = and_min (a && b) c in
    let l = and_min (a && b && c) e in
    omega arith)

by_whole : (t w a b c e : Bool) → w ≡ false → (t && w && a && b && c && e) ≡ false
by_whole true w a b c e i = rw i refl
by_whole false w a b c e i = refl

by_first : (t w a b c e : Bool) → t ≡ false → (t && w && a && b && c && e) ≡ false
by_first t w a b c e i = rw i refl

by_quiet : (t w a b c e : Bool) → a ≡ false → (t && w && a && b && c && e) ≡ false
by_quiet true true a b c e i = rw i refl
by_quiet true false a b c e i = refl
by_quiet false w a b c e i = refl

pub is_none : (b : Bool) → one_if b ≡ 0 → b ≡ false
is_none true e = absurd (omega arith)
is_none false e = refl

pub is_some : (b : Bool) → one_if b ≡ 1 → b ≡ true
is_some true e = refl
is_some false e = absurd (omega arith)

min_none : (a b c e : ℕ) → e ≡ 0 → min (min a b) (min c e) ≡ 0
min_none a b c e i = omega arith

too_high : (a b : ℕ) → b < a → nat_le a b ≡ false
too_high a b l = grind (arith, nat_tests)

-- the run mode of a column, by its first place
pub run_is : (k : Plane) (g : Cells) (x y w v d z b p : ℕ) → Cleans k g x y w v d z b → y % 4 ≡ 0 → b ≤ p → p % 6 ≡ 0 → in_word g x y p ≡ true
    → one_if (is_run k g (x + p / 6) (y + p % 6)) ≡ four_quiet d w p
run_is k g x y w v d z b p c f l r t =
    let o = place_of g x y p t in
    let few = o.few in
    let column = o.column in
    let X : ℕ = x + p / 6 in
    let Y : ℕ = y + p % 6 in
    let first : (Y % 4 == 0) ≡ true = eq-eqb (Y % 4) 0 (omega arith) in
    elim (cases_lt g.height (Y + 4)) [
      | inr m ↦
          (let at : (n : ℕ) → n < 4 → one_if (is_quiet k g X (Y + n)) ≡ quiet_bit d w (p + n) =
          λ (n : ℕ) (s : n < 4).
          let i : (p + n) / 6 ≡ p / 6 = omega arith in
          let j : y + (p + n) % 6 ≡ Y + n = omega arith in
          let inside = in_there g x y (p + n) (omega arith) (omega arith) (omega arith) (omega arith) in
          ap (λ (u : ℕ). one_if (is_quiet k g X u)) (sym j)
          ∙ (ap (λ (u : ℕ). one_if (is_quiet k g (x + u) (y + (p + n) % 6))) (sym i) ∙ quiet_is k g x y w v d z b (p + n) c f (omega arith) inside) in
          all_four (Y % 4 == 0) (nat_le (Y + 4) g.height) (is_quiet k g X Y) (is_quiet k g X (Y + 1)) (is_quiet k g X (Y + 2)) (is_quiet k g X (Y + 3))
          (quiet_bit d w p) (quiet_bit d w (p + 1)) (quiet_bit d w (p + 2)) (quiet_bit d w (p + 3)) first (le-leb (Y + 4) g.height m)
          (quiet_is k g x y w v d z b p c f l t) (at 1 (omega arith)) (at 2 (omega arith)) (at 3 (omega arith)))
      | inl m ↦
          (let none = c.none (p + 3) (in_no_row g x y (p + 3) (omega arith)) in
          ap one_if
          (by_whole (Y % 4 == 0) (nat_le (Y + 4) g.height) (is_quiet k g X Y) (is_quiet k g X (Y + 1)) (is_quiet k g X (Y + 2)) (is_quiet k g X (Y + 3))
          (too_high (Y + 4) g.height m))
          ∙ sym (min_none (quiet_bit d w p) (quiet_bit d w (p + 1)) (quiet_bit d w (p + 2)) (quiet_bit d w (p + 3)) (omega arith)))
    ]

-- nothing is asked at a bit of no place that is left
left_none : (s e : Bool) → one_if (not (s || e)) ≡ 0 → (s || e) ≡ true
left_none true e a = refl
left_none false true a = refl
left_none false false a = absurd (omega arith)

pub left_both : (s e : Bool) → one_if (not (s || e)) ≡ 1 → (s ≡ false) × (e ≡ false)
left_both true e a = absurd (omega arith)
left_both false true a = absurd (omega arith)
left_both false false a = (refl, refl)

pub not_left : (k : Plane) (g : Cells) (x y w v d z b i : ℕ) → Cleans k g x y w v d z b → y % 4 ≡ 0 → b ≤ i → i < 48 → bit_at d i ≡ 0
    → pass_at_bit 0 k g x y i ≡ Told g
not_left k g x y w v d z b i c f l m e =
    let X : ℕ = x + i / 6 in
    let Y : ℕ = y + i % 6 in
    elim (cases_Bool (in_word g x y i)) [
      | inr t ↦ at_no_place 0 k g x y i (no_place g x y i m t)
      | inl t ↦
          (let s : Bool = significant (coef_in g x y i) in
          let h : Bool = is_decided k (coef_in g x y i) in
          let quiet : is_quiet k g X Y ≡ false =
          is_none (is_quiet k g X Y) (quiet_is k g x y w v d z b i c f l t ∙ (let u : min (bit_at d i) (1 - of_nine w i) ≡ 0 = omega arith in u)) in
          let run : is_run k g X Y ≡ false =
          by_quiet (Y % 4 == 0) (nat_le (Y + 4) g.height) (is_quiet k g X Y) (is_quiet k g X (Y + 1)) (is_quiet k g X (Y + 2)) (is_quiet k g X (Y + 3)) quiet in
          at_place 0 k g x y i (sym (some_place g x y i m) ∙ t)
          ∙ (ap (λ (u : Bool). if u then run_at k g X Y else usual_at k g X Y) run
          ∙ ap (λ (u : Bool). if u then Told g else bit_of k g X Y) (left_none s h (sym (c.due i l t) ∙ e))))
    ]

-- a place that is left
pub record IsLeftAt (k : Plane) (g : Cells) (x y i : ℕ) : Type 0 where
  pub place : IsPlaceOf g x y i
  pub inside : in_word g x y i ≡ true
  pub none : significant (coef_in g x y i) ≡ false
  pub fresh : is_decided k (coef_in g x y i) ≡ false

pub is_left : (k : Plane) (g : Cells) (x y w v d z b i : ℕ) → Cleans k g x y w v d z b → b ≤ i → bit_at d i ≡ 1 → IsLeftAt k g x y i
is_left k g x y w v d z b i c l one =
    elim (cases_Bool (in_word g x y i)) [
      | inr t ↦ let e = c.none i t in absurd (omega arith)
      | inl t ↦
          (let e = left_both (significant (coef_in g x y i)) (is_decided k (coef_in g x y i)) (sym (c.due i l t) ∙ one) in
          record { place = place_of g x y i t; inside = t; none = e.0; fresh = e.1 })
    ]

-- it isn't in run mode
pub usual_bit : (k : Plane) (g : Cells) (x y w v d z p : ℕ) → Cleans k g x y w v d z p → y % 4 ≡ 0 → bit_at d p ≡ 1 → bit_at z p ≡ 0
    → pass_at_bit 0 k g x y p ≡ bit_of k g (x + p / 6) (y + p % 6)
usual_bit k g x y w v d z p c f one e =
    let X : ℕ = x + p / 6 in
    let Y : ℕ = y + p % 6 in
    let a = is_left k g x y w v d z p p c (omega arith) one in
    let place = a.place in
    let gap = place.gap in
    let run : is_run k g X Y ≡ false =
    elim (cases_eq (p % 6) 0) [
      | inl r ↦ is_none (is_run k g X Y) (run_is k g x y w v d z p p c f (omega arith) r a.inside ∙ (sym (c.runs p (omega arith) place.few r) ∙ e))
      | inr r ↦
          by_first (Y % 4 == 0) (nat_le (Y + 4) g.height) (is_quiet k g X Y) (is_quiet k g X (Y + 1)) (is_quiet k g X (Y + 2)) (is_quiet k g X (Y + 3))
          (ne_eqb (Y % 4) 0 (λ u. r (omega arith)))
    ] in
    let left : (significant (coef_in g x y p) || is_decided k (coef_in g x y p)) ≡ false =
    ap (λ (u : Bool). u || is_decided k (coef_in g x y p)) a.none ∙ a.fresh in
    at_place 0 k g x y p (sym (some_place g x y p place.few) ∙ a.inside)
    ∙ (ap (λ (u : Bool). if u then run_at k g X Y else usual_at k g X Y) run ∙ ap (λ (u : Bool). if u then Told g else bit_of k g X Y) left)

-- it is
pub run_bit : (k : Plane) (g : Cells) (x y w v d z p : ℕ) → Cleans k g x y w v d z p → y % 4 ≡ 0 → bit_at d p ≡ 1 → p % 6 ≡ 0 → bit_at z p ≡ 1
    → (is_run k g (x + p / 6) (y + p % 6) ≡ true) × (pass_at_bit 0 k g x y p ≡ run_at k g (x + p / 6) (y + p % 6))
run_bit k g x y w v d z p c f one r e =
    let X : ℕ = x + p / 6 in
    let Y : ℕ = y + p % 6 in
    let a = is_left k g x y w v d z p p c (omega arith) one in
    let few = a.place.few in
    let run : is_run k g X Y ≡ true = is_some (is_run k g X Y) (run_is k g x y w v d z p p c f (omega arith) r a.inside ∙ (sym (c.runs p (omega arith) few r) ∙ e)) in (
      run,
      at_place 0 k g x y p (sym (some_place g x y p few) ∙ a.inside) ∙ ap (λ (u : Bool). if u then run_at k g X Y else usual_at k g X Y) run,
    )
