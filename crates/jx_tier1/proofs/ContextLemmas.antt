-- Tables of labels: as they grow, and what is read in them.
use Rattle.std.proofs.Common.{◌≡◌, ◌<◌, ◌≤◌, ◌+◌, ◌*◌, ◌/◌, ◌%◌, ℕ, zero, suc, Bool, true, false, ◌&&◌, refl, sym, ap, ◌∙◌, arith, subst, List, [], ◌∷◌, length, get_or}
use Rattle.std.specs.Prelude.{nat_le}
use Rattle.std.proofs.Math.Dec.{eqb, leb, ltb}
use Rattle.std.proofs.lemmas.Bool.{and_parts, eqb-true, leb-true, ltb-true, le-leb, lt-leb}
use Rattle.jx_base.specs.declared.names.Band.{Band}
use Rattle.jx_base.specs.declared.names.Band.TheVariants.{LL, HL, LH, HH}
use Rattle.jx_tier1.specs.declared.tables.TheConstants.{LOW, HIGH, DIAGONAL, SIGNS}
use Rattle.jx_tier1_specs.specs.declared.question.Plane.{Plane}
use Rattle.jx_tier1_specs.specs.Cells.{Cells}
use Rattle.jx_tier1_specs.specs.Labels.{significance_row, sign_row}
use Rattle.jx_tier1_specs.specs.Near.{across_of, down_of}
use Rattle.jx_tier1_specs.specs.Pass.{label_at}
use Rattle.jx_tier1.specs.Contexts.{first_label, sign_context, context_entry, HasFirsts, HasContexts}
use Rattle.jx_tier1.specs.Places.{HasNine, HasFour}
use Rattle.jx_tier1.specs.Sights.{IsSight, IsBit}
use Rattle.jx_tier1.proofs.SightLemmas.{sees_nine, label_seen}
use Rattle.jx_tier1.proofs.SignSight.{sign_seen}

-- tables that are tested entry by entry
firsts_fit : Band → ℕ → List ℕ → Bool
firsts_fit band n [] = true
firsts_fit band n (x ∷ xs) = (eqb x (first_label band n) && leb x 8) && firsts_fit band (n + 1) xs

fit_at : (band : Band) (n : ℕ) (xs : List ℕ) (i at : ℕ) → firsts_fit band n xs ≡ true → i < length xs → at ≡ n + i
    → (get_or xs i 0 ≡ first_label band at) × (get_or xs i 0 ≤ 8)
unfolding firsts_fit
fit_at band n [] i at e l m = absurd (omega arith)
fit_at band n (x ∷ xs) zero at e l m =
    let here = (and_parts (eqb x (first_label band n) && leb x 8) (firsts_fit band (n + 1) xs) e).0 in
    let parts = and_parts (eqb x (first_label band n)) (leb x 8) here in
    let same : n ≡ at = omega arith in
    (eqb-true x (first_label band n) parts.0 ∙ ap (λ (k : ℕ). first_label band k) same, leb-true x 8 parts.1)
fit_at band n (x ∷ xs) (suc i) at e l m =
    let next = (and_parts (eqb x (first_label band n) && leb x 8) (firsts_fit band (n + 1) xs) e).1 in
    fit_at band (n + 1) xs i at next (omega arith) (omega arith)

has_firsts : (band : Band) (xs : List ℕ) → length xs ≡ 512 → firsts_fit band 0 xs ≡ true → HasFirsts band 512 xs
has_firsts band xs s e = record {
  size = s;
  at = λ n l. (fit_at band 0 xs n n e (omega arith) (omega arith)).0;
  few = λ n l. (fit_at band 0 xs n n e (omega arith) (omega arith)).1;
}

pub low_ll : HasFirsts LL 512 LOW
unfolding firsts_fit first_label significance_row
low_ll = has_firsts LL LOW refl refl

pub low_lh : HasFirsts LH 512 LOW
unfolding firsts_fit first_label significance_row
low_lh = has_firsts LH LOW refl refl

pub high_hl : HasFirsts HL 512 HIGH
unfolding firsts_fit first_label significance_row
high_hl = has_firsts HL HIGH refl refl

pub diagonal_hh : HasFirsts HH 512 DIAGONAL
unfolding firsts_fit first_label significance_row
diagonal_hh = has_firsts HH DIAGONAL refl refl

contexts_fit : ℕ → List ℕ → Bool
contexts_fit n [] = true
contexts_fit n (x ∷ xs) = (eqb x (context_entry (sign_context n)) && ltb (sign_context n).0 19) && contexts_fit (n + 1) xs

context_fits : (n : ℕ) (xs : List ℕ) (i at : ℕ) → contexts_fit n xs ≡ true → i < length xs → at ≡ n + i
    → (get_or xs i 0 ≡ context_entry (sign_context at)) × ((sign_context at).0 < 19)
unfolding contexts_fit
context_fits n [] i at e l m = absurd (omega arith)
context_fits n (x ∷ xs) zero at e l m =
    let here = (and_parts (eqb x (context_entry (sign_context n)) && ltb (sign_context n).0 19) (contexts_fit (n + 1) xs) e).0 in
    let parts = and_parts (eqb x (context_entry (sign_context n))) (ltb (sign_context n).0 19) here in
    let same : n ≡ at = omega arith in (
      eqb-true x (context_entry (sign_context n)) parts.0 ∙ ap (λ (k : ℕ). context_entry (sign_context k)) same,
      subst (λ (k : ℕ). (sign_context k).0 < 19) same (ltb-true (sign_context n).0 19 parts.1),
    )
context_fits n (x ∷ xs) (suc i) at e l m =
    let next = (and_parts (eqb x (context_entry (sign_context n)) && ltb (sign_context n).0 19) (contexts_fit (n + 1) xs) e).1 in
    context_fits (n + 1) xs i at next (omega arith) (omega arith)

signs_fit : contexts_fit 0 SIGNS ≡ true
unfolding contexts_fit sign_context sign_row
signs_fit = refl

signs_size : length SIGNS ≡ 512
signs_size = refl

pub has_contexts : HasContexts 512 SIGNS
has_contexts = record {
  size = signs_size;
  at = λ n l. (context_fits 0 SIGNS n n signs_fit (subst (λ (m : ℕ). n < m) (sym signs_size) l) (omega arith)).0;
  few = λ n l. (context_fits 0 SIGNS n n signs_fit (subst (λ (m : ℕ). n < m) (sym signs_size) l) (omega arith)).1;
}

-- what is read
row_back : (row : ℕ × Bool) (v : ℕ) → row.0 < 32 → v ≡ context_entry row → (v % 32, nat_le 32 v) ≡ row
row_back (label, true) v l e =
    let a : v % 32 ≡ label = omega arith in
    rw (a, le-leb 32 v (omega arith)) refl
row_back (label, false) v l e =
    let a : v % 32 ≡ label = omega arith in
    rw (a, lt-leb 32 v (omega arith)) refl

pub less_back : (row : ℕ × Bool) (v : ℕ) → row.0 < 19 → v ≡ context_entry row → v % 32 < 19
less_back (label, true) v l e = omega arith
less_back (label, false) v l e = omega arith

bit_is : (p : ℕ) → 6 * (p / 6) + p % 6 ≡ p
bit_is p = omega arith

pub first_read : (k : Plane) (g : Cells) (band : Band) (table : List ℕ) (x y window signs p n : ℕ) → HasFirsts band 512 table → k.band ≡ band → IsBit p
    → IsSight k.causal g x y window signs → y % 4 ≡ 0 → HasNine window p n → get_or table n 0 ≡ label_at k g (x + p / 6) (y + p % 6)
first_read k g band table x y window signs p n h e b s f m =
    let c = b.column in
    let nine = sees_nine g k.causal x y window (p / 6) (p % 6) s.window f (omega arith) b.row in
    let m' : HasNine window (6 * (p / 6) + p % 6) n = subst (λ (i : ℕ). HasNine window i n) (sym (bit_is p)) m in
    h.at n m.few
    ∙ (ap (λ (z : Band). first_label z n) (sym e) ∙ label_seen k g (x + p / 6) (y + p % 6) window (6 * (p / 6) + p % 6) n nine m')

pub context_read : (k : Plane) (g : Cells) (x y window signs p n v : ℕ) → (sign_context n).0 < 19 → v ≡ context_entry (sign_context n) → IsBit p
    → IsSight k.causal g x y window signs → y % 4 ≡ 0 → HasFour window signs p n
    → (v % 32, nat_le 32 v) ≡ sign_row (across_of g k.causal (x + p / 6) (y + p % 6)) (down_of g k.causal (x + p / 6) (y + p % 6))
context_read k g x y window signs p n v l e b s f m =
    let c = b.column in
    let m' : HasFour window signs (6 * (p / 6) + p % 6) n = subst (λ (i : ℕ). HasFour window signs i n) (sym (bit_is p)) m in
    row_back (sign_context n) v (omega arith) e
    ∙ sign_seen g k.causal x y window signs (p / 6) (p % 6) n s.window s.signs f (omega arith) b.row m'
