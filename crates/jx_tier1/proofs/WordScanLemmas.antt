-- A pass over the bits of a word is the pass over its places.
use Rattle.std.proofs.Common.{◌≡◌, ◌<◌, ◌≤◌, ◌+◌, ◌-◌, ◌*◌, ◌/◌, ◌%◌, ◌&&◌, ℕ, zero, suc, min, Bool, true, false, refl, sym, ap, ◌∙◌, arith, inl, inr, if◌then◌else◌}
use Rattle.std.specs.Prelude.{nat_lt}
use Rattle.std.proofs.lemmas.Bool.{cases_lt, lt-ltb, le-ltb}
use Rattle.std.proofs.Math.Nat.{mul-le-mul_right, mul-le-mul_left}
use Rattle.jx_tier1_specs.specs.declared.question.Plane.{Plane}
use Rattle.jx_tier1_specs.specs.declared.question.Question.{Question}
use Rattle.jx_tier1_specs.specs.Cells.{Cells}
use Rattle.jx_tier1_specs.specs.Asking.{Asking, Told, and_then, told}
use Rattle.jx_tier1_specs.specs.Pass.{pass_at, pass_at_nth, scanned}
use Rattle.jx_tier1_specs.proofs.GridLemmas.{IsIn}
use Rattle.jx_tier1_specs.proofs.Told.{told_then}
use Rattle.jx_tier1.specs.Numbers.{first_of}
use Rattle.jx_tier1.specs.Walking.{IsNow}
use Rattle.jx_tier1.specs.WordScan.{has_place, pass_at_bit, bits_scanned}
use Rattle.jx_tier1.proofs.PaceLemmas.{place_after, scan_after}
use Rattle.jx_tier1.proofs.ScanLemmas.{nth_is, scanned_then}

-- some bits, and some more
pub bits_then : {S : Type 0} (ask : S → Question → Bool × S) (pass : ℕ) (k : Plane) (x y a b p : ℕ) (g : Cells) (s : S)
    → told ask (bits_scanned pass k x y (a + b) p g) s
    ≡ told ask (bits_scanned pass k x y b (p + a) (told ask (bits_scanned pass k x y a p g) s).0) (told ask (bits_scanned pass k x y a p g) s).1
bits_then {S = S} ask pass k x y zero b p g s =
    let e : p + 0 ≡ p = omega arith in
    let z : 0 + b ≡ b = omega arith in
    ap (λ (m : ℕ). told ask (bits_scanned pass k x y m p g) s) z ∙ ap (λ (m : ℕ). told ask (bits_scanned pass k x y b m g) s) (sym e)
bits_then {S = S} ask pass k x y (suc a) b p g s =
    let first = pass_at_bit pass k g x y p in
    let h : Cells = (told ask first s).0 in
    let u = (told ask first s).1 in
    let e : p + suc a ≡ p + 1 + a = omega arith in
    let z : suc a + b ≡ suc (a + b) = omega arith in
    let t : told ask (bits_scanned pass k x y (suc a) p g) s ≡ told ask (bits_scanned pass k x y a (p + 1) h) u = told_then ask first (λ m. bits_scanned pass k x y a (p + 1) m) s in
    ap (λ (m : ℕ). told ask (bits_scanned pass k x y m p g) s) z
    ∙ (told_then ask first (λ m. bits_scanned pass k x y (a + b) (p + 1) m) s
    ∙ (bits_then ask pass k x y a b (p + 1) h u
    ∙ (ap (λ (m : ℕ). told ask (bits_scanned pass k x y b m (told ask (bits_scanned pass k x y a (p + 1) h) u).0) (told ask (bits_scanned pass k x y a (p + 1) h) u).1) (sym e)
    ∙ ap (λ (q : Cells × S). told ask (bits_scanned pass k x y b (p + suc a) q.0) q.1) (sym t))))

-- bits at which nothing is asked
pub bits_none : {S : Type 0} (ask : S → Question → Bool × S) (pass : ℕ) (k : Plane) (x y count p : ℕ) (g : Cells) (s : S)
    → ((i : ℕ) → p ≤ i → i < p + count → pass_at_bit pass k g x y i ≡ Told g) → told ask (bits_scanned pass k x y count p g) s ≡ (g, s)
bits_none ask pass k x y zero p g s h = refl
bits_none {S = S} ask pass k x y (suc count) p g s h =
    let e : pass_at_bit pass k g x y p ≡ Told g = h p (omega arith) (omega arith) in
    let more : Cells → Asking Cells = λ m. bits_scanned pass k x y count (p + 1) m in
    ap (λ (t : Asking Cells). told ask (and_then t more) s) e ∙ bits_none ask pass k x y count (p + 1) g s (λ i l m. h i (omega arith) (omega arith))

-- one bit
pub one_bit : {S : Type 0} (ask : S → Question → Bool × S) (pass : ℕ) (k : Plane) (x y p : ℕ) (g : Cells) (s : S)
    → told ask (bits_scanned pass k x y 1 p g) s ≡ told ask (pass_at_bit pass k g x y p) s
one_bit ask pass k x y p g s = told_then ask (pass_at_bit pass k g x y p) (λ h. Told h) s

pub place_there : (g : Cells) (x y p : ℕ) → p % 6 < 4 → x + p / 6 < g.width → y + p % 6 < g.height → has_place g x y p ≡ true
place_there g x y p a b c = rw (lt-ltb (p % 6) 4 a, lt-ltb (x + p / 6) g.width b, lt-ltb (y + p % 6) g.height c) refl

and_false : (a b : Bool) → (a && (b && false)) ≡ false
and_false true true = refl
and_false true false = refl
and_false false b = refl

second_false : (a b : Bool) → (a && (false && b)) ≡ false
second_false true b = refl
second_false false b = refl

pub no_row : (g : Cells) (x y p : ℕ) → g.height ≤ y + p % 6 → has_place g x y p ≡ false
no_row g x y p l = rw (le-ltb (y + p % 6) g.height l) (and_false (nat_lt (p % 6) 4) (nat_lt (x + p / 6) g.width))

no_gap : (g : Cells) (x y p : ℕ) → 4 ≤ p % 6 → has_place g x y p ≡ false
no_gap g x y p l = rw (le-ltb (p % 6) 4 l) refl

no_column : (g : Cells) (x y p : ℕ) → g.width ≤ x + p / 6 → has_place g x y p ≡ false
no_column g x y p l = rw (le-ltb (x + p / 6) g.width l) (second_false (nat_lt (p % 6) 4) (nat_lt (y + p % 6) g.height))

pub at_no_place : (pass : ℕ) (k : Plane) (g : Cells) (x y p : ℕ) → has_place g x y p ≡ false → pass_at_bit pass k g x y p ≡ Told g
at_no_place pass k g x y p e = ap (λ (b : Bool). if b then pass_at pass k g (x + p / 6) (y + p % 6) else Told g) e

pub at_place : (pass : ℕ) (k : Plane) (g : Cells) (x y p : ℕ) → has_place g x y p ≡ true → pass_at_bit pass k g x y p ≡ pass_at pass k g (x + p / 6) (y + p % 6)
at_place pass k g x y p e = ap (λ (b : Bool). if b then pass_at pass k g (x + p / 6) (y + p % 6) else Told g) e

-- a word within a stripe
pub record IsWordOf (g : Cells) (x y rows : ℕ) : Type 0 where
  pub column : x < g.width
  pub first : y % 4 ≡ 0
  pub row : y < g.height
  pub count : rows ≡ min 4 (g.height - y)

-- the bits of a column are its places
rows_scanned : {S : Type 0} (ask : S → Question → Bool × S) (pass : ℕ) (k : Plane) (x y c rows n r : ℕ) (f g : Cells) (s : S) → IsNow k g
    → g.width ≡ f.width → g.height ≡ f.height → IsWordOf f (x + c) y rows → n + r ≡ 6
    → told ask (bits_scanned pass k x y n (6 * c + r) g) s ≡ told ask (scanned pass k (rows - r) (first_of f (x + c) y rows + r) g) s
rows_scanned ask pass k x y c rows zero r f g s w a b d e =
    let h = d.count in
    let z : rows - r ≡ 0 = omega arith in
    sym (ap (λ (m : ℕ). told ask (scanned pass k m (first_of f (x + c) y rows + r) g) s) z)
rows_scanned {S = S} ask pass k x y c rows (suc n) r f g s w a b d e =
    let p : ℕ = 6 * c + r in
    let q : p / 6 ≡ c = omega arith in
    let o : p % 6 ≡ r = omega arith in
    let count = d.count in
    let column = d.column in
    let row = d.row in
    let next : p + 1 ≡ 6 * c + (r + 1) = omega arith in
    let after : first_of f (x + c) y rows + r + 1 ≡ first_of f (x + c) y rows + (r + 1) = omega arith in
    elim (cases_lt r rows) [
      | inl l ↦
          (let t : Asking Cells = pass_at pass k g (x + c) (y + r) in
          let v : Cells = (told ask t s).0 in
          let u : S = (told ask t s).1 in
          let inside : IsIn g (x + c) (y + r) = record { column = omega arith; row = omega arith } in
          let there : pass_at_bit pass k g x y p ≡ t =
          at_place pass k g x y p (place_there g x y p (omega arith) (omega arith) (omega arith))
          ∙ (ap (λ (m : ℕ). pass_at pass k g (x + m) (y + p % 6)) q ∙ ap (λ (m : ℕ). pass_at pass k g (x + c) (y + m)) o) in
          let nth : pass_at_nth pass k g (first_of f (x + c) y rows + r) ≡ t =
          nth_is pass k f g (x + c) y rows r a b d.column d.first d.count l in
          let z : rows - r ≡ suc (rows - (r + 1)) = omega arith in
          let k' = place_after ask pass k g (x + c) (y + r) s w inside in
          let more : Cells → Asking Cells = λ m. bits_scanned pass k x y n (p + 1) m in
          let more' : Cells → Asking Cells = λ m. scanned pass k (rows - (r + 1)) (first_of f (x + c) y rows + r + 1) m in
          ap (λ (m : Asking Cells). told ask (and_then m more) s) there
          ∙ (told_then ask t more s
          ∙ (ap (λ (m : ℕ). told ask (bits_scanned pass k x y n m v) u) next
          ∙ (rows_scanned ask pass k x y c rows n (r + 1) f v u k'.now (k'.width ∙ a) (k'.height ∙ b) d (omega arith)
          ∙ (ap (λ (m : ℕ). told ask (scanned pass k (rows - (r + 1)) m v) u) (sym after)
          ∙ (sym (told_then ask t more' s)
          ∙ (ap (λ (m : Asking Cells). told ask (and_then m more') s) (sym nth)
          ∙ sym (ap (λ (m : ℕ). told ask (scanned pass k m (first_of f (x + c) y rows + r) g) s) z))))))))
      | inr l ↦
          (let none : has_place g x y p ≡ false =
          elim (cases_lt r 4) [
            | inl m ↦ no_row g x y p (omega arith)
            | inr m ↦ no_gap g x y p (omega arith)
          ] in
          let more : Cells → Asking Cells = λ m. bits_scanned pass k x y n (p + 1) m in
          let z : rows - (r + 1) ≡ 0 = omega arith in
          let z' : rows - r ≡ 0 = omega arith in
          ap (λ (m : Asking Cells). told ask (and_then m more) s) (at_no_place pass k g x y p none)
          ∙ (ap (λ (m : ℕ). told ask (bits_scanned pass k x y n m g) s) next
          ∙ (rows_scanned ask pass k x y c rows n (r + 1) f g s w a b d (omega arith)
          ∙ (ap (λ (m : ℕ). told ask (scanned pass k m (first_of f (x + c) y rows + (r + 1)) g) s) z
          ∙ sym (ap (λ (m : ℕ). told ask (scanned pass k m (first_of f (x + c) y rows + r) g) s) z')))))
    ]

-- a column of the word
column_scanned : {S : Type 0} (ask : S → Question → Bool × S) (pass : ℕ) (k : Plane) (x y c rows : ℕ) (f g : Cells) (s : S) → IsNow k g
    → g.width ≡ f.width → g.height ≡ f.height → IsWordOf f (x + c) y rows
    → told ask (bits_scanned pass k x y 6 (6 * c) g) s ≡ told ask (scanned pass k rows (first_of f (x + c) y rows) g) s
column_scanned ask pass k x y c rows f g s w a b d =
    let i : 6 * c ≡ 6 * c + 0 = omega arith in
    let z : first_of f (x + c) y rows + 0 ≡ first_of f (x + c) y rows = omega arith in
    let y' : rows - 0 ≡ rows = omega arith in
    ap (λ (m : ℕ). told ask (bits_scanned pass k x y 6 m g) s) i
    ∙ (rows_scanned ask pass k x y c rows 6 0 f g s w a b d refl
    ∙ (ap (λ (m : ℕ). told ask (scanned pass k m (first_of f (x + c) y rows + 0) g) s) y'
    ∙ ap (λ (m : ℕ). told ask (scanned pass k rows m g) s) z))

-- the columns of the word
pub record IsStripe (g : Cells) (y rows : ℕ) : Type 0 where
  pub first : y % 4 ≡ 0
  pub row : y < g.height
  pub count : rows ≡ min 4 (g.height - y)

column_room : (w h x y rows : ℕ) → x < w → y < h → rows ≡ min 4 (h - y) → y * w + x * rows + rows ≤ w * h
column_room w h x y rows p q r =
    let a = mul-le-mul_right {m = x + 1} {n = w} rows (omega arith) in
    let b = mul-le-mul_left {m = y + rows} {n = h} w (omega arith) in
    omega arith

columns_left : (n m rows : ℕ) → m < n → (n - m) * rows ≡ rows + (n - (m + 1)) * rows
columns_left n m rows l =
    let e : n - m ≡ 1 + (n - (m + 1)) = omega arith in
    ap (λ (z : ℕ). z * rows) e ∙ (let d : (1 + (n - (m + 1))) * rows ≡ rows + (n - (m + 1)) * rows = omega arith in d)

none_left : (n m rows : ℕ) → n ≤ m → (n - m) * rows ≡ 0
none_left n m rows l =
    let e : n - m ≡ 0 = omega arith in
    ap (λ (z : ℕ). z * rows) e ∙ (let d : 0 * rows ≡ 0 = omega arith in d)

columns_scanned : {S : Type 0} (ask : S → Question → Bool × S) (pass : ℕ) (k : Plane) (x y rows m c : ℕ) (f g : Cells) (s : S) → IsNow k g
    → g.width ≡ f.width → g.height ≡ f.height → IsStripe f y rows → c + m ≡ 8
    → told ask (bits_scanned pass k x y (6 * m) (6 * c) g) s
    ≡ told ask (scanned pass k ((min 8 (f.width - x) - c) * rows) (first_of f (x + c) y rows) g) s
columns_scanned ask pass k x y rows zero c f g s w a b d e =
    let i : 6 * 0 ≡ 0 = omega arith in
    let z = none_left (min 8 (f.width - x)) c rows (omega arith) in
    ap (λ (n : ℕ). told ask (bits_scanned pass k x y n (6 * c) g) s) i ∙ sym (ap (λ (n : ℕ). told ask (scanned pass k n (first_of f (x + c) y rows) g) s) z)
columns_scanned {S = S} ask pass k x y rows (suc m) c f g s w a b d e =
    let i : 6 * suc m ≡ 6 + 6 * m = omega arith in
    let j : 6 * c + 6 ≡ 6 * (c + 1) = omega arith in
    let n : ℕ = first_of f (x + c) y rows in
    elim (cases_lt (x + c) f.width) [
      | inl l ↦
          (let q : IsWordOf f (x + c) y rows = record { column = l; first = d.first; row = d.row; count = d.count } in
          let one = column_scanned ask pass k x y c rows f g s w a b q in
          let v : Cells = (told ask (scanned pass k rows n g) s).0 in
          let u : S = (told ask (scanned pass k rows n g) s).1 in
          let room = column_room f.width f.height (x + c) y rows l d.row d.count in
          let room' : n + rows ≤ g.width * g.height = rw (a, b) room in
          let after = scan_after ask pass k rows n g s w room' in
          let z = columns_left (min 8 (f.width - x)) c rows (omega arith) in
          let o : first_of f (x + (c + 1)) y rows ≡ n + rows = omega arith in
          ap (λ (t : ℕ). told ask (bits_scanned pass k x y t (6 * c) g) s) i
          ∙ (bits_then ask pass k x y 6 (6 * m) (6 * c) g s
          ∙ (ap (λ (t : Cells × S). told ask (bits_scanned pass k x y (6 * m) (6 * c + 6) t.0) t.1) one
          ∙ (ap (λ (t : ℕ). told ask (bits_scanned pass k x y (6 * m) t v) u) j
          ∙ (columns_scanned ask pass k x y rows m (c + 1) f v u after.now (after.width ∙ a) (after.height ∙ b) d (omega arith)
          ∙ (ap (λ (t : ℕ). told ask (scanned pass k ((min 8 (f.width - x) - (c + 1)) * rows) t v) u) o
          ∙ (sym (scanned_then ask pass k rows ((min 8 (f.width - x) - (c + 1)) * rows) n g s)
          ∙ sym (ap (λ (t : ℕ). told ask (scanned pass k t n g) s) z))))))))
      | inr l ↦
          (let none = bits_none ask pass k x y 6 (6 * c) g s (λ p t r. at_no_place pass k g x y p (no_column g x y p (rw a (omega arith)))) in
          let z = none_left (min 8 (f.width - x)) c rows (omega arith) in
          let z' = none_left (min 8 (f.width - x)) (c + 1) rows (omega arith) in
          ap (λ (t : ℕ). told ask (bits_scanned pass k x y t (6 * c) g) s) i
          ∙ (bits_then ask pass k x y 6 (6 * m) (6 * c) g s
          ∙ (ap (λ (t : Cells × S). told ask (bits_scanned pass k x y (6 * m) (6 * c + 6) t.0) t.1) none
          ∙ (ap (λ (t : ℕ). told ask (bits_scanned pass k x y (6 * m) t g) s) j
          ∙ (columns_scanned ask pass k x y rows m (c + 1) f g s w a b d (omega arith)
          ∙ (ap (λ (t : ℕ). told ask (scanned pass k t (first_of f (x + (c + 1)) y rows) g) s) z'
          ∙ sym (ap (λ (t : ℕ). told ask (scanned pass k t n g) s) z)))))))
    ]

-- all bits of the word
pub word_scanned : {S : Type 0} (ask : S → Question → Bool × S) (pass : ℕ) (k : Plane) (x y rows : ℕ) (f g : Cells) (s : S) → IsNow k g
    → g.width ≡ f.width → g.height ≡ f.height → IsStripe f y rows
    → told ask (bits_scanned pass k x y 48 0 g) s ≡ told ask (scanned pass k (min 8 (f.width - x) * rows) (first_of f x y rows) g) s
word_scanned ask pass k x y rows f g s w a b d =
    let i : min 8 (f.width - x) - 0 ≡ min 8 (f.width - x) = omega arith in
    let j : first_of f (x + 0) y rows ≡ first_of f x y rows = ap (λ (n : ℕ). y * f.width + n * rows) (let e : x + 0 ≡ x = omega arith in e) in
    columns_scanned ask pass k x y rows 8 0 f g s w a b d refl
    ∙ (ap (λ (n : ℕ). told ask (scanned pass k (n * rows) (first_of f (x + 0) y rows) g) s) i
    ∙ ap (λ (n : ℕ). told ask (scanned pass k (min 8 (f.width - x) * rows) n g) s) j)
