-- Places one after the other, column by column of a stripe, and stripe by stripe.
use Rattle.std.proofs.Common.{◌≡◌, ◌<◌, ◌≤◌, ◌+◌, ◌-◌, ◌*◌, ◌/◌, ◌%◌, ℕ, zero, suc, min, Bool, refl, sym, ap, ◌∙◌, arith}
use Rattle.std.proofs.lemmas.Nat.{div-mul-add, mod-mul-add}
use Rattle.std.proofs.Math.Nat.{mul-le-mul_right, mul-le-mul_left}
use Rattle.jx_tier1_specs.specs.declared.question.Plane.{Plane}
use Rattle.jx_tier1_specs.specs.declared.question.Question.{Question}
use Rattle.jx_tier1_specs.specs.Cells.{Cells}
use Rattle.jx_tier1_specs.specs.Asking.{told}
use Rattle.jx_tier1_specs.specs.Pass.{stripe_rows, scan_column, scan_row, pass_at, pass_at_nth, scanned}
use Rattle.jx_tier1_specs.proofs.Told.{told_then}
use Rattle.jx_tier1.specs.Numbers.{first_of}

below_stripe : (w x rows : ℕ) → x < w → rows ≤ 4 → x * rows + rows ≤ 4 * w
below_stripe w x rows p q =
    let m = mul-le-mul_right {m = x + 1} {n = w} rows (omega arith) in
    let n = mul-le-mul_left {m = rows} {n = 4} w q in
    omega arith

number_is : (w q x rows row : ℕ) → 4 * q * w + x * rows + row ≡ q * (4 * w) + (x * rows + row)
number_is w q x rows row = omega arith

top_is : (top : ℕ) → top % 4 ≡ 0 → top ≡ 4 * (top / 4)
top_is top e = omega arith

stripe_at : (w h x q rows row : ℕ) → x < w → rows ≡ min 4 (h - 4 * q) → row < rows → (4 * q * w + x * rows + row) / (4 * w) ≡ q
stripe_at w h x q rows row p r l =
    let b = below_stripe w x rows p (omega arith) in
    ap (λ (n : ℕ). n / (4 * w)) (number_is w q x rows row) ∙ div-mul-add q (4 * w) (x * rows + row) (omega arith)

rest_at : (w h x q rows row : ℕ) → x < w → rows ≡ min 4 (h - 4 * q) → row < rows → (4 * q * w + x * rows + row) % (4 * w) ≡ x * rows + row
rest_at w h x q rows row p r l =
    let b = below_stripe w x rows p (omega arith) in
    ap (λ (n : ℕ). n % (4 * w)) (number_is w q x rows row) ∙ mod-mul-add q (4 * w) (x * rows + row) (omega arith)

rows_at : (w h x q rows row : ℕ) → x < w → rows ≡ min 4 (h - 4 * q) → row < rows → stripe_rows w h (4 * q * w + x * rows + row) ≡ rows
rows_at w h x q rows row p r l =
    ap (λ (s : ℕ). min 4 (h - s * 4)) (stripe_at w h x q rows row p r l) ∙ (let e : min 4 (h - q * 4) ≡ rows = omega arith in e)

column_at : (w h x q rows row : ℕ) → x < w → rows ≡ min 4 (h - 4 * q) → row < rows → scan_column w h (4 * q * w + x * rows + row) ≡ x
unfolding scan_column
column_at w h x q rows row p r l =
    let n : ℕ = 4 * q * w + x * rows + row in
    ap (λ (z : ℕ). z / stripe_rows w h n) (rest_at w h x q rows row p r l)
    ∙ (ap (λ (z : ℕ). (x * rows + row) / z) (rows_at w h x q rows row p r l) ∙ div-mul-add x rows row l)

row_at : (w h x q rows row : ℕ) → x < w → rows ≡ min 4 (h - 4 * q) → row < rows → scan_row w h (4 * q * w + x * rows + row) ≡ 4 * q + row
unfolding scan_row
row_at w h x q rows row p r l =
    let n : ℕ = 4 * q * w + x * rows + row in
    ap (λ (z : ℕ). z * 4 + n % (4 * w) % stripe_rows w h n) (stripe_at w h x q rows row p r l)
    ∙ (ap (λ (z : ℕ). q * 4 + z % stripe_rows w h n) (rest_at w h x q rows row p r l)
    ∙ (ap (λ (z : ℕ). q * 4 + (x * rows + row) % z) (rows_at w h x q rows row p r l)
    ∙ (ap (λ (z : ℕ). q * 4 + z) (mod-mul-add x rows row l) ∙ (let e : q * 4 + row ≡ 4 * q + row = omega arith in e))))

-- the place of a number is that of its column and row
pub nth_is : (pass : ℕ) (k : Plane) (f g : Cells) (x top rows row : ℕ) → g.width ≡ f.width → g.height ≡ f.height → x < f.width → top % 4 ≡ 0
    → rows ≡ min 4 (f.height - top) → row < rows → pass_at_nth pass k g (first_of f x top rows + row) ≡ pass_at pass k g x (top + row)
nth_is pass k f g x top rows row a b p t r l =
    let q : ℕ = top / 4 in
    let e = top_is top t in
    let r' : rows ≡ min 4 (f.height - 4 * q) = omega arith in
    let m : first_of f x top rows + row ≡ 4 * q * f.width + x * rows + row = ap (λ (z : ℕ). z * f.width + x * rows + row) e in
    let c : scan_column g.width g.height (first_of f x top rows + row) ≡ x =
    rw (a, b, m) (column_at f.width f.height x q rows row p r' l) in
    let d : scan_row g.width g.height (first_of f x top rows + row) ≡ top + row =
    rw (a, b, m) (row_at f.width f.height x q rows row p r' l ∙ ap (λ (z : ℕ). z + row) (sym e)) in
    rw (c, d) refl

-- some places, and some more
pub scanned_then : {S : Type 0} (ask : S → Question → Bool × S) (pass : ℕ) (k : Plane) (a b n : ℕ) (g : Cells) (s : S)
    → told ask (scanned pass k (a + b) n g) s
    ≡ told ask (scanned pass k b (n + a) (told ask (scanned pass k a n g) s).0) (told ask (scanned pass k a n g) s).1
scanned_then {S = S} ask pass k zero b n g s =
    let e : n + 0 ≡ n = omega arith in
    let z : 0 + b ≡ b = omega arith in
    ap (λ (m : ℕ). told ask (scanned pass k m n g) s) z ∙ ap (λ (m : ℕ). told ask (scanned pass k b m g) s) (sym e)
scanned_then {S = S} ask pass k (suc a) b n g s =
    let first = pass_at_nth pass k g n in
    let h : Cells = (told ask first s).0 in
    let u = (told ask first s).1 in
    let e : n + suc a ≡ n + 1 + a = omega arith in
    let z : suc a + b ≡ suc (a + b) = omega arith in
    let t : told ask (scanned pass k (suc a) n g) s ≡ told ask (scanned pass k a (n + 1) h) u = told_then ask first (λ m. scanned pass k a (n + 1) m) s in
    ap (λ (m : ℕ). told ask (scanned pass k m n g) s) z
    ∙ (told_then ask first (λ m. scanned pass k (a + b) (n + 1) m) s
    ∙ (scanned_then ask pass k a b (n + 1) h u
    ∙ (ap (λ (m : ℕ). told ask (scanned pass k b m (told ask (scanned pass k a (n + 1) h) u).0) (told ask (scanned pass k a (n + 1) h) u).1) (sym e)
    ∙ ap (λ (p : Cells × S). told ask (scanned pass k b (n + suc a) p.0) p.1) (sym t))))
