-- The places of a rect one after another, row by row.
use Rattle.std.proofs.Common.{◌≡◌, ◌∙◌, ℕ, ◌+◌, ◌*◌, ◌/◌, ◌%◌, ◌<◌, ◌≤◌, ap, sym, subst, arith}
use Rattle.std.proofs.Math.Nat.{add-mul, zero-div, zero-mod}
use Rattle.std.proofs.lemmas.Nat.{div-add-mod', div-mul-add, mod-mul-add}
use Rattle.jx_base.specs.declared.names.Rect.{Rect}
use Rattle.jx_base.specs.Places.{InRect, column_at, length_of, row_at, size_of}
use Rattle.jx_base.proofs.Raster.{raster_in}

pub starts_across : (r : Rect) → r.x.low ≡ column_at r 0
starts_across r = omega (arith, zero-mod (length_of r.x))

pub starts_down : (r : Rect) → r.y.low ≡ row_at r 0
starts_down r = omega (arith, zero-div (length_of r.x))

-- a number of a row and a column, and the next one
module _ (n w : ℕ) where
  next_column : n % w + 1 < w → ((n + 1) % w ≡ n % w + 1) × ((n + 1) / w ≡ n / w)
  next_column lt =
      let own : n / w * w + n % w ≡ n = div-add-mod' n w in
      let next : n + 1 ≡ n / w * w + (n % w + 1) = omega arith in
      (ap (λ (k : ℕ). k % w) next ∙ mod-mul-add (n / w) w (n % w + 1) lt, ap (λ (k : ℕ). k / w) next ∙ div-mul-add (n / w) w (n % w + 1) lt)

  next_line : 0 < w → n % w + 1 ≡ w → ((n + 1) % w ≡ 0) × ((n + 1) / w ≡ n / w + 1)
  next_line some last =
      let own : n / w * w + n % w ≡ n = div-add-mod' n w in
      let more : (n / w + 1) * w ≡ n / w * w + 1 * w = add-mul (n / w) 1 w in
      let next : n + 1 ≡ (n / w + 1) * w + 0 = omega arith in
      (ap (λ (k : ℕ). k % w) next ∙ mod-mul-add (n / w + 1) w 0 some, ap (λ (k : ℕ). k / w) next ∙ div-mul-add (n / w + 1) w 0 some)

module _ (r : Rect) (x y n : ℕ) (inside : InRect r x y) (column : x ≡ column_at r n) (row : y ≡ row_at r n) where
  pub next_across : x + 1 < r.x.high → (x + 1 ≡ column_at r (n + 1)) × (y ≡ row_at r (n + 1))
  next_across lt =
      let next = next_column n (length_of r.x) (omega (arith, inside.across.from, inside.across.below)) in
      (omega (arith, next.0), omega (arith, next.1))

  pub next_down : r.x.high ≤ x + 1 → (r.x.low ≡ column_at r (n + 1)) × (y + 1 ≡ row_at r (n + 1))
  next_down le =
      let from : r.x.low ≤ x = inside.across.from in
      let below : x < r.x.high = inside.across.below in
      let next = next_line n (length_of r.x) (omega arith) (omega arith) in
      (omega (arith, next.0), omega (arith, next.1))

pub place_there : (rect r : Rect) (k x y : ℕ) → rect ≡ r → x ≡ column_at rect k → y ≡ row_at rect k → k < size_of rect → InRect r x y
place_there rect r k x y is column row below =
    subst (λ (z : Rect). InRect z x y) is
    (subst (λ (v : ℕ). InRect rect x v) (sym row) (subst (λ (u : ℕ). InRect rect u (row_at rect k)) (sym column) (raster_in rect k below)))
