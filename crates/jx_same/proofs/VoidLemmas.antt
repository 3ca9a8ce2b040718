-- Code-blocks without a pass.
use Rattle.std.proofs.Common.{◌≡◌, ◌∙◌, ℕ, ◌+◌, ◌-◌, ◌*◌, ◌==◌, inl, inr, ap, sym, refl, arith, length, replicate, true, if◌then◌else◌, None}
use Rattle.std.specs.List.{find}
use Rattle.std.proofs.lemmas.Bool.{cases_lt}
use Rattle.std.proofs.lemmas.List.{get_or-replicate, get_or_past, length-replicate}
use Rattle.jx_base.specs.declared.pieces.Block.{Block}
use Rattle.jx_base.proofs.Raster.{raster_in}
use Rattle.jx_base.specs.Places.{InRect, column_at, length_of, row_at, size_of}
use Rattle.jx_tier1_specs.specs.declared.coef.Coef.{Coef}
use Rattle.jx_tier1_specs.specs.Cells.{Cells, coef_at, zero_coef}
use Rattle.jx_tier1_specs.specs.Reading.{zeros}
use Rattle.jx_codeblock.specs.Written.{own_cells}
use Rattle.jx_plan.specs.Meaning.{Place, sample_in}
use Rattle.jx_same.specs.declared.side.BandName.{BandName}
use Rattle.jx_same.specs.Items.{coef_item, coef_items, differs, same_coef, spot_of_coef}
use Rattle.jx_same.specs.Sides.{AreVoid, Covers, SideValue, meaning_at}
use Rattle.jx_same.proofs.BlockLemmas.{coef_differs, coef_same}
use Rattle.jx_same.proofs.CellLemmas.{none_decoded}
use Rattle.jx_same.proofs.FindLemmas.{joined_all, one_none}

zeros_at : (wide high x y : ℕ) → coef_at (zeros wide high) x y ≡ zero_coef
zeros_at wide high x y = elim (cases_lt (y * wide + x) (high * wide)) [
  | inl inside ↦ get_or-replicate (high * wide) (y * wide + x) zero_coef zero_coef inside
  | inr behind ↦
      let long : length (replicate (high * wide) zero_coef) ≡ high * wide = length-replicate (high * wide) zero_coef in
      get_or_past (replicate (high * wide) zero_coef) (y * wide + x) zero_coef (omega arith)
]

-- a coefficient, by what it depends on
abbrev coef_by : Coef → ℕ → ℕ → Coef
coef_by c passes none = record { negative = c.negative; bits = c.bits; planes = if passes == 0 then 0 else none + c.planes }

void_coef : (c : Coef) (passes none : ℕ) → c ≡ zero_coef → passes ≡ 0 → coef_by c passes none ≡ zero_coef
void_coef c passes none is zero = rw (is, zero) refl

void_sample : (p : Place) (b : Block) → b.passes ≡ 0 → sample_in p b ≡ zero_coef
void_sample p b none =
    let here : coef_at (own_cells b) (p.x - b.rect.x.low) (p.y - b.rect.y.low) ≡ zero_coef =
    ap (λ (g : Cells). coef_at g (p.x - b.rect.x.low) (p.y - b.rect.y.low)) (sym (none_decoded b none))
    ∙ zeros_at (length_of b.rect.x) (length_of b.rect.y) (p.x - b.rect.x.low) (p.y - b.rect.y.low) in
    void_coef (coef_at (own_cells b) (p.x - b.rect.x.low) (p.y - b.rect.y.low)) b.passes b.zero here none

void_same : (p : Place) (x y : Block) → x.passes ≡ 0 → y.passes ≡ 0 → true ≡ same_coef (sample_in p x) (sample_in p y)
void_same p x y one two =
    sym (ap (λ (c : Coef). same_coef c (sample_in p y)) (void_sample p x one) ∙ ap (λ (c : Coef). same_coef zero_coef c) (void_sample p y two) ∙ coef_same zero_coef)

-- of two of them no coefficient differs
pub void_none : (a b : SideValue) (n : BandName) (x y : Block) → a.tile ≡ b.tile → Covers a n x → Covers b n y → AreVoid x y
    → find (differs (meaning_at a) (meaning_at b)) (coef_items a.tile n.comp n.res n.band x.rect) ≡ None
void_none a b n x y tile here there void =
    joined_all (differs (meaning_at a) (meaning_at b)) (coef_item a.tile n.comp n.res n.band x.rect) (size_of x.rect)
    (λ k lt.
    (let inside : InRect x.rect (column_at x.rect k) (row_at x.rect k) = raster_in x.rect k lt in
    one_none (differs (meaning_at a) (meaning_at b)) (spot_of_coef a.tile n.comp n.res n.band x.rect k)
    (coef_differs a b n x y x.rect k (column_at x.rect k) (row_at x.rect k) true tile here there refl refl inside (void.inside (column_at x.rect k) (row_at x.rect k) inside)
    (λ p px py. void_same p x y void.one void.two))))
