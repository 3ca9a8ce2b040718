-- The coefficients of a code-block, and blocks that have the same ones.
use Rattle.std.proofs.Common.{◌≡◌, ◌∙◌, ℕ, ◌-◌, ◌==◌, List, ap, refl, sym, true, ◌&&◌}
use Rattle.std.proofs.lemmas.Bool.{and_parts, eqb-true}
use Rattle.jx_base.specs.declared.names.Band.{Band}
use Rattle.jx_base.specs.declared.names.Rect.{Rect}
use Rattle.jx_base.specs.declared.names.Span.{Span}
use Rattle.jx_base.specs.declared.pieces.Block.{Block}
use Rattle.jx_base.specs.Places.{length_of, rect_of, span_of}
use Rattle.jx_tier1_specs.specs.Cells.{Cells}
use Rattle.jx_tier1_specs.specs.Reading.{coding_of, decoded, read_from, zeros}
use Rattle.jx_codeblock.specs.Recoding.{own_segments}
use Rattle.jx_codeblock.specs.Written.{own_cells}
use Rattle.jx_tier1_specs.specs.declared.coded.Coded.{Coded}
use Rattle.jx_same.specs.Sides.{AreAlike, IsCodedOf, same_heads, same_planes, same_rect, same_span}

-- without a pass all are 0
pub none_decoded : (b : Block) → b.passes ≡ 0 → zeros (length_of b.rect.x) (length_of b.rect.y) ≡ own_cells b
unfolding decoded read_from
none_decoded b none = rw none refl

-- by what they depend on
abbrev cells_by : Rect → Band → ℕ → ℕ → List (List ℕ) → ℕ → Cells
cells_by rect band style planes segments passes = (decoded (length_of rect.x) (length_of rect.y) (coding_of band style planes) segments passes).cells

cells_same : (r q : Rect) (b c : Band) (s t m n : ℕ) (ss us : List (List ℕ)) (x y : ℕ) → r ≡ q → b ≡ c → s ≡ t → m ≡ n → ss ≡ us → x ≡ y
    → cells_by r b s m ss x ≡ cells_by q c t n us y
cells_same r q b c s t m n ss us x y e1 e2 e3 e4 e5 e6 = rw (e1, e2, e3, e4, e5, e6) refl

pub from_segments : (b : Block) (wide high : ℕ) (band : Band) (style planes passes : ℕ) (segments : List (List ℕ)) → wide ≡ length_of b.rect.x → high ≡ length_of b.rect.y
    → band ≡ b.name.band → style ≡ b.style.bits → planes ≡ b.planes - b.zero → passes ≡ b.passes → segments ≡ own_segments b
    → (decoded wide high (coding_of band style planes) segments passes).cells ≡ own_cells b
from_segments b wide high band style planes passes segments e1 e2 e3 e4 e5 e6 e7 = rw (e1, e2, e3, e4, e5, e6, e7) refl

-- ---- blocks with the same heads and the same segments
span_same : (a b : Span) → a.low ≡ b.low → a.high ≡ b.high → a ≡ b
span_same a b low high = ap (λ (n : ℕ). span_of n a.high) low ∙ ap (λ (n : ℕ). span_of b.low n) high

rect_same : (a b : Rect) → a.x ≡ b.x → a.y ≡ b.y → a ≡ b
rect_same a b x y = ap (λ (s : Span). rect_of s a.y) x ∙ ap (λ (s : Span). rect_of b.x s) y

span_from : (a b : Span) → same_span a b ≡ true → a ≡ b
span_from a b h =
    let both = and_parts (a.low == b.low) (a.high == b.high) h in
    span_same a b (eqb-true a.low b.low both.0) (eqb-true a.high b.high both.1)

rect_from : (a b : Rect) → same_rect a b ≡ true → a ≡ b
rect_from a b h =
    let both = and_parts (same_span a.x b.x) (same_span a.y b.y) h in
    rect_same a b (span_from a.x b.x both.0) (span_from a.y b.y both.1)

pub record HasHeads (a b : Block) : Type 0 where
  pub rect : a.rect ≡ b.rect
  pub planes : a.planes ≡ b.planes
  pub zero : a.zero ≡ b.zero
  pub passes : a.passes ≡ b.passes

pub heads_from : (a b : Block) → same_heads a b ≡ true → HasHeads a b
heads_from a b heads =
    let parts = and_parts (same_rect a.rect b.rect) (same_planes a b && a.passes == b.passes) heads in
    let more = and_parts (same_planes a b) (a.passes == b.passes) parts.1 in
    let of_planes = and_parts (a.planes == b.planes) (a.zero == b.zero) more.0 in
    record {
      rect = rect_from a.rect b.rect parts.0;
      planes = eqb-true a.planes b.planes of_planes.0;
      zero = eqb-true a.zero b.zero of_planes.1;
      passes = eqb-true a.passes b.passes more.1;
    }

pub coded_planes : (a b : Block) → HasHeads a b → a.planes - a.zero ≡ b.planes - b.zero
coded_planes a b h = ap (λ (n : ℕ). n - a.zero) h.planes ∙ ap (λ (n : ℕ). b.planes - n) h.zero

pub cells_alike : (a b : Block) → same_heads a b ≡ true → own_cells a ≡ own_cells b → AreAlike a b
cells_alike a b heads cells = let h = heads_from a b heads in record { rect = h.rect; zero = h.zero; passes = h.passes; cells = cells }

-- without a pass
pub none_alike : (a b : Block) → same_heads a b ≡ true → a.passes ≡ 0 → AreAlike a b
none_alike a b heads none =
    let h = heads_from a b heads in
    cells_alike a b heads (sym (none_decoded a none) ∙ ap (λ (r : Rect). zeros (length_of r.x) (length_of r.y)) h.rect ∙ none_decoded b (sym h.passes ∙ none))

-- with the same segments in one style
pub alike_from : (a b : Block) → a.name.band ≡ b.name.band → same_heads a b ≡ true → a.style.bits ≡ b.style.bits → own_segments a ≡ own_segments b → AreAlike a b
alike_from a b band heads style segments =
    let h = heads_from a b heads in
    cells_alike a b heads
    (cells_same a.rect b.rect a.name.band b.name.band a.style.bits b.style.bits (a.planes - a.zero) (b.planes - b.zero) (own_segments a) (own_segments b) a.passes b.passes
    h.rect band style (coded_planes a b h) segments h.passes)

-- what was decoded of the coded passes of both is what they have
pub coded_cells : (b : Block) (c : Coded) (wide high : ℕ) → IsCodedOf b c → wide ≡ length_of b.rect.x → high ≡ length_of b.rect.y
    → (decoded wide high (coding_of c.band c.style.bits c.planes) c.segments c.passes).cells ≡ own_cells b
coded_cells b c wide high h across down =
    from_segments b wide high c.band c.style.bits c.planes c.passes c.segments across down h.band h.style h.planes h.passes h.segments

pub same_decoded : (a b : Block) (c d : Coded) (wide high : ℕ) → same_heads a b ≡ true → IsCodedOf a c → IsCodedOf b d → wide ≡ length_of a.rect.x → high ≡ length_of a.rect.y
    → (decoded wide high (coding_of c.band c.style.bits c.planes) c.segments c.passes).cells ≡ (decoded wide high (coding_of d.band d.style.bits d.planes) d.segments d.passes).cells
    → own_cells a ≡ own_cells b
same_decoded a b c d wide high heads p q across down same =
    let h = heads_from a b heads in
    sym (coded_cells a c wide high p across down) ∙ same
    ∙ coded_cells b d wide high q (across ∙ ap (λ (r : Rect). length_of r.x) h.rect) (down ∙ ap (λ (r : Rect). length_of r.y) h.rect)
