-- A block isn't empty, and is no larger than its cell.
use Rattle.std.proofs.Common.{◌≡◌, ℕ, ◌+◌, ◌*◌, ◌^◌, ◌≤◌, ◌<◌, arith}
use Rattle.std.proofs.Math.Nat.{pow-le-pow_right}
use Rattle.std.proofs.lemmas.Nat.{pow-add, mul-le}
use Rattle.jx_base.specs.declared.names.Rect.{Rect}
use Rattle.jx_base.specs.declared.names.Band.{Band}
use Rattle.jx_base.specs.Places.{length_of, column_at, row_at}
use Rattle.jx_geom.specs.declared.shape.CompShape.{CompShape}
use Rattle.jx_geom.specs.Ranges.{ShapeInRange}
use Rattle.jx_geom.specs.Rects.{band_rect, block_cells, block_rect, block_across, block_down}
use Rattle.jx_geom.specs.Sizes.{BlockFits}
use Rattle.jx_geom.specs.Counts.{block_count}
use Rattle.jx_geom.proofs.SpanLemmas.{cut_length}
use Rattle.jx_geom.proofs.SetLemmas.{block_rect_from}
use Rattle.jx_geom.proofs.LawLemmas.{block_some}

power_fits : (e m n : ℕ) → e ≤ m → n ≤ 2 ^ e → n ≤ 2 ^ m
power_fits e m n le h =
    let some : 0 < 2 = omega arith in
    let step : 2 ^ e ≤ 2 ^ m = pow-le-pow_right some le in
    omega arith

area_fits : (a b m n : ℕ) → a + b ≤ 12 → m ≤ 2 ^ a → n ≤ 2 ^ b → m * n ≤ 4096
area_fits a b m n le hm hn =
    let product : m * n ≤ 2 ^ a * 2 ^ b = mul-le m n (2 ^ a) (2 ^ b) hm hn in
    let power : 2 ^ (a + b) ≡ 2 ^ a * 2 ^ b = pow-add 2 a b in
    let whole : m * n ≤ 2 ^ (a + b) = omega arith in
    power_fits (a + b) 12 (m * n) le whole

pub block_fits : (tile : Rect) (s : CompShape) (r : ℕ) (b : Band) (i : ℕ) → ShapeInRange s → i < block_count tile s r b → BlockFits (block_rect tile s r b i)
unfolding block_rect
block_fits tile s r b i h lt =
    let some = block_some tile s r b i h lt in
    let place = block_rect_from tile s r b i some.0 some.1 h some.2 in
    let across : length_of (block_rect tile s r b i).x ≤ 2 ^ block_across s r =
    cut_length (band_rect tile s r b).x (2 ^ block_across s r) (column_at (block_cells tile s r b) i) in
    let down : length_of (block_rect tile s r b i).y ≤ 2 ^ block_down s r =
    cut_length (band_rect tile s r b).y (2 ^ block_down s r) (row_at (block_cells tile s r b) i) in
    let wide : block_across s r ≤ s.xcb = omega arith in
    let high : block_down s r ≤ s.ycb = omega arith in
    let across' : length_of (block_rect tile s r b i).x ≤ 2 ^ s.xcb = power_fits (block_across s r) s.xcb (length_of (block_rect tile s r b i).x) wide across in
    let down' : length_of (block_rect tile s r b i).y ≤ 2 ^ s.ycb = power_fits (block_down s r) s.ycb (length_of (block_rect tile s r b i).y) high down in
    record {
      some_across = omega (arith, place.across.from, place.across.below);
      some_down = omega (arith, place.down.from, place.down.below);
      wide = power_fits s.xcb 10 (length_of (block_rect tile s r b i).x) h.numbers.block_wide across';
      high = power_fits s.ycb 10 (length_of (block_rect tile s r b i).y) h.numbers.block_high down';
      area = area_fits s.xcb s.ycb (length_of (block_rect tile s r b i).x) (length_of (block_rect tile s r b i).y) h.numbers.block_size across' down';
    }
