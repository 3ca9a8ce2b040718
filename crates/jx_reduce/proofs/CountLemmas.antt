-- Fewer resolutions have no more code-blocks and no more packets: limits 5 and 6 aren't passed.
use Rattle.std.proofs.Common.{◌≡◌, ℕ, zero, suc, ◌+◌, ◌*◌, ◌^◌, ◌≤◌, ◌<◌, nat_lt, List, length, get_or, refl, ap, arith, inl, inr, Option, None, Some}
use Rattle.std.specs.List.{filter}
use Rattle.std.specs.Option.{option_or}
use Rattle.std.proofs.Math.Nat.{mul-le-mul_right}
use Rattle.std.proofs.lemmas.Bool.{cases_lt}
use Rattle.std.proofs.lemmas.Bool.Decides.{nat_tests}
use Rattle.jx_base.specs.declared.names.BlockName.{BlockName}
use Rattle.jx_base.specs.declared.names.Rect.{Rect}
use Rattle.jx_base.specs.Joined.{sum_below}
use Rattle.jx_base.proofs.Sums.{sum_below_more, whole_sum}
use Rattle.jx_geom.specs.declared.shape.Canvas.{Canvas}
use Rattle.jx_geom.specs.declared.shape.CompShape.{CompShape}
use Rattle.jx_geom.specs.Counts.{component_precincts, precinct_count, tile_precincts}
use Rattle.jx_geom.specs.Geometry.{no_shape}
use Rattle.jx_geom.specs.Numbering.{blocks_of_all}
use Rattle.jx_geom.specs.Rects.{tile_rect}
use Rattle.jx_geom.proofs.SameLemmas.{same_sum}
use Rattle.jx_codestream.specs.declared.faults.StreamFault.{StreamFault}
use Rattle.jx_codestream.specs.declared.Stream.{Stream}
use Rattle.jx_codestream.specs.First.{canvas_of, tile_number}
use Rattle.jx_codestream.specs.Shapes.{layers_of, shapes_of}
use Rattle.jx_tile.specs.Faults.{passed}
use Rattle.jx_tile.specs.Totals.{block_total, packet_total, tile_packets, totals_fault}
use Rattle.jx_plan.specs.Standing.{HeadersStand}
use Rattle.jx_reduce.specs.Reduction.{stream_left}
use Rattle.jx_reduce.proofs.HeaderLemmas.{IsClear}
use Rattle.jx_reduce.proofs.LeftNames.{AreLower, is_low, names_left}
use Rattle.jx_reduce.proofs.LevelLemmas.{IsLower, low_precinct_count}
use Rattle.jx_reduce.proofs.ListLemmas.{filter_few}
use Rattle.jx_reduce.proofs.NameLemmas.{all_long, names_of_all}
use Rattle.jx_reduce.proofs.ParameterLemmas.{are_lower, layers_same}
use Rattle.jx_base.specs.Limits.{most_blocks}

-- ---- sums
sum_grows : (f : ℕ → ℕ) (m n : ℕ) → m ≤ n → sum_below f m ≤ sum_below f n
sum_grows f m n le = elim (cases_lt m n) [
  | inl less ↦ omega (arith, sum_below_more f m n less)
  | inr same ↦ let e : m ≡ n = omega arith in rw e (omega arith)
]

sums_less : (f g : ℕ → ℕ) (n : ℕ) → ((i : ℕ) → i < n → f i ≤ g i) → sum_below f n ≤ sum_below g n
sums_less f g zero h = omega arith
sums_less f g (suc n) h =
    let before : sum_below f n ≤ sum_below g n = sums_less f g n (λ i lt. h i (omega arith)) in
    omega (arith, h n (omega arith))

-- ---- precincts
component_less : (d : ℕ) (tile : Rect) (s t : CompShape) → IsLower d s t → component_precincts tile t ≤ component_precincts tile s
unfolding component_precincts
component_less d tile s t h =
    let same : sum_below (precinct_count tile t) (t.levels + 1) ≡ sum_below (precinct_count tile s) (t.levels + 1) =
    same_sum (precinct_count tile t) (precinct_count tile s) (t.levels + 1) (λ r lt. low_precinct_count d tile s t h r (omega arith)) in
    omega (arith, same, sum_grows (precinct_count tile s) (t.levels + 1) (s.levels + 1) (omega (arith, h.levels)))

tile_less : (d : ℕ) (tile : Rect) (xs ys : List CompShape) → AreLower d xs ys → tile_precincts tile ys ≤ tile_precincts tile xs
tile_less d tile xs ys h =
    let f : ℕ → ℕ = λ c. component_precincts tile (get_or xs c no_shape) in
    let g : ℕ → ℕ = λ c. component_precincts tile (get_or ys c no_shape) in
    let before : tile_precincts tile xs ≡ sum_below f (length xs) = whole_sum (component_precincts tile) xs no_shape in
    let after : tile_precincts tile ys ≡ sum_below g (length ys) = whole_sum (component_precincts tile) ys no_shape in
    let long : sum_below g (length ys) ≡ sum_below g (length xs) = ap (λ (n : ℕ). sum_below g n) h.long in
    omega (arith, before, after, long, sums_less g f (length xs) (λ c lt. component_less d tile (get_or xs c no_shape) (get_or ys c no_shape) (h.each c lt)))

-- ---- all
within : (number found most : ℕ) → found ≤ most → passed number found (nat_lt most found) ≡ None
within number found most le = grind (arith, nat_tests)

not_passed : (number found most : ℕ) → passed number found (nat_lt most found) ≡ None → found ≤ most
not_passed number found most h = grind (arith, nat_tests)

neither : (a b : Option StreamFault) → option_or a b ≡ None → (a ≡ None) × (b ≡ None)
neither None b h = (refl, h)
neither (Some x) b h = absurd (cc)

both_none : (a b : Option StreamFault) → a ≡ None → b ≡ None → option_or a b ≡ None
both_none a b e h = rw (e, h) refl

module _ (d : ℕ) (s : Stream) (clear : IsClear d s) (stand : HeadersStand s) where
  pub all_names_left : filter (is_low (canvas_of s.siz) (shapes_of s) d) (names_of_all (canvas_of s.siz) (shapes_of s)) ≡ names_of_all (canvas_of s.siz) (shapes_of (stream_left d s))
  all_names_left = names_left (canvas_of s.siz) (shapes_of s) (shapes_of (stream_left d s)) d (λ t lt. are_lower s stand d clear t)

  blocks_are : (o : Stream) → block_total o ≡ blocks_of_all (canvas_of o.siz) (shapes_of o)
  unfolding block_total
  blocks_are o = refl

  pub blocks_now : block_total (stream_left d s) ≡ blocks_of_all (canvas_of s.siz) (shapes_of (stream_left d s))
  unfolding stream_left
  blocks_now = blocks_are (stream_left d s)

  blocks_less : block_total (stream_left d s) ≤ block_total s
  blocks_less =
      let c : Canvas = canvas_of s.siz in
      let names : List BlockName = names_of_all c (shapes_of s) in
      let kept : length (filter (is_low c (shapes_of s) d) names) ≡ length (names_of_all c (shapes_of (stream_left d s))) = ap (λ (l : List BlockName). length l) all_names_left in
      omega (arith, blocks_now, blocks_are s, all_long c (shapes_of s), all_long c (shapes_of (stream_left d s)), kept, filter_few (is_low c (shapes_of s) d) names)

  packets_are : (o : Stream) → packet_total o ≡ sum_below (tile_packets o) (tile_number o.siz)
  unfolding packet_total
  packets_are o = refl

  packets_less_at : (t : ℕ) → tile_precincts (tile_rect (canvas_of s.siz) t) (shapes_of (stream_left d s) t) * layers_of (stream_left d s) t ≤ tile_packets s t
  packets_less_at t =
      let fewer : tile_precincts (tile_rect (canvas_of s.siz) t) (shapes_of (stream_left d s) t) ≤ tile_precincts (tile_rect (canvas_of s.siz) t) (shapes_of s t) =
      tile_less d (tile_rect (canvas_of s.siz) t) (shapes_of s t) (shapes_of (stream_left d s) t) (are_lower s stand d clear t) in
      rw (layers_same d s t) (mul-le-mul_right (layers_of s t) fewer)

  packets_now : packet_total (stream_left d s) ≡ sum_below (λ t. tile_precincts (tile_rect (canvas_of s.siz) t) (shapes_of (stream_left d s) t) * layers_of (stream_left d s) t) (tile_number s.siz)
  unfolding stream_left
  packets_now = packets_are (stream_left d s)

  packets_less : packet_total (stream_left d s) ≤ packet_total s
  packets_less =
      omega (
        arith,
        packets_now,
        packets_are s,
        sums_less (λ t. tile_precincts (tile_rect (canvas_of s.siz) t) (shapes_of (stream_left d s) t) * layers_of (stream_left d s) t) (tile_packets s) (tile_number s.siz) (λ t lt. packets_less_at t),
      )

  pub totals_left : totals_fault s ≡ None → totals_fault (stream_left d s) ≡ None
  unfolding totals_fault
  totals_left h =
      let both = neither (passed 5 (block_total s) (nat_lt most_blocks (block_total s))) (passed 6 (packet_total s) (nat_lt (2 ^ 22) (packet_total s))) h in
      let few : block_total s ≤ most_blocks = not_passed 5 (block_total s) most_blocks both.0 in
      let less : packet_total s ≤ 2 ^ 22 = not_passed 6 (packet_total s) (2 ^ 22) both.1 in
      both_none (passed 5 (block_total (stream_left d s)) (nat_lt most_blocks (block_total (stream_left d s)))) (passed 6 (packet_total (stream_left d s)) (nat_lt (2 ^ 22) (packet_total (stream_left d s))))
      (within 5 (block_total (stream_left d s)) most_blocks (omega (arith, blocks_less, few))) (within 6 (packet_total (stream_left d s)) (2 ^ 22) (omega (arith, packets_less, less)))
