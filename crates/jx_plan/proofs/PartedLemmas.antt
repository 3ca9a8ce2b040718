-- Tiles that are cut into few tile-parts, or many; and how many tile-parts all have.
use Rattle.std.proofs.Common.{◌≡◌, ◌≤◌, ◌<◌, ◌⊎◌, ◌+◌, ◌∙◌, ap, sym, subst, refl, arith, Bool, false, true, ℕ, zero, suc, List, length, inl, inr, None}
use Rattle.std.proofs.lemmas.Bool.{cases_lt}
use Rattle.jx_base.specs.Joined.{sum_below}
use Rattle.jx_base.proofs.Sums.{sum_below_next}
use Rattle.jx_progression.specs.declared.names.PacketName.{PacketName}
use Rattle.jx_progression.proofs.ExistLemmas.{orders_exist}
use Rattle.jx_progression.proofs.OrderLemmas.{one_order}
use Rattle.jx_codestream.specs.declared.Stream.{Stream}
use Rattle.jx_codestream.specs.First.{tile_number}
use Rattle.jx_codestream.specs.InRange.{StreamInRange}
use Rattle.jx_codestream.specs.Shapes.{geometry, layers_of, tile_at}
use Rattle.jx_tile.specs.Covered.{IsListOf}
use Rattle.jx_tile.specs.Totals.{totals_fault}
use Rattle.jx_tile.proofs.TotalLemmas.{geometry_fits}
use Rattle.jx_options.specs.declared.Marks.{Marks}
use Rattle.jx_options.specs.declared.PartChoice.{PartChoice}
use Rattle.jx_options.specs.declared.PartChoice.TheVariants as part
use Rattle.jx_tile_parts.specs.Groups.{ArePartCounts, HasFewEntries, HasFewParts, HasManyEntries, HasManyParts, IsPartCount, groups_of, most_entries, most_parts}
use Rattle.jx_plan.specs.Steps.{AreAllParts}
use Rattle.jx_tile_parts.proofs.GroupLemmas.{one_group}

-- a tile has one list of packets, so one number of tile-parts
one_list : (s : Stream) (t : ℕ) (names others : List PacketName) → IsListOf s t names → IsListOf s t others → names ≡ others
one_list s t names others is = one_order (geometry s t) (layers_of s t) (tile_at s t).progressions (length (tile_at s t).progressions) names others is

pub one_count : (parts : PartChoice) (s : Stream) (t m n : ℕ) → IsPartCount parts s t m → IsPartCount parts s t n → m ≡ n
one_count parts s t m n x y =
    x.count_is ∙ ap (λ (xs : List PacketName). length (groups_of parts xs)) (one_list s t x.names y.names x.order y.order) ∙ sym y.count_is

pub few_by : (parts : PartChoice) (s : Stream) (t count : ℕ) → IsPartCount parts s t count → count ≤ most_parts → HasFewParts parts s t
few_by parts s t count is few = λ others order.
    let own : IsPartCount parts s t (length (groups_of parts others)) = record { names = others; order = order; count_is = refl } in
    omega (arith, few, one_count parts s t count (length (groups_of parts others)) is own)

pub many_by : (parts : PartChoice) (s : Stream) (t count : ℕ) → IsPartCount parts s t count → most_parts < count → HasManyParts parts s t
many_by parts s t count is many = record { names = is.names; order = is.order; many = omega (arith, many, is.count_is) }

-- ---- nothing is asked
pub few_undivided : (s : Stream) (t : ℕ) → HasFewParts part.None s t
few_undivided s t = λ names is.
    let one : length (groups_of part.None names) ≡ 1 = ap length (one_group names) in
    omega arith

ones : (s : Stream) (counts : ℕ → ℕ) (n : ℕ) → ((t : ℕ) → t < n → IsPartCount part.None s t (counts t)) → sum_below counts n ≡ n
ones s counts zero each = refl
ones s counts (suc n) each =
    let own : IsPartCount part.None s n (counts n) = each n (omega arith) in
    let one : length (groups_of part.None own.names) ≡ 1 = ap length (one_group own.names) in
    let before : sum_below counts n ≡ n = ones s counts n (λ t lt. each t (omega arith)) in
    omega (arith, own.count_is)

pub undivided : (s : Stream) → AreAllParts part.None s (tile_number s.siz)
undivided s = record { few = λ t lt. few_undivided s t; total = λ counts each. ones s counts (tile_number s.siz) each }

pub undivided_by : (s : Stream) (n : ℕ) → n ≡ tile_number s.siz → AreAllParts part.None s n
undivided_by s n is = subst (AreAllParts part.None s) (sym is) (undivided s)

-- ---- one tile more
pub few_next : (parts : PartChoice) (s : Stream) (n count : ℕ) → ((t : ℕ) → t < n → HasFewParts parts s t) → IsPartCount parts s n count → count ≤ most_parts
    → (t : ℕ) → t < n + 1 → HasFewParts parts s t
few_next parts s n count before own few t lt = elim (cases_lt t n) [
  | inl less ↦ before t less
  | inr ge ↦ let same : n ≡ t = omega arith in subst (HasFewParts parts s) same (few_by parts s n count own few)
]

abbrev pub IsTotalBelow : PartChoice → Stream → ℕ → ℕ → Type 0
IsTotalBelow parts s n all = (counts : ℕ → ℕ) → ((t : ℕ) → t < n → IsPartCount parts s t (counts t)) → sum_below counts n ≡ all

pub total_next : (parts : PartChoice) (s : Stream) (n all count : ℕ) → IsTotalBelow parts s n all → IsPartCount parts s n count → IsTotalBelow parts s (n + 1) (all + count)
total_next parts s n all count before own = λ counts each.
    let front : sum_below counts n ≡ all = before counts (λ t lt. each t (omega arith)) in
    let last : counts n ≡ count = one_count parts s n (counts n) count (each n (omega arith)) own in
    omega (arith, sum_below_next counts n, front, last)

-- ---- each tile has such a number
module _ (parts : PartChoice) (s : Stream) (range : StreamInRange s) (none : totals_fault s ≡ None) where
  count_exists : (t : ℕ) → t < tile_number s.siz → (n : ℕ) × IsPartCount parts s t n
  count_exists t inside =
      let list = orders_exist (geometry s t) (layers_of s t) (tile_at s t).progressions (length (tile_at s t).progressions) (geometry_fits s t range none inside) in
      (length (groups_of parts list.0), record { names = list.0; order = list.1; count_is = refl })

  abbrev pick : (t : ℕ) → (t < tile_number s.siz) ⊎ (tile_number s.siz ≤ t) → ℕ
  pick t (inl inside) = (count_exists t inside).0
  pick t (inr past) = 0

  picked : (t : ℕ) (c : (t < tile_number s.siz) ⊎ (tile_number s.siz ≤ t)) → t < tile_number s.siz → IsPartCount parts s t (pick t c)
  picked t (inl inside) lt = (count_exists t inside).1
  picked t (inr past) lt = absurd (omega arith)

  pub counts_exist : (counts : ℕ → ℕ) × ArePartCounts parts s counts
  counts_exist = ((λ t. pick t (cases_lt t (tile_number s.siz))), (λ t inside. picked t (cases_lt t (tile_number s.siz)) inside))

  -- and two lists of them have one sum
  pub one_total : (counts others : ℕ → ℕ) → ArePartCounts parts s counts → ArePartCounts parts s others → (n : ℕ) → n ≤ tile_number s.siz → sum_below counts n ≡ sum_below others n
  one_total counts others x y zero le = refl
  one_total counts others x y (suc n) le =
      let front : sum_below counts n ≡ sum_below others n = one_total counts others x y n (omega arith) in
      let last : counts n ≡ others n = one_count parts s n (counts n) (others n) (x n (omega arith)) (y n (omega arith)) in
      omega (arith, front, last)

-- ---- choice 10
pub entries_or : (m : Marks) (s : Stream) → StreamInRange s → totals_fault s ≡ None → HasFewEntries m s ⊎ HasManyEntries m s
entries_or m s range none = by m.tlm refl
  where
    counts : (counts : ℕ → ℕ) × ArePartCounts m.parts s counts
    counts = counts_exist m.parts s range none

    by : (asked : Bool) → m.tlm ≡ asked → HasFewEntries m s ⊎ HasManyEntries m s
    by false e = inl (λ yes. absurd (cc))
    by true e = elim (cases_lt most_entries (sum_below counts.0 (tile_number s.siz))) [
      | inl many ↦ inr (record { asked = e; counts = counts.0; each = counts.1; many = many })
      | inr few ↦ inl (λ yes others each.
          let same : sum_below others (tile_number s.siz) ≡ sum_below counts.0 (tile_number s.siz) = one_total m.parts s range none others counts.0 each counts.1 (tile_number s.siz) (omega arith) in
          omega (arith, few, same))
    ]

-- by the number that was counted
pub many_counted : (m : Marks) (s : Stream) (all : ℕ) → StreamInRange s → totals_fault s ≡ None → AreAllParts m.parts s all → m.tlm ≡ true → most_entries < all → HasManyEntries m s
many_counted m s all range none are asked many =
    let counts = counts_exist m.parts s range none in
    record { asked = asked; counts = counts.0; each = counts.1; many = omega (arith, many, are.total counts.0 counts.1) }
