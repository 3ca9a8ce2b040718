-- A tile's code-blocks of which a segmentation symbol is wrong: whether there are any, and the lowest one.
use Rattle.std.proofs.Common.{◌≡◌, ◌∙◌, ◌⊎◌, ◌<◌, ◌≤◌, ◌+◌, ℕ, zero, suc, true, false, List, length, slice_index_or, refl, sym, subst, arith, inl, inr, Option, None, Some, slice_get}
use Rattle.std.specs.List.{All}
use Rattle.std.proofs.lemmas.Bool.{cases_Bool, cases_eq, cases_lt}
use Rattle.std.proofs.lemmas.Option.{get_or_from_slice_get, slice_get-get_or, slice_get_within}
use Rattle.jx_base.specs.declared.pieces.Block.{Block}
use Rattle.jx_base.specs.Joined.{sum_below}
use Rattle.jx_codeblock.specs.Written.{is_wrong}
use Rattle.jx_geom.specs.Numbering.{blocks_below}
use Rattle.jx_codestream.specs.declared.Stream.{Stream}
use Rattle.jx_codestream.specs.First.{canvas_of, tile_number}
use Rattle.jx_codestream.specs.Shapes.{shapes_of}
use Rattle.jx_tile.specs.Totals.{block_total}
use Rattle.jx_options.specs.Wanted.{Wanted}
use Rattle.jx_rounds.proofs.FrontLemmas.{blocks_are}
use Rattle.jx_rounds.specs.Tiles.{IsRight, IsWrongAt, IsWrongBlock, blocks_in_tile, first_in_tile}

-- ---- the first of some numbers of which something holds
pub record IsFirstFrom (P : ℕ → Type 0) (low count number : ℕ) : Type 0 where
  pub from : low ≤ number
  pub below : number < low + count
  pub is : P number
  pub lowest : (n : ℕ) → low ≤ n → n < number → P n → ⊥

abbrev pub HoldsNowhere : (ℕ → Type 0) → ℕ → ℕ → Type 0
HoldsNowhere P low count = (n : ℕ) → low ≤ n → n < low + count → P n → ⊥

nowhere_more : (P : ℕ → Type 0) (low count : ℕ) → HoldsNowhere P low count → (P (low + count) → ⊥) → HoldsNowhere P low (suc count)
nowhere_more P low count none next n from below is = elim (cases_eq n (low + count)) [
  | inl e ↦ next (subst P e is)
  | inr other ↦ none n from (omega (arith, below, other)) is
]

pub first_or_none : (P : ℕ → Type 0) (low count : ℕ) → ((n : ℕ) → low ≤ n → n < low + count → P n ⊎ (P n → ⊥)) → ((n : ℕ) × IsFirstFrom P low count n) ⊎ HoldsNowhere P low count
first_or_none P low zero decided = inr (λ n from below is. omega (arith, from, below))
first_or_none P low (suc count) decided = elim (first_or_none P low count (λ n from below. decided n from (omega (arith, below)))) [
  | inl found ↦ inl (found.0, record { from = found.1.from; below = omega (arith, found.1.below); is = found.1.is; lowest = found.1.lowest })
  | inr none ↦ elim (decided (low + count) (omega arith) (omega arith)) [
    | inl is ↦ inl (low + count, record { from = omega arith; below = omega arith; is = is; lowest = λ n from below. none n from below })
    | inr next ↦ inr (nowhere_more P low count none next)
  ]
]

-- ---- the blocks of a tile
wrong_or_not : (w : Wanted) (o : Option Block) → IsWrongBlock w o ⊎ (IsWrongBlock w o → ⊥)
wrong_or_not w None = inr (λ never. never)
wrong_or_not w (Some b) = elim (cases_Bool (is_wrong w.style b)) [
  | inl wrong ↦ inl wrong
  | inr right ↦ inr (λ (wrong : is_wrong w.style b ≡ true). cc)
]

pub wrong_or_right : (w : Wanted) (s : Stream) (blocks : List Block) (t : ℕ) → ((number : ℕ) × IsWrongAt w s blocks t number) ⊎ IsRight w s blocks t
wrong_or_right w s blocks t =
    elim (first_or_none (λ (n : ℕ). IsWrongBlock w (slice_get blocks n)) (first_in_tile s t) (blocks_in_tile s t) (λ n from below. wrong_or_not w (slice_get blocks n))) [
      | inl found ↦ inl (found.0, record { from = found.1.from; below = found.1.below; wrong = found.1.is; lowest = found.1.lowest })
      | inr none ↦ inr none
    ]

pub right_or_wrong : (w : Wanted) (s : Stream) (blocks : List Block) (t number : ℕ) → IsRight w s blocks t → IsWrongAt w s blocks t number → ⊥
right_or_wrong w s blocks t number right is = right number is.from is.below is.wrong

pub one_wrong : (w : Wanted) (s : Stream) (blocks : List Block) (t n k : ℕ) → IsWrongAt w s blocks t n → IsWrongAt w s blocks t k → n ≡ k
one_wrong w s blocks t n k x y = elim (cases_lt n k) [
  | inl lt ↦ absurd (y.lowest n x.from lt x.wrong)
  | inr ge ↦ elim (cases_lt k n) [
    | inl lt ↦ absurd (x.lowest k y.from lt y.wrong)
    | inr le ↦ omega arith
  ]
]

-- ---- all blocks lie in tiles
term_of : (f : ℕ → ℕ) (n i : ℕ) → i < sum_below f n → (t : ℕ) × (t < n) × (sum_below f t ≤ i) × (i < sum_below f t + f t)
term_of f zero i lt = absurd (omega (arith, lt))
term_of f (suc n) i lt = elim (cases_lt i (sum_below f n)) [
  | inl front ↦ let before = term_of f n i front in (before.0, omega (arith, before.1), before.2, before.3)
  | inr rest ↦ (n, omega arith, rest, lt)
]

pub all_right : (w : Wanted) (s : Stream) (blocks : List Block) → length blocks ≡ block_total s → ((t : ℕ) → t < tile_number s.siz → IsRight w s blocks t) → All (λ (b : Block). is_wrong w.style b ≡ false) blocks
all_right w s blocks all right k d lt =
    let total : length blocks ≡ blocks_below (canvas_of s.siz) (shapes_of s) (tile_number s.siz) = all ∙ blocks_are s in
    let place = term_of (blocks_in_tile s) (tile_number s.siz) k (subst (λ (n : ℕ). k < n) total lt) in
    elim (cases_Bool (is_wrong w.style (slice_index_or blocks k d))) [
      | inl wrong ↦ absurd (right place.0 place.1 k place.2 place.3 (subst (IsWrongBlock w) (sym (slice_get-get_or blocks k d lt)) wrong))
      | inr is ↦ is
    ]

pub right_in_all : (w : Wanted) (s : Stream) (blocks : List Block) (t : ℕ) → All (λ (b : Block). is_wrong w.style b ≡ false) blocks → IsRight w s blocks t
right_in_all w s blocks t each n from below wrong = here (slice_get blocks n) refl wrong
  where
    here : (o : Option Block) → slice_get blocks n ≡ o → IsWrongBlock w o → ⊥
    here None e never = never
    here (Some b) e is =
        let right : is_wrong w.style (slice_index_or blocks n b) ≡ false = each n b (slice_get_within blocks n b e) in
        let same : slice_index_or blocks n b ≡ b = get_or_from_slice_get blocks n b b e in
        let clear : is_wrong w.style b ≡ false = subst (λ (x : Block). is_wrong w.style x ≡ false) same right in
        cc
