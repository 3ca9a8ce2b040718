-- Code-blocks of a band, cut into runs that threads compare one by one.
use Rattle.std.specs.Prelude.{ℕ, ◌+◌, ◌*◌, ◌≡◌, ◌≤◌, ◌<◌, Bool, false, true, List, find, min, Option, Result, IfOk, length, slice_get, None, Some}
use Rattle.jx_base.specs.declared.names.Rect.{Rect}
use Rattle.jx_base.specs.declared.pieces.Block.{Block}
use Rattle.jx_base.specs.Joined.{joined}
use Rattle.jx_base.specs.Places.{size_of}
use Rattle.jx_same.specs.declared.answer.Spot.{Spot}
use Rattle.jx_same.specs.declared.cells.Best.{Best}
use Rattle.jx_same.specs.declared.cells.Hit.{Hit}
use Rattle.jx_same.specs.declared.side.Walk.{Walk}

-- where the run of a number begins: runs of `size` from `low` on below `high`
abbrev pub cut_at : ℕ → ℕ → ℕ → ℕ → ℕ
cut_at low size high i = min (low + i * size) high

-- what the numbers of a run have
abbrev pub run_items : {X : Type 0} → (ℕ → List X) → ℕ → ℕ → ℕ → ℕ → List X
run_items f low size high i = joined f (cut_at low size high i) (cut_at low size high (i + 1))

-- each run's answer is the first item of the run that passes a test, or an error
abbrev pub AreFirsts : {X E : Type 0} → (X → Bool) → (ℕ → List X) → List (Result (Option X) E) → Type 0
AreFirsts {X} {E} p f answers = (i : ℕ) (r : Result (Option X) E) → slice_get answers i ≡ Some r → IfOk r (λ found. found ≡ find p (f i))

-- ---- rows of code-blocks
-- what a row of so many code-blocks has from one column on below another
abbrev pub row_items : {X : Type 0} → (ℕ → List X) → ℕ → ℕ → ℕ → ℕ → List X
row_items f wide left right row = joined f (row * wide + left) (row * wide + right)

-- the first row that has an item which passes a test, and that item
pub record FirstRow (p : Spot → Bool) (rows : ℕ → List Spot) (low high : ℕ) (h : Hit) : Type 0 where
  pub from : low ≤ h.row
  pub below : h.row < high
  pub before : find p (joined rows low h.row) ≡ None
  pub here : find p (rows h.row) ≡ Some h.spot

-- or that there is none
abbrev pub IsFirstRow : (Spot → Bool) → (ℕ → List Spot) → ℕ → ℕ → Option Hit → Type 0
IsFirstRow p rows low high None = find p (joined rows low high) ≡ None
IsFirstRow p rows low high (Some h) = FirstRow p rows low high h

-- what was found in a row, or in none of the rows
abbrev pub IsFoundAt : (Spot → Bool) → (ℕ → List Spot) → ℕ → ℕ → Option Spot → Type 0
IsFoundAt p rows end high None = end ≡ high
IsFoundAt p rows end high (Some s) = (end < high) × (find p (rows end) ≡ Some s)

-- no row before `end` has an item that passes, and that row has one, or all rows were looked at
pub record IsBest (p : Spot → Bool) (rows : ℕ → List Spot) (low high : ℕ) (b : Best) : Type 0 where
  pub from : low ≤ b.end
  pub within : b.end ≤ high
  pub none : find p (joined rows low b.end) ≡ None
  pub found : IsFoundAt p rows b.end high b.found

-- ---- how the code-blocks of a band, a rect of columns and rows, are gone through
pub record IsWalk (r : Rect) (w : Walk) : Type 0 where
  pub count : w.count ≡ w.wide * w.high
  pub all : w.count ≡ size_of r
  pub columns : 0 < w.columns
  pub rows : 0 < w.rows

-- in units of code-blocks, or of whole rows of them
abbrev pub unit_items : {X : Type 0} → Bool → (ℕ → List X) → ℕ → (ℕ → List X)
unit_items false f wide = f
unit_items true f wide = row_items f wide 0 wide

abbrev pub unit_count : Bool → Walk → ℕ
unit_count false w = w.count
unit_count true w = w.high

-- ---- the code-blocks of the tiles below one are the first `count`, and all others are of that tile and later ones
pub record AreBlocksBelow (blocks : List Block) (tile count : ℕ) : Type 0 where
  pub inside : count ≤ length blocks
  pub before : (number : ℕ) (b : Block) → slice_get blocks number ≡ Some b → number < count → b.name.tile < tile
  pub behind : (number : ℕ) (b : Block) → slice_get blocks number ≡ Some b → count ≤ number → tile ≤ b.name.tile
