-- Lists of words: a block as its words show it. Around the block stand words of 0: a stripe above it and one below, and a word to
-- each side of a stripe.
use Rattle.std.specs.Prelude.{ℕ, ◌≡◌, ◌+◌, ◌*◌, ◌/◌, ◌%◌, ◌<◌, Bool, ◌==◌, ◌&&◌, if◌then◌else◌, List, length, slice_index_or, replicate}
use Rattle.std.specs.Int.{bit_at}
use Rattle.jx_tier1.specs.Places.{IsWord}

-- the bit of a column and a row, both counted from 1 on, where a stripe has so many words
abbrev pub bit_in : ℕ → List ℕ → ℕ → ℕ → ℕ
bit_in wide words column row =
    bit_at (slice_index_or words ((row + 3) / 4 * wide + (column + 7) / 8) 0) (6 * ((column + 7) % 8) + (row + 3) % 4)

-- the words show a value, 0 or 1, of each column and row
pub record Draws (wide : ℕ) (F : ℕ → ℕ → ℕ) (words : List ℕ) : Type 0 where
  pub at : (column row : ℕ) → (column + 7) / 8 < wide → bit_in wide words column row ≡ F column row

-- all of them are words of places
abbrev pub AreWords : List ℕ → Type 0
AreWords words = (i : ℕ) → IsWord (slice_index_or words i 0)

-- with causal contexts nothing is seen of the last of six rows (D.7)
abbrev pub seen_if : Bool → ℕ → ℕ → ℕ
seen_if causal row bit = if causal && row == 5 then 0 else bit

-- a window shows a value of ten columns and six rows, from one of each on
pub record Sees (causal : Bool) (F : ℕ → ℕ → ℕ) (x y w : ℕ) : Type 0 where
  pub at : (column row : ℕ) → column < 10 → row < 6 → bit_at w (6 * column + row) ≡ seen_if causal row (F (x + column) (y + row))

-- a block by words: what is significant, what of it is negative, what the plane's significance pass decided, what was refined
pub record BlockWords : Type 0 where
  pub width : ℕ
  pub height : ℕ
  pub significant : List ℕ
  pub negative : List ℕ
  pub visited : List ℕ
  pub refined : List ℕ

-- how many words a stripe has, and how many there are
abbrev pub wide_for : ℕ → ℕ
wide_for width = (width + 7) / 8 + 2

abbrev pub count_for : ℕ → ℕ → ℕ
count_for width height = ((height + 3) / 4 + 2) * wide_for width

pub record HasLists (b : BlockWords) : Type 0 where
  pub significant : length b.significant ≡ count_for b.width b.height
  pub negative : length b.negative ≡ count_for b.width b.height
  pub visited : length b.visited ≡ count_for b.width b.height
  pub refined : length b.refined ≡ count_for b.width b.height

abbrev pub blank : ℕ → ℕ → BlockWords
blank width height = record {
  width = width;
  height = height;
  significant = replicate (count_for width height) 0;
  negative = replicate (count_for width height) 0;
  visited = replicate (count_for width height) 0;
  refined = replicate (count_for width height) 0;
}

-- where a word stands, its stripe and its group counted from 0 on
abbrev pub place_in : ℕ → ℕ → ℕ → ℕ
place_in wide stripe group = (stripe + 1) * wide + group + 1
