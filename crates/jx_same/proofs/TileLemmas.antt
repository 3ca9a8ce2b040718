-- A codestream at a tile, as one that was read and the tile's number; and where its code-blocks begin.
use Rattle.std.proofs.Common.{◌≡◌, ◌∙◌, ◌+◌, ◌<◌, ◌≤◌, ℕ, List, length, Some, ap, sym, subst, arith, inl, inr, slice_index_or, Option}
use Rattle.std.specs.List.{find, slice_get}
use Rattle.std.proofs.lemmas.Bool.{cases_lt}
use Rattle.std.proofs.lemmas.Option.{slice_get-get_or}
use Rattle.jx_base.proofs.Sums.{sum_below_grows, sum_below_more}
use Rattle.jx_base.specs.declared.names.BlockName.{BlockName}
use Rattle.jx_base.specs.declared.pieces.Block.{Block}
use Rattle.jx_geom.specs.Counts.{tile_blocks}
use Rattle.jx_geom.specs.Numbering.{IsBlock, block_number, blocks_below, geometry_of}
use Rattle.jx_geom.specs.Rects.{tile_rect}
use Rattle.jx_geom.proofs.NumberLemmas.{number_in_tile_below}
use Rattle.jx_codestream.specs.declared.Stream.{Stream}
use Rattle.jx_codestream.specs.First.{canvas_of, tile_number}
use Rattle.jx_codestream.specs.Shapes.{shapes_of}
use Rattle.jx_tile.proofs.TotalLemmas.{blocks_are}
use Rattle.jx_tier2_reader.specs.BlockOf.{AreBlocksOf}
use Rattle.jx_same.specs.declared.answer.Spot.{Spot}
use Rattle.jx_same.specs.declared.input.Input.{Input}
use Rattle.jx_same.specs.Items.{differs, tile_items}
use Rattle.jx_same.specs.Runs.{AreBlocksBelow}
use Rattle.jx_same.specs.Sides.{SideValue, meaning_at, meaning_in}
use Rattle.jx_same.proofs.SampleLemmas.{name_there}

abbrev pub side_of : Input → ℕ → SideValue
side_of i t = record { stream = i.stream.now; blocks = i.blocks.now; tile = t }

pub tile_found : (i j : Input) (u v : SideValue) (t : ℕ) (r : Option Spot) → u ≡ side_of i t → v ≡ side_of j t
    → r ≡ find (differs (meaning_at u) (meaning_at v)) (tile_items u.stream u.tile) → r ≡ find (differs (meaning_in i) (meaning_in j)) (tile_items i.stream.now t)
tile_found i j u v t r own other is =
    is ∙ ap (λ (x : SideValue). find (differs (meaning_at x) (meaning_at v)) (tile_items x.stream x.tile)) own
    ∙ ap (λ (x : SideValue). find (differs (meaning_at (side_of i t)) (meaning_at x)) (tile_items i.stream.now t)) other

-- ---- the tile of the block of a number
abbrev before_tile : Stream → ℕ → ℕ
before_tile s t = blocks_below (canvas_of s.siz) (shapes_of s) t

abbrev in_tile : Stream → ℕ → ℕ
in_tile s t = tile_blocks (tile_rect (canvas_of s.siz) t) (shapes_of s t)

record IsOfTile (s : Stream) (n t : ℕ) : Type 0 where
  from : before_tile s t ≤ n
  below : n < before_tile s t + in_tile s t

of_name : (s : Stream) (name : BlockName) → IsBlock (canvas_of s.siz) (shapes_of s) name → IsOfTile s (block_number (canvas_of s.siz) (shapes_of s) name) name.tile
unfolding block_number
of_name s name is =
    let inner = number_in_tile_below (geometry_of (canvas_of s.siz) (shapes_of s) name.tile) name is.1 in
    record { from = omega arith; below = omega (arith, inner) }

of_block : (s : Stream) (blocks : List Block) (n : ℕ) (b : Block) → AreBlocksOf s blocks → slice_get blocks n ≡ Some b → IsOfTile s n b.name.tile
of_block s blocks n b are at =
    let named = name_there s blocks n b are at in
    let here : IsOfTile s n named.name.tile = subst (λ (k : ℕ). IsOfTile s k named.name.tile) named.number (of_name s named.name named.is) in
    subst (IsOfTile s n) (ap (λ (x : BlockName). x.tile) (sym named.own.name)) here

-- ---- the blocks of the tiles below one
pub blocks_first : (s : Stream) (blocks : List Block) (tile : ℕ) → AreBlocksOf s blocks → tile ≤ tile_number s.siz → AreBlocksBelow blocks tile (blocks_below (canvas_of s.siz) (shapes_of s) tile)
blocks_first s blocks tile are inside =
    let most : before_tile s tile ≤ before_tile s (tile_number s.siz) = sum_below_grows (in_tile s) tile (tile_number s.siz) inside in
    record {
      inside = omega (arith, most, blocks_are s, are.all);
      before = λ n b at below. elim (cases_lt b.name.tile tile) [
        | inl less ↦ less
        | inr later ↦
            let grows : before_tile s tile ≤ before_tile s b.name.tile = sum_below_grows (in_tile s) tile b.name.tile later in
            absurd (omega (arith, below, grows, (of_block s blocks n b are at).from))
      ];
      behind = λ n b at from. elim (cases_lt b.name.tile tile) [
        | inl less ↦
            let more : before_tile s b.name.tile + in_tile s b.name.tile ≤ before_tile s tile = sum_below_more (in_tile s) b.name.tile tile less in
            absurd (omega (arith, from, more, (of_block s blocks n b are at).below))
        | inr later ↦ later
      ];
    }

-- ---- where a search stands
there : (blocks : List Block) (n : ℕ) (b : Block) → n < length blocks → b ≡ slice_index_or blocks n b → slice_get blocks n ≡ Some b
there blocks n b inside is = slice_get-get_or blocks n b inside ∙ ap Some (sym is)

pub not_behind : (blocks : List Block) (tile n : ℕ) (b : Block) → n < length blocks → b ≡ slice_index_or blocks n b → b.name.tile < tile
    → (count : ℕ) → AreBlocksBelow blocks tile count → n < count
not_behind blocks tile n b inside is less count are = elim (cases_lt n count) [
  | inl below ↦ below
  | inr past ↦ absurd (omega (arith, less, are.behind n b (there blocks n b inside is) past))
]

pub not_before : (blocks : List Block) (tile n : ℕ) (b : Block) → n < length blocks → b ≡ slice_index_or blocks n b → tile ≤ b.name.tile
    → (count : ℕ) → AreBlocksBelow blocks tile count → count ≤ n
not_before blocks tile n b inside is later count are = elim (cases_lt n count) [
  | inl below ↦ absurd (omega (arith, later, are.before n b (there blocks n b inside is) below))
  | inr past ↦ past
]
