-- What is true of a precinct that is written.
use Rattle.std.specs.Prelude.{◌≡◌, ℕ, zero, suc, ◌+◌, ◌*◌, ◌^◌, ◌<◌, ◌≤◌, nat_le, Bool, true, false, ◌++◌, List, [], ◌∷◌, length, map, take, drop, slice_index, slice_index_or, if◌then◌else◌, None}
use Rattle.jx_tagtree.specs.Shape.{IsShape}
use Rattle.jx_tagtree.specs.Header.{bytes_of}
use Rattle.jx_tagtree.specs.TagTree.{IsTree, ValuesOf}
use Rattle.jx_packet_header.specs.Precinct.{fresh_bands}
use Rattle.jx_packet_header.specs.declared.BandCells.{BandCells}
use Rattle.jx_packet_header.specs.declared.LeafPart.{LeafPart}
use Rattle.jx_packet_header.specs.declared.known.Known.{Known}
use Rattle.jx_packet_header.specs.Packet.{Cells, BandTold, bands_bits, bands_after, unknown_block}
use Rattle.jx_packet_header.specs.Written.{Leafed, Writes, cells_of, values_of, entries_written, first_leaves, zero_leaves, least_of, some_in}

abbrev pub no_leaf : Leafed
no_leaf = record { zero = 0; parts = [] }

abbrev pub leaf_at : List Leafed → ℕ → Leafed
leaf_at leaves i = slice_index_or leaves i no_leaf

-- how many passes a block has in a layer and the later ones
abbrev pub passes_from : ℕ → List LeafPart → ℕ
passes_from layer [] = 0
passes_from layer (p ∷ ps) = if nat_le layer p.layer then p.told.passes + passes_from layer ps else passes_from layer ps

-- the parts before a cursor are of layers before one
abbrev pub IsCursor : ℕ → ℕ → List LeafPart → Type 0
IsCursor layer zero parts = Unit {0}
IsCursor layer (suc cursor) [] = ⊥
IsCursor layer (suc cursor) (p ∷ ps) = (p.layer < layer) × IsCursor layer cursor ps

-- layers that don't fall
abbrev pub IsRising : ℕ → List LeafPart → Type 0
IsRising layer [] = Unit {0}
IsRising layer (p ∷ ps) = (layer ≤ p.layer) × IsRising p.layer ps

-- the layers of no block's parts fall
abbrev pub AreRising : List Leafed → Type 0
AreRising [] = Unit {0}
AreRising (l ∷ ls) = IsRising 0 l.parts × AreRising ls

-- each part is of a layer or a later one
abbrev pub AreFrom : ℕ → List LeafPart → Type 0
AreFrom layer [] = Unit {0}
AreFrom layer (p ∷ ps) = (layer ≤ p.layer) × AreFrom layer ps

-- A block of which this layer and the later ones are to be written: where it has no part of an earlier one, no packet has
-- included it.
pub record IsDue (layer : ℕ) (known : Known) (cursor : ℕ) (leaf : Leafed) : Type 0 where
  pub cursor_is : IsCursor layer cursor leaf.parts
  pub few : known.passes + passes_from layer leaf.parts < 2 ^ 16
  pub lblock : known.lblock ≤ 32
  pub fresh : AreFrom layer leaf.parts → known.zero ≡ None

-- A band's blocks and the leaves of its tag trees. The nodes of that of first layers have the values of the least leaves.
pub record AreWrites (leaves : List Leafed) (w : Writes) : Type 0 where
  pub shape : IsShape w.zeros.tree.wide w.zeros.tree.high
  pub wide : w.first.tree.wide ≡ w.zeros.tree.wide
  pub high : w.first.tree.high ≡ w.zeros.tree.high
  pub long : length w.blocks ≡ w.zeros.tree.wide * w.zeros.tree.high
  pub all : length leaves ≡ length w.blocks
  pub cursors : length w.cursors ≡ length w.blocks
  pub zeros_are : w.zeros.leaves ≡ zero_leaves w.planes leaves
  pub fit : (i : ℕ) → slice_index (zero_leaves w.planes leaves) i < 2 ^ 32
  pub layers : ℕ
  pub first_are : w.first.leaves ≡ first_leaves layers leaves
  pub first_is : IsTree w.first.tree
  pub first_values : ValuesOf w.first.tree (least_of w.first)

pub record IsWrites (layer : ℕ) (leaves : List Leafed) (w : Writes) : Type 0 where
  pub are : AreWrites leaves w
  pub due : (i : ℕ) → IsDue layer (slice_index_or w.blocks i unknown_block) (slice_index_or w.cursors i 0) (leaf_at leaves i)

-- the first blocks of which this layer was written
pub record IsPartly (layer at : ℕ) (leaves : List Leafed) (w : Writes) : Type 0 where
  pub are : AreWrites leaves w
  pub done : (i : ℕ) → i < at → IsDue (layer + 1) (slice_index_or w.blocks i unknown_block) (slice_index_or w.cursors i 0) (leaf_at leaves i)
  pub due : (i : ℕ) → at ≤ i → IsDue layer (slice_index_or w.blocks i unknown_block) (slice_index_or w.cursors i 0) (leaf_at leaves i)

-- a band keeps its sizes
pub record SameSize (new old : Cells) : Type 0 where
  pub wide : new.first.wide ≡ old.first.wide
  pub high : new.first.high ≡ old.first.high
  pub zeros_wide : new.zeros.wide ≡ old.zeros.wide
  pub zeros_high : new.zeros.high ≡ old.zeros.high
  pub long : length new.blocks ≡ length old.blocks
  pub planes : new.planes ≡ old.planes

-- the bands of a precinct, each with its leaves
abbrev pub AreDue : ℕ → List Writes → List Leafed → Type 0
AreDue layer [] leaves = Unit {0}
AreDue layer (w ∷ ws) leaves = IsWrites layer (take (length w.blocks) leaves) w × AreDue layer ws (drop (length w.blocks) leaves)

-- what a header tells of bands that hold these trees
abbrev pub tolds_of : ℕ → List Writes → List Leafed → List BandTold
tolds_of layer [] leaves = []
tolds_of layer (w ∷ ws) leaves =
    record { values = values_of w; entries = entries_written layer w.blocks (take (length w.blocks) leaves) } ∷ tolds_of layer ws (drop (length w.blocks) leaves)

-- of each band, the leaves of its first tag tree, and how many blocks it has
abbrev pub head_of : Writes → List ℕ × ℕ
head_of w = (w.first.leaves, length w.blocks)

abbrev pub heads_of : List Writes → List (List ℕ × ℕ)
heads_of ws = map head_of ws

-- these leaves are the blocks' first layers
abbrev pub AreFirst : ℕ → List (List ℕ × ℕ) → List Leafed → Type 0
AreFirst layers [] leaves = Unit {0}
AreFirst layers (h ∷ hs) leaves = (h.0 ≡ first_leaves layers (take h.1 leaves)) × AreFirst layers hs (drop h.1 leaves)

-- when a layer of each band was written
pub record BandsDone (layer : ℕ) (leaves : List Leafed) (start ws : List Writes) (begun bits : List Bool) : Type 0 where
  pub bits_are : bits ≡ begun ++ bands_bits layer (map cells_of start) (tolds_of layer start leaves)
  pub after_are : map cells_of ws ≡ bands_after layer (map cells_of start) (tolds_of layer start leaves)
  pub due : AreDue (layer + 1) ws leaves
  pub heads : heads_of ws ≡ heads_of start

-- how many passes a block has in all
abbrev pub all_passes : List LeafPart → ℕ
all_passes [] = 0
all_passes (p ∷ ps) = p.told.passes + all_passes ps

-- each block has few passes
abbrev pub AllFew : List Leafed → Type 0
AllFew [] = Unit {0}
AllFew (l ∷ ls) = (all_passes l.parts < 2 ^ 16) × AllFew ls

-- each block's zero planes are a byte, as their type says
abbrev pub AllBytes : List Leafed → Type 0
AllBytes [] = Unit {0}
AllBytes (l ∷ ls) = (l.zero < 2 ^ 8) × AllBytes ls

-- when the header of a layer was written
pub record HeaderDone (layer : ℕ) (leaves : List Leafed) (start ws : List Writes) (bytes : List ℕ) : Type 0 where
  pub bytes_are : bytes ≡ bytes_of (if some_in layer leaves then true ∷ bands_bits layer (map cells_of start) (tolds_of layer start leaves) else false ∷ [])
  pub after_are : map cells_of ws ≡ (if some_in layer leaves then bands_after layer (map cells_of start) (tolds_of layer start leaves) else map cells_of start)
  pub due : AreDue (layer + 1) ws leaves
  pub heads : heads_of ws ≡ heads_of start

-- when the bands of which no packet was written were made
pub record AreMade (layers : ℕ) (bands : List BandCells) (leaves : List Leafed) (made : List Writes) : Type 0 where
  pub cells : map cells_of made ≡ fresh_bands bands
  pub due : AreDue 0 made leaves
  pub first : AreFirst layers (heads_of made) leaves
