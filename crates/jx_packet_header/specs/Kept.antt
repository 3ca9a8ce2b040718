-- What is true of what is known.
use Rattle.std.specs.Prelude.{◌≡◌, ℕ, ◌*◌, ◌≤◌, ◌<◌, ◌^◌, ◌+◌, false, length, None, List, [], ◌∷◌}
use Rattle.jx_tagtree.specs.Shape.{IsShape}
use Rattle.jx_tagtree.specs.TagTree.{Tree, node_at, IsTree}
use Rattle.jx_tagtree.specs.Past.{IsPast}
use Rattle.jx_packet_header.specs.declared.known.Known.{Known}
use Rattle.jx_packet_header.specs.Packet.{Cells, block_at}

-- a tag tree, and one of its leaves
pub record IsLeafOf (tree : Tree) (leaf : ℕ) : Type 0 where
  pub shape : IsShape tree.wide tree.high
  pub is : IsTree tree
  pub inside : leaf < tree.wide * tree.high

-- a band's two tag trees, with a leaf for each block
pub record AreTrees (cells : Cells) : Type 0 where
  pub shape : IsShape cells.first.wide cells.first.high
  pub wide : cells.zeros.wide ≡ cells.first.wide
  pub high : cells.zeros.high ≡ cells.first.high
  pub first_is : IsTree cells.first
  pub zeros_is : IsTree cells.zeros
  pub long : length cells.blocks ≡ cells.first.wide * cells.first.high

-- a block that a packet has included is a leaf that is settled
abbrev pub AreSettled : Cells → Type 0
AreSettled cells = (leaf : ℕ) → (node_at cells.first.nodes leaf).settled ≡ false → (block_at cells leaf).zero ≡ None

-- A block that no packet has included, and of which what is known says that none does at this layer: a header has no bits of it.
pub record IsSilent (layer : ℕ) (cells : Cells) (leaf : ℕ) : Type 0 where
  pub none : (block_at cells leaf).zero ≡ None
  pub past : IsPast cells.first leaf (layer + 1)

-- a block's passes are those of at most 255 planes; its lengths' bits stood in bytes that a slice can have
pub record IsKnown (known : Known) : Type 0 where
  pub passes : known.passes ≤ 765
  pub lblock : known.lblock ≤ 2 ^ 67

pub record IsBand (cells : Cells) : Type 0 where
  pub trees : AreTrees cells
  pub planes : cells.planes ≤ 255
  pub blocks : (leaf : ℕ) → IsKnown (block_at cells leaf)
  pub settled : AreSettled cells

abbrev pub AreBands : List Cells → Type 0
AreBands [] = Unit {0}
AreBands (cells ∷ bands) = IsBand cells × AreBands bands

-- the blocks of some rows have no bits
abbrev pub AreSilent : ℕ → Cells → ℕ → ℕ → ℕ → Type 0
AreSilent layer cells from to wide = (down across : ℕ) → from ≤ down → down < to → across < wide → down * wide + across < length cells.blocks → IsSilent layer cells (down * wide + across)

-- a band keeps its width and height
pub record KeepsSize (new old : Cells) : Type 0 where
  pub wide : new.first.wide ≡ old.first.wide
  pub high : new.first.high ≡ old.first.high
  pub long : length new.blocks ≡ length old.blocks
