-- The one header that is written for some blocks (ITU-T T.800, B.10).
use Rattle.std.specs.Prelude.{ℕ, zero, suc, ◌+◌, ◌-◌, ◌==◌, max, nat_lt, Bool, false, ◌||◌, List, [], ◌∷◌, length, take, drop, map, if◌then◌else◌}
use Rattle.jx_tagtree.specs.Header.{bytes_of}
use Rattle.jx_tagtree.specs.Leaves.{Written, least_leaf}
use Rattle.jx_packet_header.specs.declared.HeaderPart.{HeaderPart}
use Rattle.jx_packet_header.specs.declared.LeafPart.{LeafPart}
use Rattle.jx_packet_header.specs.declared.BandCells.{BandCells}
use Rattle.jx_packet_header.specs.declared.known.Known.{Known}
use Rattle.jx_packet_header.specs.Words.{size}
use Rattle.jx_packet_header.specs.Parts.{width}
use Rattle.jx_packet_header.specs.Packet.{Cells, State, Values, Entry, BandTold, Header, header_bits, header_after}
use Rattle.jx_packet_header.specs.Precinct.{fresh_state}

-- a block that is written: its zero planes, and its parts with their layers
pub record Leafed : Type 0 where
  pub zero : ℕ
  pub parts : List LeafPart

-- the leaves of the two tag trees: a block without parts is never included
abbrev pub first_layer : ℕ → List LeafPart → ℕ
first_layer layers [] = layers
first_layer layers (p ∷ ps) = p.layer

abbrev pub zero_leaf : ℕ → ℕ → List LeafPart → ℕ
zero_leaf planes z [] = planes
zero_leaf planes z (p ∷ ps) = z

abbrev pub first_leaves : ℕ → List Leafed → List ℕ
first_leaves layers leaves = map (λ (l : Leafed). first_layer layers l.parts) leaves

abbrev pub zero_leaves : ℕ → List Leafed → List ℕ
zero_leaves planes leaves = map (λ (l : Leafed). zero_leaf planes l.zero l.parts) leaves

-- the parts of a layer
abbrev pub parts_in : ℕ → List LeafPart → List HeaderPart
parts_in layer [] = []
parts_in layer (p ∷ ps) = if p.layer == layer then p.told ∷ parts_in layer ps else parts_in layer ps

abbrev pub passes_of : List HeaderPart → ℕ
passes_of [] = 0
passes_of (p ∷ ps) = p.passes + passes_of ps

-- the least raise with which each length fits its bits: the largest of what they lack
abbrev pub raise_of : ℕ → List HeaderPart → ℕ
raise_of lblock [] = 0
raise_of lblock (p ∷ ps) = max (size p.length - width lblock p.passes) (raise_of lblock ps)

abbrev pub entry_written : ℕ → Known → Leafed → Entry
entry_written layer known leaf = record {
  passes = passes_of (parts_in layer leaf.parts);
  raise = raise_of known.lblock (parts_in layer leaf.parts);
  parts = parts_in layer leaf.parts;
}

abbrev pub entries_written : ℕ → List Known → List Leafed → List Entry
entries_written layer [] leaves = []
entries_written layer (known ∷ blocks) [] = []
entries_written layer (known ∷ blocks) (leaf ∷ leaves) = entry_written layer known leaf ∷ entries_written layer blocks leaves

-- each node has the value of the least leaf under it
abbrev pub values_written : ℕ → Cells → List Leafed → Values
values_written layers cells leaves = record {
  first = least_leaf cells.first.wide cells.first.high (first_leaves layers leaves);
  zeros = least_leaf cells.zeros.wide cells.zeros.high (zero_leaves cells.planes leaves);
}

abbrev pub band_written : ℕ → ℕ → Cells → List Leafed → BandTold
band_written layers layer cells leaves = record { values = values_written layers cells leaves; entries = entries_written layer cells.blocks leaves }

abbrev pub bands_written : ℕ → ℕ → List Cells → List Leafed → List BandTold
bands_written layers layer [] leaves = []
bands_written layers layer (cells ∷ bands) leaves =
    band_written layers layer cells (take (length cells.blocks) leaves) ∷ bands_written layers layer bands (drop (length cells.blocks) leaves)

-- what a band's writer holds, with the first part of each block that is still to be written
pub record Writes : Type 0 where
  pub first : Written
  pub zeros : Written
  pub planes : ℕ
  pub blocks : List Known
  pub cursors : List ℕ

-- the values of a tag tree that is written
abbrev pub least_of : Written → ℕ → ℕ
least_of w = least_leaf w.tree.wide w.tree.high w.leaves

abbrev pub cells_of : Writes → Cells
cells_of w = record { first = w.first.tree; zeros = w.zeros.tree; planes = w.planes; blocks = w.blocks }

abbrev pub values_of : Writes → Values
values_of w = record { first = least_of w.first; zeros = least_of w.zeros }

-- whether some block contributes to a layer's packet
abbrev pub some_in : ℕ → List Leafed → Bool
some_in layer [] = false
some_in layer (leaf ∷ leaves) = nat_lt 0 (passes_of (parts_in layer leaf.parts)) || some_in layer leaves

-- the header of the next layer's packet, which is empty exactly where no block contributes
abbrev pub header_written : ℕ → State → List Leafed → Header
header_written layers k leaves = record {
  some = some_in k.layer leaves;
  tolds = if some_in k.layer leaves then bands_written layers k.layer k.bands leaves else [];
}

-- the state before a layer's packet
abbrev pub state_at : ℕ → ℕ → List BandCells → List Leafed → ℕ → State
state_at layers style bands leaves zero = fresh_state style bands
state_at layers style bands leaves (suc layer) =
    header_after (state_at layers style bands leaves layer) (header_written layers (state_at layers style bands leaves layer) leaves)

-- a precinct that is written, and the next packet's layer
pub record Plan : Type 0 where
  pub style : ℕ
  pub layers : ℕ
  pub next : ℕ
  pub bands : List BandCells
  pub leaves : List Leafed

abbrev pub state_of : Plan → State
state_of p = state_at p.layers p.style p.bands p.leaves p.next

-- the one header of the next packet
abbrev pub next_header : Plan → List ℕ
next_header p = bytes_of (header_bits (state_of p) (header_written p.layers (state_of p) p.leaves))
