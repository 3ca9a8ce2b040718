-- What the reader of headers does with bits whose values it doesn't know: the contracts of its inner functions say it, and
-- laws tie it to the packets.
use Rattle.std.specs.Prelude.{ℕ, zero, suc, ◌+◌, ◌^◌, ◌&&◌, nat_lt, nat_le, Bool, true, false, List, [], ◌∷◌, ◌++◌, length, drop, slice_set, if◌then◌else◌, Option, Some, None, option_map, option_and_then, Result, Ok, Err}
use Rattle.jx_tagtree.specs.Header.{number_of}
use Rattle.jx_tagtree.specs.Shape.{way}
use Rattle.jx_tagtree.specs.TagTree.{Tree, node_at}
use Rattle.jx_tagtree.specs.Scan.{Scanned, scan_way}
use Rattle.jx_packet_header.specs.declared.HeaderPart.{HeaderPart}
use Rattle.jx_packet_header.specs.declared.HeadFault.{HeadFault}
use Rattle.jx_packet_header.specs.declared.HeadFault.TheVariants.{Bits, Planes}
use Rattle.jx_packet_header.specs.declared.known.Known.{Known}
use Rattle.jx_packet_header.specs.Parts.{cut, width}
use Rattle.jx_packet_header.specs.Packet.{Cells, State, Entry, nothing, block_at, block_after, most_passes}

-- something that was read, and the bits behind it
pub record Found (A : Type 0) : Type 0 where
  pub value : A
  pub rest : List Bool

-- where it wasn't, a bit lies past the bytes
abbrev pub or_bits : {A : Type 0} → Option A → Result A HeadFault
or_bits None = Err Bits
or_bits (Some x) = Ok x

abbrev pub and_then : {A B : Type 0} → Result A HeadFault → (A → Result B HeadFault) → Result B HeadFault
and_then (Ok x) f = f x
and_then (Err e) f = Err e

-- a number of some bits that is below 2^32
unfoldable pub scan_number : ℕ → List Bool → Option (Found ℕ)
scan_number n bits =
    if nat_le n (length bits) && nat_lt (number_of n bits) (2 ^ 32) then Some (record { value = number_of n bits; rest = drop n bits }) else None

abbrev pub plus : ℕ → Found ℕ → Found ℕ
plus n f = record f { value = n + f.value }

-- a number of passes, by its first ones
abbrev pub scan_passes_4 : List Bool → Option (Found ℕ)
scan_passes_4 bits = option_and_then (λ (f : Found ℕ). if nat_lt f.value 31 then Some (plus 6 f) else option_map (plus 37) (scan_number 7 f.rest)) (scan_number 5 bits)

abbrev pub scan_passes_2 : List Bool → Option (Found ℕ)
scan_passes_2 bits = option_and_then (λ (f : Found ℕ). if nat_lt f.value 3 then Some (plus 3 f) else scan_passes_4 f.rest) (scan_number 2 bits)

unfoldable pub scan_passes : List Bool → Option (Found ℕ)
scan_passes [] = None
scan_passes (false ∷ bits) = Some (record { value = 1; rest = bits })
scan_passes (true ∷ []) = None
scan_passes (true ∷ false ∷ bits) = Some (record { value = 2; rest = bits })
scan_passes (true ∷ true ∷ bits) = scan_passes_2 bits

-- ones up to a zero
abbrev pub scan_raise : List Bool → Option (Found ℕ)
scan_raise [] = None
scan_raise (false ∷ bits) = Some (record { value = 0; rest = bits })
scan_raise (true ∷ bits) = option_map (plus 1) (scan_raise bits)

-- the lengths of parts with these numbers of passes
abbrev pub header_part : ℕ → ℕ → ℕ → ℕ → HeaderPart
header_part block first passes length = record { block = block; first = first; passes = passes; length = length }

abbrev pub behind : List HeaderPart → Found (List HeaderPart) → Found (List HeaderPart)
behind parts f = record f { value = parts ++ f.value }

abbrev pub scan_parts : ℕ → ℕ → ℕ → List ℕ → List Bool → Option (Found (List HeaderPart))
scan_parts lblock block first [] bits = Some (record { value = []; rest = bits })
scan_parts lblock block first (run ∷ runs) bits =
    option_and_then (λ (f : Found ℕ). option_map (behind (header_part block first run f.value ∷ [])) (scan_parts lblock block (first + run) runs f.rest))
    (scan_number (width lblock run) bits)

-- a query: whether the value is below the threshold, the tree, and the bits behind
pub record Asked : Type 0 where
  pub below : Bool
  pub tree : Tree
  pub rest : List Bool

abbrev pub asked_of : Tree → ℕ → ℕ → Scanned → Asked
asked_of tree leaf threshold s = record {
  below = (node_at s.nodes leaf).settled && nat_lt s.known threshold;
  tree = record tree { nodes = s.nodes };
  rest = s.rest;
}

unfoldable pub ask : Tree → ℕ → ℕ → List Bool → Option Asked
ask tree leaf threshold bits = option_map (asked_of tree leaf threshold) (scan_way threshold tree.nodes (way tree.wide tree.high leaf) bits)

-- whether a block is included
abbrev pub scan_bit : Tree → List Bool → Option Asked
scan_bit tree [] = None
scan_bit tree (b ∷ bits) = Some (record { below = b; tree = tree; rest = bits })

abbrev pub scan_first : Option ℕ → Tree → ℕ → ℕ → List Bool → Option Asked
scan_first None tree leaf layer bits = ask tree leaf (layer + 1) bits
scan_first (Some z) tree leaf layer bits = scan_bit tree bits

-- zero planes, or the band's planes where these are reached; n are known, and the planes are `more` above
pub record Zeros : Type 0 where
  pub zeros : ℕ
  pub tree : Tree
  pub rest : List Bool

abbrev pub scan_more_zeros : Tree → ℕ → ℕ → ℕ → List Bool → Option Zeros
scan_more_zeros tree leaf n zero bits = Some (record { zeros = n; tree = tree; rest = bits })
scan_more_zeros tree leaf n (suc more) bits =
    option_and_then (λ (a : Asked). if a.below then Some (record { zeros = n; tree = a.tree; rest = a.rest }) else scan_more_zeros a.tree leaf (n + 1) more a.rest)
    (ask tree leaf (n + 1) bits)

abbrev pub scan_zeros : Option ℕ → Tree → ℕ → ℕ → List Bool → Option Zeros
scan_zeros None tree leaf planes bits = scan_more_zeros tree leaf 0 planes bits
scan_zeros (Some z) tree leaf planes bits = Some (record { zeros = z; tree = tree; rest = bits })

-- an included block's raise and parts
abbrev pub entry_of : ℕ → ℕ → Found (List HeaderPart) → Found Entry
entry_of n k f = record { value = record { passes = n; raise = k; parts = f.value }; rest = f.rest }

abbrev pub scan_lengths : ℕ → ℕ → Known → ℕ → List Bool → Option (Found Entry)
scan_lengths style block known n bits =
    option_and_then (λ (k : Found ℕ). option_map (entry_of n k.value) (scan_parts (known.lblock + k.value) block known.passes (cut style known.passes n) k.rest))
    (scan_raise bits)

abbrev pub scan_entry : ℕ → ℕ → ℕ → ℕ → Known → List Bool → Result (Found Entry) HeadFault
scan_entry style block planes z known bits =
    and_then (or_bits (scan_passes bits))
    (λ (p : Found ℕ). if nat_lt (most_passes planes z) (known.passes + p.value) then Err Planes else or_bits (scan_lengths style block known p.value p.rest))

-- a block
pub record Told : Type 0 where
  pub entry : Entry
  pub cells : Cells
  pub rest : List Bool

abbrev pub told_of : Cells → ℕ → ℕ → Found Entry → Told
told_of cells leaf z f = record { entry = f.value; cells = record cells { blocks = slice_set cells.blocks leaf (block_after (block_at cells leaf) z f.value) }; rest = f.rest }

abbrev pub and_told : (Found Entry → Told) → Result (Found Entry) HeadFault → Result Told HeadFault
and_told g r = and_then r (λ (f : Found Entry). Ok (g f))

abbrev pub scan_included : ℕ → ℕ → ℕ → Cells → List Bool → Result Told HeadFault
scan_included style block leaf cells bits =
    and_then (or_bits (scan_zeros (block_at cells leaf).zero cells.zeros leaf cells.planes bits))
    (λ (z : Zeros). if nat_le cells.planes z.zeros then Err Planes
    else and_told (told_of (record cells { zeros = z.tree }) leaf z.zeros) (scan_entry style block cells.planes z.zeros (block_at cells leaf) z.rest))

abbrev pub scan_block : ℕ → ℕ → ℕ → ℕ → Cells → List Bool → Result Told HeadFault
scan_block style layer block leaf cells bits =
    and_then (or_bits (scan_first (block_at cells leaf).zero cells.first leaf layer bits))
    (λ (a : Asked). if a.below then scan_included style block leaf (record cells { first = a.tree }) a.rest
    else Ok (record { entry = nothing; cells = record cells { first = a.tree }; rest = a.rest }))

-- blocks of a band
pub record AllTold : Type 0 where
  pub parts : List HeaderPart
  pub cells : Cells
  pub rest : List Bool

abbrev pub after_told : List HeaderPart → AllTold → AllTold
after_told parts a = record a { parts = parts ++ a.parts }

abbrev pub and_parts : List HeaderPart → Result AllTold HeadFault → Result AllTold HeadFault
and_parts parts r = and_then r (λ (a : AllTold). Ok (after_told parts a))

abbrev pub scan_blocks : ℕ → ℕ → ℕ → ℕ → ℕ → Cells → List Bool → Result AllTold HeadFault
scan_blocks style layer base zero leaf cells bits = Ok (record { parts = []; cells = cells; rest = bits })
scan_blocks style layer base (suc more) leaf cells bits =
    and_then (scan_block style layer (base + leaf) leaf cells bits)
    (λ (t : Told). and_parts t.entry.parts (scan_blocks style layer base more (leaf + 1) t.cells t.rest))

unfoldable pub scan_band : ℕ → ℕ → ℕ → Cells → List Bool → Result AllTold HeadFault
scan_band style layer base cells bits = scan_blocks style layer base (length cells.blocks) 0 cells bits

-- bands of a precinct
pub record BandsRead : Type 0 where
  pub parts : List HeaderPart
  pub bands : List Cells
  pub rest : List Bool

abbrev pub after_band : AllTold → BandsRead → BandsRead
after_band a b = record b { parts = a.parts ++ b.parts; bands = a.cells ∷ b.bands }

abbrev pub and_band : AllTold → Result BandsRead HeadFault → Result BandsRead HeadFault
and_band a r = and_then r (λ (b : BandsRead). Ok (after_band a b))

abbrev pub scan_bands : ℕ → ℕ → ℕ → List Cells → List Bool → Result BandsRead HeadFault
scan_bands style layer base [] bits = Ok (record { parts = []; bands = []; rest = bits })
scan_bands style layer base (cells ∷ bands) bits =
    and_then (scan_band style layer base cells bits)
    (λ (a : AllTold). and_band a (scan_bands style layer (base + length cells.blocks) bands a.rest))

-- a header
pub record HeaderRead : Type 0 where
  pub parts : List HeaderPart
  pub after : State
  pub rest : List Bool

abbrev pub header_of : State → BandsRead → HeaderRead
header_of k b = record { parts = b.parts; after = record { style = k.style; layer = k.layer + 1; bands = b.bands }; rest = b.rest }

abbrev pub scan_header : State → List Bool → Result HeaderRead HeadFault
scan_header k [] = Err Bits
scan_header k (false ∷ bits) = Ok (header_of k (record { parts = []; bands = k.bands; rest = bits }))
scan_header k (true ∷ bits) = and_then (scan_bands k.style k.layer 0 k.bands bits) (λ (b : BandsRead). Ok (header_of k b))
