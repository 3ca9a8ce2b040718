-- Bits that aren't read are refused for their own sake, never for want of memory.
use Rattle.std.proofs.Common.{◌≡◌, ℕ, zero, suc, ◌+◌, nat_lt, nat_le, Bool, true, false, List, [], ◌∷◌, length, cond, Some, None, Ok, Err, Result}
use Rattle.std.specs.Prelude.{Option}
use Rattle.jx_packet_header.specs.declared.HeadFault.{HeadFault}
use Rattle.jx_packet_header.specs.declared.HeadFault.TheVariants.{Planes, NoMemory}
use Rattle.jx_packet_header.specs.declared.known.Known.{Known}
use Rattle.jx_packet_header.specs.Packet.{Cells, State, nothing, block_at, most_passes}
use Rattle.jx_packet_header.specs.Scan.{Found, or_bits, and_then, scan_passes, Asked, scan_first, Zeros, scan_zeros, scan_lengths, scan_entry, Told, told_of, and_told, scan_included, scan_block, AllTold, after_told, and_parts, scan_blocks, scan_band, BandsRead, after_band, scan_bands, header_of, scan_header}
use Rattle.jx_packet_header.specs.Packet.{Entry}
use Rattle.jx_packet_header.proofs.BlockLemmas.{told_is, on_zeros, on_first, on_passes}
use Rattle.jx_packet_header.proofs.BandLemmas.{on_band}

abbrev NotMemory : {A : Type 0} → Result A HeadFault → Type 0
NotMemory r = r ≡ Err NoMemory → ⊥

or_kind : {A : Type 0} (o : Option A) → NotMemory (or_bits o)
or_kind None h = cc
or_kind (Some x) h = cc

then_kind : {A B : Type 0} (r : Result A HeadFault) (f : A → Result B HeadFault) → NotMemory r → ((x : A) → NotMemory (f x)) → NotMemory (and_then r f)
then_kind (Ok x) f a b h = b x h
then_kind {A} {B} (Err e) f a b h = a (same e cc)
  where
    same : (e : HeadFault) → e ≡ NoMemory → (let x : Result A HeadFault = Err e in x) ≡ Err NoMemory
    same e h = cc

if_kind : {A : Type 0} (b : Bool) (x y : Result A HeadFault) → NotMemory x → NotMemory y → NotMemory (cond b x y)
if_kind true x y a b h = a h
if_kind false x y a b h = b h

ok_kind : {A : Type 0} (x : A) → NotMemory (Ok x)
ok_kind x h = cc

planes_kind : {A : Type 0} → (let r : Result A HeadFault = Err Planes in r) ≡ Err NoMemory → ⊥
planes_kind h = let e : Planes ≡ NoMemory = cc in cc

entry_kind : (style block planes z : ℕ) (known : Known) (bits : List Bool) → NotMemory (scan_entry style block planes z known bits)
entry_kind style block planes z known bits =
    then_kind (or_bits (scan_passes bits)) (on_passes style block planes z known) (or_kind (scan_passes bits))
    (λ (p : Found ℕ). if_kind (nat_lt (most_passes planes z) (known.passes + p.value)) (Err Planes) (or_bits (scan_lengths style block known p.value p.rest)) planes_kind (or_kind (scan_lengths style block known p.value p.rest)))

told_kind : (g : Found Entry → Told) (r : Result (Found Entry) HeadFault) → NotMemory r → NotMemory (and_told g r)
told_kind g r a = then_kind r (λ (f : Found Entry). Ok (g f)) a (λ (f : Found Entry). ok_kind (g f))

included_kind : (style block leaf : ℕ) (cells : Cells) (bits : List Bool) → NotMemory (scan_included style block leaf cells bits)
included_kind style block leaf cells bits =
    let zeros = scan_zeros (block_at cells leaf).zero cells.zeros leaf cells.planes bits in
    then_kind (or_bits zeros) (on_zeros style block leaf cells) (or_kind zeros)
    (λ (z : Zeros).
    let entry = scan_entry style block cells.planes z.zeros (block_at cells leaf) z.rest in
    let told = told_of (record cells { zeros = z.tree }) leaf z.zeros in
    if_kind (nat_le cells.planes z.zeros) (Err Planes) (and_told told entry) planes_kind (told_kind told entry (entry_kind style block cells.planes z.zeros (block_at cells leaf) z.rest)))

block_kind : (style layer block leaf : ℕ) (cells : Cells) (bits : List Bool) → NotMemory (scan_block style layer block leaf cells bits)
block_kind style layer block leaf cells bits =
    let first = scan_first (block_at cells leaf).zero cells.first leaf layer bits in
    then_kind (or_bits first) (on_first style block leaf cells) (or_kind first)
    (λ (a : Asked).
    let rest = scan_included style block leaf (record cells { first = a.tree }) a.rest in
    let none = told_is nothing (record cells { first = a.tree }) a.rest in
    if_kind a.below rest (Ok none) (included_kind style block leaf (record cells { first = a.tree }) a.rest) (ok_kind none))

blocks_kind : (style layer base more leaf : ℕ) (cells : Cells) (bits : List Bool) → NotMemory (scan_blocks style layer base more leaf cells bits)
blocks_kind style layer base zero leaf cells bits h = cc
blocks_kind style layer base (suc more) leaf cells bits h =
    then_kind (scan_block style layer (base + leaf) leaf cells bits) (λ (t : Told). and_parts t.entry.parts (scan_blocks style layer base more (leaf + 1) t.cells t.rest))
    (block_kind style layer (base + leaf) leaf cells bits)
    (λ (t : Told). then_kind (scan_blocks style layer base more (leaf + 1) t.cells t.rest) (λ (a : AllTold). Ok (after_told t.entry.parts a))
    (blocks_kind style layer base more (leaf + 1) t.cells t.rest) (λ (a : AllTold). ok_kind (after_told t.entry.parts a))) h

band_kind : (style layer base : ℕ) (cells : Cells) (bits : List Bool) → NotMemory (scan_band style layer base cells bits)
unfolding scan_band
band_kind style layer base cells bits = blocks_kind style layer base (length cells.blocks) 0 cells bits

bands_kind : (style layer base : ℕ) (bands : List Cells) (bits : List Bool) → NotMemory (scan_bands style layer base bands bits)
bands_kind style layer base [] bits h = cc
bands_kind style layer base (cells ∷ bands) bits h =
    then_kind (scan_band style layer base cells bits) (on_band style layer base cells bands) (band_kind style layer base cells bits)
    (λ (a : AllTold). then_kind (scan_bands style layer (base + length cells.blocks) bands a.rest) (λ (b : BandsRead). Ok (after_band a b))
    (bands_kind style layer (base + length cells.blocks) bands a.rest) (λ (b : BandsRead). ok_kind (after_band a b))) h

pub header_kind : (k : State) (bits : List Bool) → NotMemory (scan_header k bits)
header_kind k [] h = cc
header_kind k (false ∷ bits) h = cc
header_kind k (true ∷ bits) h =
    then_kind (scan_bands k.style k.layer 0 k.bands bits) (λ (b : BandsRead). Ok (header_of k b)) (bands_kind k.style k.layer 0 k.bands bits) (λ (b : BandsRead). ok_kind (header_of k b)) h
