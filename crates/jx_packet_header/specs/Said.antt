-- What the reader's functions answer, in terms of what stands in the bits.
use Rattle.std.specs.Prelude.{◌≡◌, ℕ, Bool, List, ◌++◌, Option, Some, Result, Ok, Err}
use Rattle.jx_packet_header.specs.declared.HeaderPart.{HeaderPart}
use Rattle.jx_packet_header.specs.declared.HeadFault.{HeadFault}
use Rattle.jx_packet_header.specs.declared.HeadFault.TheVariants.{Bits, Planes, NoMemory}
use Rattle.jx_packet_header.specs.declared.known.Known.{Known}
use Rattle.jx_packet_header.specs.Packet.{Cells, State, Entry, block_after, IsPacket, BreaksPlanes}
use Rattle.jx_packet_header.specs.Scan.{Found, Told, AllTold, BandsRead, HeaderRead}

-- a refusal other than of memory has its cause there
abbrev pub Refuses : {A : Type 0} → HeadFault → Result A HeadFault → Type 0
Refuses Bits s = s ≡ Err Bits
Refuses Planes s = s ≡ Err Planes
Refuses NoMemory s = Unit {0}

-- parts were appended
pub record PartsSaid (s : Option (Found (List HeaderPart))) (old new : List HeaderPart) (rest : List Bool) : Type 0 where
  pub parts : List HeaderPart
  pub is : s ≡ Some (record { value = parts; rest = rest })
  pub new_is : new ≡ old ++ parts

pub record EntrySaid (s : Result (Found Entry) HeadFault) (known : Known) (z : ℕ) (after : Known) (old new : List HeaderPart) (rest : List Bool) : Type 0 where
  pub entry : Entry
  pub is : s ≡ Ok (record { value = entry; rest = rest })
  pub after_is : after ≡ block_after known z entry
  pub new_is : new ≡ old ++ entry.parts

pub record BlockSaid (s : Result Told HeadFault) (old new : List HeaderPart) (cells : Cells) (rest : List Bool) : Type 0 where
  pub entry : Entry
  pub is : s ≡ Ok (record { entry = entry; cells = cells; rest = rest })
  pub new_is : new ≡ old ++ entry.parts

pub record BandSaid (s : Result AllTold HeadFault) (old new : List HeaderPart) (cells : Cells) (rest : List Bool) : Type 0 where
  pub parts : List HeaderPart
  pub is : s ≡ Ok (record { parts = parts; cells = cells; rest = rest })
  pub new_is : new ≡ old ++ parts

pub record BandsSaid (s : Result BandsRead HeadFault) (old new : List HeaderPart) (bands : List Cells) (rest : List Bool) : Type 0 where
  pub parts : List HeaderPart
  pub is : s ≡ Ok (record { parts = parts; bands = bands; rest = rest })
  pub new_is : new ≡ old ++ parts

pub record HeaderSaid (s : Result HeaderRead HeadFault) (old new : List HeaderPart) (after : State) (rest : List Bool) : Type 0 where
  pub parts : List HeaderPart
  pub is : s ≡ Ok (record { parts = parts; after = after; rest = rest })
  pub new_is : new ≡ old ++ parts

-- ---- a whole header
-- Why a header was not read. Rule 27 is broken where a block breaks its band's planes; rule 26 where the bytes have neither such
-- a block nor a header.
abbrev pub HasCause : HeadFault → List ℕ → State → Type 0
HasCause Bits bytes k = (BreaksPlanes bytes k → ⊥) × ((parts : List HeaderPart) (used : ℕ) (after : State) → IsPacket bytes k parts used after → ⊥)
HasCause Planes bytes k = BreaksPlanes bytes k
HasCause NoMemory bytes k = Unit {0}

-- no other answer comes, but for want of memory
abbrev pub OnlyPlanes : HeadFault → Type 0
OnlyPlanes Bits = ⊥
OnlyPlanes Planes = Unit {0}
OnlyPlanes NoMemory = Unit {0}

abbrev pub OnlyMemory : HeadFault → Type 0
OnlyMemory Bits = ⊥
OnlyMemory Planes = ⊥
OnlyMemory NoMemory = Unit {0}
