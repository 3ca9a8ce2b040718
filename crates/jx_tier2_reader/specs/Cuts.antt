-- Tile data cut into packets (ITU-T T.800, B.9 and B.10): each has SOP or not, a header, EPH or not, and its coded bytes. In a tile
-- with packed packet headers (A.7.4 and A.7.5) header and EPH are read from these, and stand one behind the other.
use Rattle.std.specs.Prelude.{◌≡◌, ◌⊎◌, ℕ, ◌+◌, List, [], ◌∷◌, length, map, take, drop, Option, None, Some, slice_get, slice_set, ◌-◌, suc}
use Rattle.jx_geom.specs.Geometry.{Geometry}
use Rattle.std.specs.Option.{option_or}
use Rattle.jx_marker.specs.RuleNumbers.{LEFT_OVER, PACKET_HEADER, PLANES}
use Rattle.jx_packet_header.specs.declared.HeaderPart.{HeaderPart}
use Rattle.jx_packet_header.specs.Packet.{State, IsPacket, BreaksPlanes}
use Rattle.jx_progression.specs.declared.names.PacketName.{PacketName}
use Rattle.jx_codestream.specs.declared.Body.{Body}
use Rattle.jx_codestream.specs.declared.faults.StreamFault.{StreamFault}
use Rattle.jx_codestream.specs.declared.faults.StreamFault.TheVariants as fault
use Rattle.jx_codestream.specs.PackedHeaders.{together}
use Rattle.jx_tier2_reader.specs.Data.{window, due, due_or, behind, place_in, sop_fault, header_in, front_length, packed_behind, parts_length, body_fault}
use Rattle.jx_geom.specs.Precincts.{precinct_number}

-- a packet that was cut off: its name, how many bytes it has in the tile data, how many its header has, its parts and their coded
-- bytes, and the state of its precinct after it
pub record Cut : Type 0 where
  pub name : PacketName
  pub count : ℕ
  pub used : ℕ
  pub parts : List HeaderPart
  pub bytes : List ℕ
  pub after : State

-- the packet of this number in its tile stands in front of what is left of a tile-part and of the packed headers, where the tile has such
pub record IsCut (packed : Option (List ℕ)) (w : List ℕ) (number : ℕ) (k : State) (c : Cut) : Type 0 where
  -- rule 29
  pub sop : sop_fault w 0 number ≡ None
  -- rules 26 and 27
  pub header : IsPacket (header_in packed w) k c.parts c.used c.after
  -- rule 26 for EPH, rules 28 and 30
  pub body : body_fault packed w 0 c.used c.parts ≡ None
  pub count_is : c.count ≡ front_length packed w c.used + parts_length c.parts
  pub bytes_are : c.bytes ≡ take (parts_length c.parts) (drop (front_length packed w c.used) w)

-- the header is none: rule 27, else rule 26, where the packet begins in the tile data
abbrev pub BreaksHeader : List ℕ → ℕ → State → StreamFault → Type 0
BreaksHeader h at k f =
    (BreaksPlanes h k × (f ≡ fault.Rule PLANES at))
    ⊎ ((BreaksPlanes h k → ⊥) × ((parts : List HeaderPart) (used : ℕ) (after : State) → IsPacket h k parts used after → ⊥) × (f ≡ fault.Rule PACKET_HEADER at))

-- the EPH or the coded bytes of a packet that has a header
pub record BreaksBody (packed : Option (List ℕ)) (w : List ℕ) (at : ℕ) (k : State) (f : StreamFault) : Type 0 where
  pub parts : List HeaderPart
  pub used : ℕ
  pub after : State
  pub header : IsPacket (header_in packed w) k parts used after
  pub body : body_fault packed w at used parts ≡ Some f

-- what is violated first in the packet that begins at a place
abbrev pub Breaks : Option (List ℕ) → List ℕ → ℕ → ℕ → State → StreamFault → Type 0
Breaks packed w at number k f =
    (sop_fault w at number ≡ Some f)
    ⊎ ((sop_fault w at number ≡ None) × (BreaksHeader (header_in packed w) at k f ⊎ BreaksBody packed w at k f))

-- what is left of a tile's data, where a packet begins behind them, what is left of the packed headers, where the tile has such, and the
-- states of its precincts
pub record Left : Type 0 where
  pub bodies : List Body
  pub end : ℕ
  pub packed : Option (List ℕ)
  pub states : List State

abbrev pub number_of : Geometry → PacketName → ℕ
number_of g p = precinct_number g p.comp p.res p.precinct

-- the packet that is due begins where the first tile-part that has bytes left goes on, or behind all data
pub record IsTurn (b : List ℕ) (g : Geometry) (number : ℕ) (old : Left) (c : Cut) (new : Left) : Type 0 where
  pub body : Body
  pub later : List Body
  pub due_is : due_or old.end (due old.bodies) ≡ body ∷ later
  pub state : State
  pub known : slice_get old.states (number_of g c.name) ≡ Some state
  pub cut : IsCut old.packed (window b body) number state c
  pub new_is : new ≡ record {
    bodies = behind body c.count ∷ later;
    end = old.end;
    packed = packed_behind old.packed c.used;
    states = slice_set old.states (number_of g c.name) c.after;
  }

-- packets one after another, from that of a number on
abbrev pub AreCuts : List ℕ → Geometry → ℕ → Left → List Cut → Left → Type 0
AreCuts b g number old [] new = old ≡ new
AreCuts b g number old (c ∷ cuts) new = (next : Left) × IsTurn b g number old c next × AreCuts b g (number + 1) next cuts new

abbrev pub names_of : List Cut → List PacketName
names_of cuts = map (λ (c : Cut). c.name) cuts

-- a packet is due, and a rule is violated in it
pub record BreaksDue (b : List ℕ) (g : Geometry) (number : ℕ) (left : Left) (p : PacketName) (f : StreamFault) : Type 0 where
  pub body : Body
  pub later : List Body
  pub due_is : due_or left.end (due left.bodies) ≡ body ∷ later
  pub state : State
  pub known : slice_get left.states (number_of g p) ≡ Some state
  pub breaks : Breaks left.packed (window b body) body.at number state f

-- rule 31: a byte of the tile data is left
abbrev pub data_fault : List Body → Option StreamFault
data_fault [] = None
data_fault (body ∷ later) = Some (fault.Rule LEFT_OVER body.at)

-- a byte of the packed headers is left, which are these pieces of the file
abbrev pub packed_fault : List Body → Option (List ℕ) → Option StreamFault
packed_fault pieces None = None
packed_fault pieces (Some []) = None
packed_fault pieces (Some (byte ∷ rest)) = Some (fault.Rule LEFT_OVER (place_in pieces (together pieces - suc (length rest))))

-- where all packets were read
abbrev pub left_fault : List Body → Left → Option StreamFault
left_fault pieces left = option_or (data_fault (due left.bodies)) (packed_fault pieces left.packed)

-- what is violated where these packets are still to come, in a tile whose packed headers are these pieces of the file
abbrev pub Stops : List ℕ → Geometry → List Body → ℕ → Left → List PacketName → StreamFault → Type 0
Stops b g pieces number left [] f = left_fault pieces left ≡ Some f
Stops b g pieces number left (p ∷ rest) f = BreaksDue b g number left p f
