-- The data of tile-parts and packed packet headers: SOP, EPH and coded bytes (ITU-T T.800, A.7.4, A.7.5, A.8 and B.10).
use Rattle.std.specs.Prelude.{ℕ, ◌+◌, ◌*◌, ◌%◌, ◌-◌, ◌==◌, ◌&&◌, ◌||◌, not, nat_lt, Bool, List, [], ◌∷◌, length, take, drop, sum_by, Option, None, Some, find, is_some, slice_index, if◌then◌else◌}
use Rattle.std.specs.List.{range_with_len}
use Rattle.std.specs.Option.{option_or}
use Rattle.jx_packet_header.specs.declared.HeaderPart.{HeaderPart}
use Rattle.jx_codestream.specs.declared.Body.{Body}
use Rattle.jx_codestream.specs.declared.faults.StreamFault.{StreamFault}
use Rattle.jx_codestream.specs.declared.faults.StreamFault.TheVariants as fault
use Rattle.jx_codestream.specs.Faults.{broken}
use Rattle.jx_codestream.specs.PackedHeaders.{joined_bytes}
use Rattle.jx_marker.specs.Codes.{SOP, EPH}
use Rattle.jx_marker.specs.RuleNumbers.{BLOCK_BYTES, PACKET_HEADER, PACKET_LENGTH, SOP_SEGMENT}

-- the bytes of data that are left of a tile-part
abbrev pub window : List ℕ → Body → List ℕ
window b body = take body.length (drop body.at b)

-- from the first tile-part on that has bytes left
abbrev pub due : List Body → List Body
due [] = []
due (body ∷ later) = if body.length == 0 then due later else body ∷ later

-- the same; where no tile-part has bytes left, data without a byte at a place
abbrev pub due_or : ℕ → List Body → List Body
due_or at [] = record { at = at; length = 0 } ∷ []
due_or at (body ∷ later) = body ∷ later

-- the data of a tile-part after so many of their bytes
abbrev pub behind : Body → ℕ → Body
behind body count = record { at = body.at + count; length = body.length - count }

-- where a tile's last tile-part ends
abbrev pub end_of_data : List Body → ℕ
end_of_data [] = 0
end_of_data (body ∷ []) = body.at + body.length
end_of_data (body ∷ next ∷ later) = end_of_data (next ∷ later)

-- where the last of some data with bytes ends, or a place where none has bytes
abbrev pub end_of_bytes : ℕ → List Body → ℕ
end_of_bytes at [] = at
end_of_bytes at (body ∷ later) = end_of_bytes (if body.length == 0 then at else body.at + body.length) later

abbrev pub first_place : List Body → ℕ
first_place [] = 0
first_place (body ∷ later) = body.at

-- where a packet begins behind all data of its tile: in a tile with packed packet headers behind the last byte, or where the
-- first tile-part's data would stand; else at the end of the last tile-part
abbrev pub end_in : Option (List Body) → List Body → ℕ
end_in None bodies = end_of_data bodies
end_in (Some pieces) bodies = end_of_bytes (first_place bodies) bodies

-- A.7.4 and A.7.5: the packet headers that stand apart, joined, where a tile has such
abbrev pub packed_in : List ℕ → Option (List Body) → Option (List ℕ)
packed_in b None = None
packed_in b (Some pieces) = Some (joined_bytes b pieces)

-- the pieces of the file that they are
abbrev pub packed_pieces : Option (List Body) → List Body
packed_pieces None = []
packed_pieces (Some pieces) = pieces

-- the place in the file of the byte of a number in joined pieces
abbrev pub place_in : List Body → ℕ → ℕ
place_in [] n = 0
place_in (piece ∷ pieces) n = if nat_lt n piece.length then piece.at + n else place_in pieces (n - piece.length)

-- the marker of this second byte stands in front
abbrev pub begins_with : List ℕ → ℕ → Bool
begins_with w code = (slice_index w 0 == 255) && (slice_index w 1 == code)

-- two bytes as a number
abbrev pub number_at : List ℕ → ℕ → ℕ
number_at w i = slice_index w i * 256 + slice_index w (i + 1)

-- A.8.1: SOP stands in front of a packet
abbrev pub has_sop : List ℕ → Bool
has_sop w = begins_with w SOP

-- rule 26 for a SOP that is cut short, then rule 29: its length isn't 4, or its number isn't the packet's modulo 65,536
unfoldable pub sop_fault : List ℕ → ℕ → ℕ → Option StreamFault
sop_fault w at number = option_or (broken PACKET_HEADER at (has_sop w && nat_lt (length w) 6))
    (broken SOP_SEGMENT at (has_sop w && (not (number_at w 2 == 4) || not (number_at w 4 == number % 65536))))

abbrev pub sop_length : List ℕ → ℕ
sop_length w = if has_sop w then 6 else 0

-- A.8.2: EPH stands behind a packet header
abbrev pub eph_length : List ℕ → ℕ
eph_length w = if begins_with w EPH then 2 else 0

-- what a packet's header stands in front of: what follows SOP, or what is left of the packed headers
unfoldable pub header_in : Option (List ℕ) → List ℕ → List ℕ
header_in None w = drop (sop_length w) w
header_in (Some packed) w = packed

-- how many bytes of the tile data stand before a packet's coded bytes, where its header has so many
unfoldable pub front_length : Option (List ℕ) → List ℕ → ℕ → ℕ
front_length None w used = sop_length w + used + eph_length (drop used (header_in None w))
front_length (Some packed) w used = sop_length w

-- what is left of the packed headers behind a header of so many bytes and its EPH
abbrev pub packed_behind : Option (List ℕ) → ℕ → Option (List ℕ)
packed_behind None used = None
packed_behind (Some packed) used = Some (drop (used + eph_length (drop used packed)) packed)

-- of an EPH nothing but the first byte is there
abbrev pub is_eph_cut : List ℕ → Bool
is_eph_cut packed = (length packed == 1) && (slice_index packed 0 == 255)

-- rule 26 for an EPH that is cut short behind a packed header of so many bytes
abbrev pub eph_fault : Option (List ℕ) → ℕ → ℕ → Option StreamFault
eph_fault None at used = None
eph_fault (Some packed) at used = broken PACKET_HEADER at (is_eph_cut (drop used packed))

-- how many coded bytes a packet has
abbrev pub parts_length : List HeaderPart → ℕ
parts_length parts = sum_by (λ (p : HeaderPart). p.length) parts

-- at this byte of a piece FF stands before a byte above 8F, or last (B.10.1)
abbrev pub is_marked : List ℕ → ℕ → Bool
is_marked bytes i = (slice_index bytes i == 255) && ((i + 1 == length bytes) || nat_lt 143 (slice_index bytes (i + 1)))

-- one of the first n bytes is such a byte
abbrev pub has_mark_below : List ℕ → ℕ → Bool
has_mark_below bytes n = is_some (find (is_marked bytes) (range_with_len 0 n))

-- the first such byte
unfoldable pub first_mark : List ℕ → Option ℕ
first_mark bytes = find (is_marked bytes) (range_with_len 0 (length bytes))

abbrev pub rule_30 : ℕ → Option ℕ → Option StreamFault
rule_30 at None = None
rule_30 at (Some i) = Some (fault.Rule BLOCK_BYTES (at + i))

-- rule 30, in pieces one after another from a place on
abbrev pub marks_fault : ℕ → List ℕ → List HeaderPart → Option StreamFault
marks_fault at bytes [] = None
marks_fault at bytes (p ∷ parts) = option_or (rule_30 at (first_mark (take p.length bytes))) (marks_fault (at + p.length) (drop p.length bytes) parts)

-- rule 26 for EPH; then rule 28: the lengths pass the tile-part's end; then rule 30
unfoldable pub body_fault : Option (List ℕ) → List ℕ → ℕ → ℕ → List HeaderPart → Option StreamFault
body_fault packed w at used parts =
    option_or (eph_fault packed at used)
    (option_or (broken PACKET_LENGTH at (nat_lt (length w) (front_length packed w used + parts_length parts)))
    (marks_fault (at + front_length packed w used) (drop (front_length packed w used) w) parts))
