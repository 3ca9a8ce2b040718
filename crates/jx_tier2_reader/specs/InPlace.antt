-- Packets whose headers stand apart, with their headers in their places (T.800, A.7.4, A.7.5 and B.10).
use Rattle.std.specs.Prelude.{◌≡◌, ℕ, ◌+◌, List, [], ◌∷◌, ◌++◌, length, take, drop, Option, None, Some}
use Rattle.jx_codestream.specs.declared.Body.{Body}
use Rattle.jx_geom.specs.Geometry.{Geometry}
use Rattle.jx_marker.specs.Codes.{EPH}
use Rattle.jx_tier2_reader.specs.Cuts.{AreCuts, Cut, Left}
use Rattle.jx_tier2_reader.specs.Data.{begins_with, due, has_sop, window}
use Rattle.jx_tier2_reader.specs.Written.{WrittenPacket, packet_bytes}

-- a packet that was cut off what is left of the packed headers and of a tile-part, as it is written with its header and EPH in place
abbrev pub placed : List ℕ → List ℕ → Cut → WrittenPacket
placed packed w c = record {
  sop = has_sop w;
  header = take c.used packed;
  eph = begins_with (drop c.used packed) EPH;
  parts = c.parts;
  bytes = c.bytes;
}

-- it is cut off again with all that it had, but that its header stands in the tile data
abbrev pub placed_cut : List ℕ → List ℕ → Cut → Cut
placed_cut packed w c = record {
  name = c.name;
  count = length (packet_bytes 0 (placed packed w c));
  used = c.used;
  parts = c.parts;
  bytes = c.bytes;
  after = c.after;
}

-- what is left of packed headers, where there are such
abbrev pub headers_left : Option (List ℕ) → List ℕ
headers_left None = []
headers_left (Some packed) = packed

-- all packets of tile data that are cut up, with their headers in place
abbrev pub placed_all : (b : List ℕ) (g : Geometry) (number : ℕ) (old : Left) (cuts : List Cut) (new : Left) → AreCuts b g number old cuts new → List WrittenPacket
placed_all b g number old [] new are = []
placed_all b g number old (c ∷ cuts) new are = placed (headers_left old.packed) (window b are.1.body) c ∷ placed_all b g (number + 1) are.0 cuts new are.2

abbrev pub placed_cuts : (b : List ℕ) (g : Geometry) (number : ℕ) (old : Left) (cuts : List Cut) (new : Left) → AreCuts b g number old cuts new → List Cut
placed_cuts b g number old [] new are = []
placed_cuts b g number old (c ∷ cuts) new are = placed_cut (headers_left old.packed) (window b are.1.body) c ∷ placed_cuts b g (number + 1) are.0 cuts new are.2

-- packets one after another, from that of a number in its tile on
abbrev pub written_from : ℕ → List WrittenPacket → List ℕ
written_from number [] = []
written_from number (x ∷ xs) = packet_bytes number x ++ written_from (number + 1) xs

abbrev pub all_of : List (List WrittenPacket) → List WrittenPacket
all_of [] = []
all_of (xs ∷ groups) = xs ++ all_of groups

-- tile-parts with these packets, each with none, one or more
abbrev pub AreFilledBy : List ℕ → ℕ → List Body → List (List WrittenPacket) → Type 0
AreFilledBy file number [] [] = Unit {0}
AreFilledBy file number [] (xs ∷ groups) = ⊥
AreFilledBy file number (body ∷ bodies) [] = ⊥
AreFilledBy file number (body ∷ bodies) (xs ∷ groups) =
    (window file body ≡ written_from number xs) × (body.length ≡ length (written_from number xs)) × AreFilledBy file (number + length xs) bodies groups

-- other tile data, without packed headers, that are cut up into such packets to the end
pub record IsPlaced (file : List ℕ) (g : Geometry) (number : ℕ) (here : Left) (cuts : List Cut) : Type 0 where
  pub end : Left
  pub are : AreCuts file g number here cuts end
  pub none : due end.bodies ≡ []
  pub in_place : end.packed ≡ None
