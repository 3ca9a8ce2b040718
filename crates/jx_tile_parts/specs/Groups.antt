-- Where a tile is cut into tile-parts: a new one begins where two packets that follow each other differ in the resolution, layer or
-- component that is asked. A tile without packets has one empty tile-part (ITU-T T.800, A.4.2 and B.12). And how many tile-parts TLM can name (A.7.1).
use Rattle.std.specs.Prelude.{◌≡◌, ◌<◌, ◌≤◌, ◌==◌, true, ℕ, List, [], ◌∷◌, length, if◌then◌else◌}
use Rattle.jx_progression.specs.declared.names.PacketName.{PacketName}
use Rattle.jx_codestream.specs.declared.Stream.{Stream}
use Rattle.jx_codestream.specs.First.{tile_number}
use Rattle.jx_tile.specs.Covered.{IsListOf}
use Rattle.jx_base.specs.Joined.{sum_below}
use Rattle.jx_options.specs.declared.Marks.{Marks}
use Rattle.jx_options.specs.declared.PartChoice.{PartChoice}
use Rattle.jx_options.specs.declared.PartChoice.TheVariants as part

-- what the packets of a tile-part have in common
abbrev pub key_of : PartChoice → PacketName → ℕ
key_of part.None p = 0
key_of part.Resolution p = p.res
key_of part.Layer p = p.layer
key_of part.Component p = p.comp

-- a packet at the beginning of the first tile-part
abbrev pub with_first : PacketName → List (List PacketName) → List (List PacketName)
with_first p [] = (p ∷ []) ∷ []
with_first p (names ∷ groups) = (p ∷ names) ∷ groups

-- a packet before others, which are cut already
abbrev pub put_before : PartChoice → PacketName → List PacketName → List (List PacketName) → List (List PacketName)
put_before parts p [] groups = (p ∷ []) ∷ []
put_before parts p (q ∷ names) groups = if key_of parts p == key_of parts q then with_first p groups else (p ∷ []) ∷ groups

-- the packets of each tile-part
abbrev pub groups_of : PartChoice → List PacketName → List (List PacketName)
groups_of parts [] = [] ∷ []
groups_of parts (p ∷ names) = put_before parts p names (groups_of parts names)

-- those of the tile-parts that follow one: none where no packet is left
abbrev pub more_groups : PartChoice → List PacketName → List (List PacketName)
more_groups parts [] = []
more_groups parts (p ∷ names) = groups_of parts (p ∷ names)

-- A.4.2: TNsot has one byte
abbrev pub most_parts : ℕ
most_parts = 255

-- a tile of written headers isn't cut into more
abbrev pub HasFewParts : PartChoice → Stream → ℕ → Type 0
HasFewParts parts s t = (names : List PacketName) → IsListOf s t names → length (groups_of parts names) ≤ most_parts

-- it is
pub record HasManyParts (parts : PartChoice) (s : Stream) (t : ℕ) : Type 0 where
  pub names : List PacketName
  pub order : IsListOf s t names
  pub many : most_parts < length (groups_of parts names)

-- choice 5: the lowest tile that is
pub record IsPartedAt (parts : PartChoice) (s : Stream) (place : ℕ) : Type 0 where
  pub inside : place < tile_number s.siz
  pub many : HasManyParts parts s place
  pub lowest : (t : ℕ) → t < place → HasFewParts parts s t

-- so many tile-parts a tile of written headers is cut into
pub record IsPartCount (parts : PartChoice) (s : Stream) (t count : ℕ) : Type 0 where
  pub names : List PacketName
  pub order : IsListOf s t names
  pub count_is : count ≡ length (groups_of parts names)

-- each tile of them
abbrev pub ArePartCounts : PartChoice → Stream → (ℕ → ℕ) → Type 0
ArePartCounts parts s counts = (t : ℕ) → t < tile_number s.siz → IsPartCount parts s t (counts t)

-- A.7.1: the entries of 256 TLM segments (Ztlm has one byte), 10,921 in each (Ltlm, of two bytes, is 4 and six for each entry)
abbrev pub most_entries : ℕ
most_entries = 2795776

-- where TLM is asked there aren't more tile-parts in all
abbrev pub HasFewEntries : Marks → Stream → Type 0
HasFewEntries m s = m.tlm ≡ true → (counts : ℕ → ℕ) → ArePartCounts m.parts s counts → sum_below counts (tile_number s.siz) ≤ most_entries

-- choice 10: there are
pub record HasManyEntries (m : Marks) (s : Stream) : Type 0 where
  pub asked : m.tlm ≡ true
  pub counts : ℕ → ℕ
  pub each : ArePartCounts m.parts s counts
  pub many : most_entries < sum_below counts (tile_number s.siz)
