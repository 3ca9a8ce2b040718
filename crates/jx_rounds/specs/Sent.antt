-- Tile-parts as they are written, one behind another, and how long each is.
use Rattle.std.specs.Prelude.{ℕ, ◌+◌, List, [], ◌∷◌, ◌++◌, Option, length, map}
use Rattle.std.specs.List.{concat, flat_map}
use Rattle.std.specs.Option.{option_map}
use Rattle.jx_tier2_writer.specs.declared.index.PartLength.{PartLength}

-- a tile-part's bytes, with the number of its tile
pub record PartSent : Type 0 where
  pub tile : ℕ
  pub bytes : List ℕ

abbrev pub sent_as : ℕ → List ℕ → PartSent
sent_as t bytes = record { tile = t; bytes = bytes }

-- those of a tile, by their bytes
abbrev pub sent_of : ℕ → List (List ℕ) → List PartSent
sent_of t parts = map (sent_as t) parts

-- those of tiles from one on, each of them made of pieces
abbrev pub sent_from : ℕ → List (List (List (List ℕ))) → List PartSent
sent_from t [] = []
sent_from t (tile ∷ tiles) = sent_of t (map concat tile) ++ sent_from (t + 1) tiles

-- their bytes
abbrev pub bytes_sent : List PartSent → List ℕ
bytes_sent sent = flat_map (λ (part : PartSent). part.bytes) sent

-- how long they are
abbrev pub length_sent : PartSent → PartLength
length_sent part = record { tile = part.tile; length = length part.bytes }

abbrev pub lengths_sent : List PartSent → List PartLength
lengths_sent sent = map length_sent sent

-- lengths that are asked, with those of these tile-parts behind
abbrev pub lengths_behind : List PartSent → Option (List PartLength) → Option (List PartLength)
lengths_behind sent lengths = option_map (λ (before : List PartLength). before ++ lengths_sent sent) lengths
