-- The index of the tile-parts in the main header (ITU-T T.800, A.7.1): TLM segments behind all its other segments, which name each
-- tile-part of the file in their order by its tile, in two bytes, and its length as Psot tells it, in four.
use Rattle.std.specs.Prelude.{ℕ, zero, suc, ◌+◌, ◌-◌, ◌*◌, ◌/◌, ◌==◌, Bool, false, List, [], ◌∷◌, ◌++◌, length, map, take, drop, slice_index, if◌then◌else◌}
use Rattle.std.specs.List.{filter, flat_map, range_with_len}
use Rattle.byteorder.specs.Endian.{big_bytes, big_from}
use Rattle.jx_marker.specs.declared.Segment.{Segment}
use Rattle.jx_marker.specs.declared.Segment.TheVariants as segment
use Rattle.jx_codestream.specs.declared.Stream.{Stream}
use Rattle.jx_codestream.specs.Spells.{TilePart}
use Rattle.jx_options.specs.declared.Marks.{Marks}
use Rattle.jx_tier2_writer.specs.declared.index.PartLength.{PartLength}

-- what is told of a tile-part
abbrev pub entry_of : TilePart → PartLength
entry_of p = record { tile = p.sot.tile; length = p.sot.psot }

-- the same of a tile-part of a tile, by its bytes
abbrev pub length_in : ℕ → List ℕ → PartLength
length_in t bytes = record { tile = t; length = length bytes }

abbrev pub entry_bytes : PartLength → List ℕ
entry_bytes e = big_bytes 2 e.tile ++ big_bytes 4 e.length

-- Stlm: two bytes for the tile (ST 2), four for the length (SP 1)
abbrev pub STLM : ℕ
STLM = 96

-- the most that a segment has room for: Ltlm is 4 and 6 for each, and at most 65,535
abbrev pub most_entries : ℕ
most_entries = 10921

-- the segment of a number: as many of the entries as it has room for, behind those of the segments before it
abbrev pub run_of : List PartLength → ℕ → List PartLength
run_of entries number = take most_entries (drop (most_entries * number) entries)

abbrev pub index_segment : List PartLength → ℕ → Segment
index_segment entries number = segment.Tlm (number ∷ STLM ∷ flat_map entry_bytes (run_of entries number))

-- how many segments so many entries need
abbrev pub index_count : ℕ → ℕ
index_count n = (n + 10920) / most_entries

abbrev pub index_segments : List PartLength → List Segment
index_segments entries = map (index_segment entries) (range_with_len 0 (index_count (length entries)))

-- the index of these tile-parts, where it is asked
abbrev pub index_of : Marks → List TilePart → List Segment
index_of m parts = if m.tlm then index_segments (map entry_of parts) else []

-- headers with the index of these tile-parts
abbrev pub indexed : Marks → Stream → List TilePart → Stream
indexed m s parts = record { siz = s.siz; main = s.main ++ index_of m parts; tiles = s.tiles }

-- ---- as it is read
abbrev pub entry_at : List ℕ → PartLength
entry_at bytes = record { tile = big_from 0 2 bytes; length = big_from 2 4 bytes }

-- so many entries, one behind another
abbrev pub entries_at : ℕ → List ℕ → List PartLength
entries_at zero bytes = []
entries_at (suc count) bytes = entry_at bytes ∷ entries_at count (drop 6 bytes)

-- the entries of a segment behind Ztlm and Stlm
abbrev pub entries_in : Segment → List PartLength
entries_in (segment.Tlm bytes) = entries_at ((length bytes - 2) / 6) (drop 2 bytes)
entries_in _ = []

-- TLM of this Ztlm
abbrev pub is_numbered : ℕ → Segment → Bool
is_numbered number (segment.Tlm bytes) = slice_index bytes 0 == number
is_numbered number _ = false

-- what the TLM segments of a main header tell, in the order of Ztlm
abbrev pub entries_told : List Segment → List PartLength
entries_told main = flat_map (λ (number : ℕ). flat_map entries_in (filter (is_numbered number) main)) (range_with_len 0 256)

-- the lengths of the first so many come to
abbrev pub length_before : ℕ → List PartLength → ℕ
length_before zero entries = 0
length_before (suc n) [] = 0
length_before (suc n) (e ∷ entries) = e.length + length_before n entries
