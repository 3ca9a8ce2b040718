-- The segments of a code-block, and how many of their bytes are sent by the end of a pass (ITU-T T.800, B.10, D.4 and D.6).
use Rattle.std.specs.Prelude.{ℕ, zero, suc, ◌+◌, ◌-◌, ◌==◌, nat_lt, nat_le, ◌&&◌, ◌||◌, List, [], length, take, map, sum_by, slice_index_or, if◌then◌else◌}
use Rattle.std.specs.List.{filter, flat_map, range_with_len}
use Rattle.jx_base.specs.Passes.{end_pass}
use Rattle.jx_base.specs.Pieces.{PieceValue, bytes_in}

-- how many of the first passes end a segment
abbrev pub ends_below : ℕ → ℕ → ℕ
ends_below style zero = 0
ends_below style (suc pass) = ends_below style pass + (if end_pass style pass then 1 else 0)

-- how many segments some passes have: the last pass ends one too
abbrev pub segment_count : ℕ → ℕ → ℕ
segment_count style zero = 0
segment_count style (suc pass) = suc (ends_below style pass)

-- the bytes of a segment: those of its pieces joined
abbrev pub segment_at : ℕ → List PieceValue → ℕ → List ℕ
segment_at style pieces i = flat_map (λ (p : PieceValue). p.bytes) (filter (λ (p : PieceValue). ends_below style p.first == i) pieces)

-- all segments of a block's pieces
unfoldable pub segments_of : ℕ → ℕ → List PieceValue → List (List ℕ)
segments_of style passes pieces = map (segment_at style pieces) (range_with_len 0 (segment_count style passes))

-- how many bytes the first segments have
abbrev pub bytes_before : List (List ℕ) → ℕ → ℕ
bytes_before segments i = sum_by (λ (s : List ℕ). length s) (take i segments)

-- some bytes of a segment, less one that is FF and would stand last
abbrev pub less_last_ff : List ℕ → ℕ → ℕ
less_last_ff segment n = if nat_lt 0 n && slice_index_or segment (n - 1) 0 == 255 then n - 1 else n

-- how many bytes are sent by the end of some passes, where the decoder had looked at so many bytes of its segment by the end of each
-- pass: all bytes of the segments that end there, and within a segment those that were looked at, less a last FF
unfoldable pub sent_by_looks : ℕ → ℕ → List (List ℕ) → List ℕ → ℕ → ℕ
sent_by_looks style passes segments looked n =
    if n == passes then bytes_before segments (length segments)
    else if n == 0 || end_pass style (n - 1) then bytes_before segments (ends_below style n)
    else bytes_before segments (ends_below style n) + less_last_ff (slice_index_or segments (ends_below style n) []) (slice_index_or looked (n - 1) 0)

-- how many bytes the pieces have that end by then
unfoldable pub sent_by_pieces : List PieceValue → ℕ → ℕ
sent_by_pieces pieces n = bytes_in (filter (λ (p : PieceValue). nat_le (p.first + p.passes) n) pieces)
