-- One direction, across or down: how each span of Annex B follows from the one before it.
use Rattle.std.specs.Prelude.{ℕ, ◌+◌, ◌-◌, ◌*◌, ◌/◌, ◌%◌, ◌^◌, min, max, nat_lt, ◌==◌, ◌&&◌, not, if◌then◌else◌}
use Rattle.jx_base.specs.declared.names.Span.{Span}
use Rattle.jx_base.specs.Numbers.{ceil_of}
use Rattle.jx_base.specs.Places.{span_of}

-- B.3, equation B-5: how many tiles of a size reach from the offset to the end
abbrev pub tiles_along : ℕ → ℕ → ℕ → ℕ
tiles_along end offset size = ceil_of (end - offset) size

-- B.3, equations B-7 to B-10: the tile of number p in one direction, cut to the picture from start to end
unfoldable pub tile_span : ℕ → ℕ → ℕ → ℕ → ℕ → Span
tile_span start end offset size p = span_of (max (offset + p * size) start) (min (offset + (p + 1) * size) end)

-- B.3, equation B-12, and B.5, equation B-14: the places that stand for every step-th one of a span
unfoldable pub scaled : Span → ℕ → Span
scaled s step = span_of (ceil_of s.low step) (ceil_of s.high step)

-- B.5, equation B-15: a band of a level, with off 1 where it is the high one in this direction, else 0.
-- Where the difference would be negative, its quotient rounded up is 0.
unfoldable pub band_span : Span → ℕ → ℕ → Span
band_span s level off =
    span_of (ceil_of (s.low - off * 2 ^ (level - 1)) (2 ^ level)) (ceil_of (s.high - off * 2 ^ (level - 1)) (2 ^ level))

-- B.6 and B.7: the cells of a size, anchored at 0, that have a number of the span
unfoldable pub cells : Span → ℕ → Span
cells s size = span_of (s.low / size) (if nat_lt s.low s.high then ceil_of s.high size else s.low / size)

-- the part of a span that lies in one cell
unfoldable pub cut : Span → ℕ → ℕ → Span
cut s size n = span_of (max s.low (n * size)) (min s.high ((n + 1) * size))

-- B.12.1.3: where the precinct column or row of a number stands on the reference grid. step is the
-- subsampling times 2 ^ (NL - r), size that of a cell, low the first place of the resolution, and start
-- the first place of the tile.
unfoldable pub reference_of : ℕ → ℕ → ℕ → ℕ → ℕ → ℕ
reference_of start low size step n =
    (if (n == low / size) && not (low % size == 0) then start else n * (size * step))
