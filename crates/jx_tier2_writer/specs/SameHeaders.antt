-- A stream that says what another says: its tiles have the headers of the other's, with PLT segments behind them, and its main header
-- is the other's with an index behind it, or without; so all parameters, steps, planes, places and entries are the same
-- (ITU-T T.800, A.6, A.7, B.3 and E.1).
use Rattle.std.specs.Prelude.{◌≡◌, ◌<◌, ℕ, List, [], ◌++◌}
use Rattle.jx_base.specs.declared.names.Band.{Band}
use Rattle.jx_marker.specs.declared.Segment.{Segment}
use Rattle.jx_codestream.specs.declared.Stream.{Stream}
use Rattle.jx_codestream.specs.First.{tile_number}
use Rattle.jx_codestream.specs.Params.{header_of, params_of, planes_at, step_of}
use Rattle.jx_codestream.specs.Shapes.{geometry, tile_at}
use Rattle.jx_tier2_writer.specs.Lengths.{numbered}

-- a header with PLT segments behind it, or without
abbrev pub IsWithLengths : List Segment → List Segment → Type 0
IsWithLengths own header = (held : List (List ℕ)) × (header ≡ own ++ numbered 0 held)

pub record HasHeadersOf (index : List Segment) (s other : Stream) : Type 0 where
  pub siz : other.siz ≡ s.siz
  pub main : other.main ≡ s.main ++ index
  pub header : (t : ℕ) → t < tile_number s.siz → IsWithLengths (header_of s t) (header_of other t)
  -- no COM but in the first tile-part of a tile
  pub notes : (t : ℕ) → t < tile_number s.siz → (tile_at other t).notes ≡ []
  pub entries : (t : ℕ) → t < tile_number s.siz → (tile_at other t).progressions ≡ (tile_at s t).progressions
  pub params : (t c : ℕ) → params_of other t c ≡ params_of s t c
  pub step : (t c r : ℕ) (b : Band) → step_of other t c r b ≡ step_of s t c r b
  pub planes : (t c r : ℕ) (b : Band) → planes_at other t c r b ≡ planes_at s t c r b
  pub places : (t : ℕ) → geometry other t ≡ geometry s t
