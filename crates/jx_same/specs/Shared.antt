-- What the headers of two codestreams say of a tile-component, and what they say of it where the tile's own header says nothing (A.6).
use Rattle.std.specs.Prelude.{ℕ, ◌<◌, ◌≤◌, ◌≡◌, Bool, true, false, List, [], length}
use Rattle.std.specs.List.{list_any}
use Rattle.jx_base.specs.declared.names.Band.{Band}
use Rattle.jx_geom.specs.Ranges.{HasBand}
use Rattle.jx_marker.specs.declared.Segment.{Segment}
use Rattle.jx_marker.specs.declared.Segment.TheVariants as segment
use Rattle.jx_codestream.specs.declared.Stream.{Stream}
use Rattle.jx_codestream.specs.Index.{IsBare}
use Rattle.jx_codestream.specs.Params.{header_of, params_by, params_of, step_by, step_of}
use Rattle.jx_plan.specs.Meaning.{component_of}

-- both say the same of a component of a tile
pub record SameHeaders (s t : Stream) (i c : ℕ) : Type 0 where
  pub component : component_of (params_of s i c) ≡ component_of (params_of t i c)
  pub step : (r : ℕ) (b : Band) → r ≤ (params_of s i c).levels → HasBand r b → step_of s i c r b ≡ step_of t i c r b

-- and so do their main headers
pub record SameMain (s t : Stream) (c : ℕ) : Type 0 where
  pub component : component_of (params_by [] s.main c) ≡ component_of (params_by [] t.main c)
  pub step : (r : ℕ) (b : Band) → r ≤ (params_by [] s.main c).levels → HasBand r b → step_by [] s.main c r b ≡ step_by [] t.main c r b

abbrev pub AreSameHeaders : Stream → Stream → ℕ → Type 0
AreSameHeaders s t i = (c : ℕ) → c < length s.siz.comps → SameHeaders s t i c

abbrev pub AreSameMain : Stream → Stream → Type 0
AreSameMain s t = (c : ℕ) → c < length s.siz.comps → SameMain s t c

-- a segment of a tile's header that says how components are transformed or quantized
abbrev pub gives_parameters : Segment → Bool
gives_parameters (segment.Cod cod) = true
gives_parameters (segment.Coc comp shape) = true
gives_parameters (segment.Qcd quant) = true
gives_parameters (segment.Qcc comp quant) = true
gives_parameters (segment.Rgn comp shift) = true
gives_parameters _ = false

abbrev pub gives_some : List Segment → Bool
gives_some segments = list_any gives_parameters segments

-- no such segment stands in the header of a tile, in either codestream
pub record AreBareAt (s t : Stream) (i : ℕ) : Type 0 where
  pub one : IsBare (header_of s i)
  pub two : IsBare (header_of t i)
