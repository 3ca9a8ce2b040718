-- What the segments of a header say of components, as far as two codestreams are compared by it (A.6): decomposition levels, wavelet,
-- component transform, quantization and the shift of a region of interest, each with the slot of its segment.
use Rattle.std.specs.Prelude.{ℕ, ◌≡◌, ◌<◌, ◌+◌, ◌-◌, ◌*◌, Bool, true, false, List, map, Option, Some}
use Rattle.std.specs.List.{filter}
use Rattle.std.specs.Option.{option_map}
use Rattle.jx_marker.specs.declared.Quant.{Quant}
use Rattle.jx_marker.specs.declared.Segment.{Segment}
use Rattle.jx_marker.specs.declared.Segment.TheVariants as segment
use Rattle.jx_codestream.specs.declared.Stream.{Stream}
use Rattle.jx_codestream.specs.Headers.{coc_slot, cod_slot, qcc_slot, qcd_slot, rgn_slot}
use Rattle.jx_codestream.specs.Index.{has_named}
use Rattle.jx_codestream.specs.Params.{header_of, quant_in}
use Rattle.jx_codestream.specs.Tiles.{in_slot}
use Rattle.jx_same.specs.declared.sayings.Said.{Said}

-- the numbers of a segment, without those of quantization
abbrev pub said_of : Segment → Said
said_of (segment.Cod cod) = record { slot = 1; levels = cod.shape.levels; wavelet = cod.shape.wavelet; transform = cod.transform; shift = 0 }
said_of (segment.Coc comp shape) = record { slot = 261 + 3 * comp; levels = shape.levels; wavelet = shape.wavelet; transform = 0; shift = 0 }
said_of (segment.Qcd quant) = record { slot = 2; levels = 0; wavelet = 0; transform = 0; shift = 0 }
said_of (segment.Qcc comp quant) = record { slot = 262 + 3 * comp; levels = 0; wavelet = 0; transform = 0; shift = 0 }
said_of (segment.Rgn comp shift) = record { slot = 263 + 3 * comp; levels = 0; wavelet = 0; transform = 0; shift = shift }
said_of _ = record { slot = 0; levels = 0; wavelet = 0; transform = 0; shift = 0 }

pub record Saying : Type 0 where
  pub said : Said
  pub quant : Option Quant

abbrev pub saying_of : Segment → Saying
saying_of s = record { said = said_of s; quant = quant_in (Some s) }

-- a segment gives parameters: of all components, or, where those count too, of one that it names
abbrev pub concerns : Bool → Segment → Bool
concerns all (segment.Cod cod) = true
concerns all (segment.Coc comp shape) = all
concerns all (segment.Qcd quant) = true
concerns all (segment.Qcc comp quant) = all
concerns all (segment.Rgn comp shift) = all
concerns all _ = false

-- what these segments of a header say, one by one
abbrev pub sayings : Bool → List Segment → List Saying
sayings all header = map saying_of (filter (concerns all) header)

-- what the first segment of a slot says
abbrev pub saying_in : ℕ → List Segment → Option Saying
saying_in slot header = option_map saying_of (in_slot slot header)

-- two headers say the same of a component, in each slot by which it goes
pub record SaySame (c : ℕ) (h k : List Segment) : Type 0 where
  pub cod : saying_in cod_slot h ≡ saying_in cod_slot k
  pub qcd : saying_in qcd_slot h ≡ saying_in qcd_slot k
  pub coc : saying_in (coc_slot c) h ≡ saying_in (coc_slot c) k
  pub qcc : saying_in (qcc_slot c) h ≡ saying_in (qcc_slot c) k
  pub rgn : saying_in (rgn_slot c) h ≡ saying_in (rgn_slot c) k

-- in two codestreams the headers of a tile say the same of all components, and so do the main headers
pub record AreAlikeAt (s t : Stream) (i : ℕ) : Type 0 where
  pub main : sayings true s.main ≡ sayings true t.main
  pub own : sayings true (header_of s i) ≡ sayings true (header_of t i)

-- in each the header of a tile says what that of the tile before says
pub record AreAsBefore (s t : Stream) (all : Bool) (i : ℕ) : Type 0 where
  pub there : 0 < i
  pub one : sayings all (header_of s i) ≡ sayings all (header_of s (i - 1))
  pub two : sayings all (header_of t i) ≡ sayings all (header_of t (i - 1))

-- no segment of these headers names the component: in either codestream, that of the tile and that of the tile before
pub record IsUnnamed (s t : Stream) (i c : ℕ) : Type 0 where
  pub one : has_named c (header_of s i) ≡ false
  pub one_before : has_named c (header_of s (i - 1)) ≡ false
  pub two : has_named c (header_of t i) ≡ false
  pub two_before : has_named c (header_of t (i - 1)) ≡ false

-- nor do the defaults of these headers change from the tile before
pub record IsUnchanged (s t : Stream) (i c : ℕ) : Type 0 where
  pub defaults : AreAsBefore s t false i
  pub unnamed : IsUnnamed s t i c
