-- A segment's bytes, and the segment that stands at the front of some bytes (T.800, A.1).
use Rattle.std.specs.Prelude.{ℕ, ◌+◌, ◌-◌, ◌==◌, List, [], ◌∷◌, ◌++◌, length, take, drop, if◌then◌else◌, slice_index}
use Rattle.byteorder.specs.Endian.{big_from, big_bytes}
use Rattle.jx_marker.specs.declared.Segment.{Segment}
use Rattle.jx_marker.specs.declared.Segment.TheVariants as segment
use Rattle.jx_marker.specs.Markers.{has_length, index_size}
use Rattle.jx_marker.specs.Values.{siz_bytes, siz_at, shape_bytes, shape_at, precinct_bit, cod_bytes, cod_at, index_bytes, index_at, quant_bytes, quant_at, poc_bytes, poc_at, sot_bytes, sot_at}
use Rattle.jx_marker.specs.Codes.{SOC, SIZ, COD, COC, TLM, PLM, PLT, QCD, QCC, RGN, POC, PPM, PPT, CRG, COM, SOT, SOD, EOC}

-- a marker alone
abbrev pub marker : ℕ → List ℕ
marker code = 255 ∷ code ∷ []

-- a marker, the length, which counts its own two bytes and not the marker, and what follows it
abbrev pub with_length : ℕ → List ℕ → List ℕ
with_length code body = 255 ∷ code ∷ (big_bytes 2 (2 + length body) ++ body)

-- the bytes of a segment in a picture of so many components
abbrev pub spelling : ℕ → Segment → List ℕ
spelling comps segment.Soc = marker SOC
spelling comps (segment.Siz siz) = with_length SIZ (siz_bytes siz)
spelling comps (segment.Cod cod) = with_length COD (cod_bytes cod)
spelling comps (segment.Coc comp shape) = with_length COC (index_bytes comps comp ++ precinct_bit shape ∷ shape_bytes shape)
spelling comps (segment.Qcd quant) = with_length QCD (quant_bytes quant)
spelling comps (segment.Qcc comp quant) = with_length QCC (index_bytes comps comp ++ quant_bytes quant)
spelling comps (segment.Rgn comp shift) = with_length RGN (index_bytes comps comp ++ 0 ∷ shift ∷ [])
spelling comps (segment.Poc entries) = with_length POC (poc_bytes comps entries)
spelling comps (segment.Crg bytes) = with_length CRG bytes
spelling comps (segment.Com bytes) = with_length COM bytes
spelling comps (segment.Plt bytes) = with_length PLT bytes
spelling comps (segment.Plm bytes) = with_length PLM bytes
spelling comps (segment.Tlm bytes) = with_length TLM bytes
spelling comps (segment.Ppm index bytes) = with_length PPM (index ∷ bytes)
spelling comps (segment.Ppt index bytes) = with_length PPT (index ∷ bytes)
spelling comps (segment.Sot sot) = with_length SOT (sot_bytes sot)
spelling comps segment.Sod = marker SOD
spelling comps segment.Eoc = marker EOC
spelling comps (segment.Skipped code) = marker code

-- the second byte of the marker at the front
abbrev pub code_at : List ℕ → ℕ
code_at bytes = slice_index bytes 1

-- the length that stands after the marker
abbrev pub length_at : List ℕ → ℕ
length_at bytes = big_from 2 2 bytes

-- what follows the length, up to the segment's end
abbrev pub body_at : List ℕ → List ℕ
body_at bytes = take (length_at bytes - 2) (drop 4 bytes)

-- how many bytes the segment at the front takes
abbrev pub size_at : List ℕ → ℕ
size_at bytes = if has_length (code_at bytes) then 2 + length_at bytes else 2

-- the segment of this marker whose length is followed by these bytes
abbrev pub value_of : ℕ → ℕ → List ℕ → Segment
value_of comps code body =
    if code == SIZ then segment.Siz (siz_at body)
    else if code == COD then segment.Cod (cod_at body)
    else if code == COC then segment.Coc (index_at comps 0 body) (shape_at (1 + index_size comps) body)
    else if code == QCD then segment.Qcd (quant_at 0 body)
    else if code == QCC then segment.Qcc (index_at comps 0 body) (quant_at (index_size comps) body)
    else if code == RGN then segment.Rgn (index_at comps 0 body) (slice_index body (1 + index_size comps))
    else if code == POC then segment.Poc (poc_at comps body)
    else if code == CRG then segment.Crg body
    else if code == COM then segment.Com body
    else if code == PLT then segment.Plt body
    else if code == PLM then segment.Plm body
    else if code == TLM then segment.Tlm body
    else if code == PPM then segment.Ppm (slice_index body 0) (drop 1 body)
    else if code == PPT then segment.Ppt (slice_index body 0) (drop 1 body)
    else segment.Sot (sot_at body)

-- the segment of a marker without a length
abbrev pub alone : ℕ → Segment
alone code =
    if code == SOC then segment.Soc
    else if code == SOD then segment.Sod
    else if code == EOC then segment.Eoc
    else segment.Skipped code

-- the segment that stands at the front of these bytes, where no rule is violated there
abbrev pub segment_at : ℕ → List ℕ → Segment
segment_at comps bytes = if has_length (code_at bytes) then value_of comps (code_at bytes) (body_at bytes) else alone (code_at bytes)
