-- The parameters of a tile-component (T.800, A.6), the step of a band and its planes (E.1 and H.1).
use Rattle.std.specs.Prelude.{ℕ, ◌+◌, ◌-◌, ◌*◌, ◌/◌, ◌%◌, ◌==◌, ◌||◌, ◌&&◌, nat_lt, Bool, false, List, [], ◌∷◌, length, map, Option, None, Some, find, if◌then◌else◌, slice_index}
use Rattle.std.specs.List.{slice_get, flat_map, list_any, range_with_len}
use Rattle.std.specs.Option.{option_or}
use Rattle.jx_base.specs.declared.names.Band.{Band}
use Rattle.jx_base.specs.declared.names.Band.TheVariants.{LL, HL, LH, HH}
use Rattle.jx_marker.specs.declared.Segment.{Segment}
use Rattle.jx_marker.specs.declared.Segment.TheVariants as segment
use Rattle.jx_marker.specs.declared.Shape.{Shape}
use Rattle.jx_marker.specs.declared.Quant.{Quant}
use Rattle.jx_marker.specs.declared.Cod.{Cod}
use Rattle.jx_marker.specs.RuleNumbers.{QUANTIZATION}
use Rattle.jx_codestream.specs.declared.Tile.{Tile}
use Rattle.jx_codestream.specs.declared.Stream.{Stream}
use Rattle.jx_codestream.specs.declared.Params.{Params}
use Rattle.jx_codestream.specs.declared.faults.StreamFault.{StreamFault}
use Rattle.jx_codestream.specs.declared.faults.StreamFault.TheVariants as fault
use Rattle.jx_codestream.specs.Headers.{coc_slot, cod_slot, qcc_slot, qcd_slot, rgn_slot}
use Rattle.jx_codestream.specs.Tiles.{in_slot}
use Rattle.jx_codestream.specs.TileHeaders.{TileHeaders}

-- what a segment says of coding, quantization and the region's shift
abbrev pub shape_in : Option Segment → Option Shape
shape_in (Some (segment.Cod cod)) = Some cod.shape
shape_in (Some (segment.Coc comp shape)) = Some shape
shape_in _ = None

abbrev pub quant_in : Option Segment → Option Quant
quant_in (Some (segment.Qcd quant)) = Some quant
quant_in (Some (segment.Qcc comp quant)) = Some quant
quant_in _ = None

abbrev pub shift_in : Option Segment → ℕ
shift_in (Some (segment.Rgn comp shift)) = shift
shift_in _ = 0

abbrev pub cod_in : Option Segment → Option Cod
cod_in (Some (segment.Cod cod)) = Some cod
cod_in _ = None

-- the first that is there of the tile's own, the tile's default, the main header's own, the main default
abbrev pub chosen : ℕ → ℕ → List Segment → List Segment → Option Segment
chosen own default tile main = option_or (in_slot own tile) (option_or (in_slot default tile) (option_or (in_slot own main) (in_slot default main)))

-- tile COC, tile COD, main COC, main COD
abbrev pub shape_of : List Segment → List Segment → ℕ → Option Shape
shape_of tile main comp = shape_in (chosen (coc_slot comp) cod_slot tile main)

-- tile QCC, tile QCD, main QCC, main QCD
abbrev pub quant_of : List Segment → List Segment → ℕ → Option Quant
quant_of tile main comp = quant_in (chosen (qcc_slot comp) qcd_slot tile main)

-- tile RGN, main RGN, or no shift
abbrev pub shift_of : List Segment → List Segment → ℕ → ℕ
shift_of tile main comp = shift_in (option_or (in_slot (rgn_slot comp) tile) (in_slot (rgn_slot comp) main))

-- order, layers and component transform: the tile's COD, else the main one
abbrev pub cod_of : List Segment → List Segment → Option Cod
cod_of tile main = cod_in (option_or (in_slot cod_slot tile) (in_slot cod_slot main))

-- the number of a band among those of its component: LL, then HL, LH, HH of each resolution upwards
abbrev pub number_of : ℕ → Band → ℕ
number_of res LL = 0
number_of res HL = 3 * res - 2
number_of res LH = 3 * res - 1
number_of res HH = 3 * res

-- how many bands there are with so many levels
abbrev pub band_count : ℕ → ℕ
band_count levels = 3 * levels + 1

-- the level of the band of a number: that of LL is the last
abbrev pub level_of : ℕ → ℕ → ℕ
level_of levels number = levels - (number - 1) / 3

-- the exponent of a band's step: without quantization the top five bits of its entry, which is one byte, with style 1
-- the one entry's, less the levels above the band's, else its own entry's
abbrev pub exponent_of : Quant → ℕ → ℕ → ℕ
exponent_of quant levels number =
    if quant.sqcd % 32 == 0 then slice_index quant.entries number % 256 / 8
    else if quant.sqcd % 32 == 1 then slice_index quant.entries 0 / 2048 + level_of levels number - levels
    else slice_index quant.entries number / 2048

-- its mantissa
abbrev pub mantissa_of : Quant → ℕ → ℕ
mantissa_of quant number =
    if quant.sqcd % 32 == 0 then 0
    else if quant.sqcd % 32 == 1 then slice_index quant.entries 0 % 2048
    else slice_index quant.entries number % 2048

-- the planes of a band: max(0, G + exponent - 1) and the region's shift
abbrev pub planes_of : Quant → ℕ → ℕ → ℕ → ℕ
planes_of quant levels shift number = (quant.sqcd / 32 + exponent_of quant levels number - 1) + shift

-- each band has an entry of its own
abbrev pub not_one : Quant → Bool
not_one quant = (quant.sqcd % 32 == 0) || (quant.sqcd % 32 == 2)

-- rule 9 after EOC: fewer entries than bands, with another style than 1
abbrev pub has_too_few : Option Quant → Option Shape → Bool
has_too_few (Some quant) (Some shape) = not_one quant && nat_lt (length quant.entries) (band_count shape.levels)
has_too_few _ _ = false

-- the planes of the bands of a component, in their order
abbrev pub band_planes : Option Quant → Option Shape → ℕ → List ℕ
band_planes (Some quant) (Some shape) shift = map (planes_of quant shape.levels shift) (range_with_len 0 (band_count shape.levels))
band_planes _ _ shift = []

-- some component of a tile with this header has too few entries
abbrev pub header_has_too_few : List Segment → ℕ → List Segment → Bool
header_has_too_few main comps own = list_any (λ (comp : ℕ). has_too_few (quant_of own main comp) (shape_of own main comp)) (range_with_len 0 comps)

unfoldable pub tile_has_too_few : List Segment → ℕ → Tile → Bool
tile_has_too_few main comps tile = header_has_too_few main comps tile.header

-- the planes of all bands of a tile with this header
abbrev pub header_planes : List Segment → ℕ → List Segment → List ℕ
header_planes main comps own = flat_map (λ (comp : ℕ). band_planes (quant_of own main comp) (shape_of own main comp) (shift_of own main comp)) (range_with_len 0 comps)

unfoldable pub tile_planes : List Segment → ℕ → Tile → List ℕ
tile_planes main comps tile = header_planes main comps tile.header

-- rule 9 after EOC, at the first SOT of the lowest tile
abbrev pub rule_9_of : Option Tile → Option StreamFault
rule_9_of None = None
rule_9_of (Some tile) = Some (fault.Rule QUANTIZATION tile.place)

abbrev pub entries_fault : List Segment → ℕ → List Tile → Option StreamFault
entries_fault main comps tiles = rule_9_of (find (tile_has_too_few main comps) tiles)

-- limit 4: the first band that has over 74 planes
abbrev pub limit_4_of : Option ℕ → Option StreamFault
limit_4_of None = None
limit_4_of (Some planes) = Some (fault.Limit 4 planes)

abbrev pub planes_fault : List Segment → ℕ → List Tile → Option StreamFault
planes_fault main comps tiles = limit_4_of (find (nat_lt 74) (flat_map (tile_planes main comps) tiles))

-- all parameters of a tile-component

abbrev pub shape_or : Option Shape → Shape
shape_or (Some shape) = shape
shape_or None = record { levels = 0; xcb = 0; ycb = 0; style = 0; wavelet = 0; precincts = [] }

abbrev pub quant_or : Option Quant → Quant
quant_or (Some quant) = quant
quant_or None = record { sqcd = 0; entries = [] }

abbrev pub cod_or : Option Cod → Cod
cod_or (Some cod) = cod
cod_or None = record { sop = false; eph = false; order = 0; layers = 0; transform = 0; shape = shape_or None }

-- the exponents of resolution r: its byte, or 15 and 15 where no bytes are there (A.6.1, Table A.21)
abbrev pub precinct_of : List ℕ → ℕ → ℕ
precinct_of [] res = 255
precinct_of (byte ∷ bytes) res = slice_index (byte ∷ bytes) res

abbrev pub precincts_of : List ℕ → List ℕ
precincts_of bytes = map (precinct_of bytes) (range_with_len 0 33)

-- coding by shape and COD, quantization, the region's shift
abbrev pub params_from : Shape → Cod → Quant → ℕ → Params
params_from shape cod quant shift = record {
  levels = shape.levels;
  xcb = shape.xcb;
  ycb = shape.ycb;
  style = record { bits = shape.style };
  wavelet = shape.wavelet;
  precincts = precincts_of shape.precincts;
  order = cod.order;
  layers = cod.layers;
  transform = cod.transform;
  guard = quant.sqcd / 32;
  quant = quant.sqcd % 32;
  shift = shift;
}

-- those that a tile's header and the main header give
abbrev pub params_by : List Segment → List Segment → ℕ → Params
params_by tile main comp = params_from (shape_or (shape_of tile main comp)) (cod_or (cod_of tile main)) (quant_or (quant_of tile main comp)) (shift_of tile main comp)

-- the exponent and the mantissa of a band's step
abbrev pub step_by : List Segment → List Segment → ℕ → ℕ → Band → ℕ × ℕ
step_by tile main comp res band = (
  exponent_of (quant_or (quant_of tile main comp)) (shape_or (shape_of tile main comp)).levels (number_of res band),
  mantissa_of (quant_or (quant_of tile main comp)) (number_of res band),
)

-- the planes of a band
abbrev pub planes_by : List Segment → List Segment → ℕ → ℕ → Band → ℕ
planes_by tile main comp res band =
    planes_of (quant_or (quant_of tile main comp)) (shape_or (shape_of tile main comp)).levels (shift_of tile main comp) (number_of res band)

-- the same of these headers

abbrev pub params_in : TileHeaders → ℕ → Params
params_in h comp = params_by h.own h.main comp

abbrev pub step_in : TileHeaders → ℕ → ℕ → Band → ℕ × ℕ
step_in h comp res band = step_by h.own h.main comp res band

abbrev pub planes_in : TileHeaders → ℕ → ℕ → Band → ℕ
planes_in h comp res band = planes_by h.own h.main comp res band

-- the header of a tile
abbrev pub header_in : Option Tile → List Segment
header_in None = []
header_in (Some tile) = tile.header

abbrev pub header_of : Stream → ℕ → List Segment
header_of s tile = header_in (slice_get s.tiles tile)

abbrev pub headers_at : Stream → ℕ → TileHeaders
headers_at s tile = record { siz = s.siz; main = s.main; own = header_of s tile }

-- the shape and the quantization of a component of a tile of a stream
abbrev pub shape_at : Stream → ℕ → ℕ → Option Shape
shape_at s tile comp = shape_of (header_of s tile) s.main comp

abbrev pub quant_at : Stream → ℕ → ℕ → Option Quant
quant_at s tile comp = quant_of (header_of s tile) s.main comp

abbrev pub shift_at : Stream → ℕ → ℕ → ℕ
shift_at s tile comp = shift_of (header_of s tile) s.main comp

-- its parameters, a band's step and its planes
abbrev pub params_of : Stream → ℕ → ℕ → Params
params_of s tile comp = params_in (headers_at s tile) comp

abbrev pub step_of : Stream → ℕ → ℕ → ℕ → Band → ℕ × ℕ
step_of s tile comp res band = step_in (headers_at s tile) comp res band

abbrev pub planes_at : Stream → ℕ → ℕ → ℕ → Band → ℕ
planes_at s tile comp res band = planes_in (headers_at s tile) comp res band
