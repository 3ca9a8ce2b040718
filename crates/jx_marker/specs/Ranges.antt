-- The ranges in which a segment has a spelling.
use Rattle.std.specs.Prelude.{◌≡◌, ◌<◌, ◌≤◌, ℕ, ◌+◌, ◌*◌, ◌^◌, ◌%◌, ◌==◌, true, false, List, length, drop, if◌then◌else◌}
use Rattle.std.specs.List.{All, list_all, list_any}
use Rattle.jx_base.specs.OrderNumbers.{IsOrderNumber}
use Rattle.jx_marker.specs.declared.CompSize.{CompSize}
use Rattle.jx_marker.specs.declared.Siz.{Siz}
use Rattle.jx_marker.specs.declared.Shape.{Shape}
use Rattle.jx_marker.specs.declared.Cod.{Cod}
use Rattle.jx_marker.specs.declared.Quant.{Quant}
use Rattle.jx_marker.specs.declared.Progression.{Progression}
use Rattle.jx_marker.specs.declared.Sot.{Sot}
use Rattle.jx_marker.specs.declared.Segment.{Segment}
use Rattle.jx_marker.specs.declared.Segment.TheVariants as segment
use Rattle.jx_marker.specs.Markers.{index_size, entry_size, progression_size}
use Rattle.jx_marker.specs.Rules.{siz_fits, has_zero_exponent, progression_fits}

-- every number is a byte
abbrev pub AreBytes : List ℕ → Type 0
AreBytes bytes = All (λ byte. byte < 256) bytes

-- fits behind a length of two bytes
abbrev pub FitsLength : List ℕ → Type 0
FitsLength bytes = 2 + length bytes < 2 ^ 16

pub record CompSizeInRange (comp : CompSize) : Type 0 where
  pub ssiz : comp.ssiz < 256
  pub dx : comp.dx < 256
  pub dy : comp.dy < 256

pub record SizInRange (siz : Siz) : Type 0 where
  pub rsiz : siz.rsiz < 2 ^ 14
  pub x1 : siz.x1 < 2 ^ 32
  pub y1 : siz.y1 < 2 ^ 32
  pub x0 : siz.x0 < 2 ^ 32
  pub y0 : siz.y0 < 2 ^ 32
  pub tw : siz.tw < 2 ^ 32
  pub th : siz.th < 2 ^ 32
  pub tx : siz.tx < 2 ^ 32
  pub ty : siz.ty < 2 ^ 32
  pub fits : siz_fits siz ≡ true
  pub each : All CompSizeInRange siz.comps

pub record ShapeInRange (shape : Shape) : Type 0 where
  pub levels : shape.levels ≤ 32
  pub least_xcb : 2 ≤ shape.xcb
  pub least_ycb : 2 ≤ shape.ycb
  pub xcb : shape.xcb ≤ 10
  pub ycb : shape.ycb ≤ 10
  pub area : shape.xcb + shape.ycb ≤ 12
  pub style : shape.style < 64
  pub wavelet : shape.wavelet ≤ 1
  -- none, or one for each resolution
  pub count : length shape.precincts ≡ (if length shape.precincts == 0 then 0 else 1 + shape.levels)
  pub precincts : AreBytes shape.precincts
  pub above : list_any has_zero_exponent (drop 1 shape.precincts) ≡ false

pub record CodInRange (cod : Cod) : Type 0 where
  pub order : IsOrderNumber cod.order
  pub some : 0 < cod.layers
  pub layers : cod.layers < 2 ^ 16
  pub transform : cod.transform ≤ 1
  pub shape : ShapeInRange cod.shape

pub record CocInRange (comps comp : ℕ) (shape : Shape) : Type 0 where
  pub index : comp < comps
  pub word : comp < 2 ^ 16
  pub fits : ShapeInRange shape

pub record QuantInRange (quant : Quant) (front : ℕ) : Type 0 where
  pub sqcd : quant.sqcd < 256
  pub style : quant.sqcd % 32 ≤ 2
  pub some : 0 < length quant.entries
  -- with so many bytes in front of Sqcd
  pub count : 3 + front + length quant.entries * entry_size quant.sqcd < 2 ^ 16
  pub entries : All (λ entry. entry < 256 ^ entry_size quant.sqcd) quant.entries

pub record QccInRange (comps comp : ℕ) (quant : Quant) : Type 0 where
  pub index : comp < comps
  pub word : comp < 2 ^ 16
  pub fits : QuantInRange quant (index_size comps)

pub record RgnInRange (comps comp shift : ℕ) : Type 0 where
  pub index : comp < comps
  pub word : comp < 2 ^ 16
  pub fits : shift < 256

pub record ProgressionInRange (comps : ℕ) (entry : Progression) : Type 0 where
  pub rs : entry.rs < 256
  pub cs : entry.cs < 256 ^ index_size comps
  pub lye : entry.lye < 2 ^ 16
  pub re : entry.re < 256
  pub ce : entry.ce < 256 ^ index_size comps

pub record PocInRange (comps : ℕ) (entries : List Progression) : Type 0 where
  pub some : 0 < length entries
  pub count : 2 + length entries * progression_size comps < 2 ^ 16
  pub fits : list_all progression_fits entries ≡ true
  pub each : All (ProgressionInRange comps) entries

pub record BytesInRange (least : ℕ) (bytes : List ℕ) : Type 0 where
  pub some : least ≤ length bytes
  pub count : FitsLength bytes
  pub each : AreBytes bytes

-- Zppm or Zppt, and the data behind it, also none (A.7.4, A.7.5)
pub record PackedInRange (index : ℕ) (bytes : List ℕ) : Type 0 where
  pub index_fits : index < 256
  pub count : 3 + length bytes < 2 ^ 16
  pub each : AreBytes bytes

pub record SotInRange (sot : Sot) : Type 0 where
  pub tile : sot.tile < 2 ^ 16
  pub psot : sot.psot < 2 ^ 32
  pub part : sot.part < 256
  pub parts : sot.parts < 256

-- a segment has a spelling in a picture of so many components
abbrev pub InRange : ℕ → Segment → Type 0
InRange comps segment.Soc = Unit {0}
InRange comps (segment.Siz siz) = SizInRange siz
InRange comps (segment.Cod cod) = CodInRange cod
InRange comps (segment.Coc comp shape) = CocInRange comps comp shape
InRange comps (segment.Qcd quant) = QuantInRange quant 0
InRange comps (segment.Qcc comp quant) = QccInRange comps comp quant
InRange comps (segment.Rgn comp shift) = RgnInRange comps comp shift
InRange comps (segment.Poc entries) = PocInRange comps entries
InRange comps (segment.Crg bytes) = BytesInRange 0 bytes
InRange comps (segment.Com bytes) = BytesInRange 0 bytes
InRange comps (segment.Plt bytes) = BytesInRange 1 bytes
InRange comps (segment.Plm bytes) = BytesInRange 1 bytes
InRange comps (segment.Tlm bytes) = BytesInRange 2 bytes
InRange comps (segment.Ppm index bytes) = PackedInRange index bytes
InRange comps (segment.Ppt index bytes) = PackedInRange index bytes
InRange comps (segment.Sot sot) = SotInRange sot
InRange comps segment.Sod = Unit {0}
InRange comps segment.Eoc = Unit {0}
InRange comps (segment.Skipped code) = (48 ≤ code) × (code ≤ 63)
