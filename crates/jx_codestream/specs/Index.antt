-- A header's segments by their slots.
use Rattle.std.specs.Prelude.{◌≡◌, ◌<◌, ℕ, ◌-◌, ◌==◌, ◌||◌, nat_lt, Bool, true, false, List, length, Option, None, Some, if◌then◌else◌, slice_index, Vec}
use Rattle.std.specs.List.{slice_get, list_any}
use Rattle.jx_marker.specs.declared.Segment.{Segment}
use Rattle.jx_marker.specs.declared.Segment.TheVariants as segment
use Rattle.jx_codestream.specs.Headers.{cod_slot, last_packed_slot, qcd_slot, slot_of}
use Rattle.jx_codestream.specs.Tiles.{in_slot}

-- the segment before this number of places, or none for 0
abbrev pub entry_at : List Segment → ℕ → Option Segment
entry_at segments n = if n == 0 then None else slice_get segments (n - 1)

-- the table has for each slot the number after the place of its first segment, or 0
abbrev pub Indexes : List Segment → List ℕ → Type 0
Indexes segments table = (slot : ℕ) → slot < length table → entry_at segments (slice_index table slot) ≡ in_slot slot segments

-- the items that are held, or others where none are
abbrev pub held_or : {X Z : Type 0} → Option (Vec X Z) → List X → List X
held_or None others = others
held_or (Some held) others = held.items

-- a slot of the segments that give parameters: COD, QCD, COC, QCC, RGN
abbrev pub gives : ℕ → Bool
gives slot = (slot == cod_slot) || ((slot == qcd_slot) || nat_lt last_packed_slot slot)

-- some segment gives parameters
abbrev pub has_giving : List Segment → Bool
has_giving segments = list_any (λ (s : Segment). gives (slot_of s)) segments

-- a COD or a COC
abbrev pub gives_shape : Segment → Bool
gives_shape (segment.Cod cod) = true
gives_shape (segment.Coc comp shape) = true
gives_shape _ = false

abbrev pub has_shape : List Segment → Bool
has_shape segments = list_any gives_shape segments

-- the component of which a segment gives parameters
abbrev pub comp_named : Segment → Option ℕ
comp_named (segment.Coc comp shape) = Some comp
comp_named (segment.Qcc comp quant) = Some comp
comp_named (segment.Rgn comp shift) = Some comp
comp_named _ = None

abbrev pub is_comp : ℕ → Option ℕ → Bool
is_comp comp None = false
is_comp comp (Some named) = named == comp

-- some segment gives parameters of this component
abbrev pub has_named : ℕ → List Segment → Bool
has_named comp segments = list_any (λ (s : Segment). is_comp comp (comp_named s)) segments

-- a COD or a QCD
abbrev pub is_default : Segment → Bool
is_default (segment.Cod cod) = true
is_default (segment.Qcd quant) = true
is_default _ = false

abbrev pub has_default : List Segment → Bool
has_default segments = list_any is_default segments

-- a bare header has no segment that gives parameters
abbrev pub IsBare : List Segment → Type 0
IsBare segments = (slot : ℕ) → gives slot ≡ true → in_slot slot segments ≡ None
