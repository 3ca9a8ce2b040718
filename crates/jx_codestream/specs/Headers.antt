-- Headers: segments one after another, up to the SOT or SOD that ends them (T.800, A.3).
use Rattle.std.specs.Prelude.{◌≡◌, ◌<◌, ◌≤◌, ℕ, zero, suc, ◌+◌, ◌*◌, ◌%◌, ◌==◌, ◌&&◌, ◌||◌, not, nat_lt, Bool, true, false, List, [], ◌∷◌, ◌++◌, length, drop, Option, if◌then◌else◌, slice_index}
use Rattle.std.specs.List.{filter, list_any}
use Rattle.std.specs.Option.{option_or, is_some}
use Rattle.jx_marker.specs.declared.Segment.{Segment}
use Rattle.jx_marker.specs.declared.Segment.TheVariants as segment
use Rattle.jx_marker.specs.Rules.{first_broken}
use Rattle.jx_marker.specs.Segments.{segment_at, size_at}
use Rattle.jx_marker.specs.RuleNumbers.{MISPLACED, PACKED_HEADERS, TWICE}
use Rattle.jx_codestream.specs.declared.faults.StreamFault.{StreamFault}
use Rattle.jx_codestream.specs.declared.headers.HeaderKind.{HeaderKind}
use Rattle.jx_codestream.specs.declared.headers.HeaderKind.TheVariants.{Main, First, Later, PackedFirst, PackedLater}
use Rattle.jx_codestream.specs.declared.headers.Header.{Header}
use Rattle.jx_codestream.specs.Faults.{broken, rule_at}

-- the segment ends the header in which it stands
abbrev pub ends_header : Segment → Bool
ends_header (segment.Sot sot) = true
ends_header segment.Sod = true
ends_header _ = false

-- may stand in the main header after SIZ, or ends it (A.3, Table A.2)
abbrev pub stands_in_main : Segment → Bool
stands_in_main segment.Soc = false
stands_in_main (segment.Siz siz) = false
stands_in_main (segment.Plt bytes) = false
stands_in_main (segment.Ppt index bytes) = false
stands_in_main segment.Sod = false
stands_in_main segment.Eoc = false
stands_in_main _ = true

-- may stand in any tile-part's header, or ends it
abbrev pub stands_in_later : Segment → Bool
stands_in_later (segment.Poc entries) = true
stands_in_later (segment.Plt bytes) = true
stands_in_later (segment.Ppt index bytes) = true
stands_in_later (segment.Com bytes) = true
stands_in_later (segment.Skipped code) = true
stands_in_later segment.Sod = true
stands_in_later _ = false

-- may stand in the header of a tile's first tile-part alone
abbrev pub stands_in_first : Segment → Bool
stands_in_first (segment.Cod cod) = true
stands_in_first (segment.Coc comp shape) = true
stands_in_first (segment.Qcd quant) = true
stands_in_first (segment.Qcc comp quant) = true
stands_in_first (segment.Rgn comp shift) = true
stands_in_first _ = false

abbrev pub stands_in : HeaderKind → Segment → Bool
stands_in Main s = stands_in_main s
stands_in First s = stands_in_first s || stands_in_later s
stands_in Later s = stands_in_later s
stands_in PackedFirst s = stands_in_first s || stands_in_later s
stands_in PackedLater s = stands_in_later s

-- a tile-part's header, where the main header has a PPM
abbrev pub is_beside_ppm : HeaderKind → Bool
is_beside_ppm PackedFirst = true
is_beside_ppm PackedLater = true
is_beside_ppm _ = false

abbrev pub is_ppt : Segment → Bool
is_ppt (segment.Ppt index bytes) = true
is_ppt _ = false

-- what a stream holds of a tile-part's header: all segments but PPT, whose data are packet headers
abbrev pub without_ppt : List Segment → List Segment
without_ppt segments = filter (λ (s : Segment). not (is_ppt s)) segments

-- rule 14: a PPT, where the main header has a PPM (A.7.5)
abbrev pub is_packed_twice : HeaderKind → Segment → Bool
is_packed_twice kind s = is_beside_ppm kind && is_ppt s

-- a PPM, or a PPT: the first stands in main headers alone, the second in those of tile-parts (rule 19)
abbrev pub is_packed : Segment → Bool
is_packed (segment.Ppm index bytes) = true
is_packed (segment.Ppt index bytes) = true
is_packed _ = false

-- packet headers stand in this header
abbrev pub has_packed : List Segment → Bool
has_packed segments = list_any is_packed segments

-- a number for each kind of segment, or kind and component, that a header has once at most (rule 18); 0 for the others
abbrev pub other_slot : ℕ
other_slot = 0

abbrev pub cod_slot : ℕ
cod_slot = 1

abbrev pub qcd_slot : ℕ
qcd_slot = 2

abbrev pub poc_slot : ℕ
poc_slot = 3

abbrev pub crg_slot : ℕ
crg_slot = 4

-- of a PPM or a PPT by its index, a byte
abbrev pub packed_slot : ℕ → ℕ
packed_slot index = 5 + index % 256

abbrev pub last_packed_slot : ℕ
last_packed_slot = 260

abbrev pub coc_slot : ℕ → ℕ
coc_slot comp = 261 + 3 * comp

abbrev pub qcc_slot : ℕ → ℕ
qcc_slot comp = 262 + 3 * comp

abbrev pub rgn_slot : ℕ → ℕ
rgn_slot comp = 263 + 3 * comp

abbrev pub slot_of : Segment → ℕ
slot_of (segment.Cod cod) = cod_slot
slot_of (segment.Qcd quant) = qcd_slot
slot_of (segment.Poc entries) = poc_slot
slot_of (segment.Crg bytes) = crg_slot
slot_of (segment.Ppm index bytes) = packed_slot index
slot_of (segment.Ppt index bytes) = packed_slot index
slot_of (segment.Coc comp shape) = coc_slot comp
slot_of (segment.Qcc comp quant) = qcc_slot comp
slot_of (segment.Rgn comp shift) = rgn_slot comp
slot_of _ = other_slot

-- how many such numbers there are
abbrev pub slot_count : ℕ → ℕ
slot_count comps = 261 + 3 * comps

-- a segment of this kind, or kind and component, is among these
abbrev pub has_slot : ℕ → List Segment → Bool
has_slot slot segments = list_any (λ (s : Segment). slot_of s == slot) segments

-- rule 18: a second COD, QCD, POC or CRG, a second PPM or PPT of one index, or a second COC, QCC or RGN of one component
abbrev pub is_second : List Segment → Segment → Bool
is_second before s = nat_lt 0 (slot_of s) && has_slot (slot_of s) before

-- what is violated at a place of a header before rule 18 is tested. Rule 14 may stand behind rule 12, since a PPT has no
-- component
unfoldable pub early_fault : HeaderKind → ℕ → List ℕ → ℕ → Option StreamFault
early_fault kind comps b at = option_or (rule_at at (first_broken comps (drop at b)))
    (option_or (broken PACKED_HEADERS at (is_packed_twice kind (segment_at comps (drop at b))))
    (broken MISPLACED at (not (stands_in kind (segment_at comps (drop at b))))))

-- what is violated at a place of a header that has these segments before it: rules 1 to 13, then 14, 19 and 18
unfoldable pub segment_fault : HeaderKind → ℕ → List ℕ → List Segment → ℕ → Option StreamFault
segment_fault kind comps b before at = option_or (early_fault kind comps b at)
    (broken TWICE at (is_second before (segment_at comps (drop at b))))

-- the header ends at this place, or a rule is violated at it
unfoldable pub stops : HeaderKind → ℕ → List ℕ → List Segment → ℕ → Bool
stops kind comps b before at = is_some (segment_fault kind comps b before at) || ends_header (segment_at comps (drop at b))

-- these segments and those that stand after them one after another, n at most, up to a place where the header stops
unfoldable pub longest : HeaderKind → ℕ → List ℕ → ℕ → List Segment → ℕ → Header
longest kind comps b zero before at = record { segments = before; end = at }
longest kind comps b (suc n) before at =
    if stops kind comps b before at then record { segments = before; end = at }
    else longest kind comps b n (before ++ segment_at comps (drop at b) ∷ []) (at + size_at (drop at b))

-- the header from a place on, and where it stops
abbrev pub header_at : HeaderKind → ℕ → List ℕ → ℕ → Header
header_at kind comps b at = longest kind comps b (length b) [] at

-- what is violated where the header from a place on stops
abbrev pub header_fault : HeaderKind → ℕ → List ℕ → ℕ → Option StreamFault
header_fault kind comps b at =
    segment_fault kind comps b (header_at kind comps b at).segments (header_at kind comps b at).end

-- a table by slots that has the start of the header in those of its segments, and less in the others
pub record MarksSlots (start : ℕ) (before : List Segment) (seen : List ℕ) : Type 0 where
  pub each : (slot : ℕ) → 0 < slot → slot < length seen → (slice_index seen slot == start) ≡ has_slot slot before
  pub most : (slot : ℕ) → slice_index seen slot ≤ start
