-- Progression order changes as they are written (ITU-T T.800, A.6.6, Table A.32): none; volumes that are asked, in one POC of the main header; or
-- those of the input, in the main header's POC and in one POC of each tile that has its own.
use Rattle.std.specs.Prelude.{ℕ, suc, ◌-◌, ◌/◌, ◌==◌, ◌&&◌, ◌||◌, not, nat_lt, Bool, true, false, List, [], ◌∷◌, ◌++◌, length, map, take, Option, None, Some, if◌then◌else◌}
use Rattle.std.specs.List.{filter, list_any}
use Rattle.jx_marker.specs.declared.Progression.{Progression}
use Rattle.jx_marker.specs.declared.Segment.{Segment}
use Rattle.jx_marker.specs.declared.Segment.TheVariants as segment
use Rattle.jx_marker.specs.Markers.{progression_size}
use Rattle.jx_codestream.specs.Headers.{cod_slot}
use Rattle.jx_codestream.specs.Tiles.{entries_joined, entry_in, in_slot, or_list}
use Rattle.jx_codestream.specs.declared.Tile.{Tile}

abbrev pub is_poc : Segment → Bool
is_poc (segment.Poc entries) = true
is_poc _ = false

-- COD or COC
abbrev pub is_coding : Segment → Bool
is_coding (segment.Cod cod) = true
is_coding (segment.Coc comp shape) = true
is_coding _ = false

-- those of the input are kept
abbrev pub keeps_changes : Option (List Progression) → Bool
keeps_changes None = true
keeps_changes (Some entries) = false

-- ---- the order of a tile's packets that headers say (B.12): the entries of the tile's POC, else those of the main header's, else the one of
-- the tile's COD, else of the main COD
pub record MainOrder : Type 0 where
  pub joined : List Progression
  pub default : List Progression

abbrev pub main_order : List Segment → MainOrder
main_order main = record { joined = entries_joined main; default = entry_in (in_slot cod_slot main) }

abbrev pub entries_without : MainOrder → List Segment → List Progression
entries_without m header = or_list m.joined (or_list (entry_in (in_slot cod_slot header)) m.default)

abbrev pub entries_by : MainOrder → List Segment → List Progression
entries_by m header = or_list (entries_joined header) (entries_without m header)

-- ---- volumes that are asked

-- a volume begins below the number of components
abbrev pub has_comp : ℕ → Progression → Bool
has_comp comps e = nat_lt e.cs comps

-- its end is at most the number of components. CEpoc has 0 for 256 in one byte and for 16,384 in two (Table A.32).
abbrev pub end_written : ℕ → ℕ → ℕ
end_written comps ce = if nat_lt ce comps then ce else (if comps == 256 || comps == 16384 then 0 else comps)

abbrev pub volume_written : ℕ → Progression → Progression
volume_written comps e = record e { ce = end_written comps e.ce }

abbrev pub volumes_written : ℕ → Option (List Progression) → List Progression
volumes_written comps None = []
volumes_written comps (Some entries) = map (volume_written comps) (filter (has_comp comps) entries)

-- choice 12, its first cause: some volume begins above the components
abbrev pub has_outside : ℕ → Option (List Progression) → Bool
has_outside comps None = false
has_outside comps (Some entries) = list_any (λ (e : Progression). not (has_comp comps e)) entries

-- a POC of these entries, where there are some
abbrev pub poc_of : List Progression → List Segment
poc_of [] = []
poc_of (e ∷ entries) = segment.Poc (e ∷ entries) ∷ []

-- how many segments there are up to the last COD or COC
abbrev pub coding_end : List Segment → ℕ
coding_end [] = 0
coding_end (s ∷ more) = if list_any is_coding (s ∷ more) then suc (coding_end more) else 0

-- ---- a tile's own entries, where those of the input are kept

abbrev pub same_entry : Progression → Progression → Bool
same_entry e f = e.rs == f.rs && (e.cs == f.cs && (e.lye == f.lye && (e.re == f.re && (e.ce == f.ce && e.order == f.order))))

abbrev pub same_entries : List Progression → List Progression → Bool
same_entries [] [] = true
same_entries [] (f ∷ fs) = false
same_entries (e ∷ es) [] = false
same_entries (e ∷ es) (f ∷ fs) = same_entry e f && same_entries es fs

-- the joined entries of the tile's POC segments: there are some where its first header has one, and where its packets stand in another order
-- than the one that applies without
abbrev pub own_entries : MainOrder → Tile → List Progression
own_entries m t =
    if list_any is_poc t.header || not (same_entries t.progressions (entries_without m t.header)) then t.progressions else []

-- an entry that is kept: CEpoc has 0 for 16,384 (Table A.32)
abbrev pub entry_kept : Progression → Progression
entry_kept e = record e { ce = if e.ce == 16384 then 0 else e.ce }

-- as many as a POC segment holds: Lpoc has two bytes
abbrev pub most_entries : ℕ → ℕ
most_entries comps = (65535 - 2) / progression_size comps

-- choice 12: there are more
abbrev pub has_long : ℕ → Option (List Progression) → MainOrder → Tile → Bool
has_long comps None m t = nat_lt (most_entries comps) (length (own_entries m t))
has_long comps (Some entries) m t = false

abbrev pub tile_entries : ℕ → Option (List Progression) → MainOrder → Tile → List Progression
tile_entries comps None m t = map entry_kept (take (most_entries comps) (own_entries m t))
tile_entries comps (Some entries) m t = []

-- these entries where a header's POC stands, or else in one behind its segments
abbrev pub put_entries : List Progression → Segment → Segment
put_entries entries (segment.Poc own) = segment.Poc entries
put_entries entries s = s

abbrev pub with_entries : List Progression → List Segment → List Segment
with_entries [] header = header
with_entries (e ∷ entries) header =
    if list_any is_poc header then map (put_entries (e ∷ entries)) header else header ++ segment.Poc (e ∷ entries) ∷ []
