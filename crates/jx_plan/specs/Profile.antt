-- What profile a written file may claim by Rsiz (ITU-T T.800, A.5.1, Table A.10): none, 0; or 3 or 4, those of 2K and 4K digital cinema (T.800's first amendment), where
-- what is written has all of it.
use Rattle.std.specs.Prelude.{ℕ, ◌+◌, ◌/◌, ◌==◌, ◌&&◌, not, nat_le, Bool, true, false, List, [], ◌∷◌, length, Option, None, Some, if◌then◌else◌}
use Rattle.std.specs.List.{list_all, list_any}
use Rattle.jx_marker.specs.declared.Cod.{Cod}
use Rattle.jx_marker.specs.declared.CompSize.{CompSize}
use Rattle.jx_marker.specs.declared.Progression.{Progression}
use Rattle.jx_marker.specs.declared.Segment.{Segment}
use Rattle.jx_marker.specs.declared.Segment.TheVariants as segment
use Rattle.jx_marker.specs.declared.Shape.{Shape}
use Rattle.jx_marker.specs.declared.Siz.{Siz}
use Rattle.jx_codestream.specs.declared.Stream.{Stream}
use Rattle.jx_codestream.specs.First.{tile_number}
use Rattle.jx_codestream.specs.Headers.{cod_slot}
use Rattle.jx_codestream.specs.Tiles.{in_slot}
use Rattle.jx_codestream.specs.Params.{header_of}
use Rattle.jx_options.specs.declared.Marks.{Marks}
use Rattle.jx_options.specs.declared.PartChoice.{PartChoice}
use Rattle.jx_options.specs.declared.PartChoice.TheVariants as part
use Rattle.jx_plan.specs.Changes.{is_poc}
use Rattle.jx_plan.specs.declared.profile.Cinema.{Cinema}
use Rattle.jx_plan.specs.declared.profile.Cinema.TheVariants as cinema
use Rattle.jx_plan.specs.declared.profile.Demand.{Demand}
use Rattle.jx_plan.specs.declared.profile.Demand.TheVariants as demand

-- 1: Xsiz and Ysiz
abbrev pub is_small : Cinema → Siz → Bool
is_small cinema.TwoK siz = nat_le siz.x1 2048 && nat_le siz.y1 1080
is_small cinema.FourK siz = nat_le siz.x1 4096 && nat_le siz.y1 2160

-- 2: XOsiz, YOsiz, XTOsiz and YTOsiz
abbrev pub has_no_offset : Siz → Bool
has_no_offset siz = siz.x0 == 0 && (siz.y0 == 0 && (siz.tx == 0 && siz.ty == 0))

-- 4: three components without subsampling, of 12 bits without a sign
abbrev pub is_full : CompSize → Bool
is_full c = c.ssiz == 11 && (c.dx == 1 && c.dy == 1)

abbrev pub are_full : List CompSize → Bool
are_full comps = length comps == 3 && list_all is_full comps

-- 9: a byte for each resolution: 7 and 7 for the lowest, 8 and 8 for those above
abbrev pub are_squares : List ℕ → Bool
are_squares [] = false
are_squares (byte ∷ bytes) = byte == 119 && list_all (λ (b : ℕ). b == 136) bytes

-- 7, 8, 9, 12 and 13: code-blocks of 32 by 32; no style; the precincts; so many levels; the 9-7 wavelet
abbrev pub shape_meets : Demand → Shape → Bool
shape_meets demand.Blocks shape = shape.xcb == 5 && shape.ycb == 5
shape_meets demand.Style shape = shape.style == 0
shape_meets demand.Precincts shape = are_squares shape.precincts
shape_meets (demand.Levels levels) shape = shape.levels == levels
shape_meets demand.Wavelet shape = shape.wavelet == 0
shape_meets _ shape = true

-- 10 and 11: the order CPRL; one layer
abbrev pub cod_meets : Demand → Cod → Bool
cod_meets demand.Order cod = cod.order == 4
cod_meets demand.Layers cod = cod.layers == 1
cod_meets t cod = shape_meets t cod.shape

-- 14: so many guard bits, in the top three bits of Sqcd
abbrev pub guard_meets : Demand → ℕ → Bool
guard_meets (demand.Guard bits) sqcd = sqcd / 32 == bits
guard_meets _ sqcd = true

-- no segment of a kind: 5 of RGN; 10 of POC
abbrev pub lacks_region : Demand → Bool
lacks_region demand.Region = false
lacks_region _ = true

-- 10 of 4K: two volumes, of the resolutions below the highest and of the highest, in the order CPRL
abbrev pub is_volume : ℕ → ℕ → Progression → Bool
is_volume rs re e = e.rs == rs && (e.re == re && (e.cs == 0 && (e.lye == 1 && (e.ce == 3 && e.order == 4))))

abbrev pub are_volumes : ℕ → List Progression → Bool
are_volumes levels (low ∷ high ∷ []) = is_volume 0 levels low && is_volume levels (levels + 1) high
are_volumes levels _ = false

abbrev pub changes_meet : Demand → List Progression → Bool
changes_meet demand.Order entries = false
changes_meet (demand.Volumes levels) entries = are_volumes levels entries
changes_meet _ entries = true

abbrev pub meets : Demand → Segment → Bool
meets t (segment.Cod cod) = cod_meets t cod
meets t (segment.Coc comp shape) = shape_meets t shape
meets t (segment.Qcd quant) = guard_meets t quant.sqcd
meets t (segment.Qcc comp quant) = guard_meets t quant.sqcd
meets t (segment.Rgn comp shift) = lacks_region t
meets t (segment.Poc entries) = changes_meet t entries
meets t _ = true

-- of both headers
abbrev pub all_meet : Demand → Stream → Bool
all_meet t s = list_all (meets t) s.main && list_all (meets t) (header_of s 0)

-- 6: COD, COC, QCD and QCC, which the tile's header has none of
abbrev pub is_parameter : Segment → Bool
is_parameter (segment.Cod cod) = true
is_parameter (segment.Coc comp shape) = true
is_parameter (segment.Qcd quant) = true
is_parameter (segment.Qcc comp quant) = true
is_parameter _ = false

-- 15: a tile-part for each component of each volume; in one layer and the order CPRL no other choice gives three of one, six of two
abbrev pub by_component : PartChoice → Bool
by_component part.Component = true
by_component _ = false

-- the levels of a main header's COD
abbrev pub levels_in : Option Segment → ℕ
levels_in (Some (segment.Cod cod)) = cod.shape.levels
levels_in _ = 0

abbrev pub main_levels : Stream → ℕ
main_levels s = levels_in (in_slot cod_slot s.main)

-- 10 of 4K: POC in the main header, of the two volumes, and no other
abbrev pub has_volumes : Stream → Bool
has_volumes s = list_any is_poc s.main && (not (list_any is_poc (header_of s 0)) && all_meet (demand.Volumes (main_levels s)) s)

-- 10: the order CPRL and no POC, or for 4K these volumes
abbrev pub is_ordered : Cinema → Stream → Bool
is_ordered cinema.TwoK s = all_meet demand.Order s
is_ordered cinema.FourK s = has_volumes s

-- 12: at most five levels, or one to six, the same for each component
abbrev pub has_levels : Cinema → ℕ → Bool
has_levels cinema.TwoK levels = nat_le levels 5
has_levels cinema.FourK levels = nat_le 1 levels && nat_le levels 6

abbrev pub levels_meet : Cinema → Stream → Bool
levels_meet k s = has_levels k (main_levels s) && all_meet (demand.Levels (main_levels s)) s

-- 14: one guard bit, or two
abbrev pub guard_bits : Cinema → ℕ
guard_bits cinema.TwoK = 1
guard_bits cinema.FourK = 2

abbrev pub guards_meet : Cinema → Stream → Bool
guards_meet k s = all_meet (demand.Guard (guard_bits k)) s

-- the conditions of profile 3 or 4 in their order, 1 to 16; 17, that no packet header stands apart (PPM, PPT: A.7.4, A.7.5), holds of every written file
unfoldable pub conditions : Cinema → Marks → Stream → List Bool
conditions k m s =
    is_small k s.siz ∷ has_no_offset s.siz ∷ (tile_number s.siz == 1) ∷ are_full s.siz.comps ∷ all_meet demand.Region s ∷ not (list_any is_parameter (header_of s 0))
    ∷ all_meet demand.Blocks s ∷ all_meet demand.Style s ∷ all_meet demand.Precincts s ∷ is_ordered k s ∷ all_meet demand.Layers s
    ∷ levels_meet k s ∷ all_meet demand.Wavelet s ∷ guards_meet k s
    ∷ by_component m.parts ∷ m.tlm ∷ []

-- the number of the first that fails, from a number on
abbrev pub first_failed : ℕ → List Bool → Option ℕ
first_failed n [] = None
first_failed n (true ∷ met) = first_failed (n + 1) met
first_failed n (false ∷ met) = Some n

abbrev pub first_unmet : Cinema → Marks → Stream → Option ℕ
first_unmet k m s = first_failed 1 (conditions k m s)

-- choice 11: the first condition of profile 3 or 4 that fails, or 0 for a value whose conditions aren't known here
unfoldable pub unclaimed : Marks → Stream → Option ℕ
unclaimed m s =
    if s.siz.rsiz == 0 then None
    else (if s.siz.rsiz == 3 then first_unmet cinema.TwoK m s else (if s.siz.rsiz == 4 then first_unmet cinema.FourK m s else Some 0))
