-- The progression orders of a tile whose tile-parts have POC of their own (T.800, A.6.6).
use Rattle.std.specs.Prelude.{◌==◌, ◌&&◌, Bool, true, false, List, [], ◌∷◌, if◌then◌else◌}
use Rattle.jx_marker.specs.declared.Progression.{Progression}
use Rattle.jx_marker.specs.declared.Segment.{Segment}
use Rattle.jx_codestream.specs.declared.Tile.{Tile}
use Rattle.jx_codestream.specs.Headers.{cod_slot}
use Rattle.jx_codestream.specs.Tiles.{entries_joined, entry_in, in_slot, or_list}

abbrev pub same_entry : Progression → Progression → Bool
same_entry a b = (a.rs == b.rs && (a.cs == b.cs && a.lye == b.lye)) && (a.re == b.re && (a.ce == b.ce && a.order == b.order))

abbrev pub same_entries : List Progression → List Progression → Bool
same_entries [] [] = true
same_entries (a ∷ more) (b ∷ others) = same_entry a b && same_entries more others
same_entries _ _ = false

-- the entries of a tile where no POC of its own gives them: those of the main header's POC, else the one of its COD, else of the main COD
abbrev pub given_entries : List Segment → List Segment → List Progression
given_entries main header = or_list (entries_joined main) (or_list (entry_in (in_slot cod_slot header)) (entry_in (in_slot cod_slot main)))

-- a tile's entries where they are others
abbrev pub own_entries : List Segment → Tile → List Progression
own_entries main tile = if same_entries tile.progressions (given_entries main tile.header) then [] else tile.progressions
