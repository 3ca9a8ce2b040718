-- The stream that stands in a file, and the first rule that the file violates or limit that it passes, by a walk from the
-- file's front: what the reader is proved by. The relations on the whole file, which retell no walk, are `Spells` and, for
-- the first violation, `IsFirst` of FirstViolated; the laws `first_is_told` and `told_is_first` say that both are one.
use Rattle.std.specs.Prelude.{ℕ, ◌+◌, ◌==◌, ◌&&◌, not, nat_lt, Bool, List, length, drop, Option, None, Some, if◌then◌else◌}
use Rattle.std.specs.List.{list_any, range_with_len}
use Rattle.std.specs.Option.{option_or}
use Rattle.jx_marker.specs.Codes.{SOC, SIZ}
use Rattle.jx_marker.specs.declared.Segment.{Segment}
use Rattle.jx_marker.specs.declared.Siz.{Siz}
use Rattle.jx_marker.specs.Rules.{first_broken}
use Rattle.jx_marker.specs.Segments.{size_at, body_at}
use Rattle.jx_marker.specs.Values.{siz_at}
use Rattle.jx_marker.specs.RuleNumbers.{NO_DEFAULTS, NO_PART, NO_SIZ, NO_SOC}
use Rattle.jx_geom.specs.declared.shape.Canvas.{Canvas}
use Rattle.jx_geom.specs.Counts.{tile_count}
use Rattle.jx_codestream.specs.declared.faults.StreamFault.{StreamFault}
use Rattle.jx_codestream.specs.declared.faults.StreamFault.TheVariants as fault
use Rattle.jx_codestream.specs.declared.headers.HeaderKind.TheVariants.{Main}
use Rattle.jx_codestream.specs.declared.headers.Header.{Header}
use Rattle.jx_codestream.specs.declared.parts.PlacedPart.{PlacedPart}
use Rattle.jx_codestream.specs.declared.Stream.{Stream}
use Rattle.jx_codestream.specs.Faults.{broken, rule_at}
use Rattle.jx_codestream.specs.Headers.{cod_slot, header_at, header_fault, has_packed, has_slot, qcd_slot}
use Rattle.jx_codestream.specs.declared.packed.PackedSegment.{PackedSegment}
use Rattle.jx_codestream.specs.PackedHeaders.{packed_from, shares_fault, with_shares}
use Rattle.jx_codestream.specs.Parts.{marker_at, parts_of, Parts, parts_from, parts_fault}
use Rattle.jx_codestream.specs.Tiles.{tiles_of}
use Rattle.jx_codestream.specs.Params.{entries_fault, planes_fault}

-- the canvas and the tiles of a SIZ
abbrev pub canvas_of : Siz → Canvas
canvas_of siz = record { x1 = siz.x1; y1 = siz.y1; x0 = siz.x0; y0 = siz.y0; tw = siz.tw; th = siz.th; tx = siz.tx; ty = siz.ty }

abbrev pub tile_number : Siz → ℕ
tile_number siz = tile_count (canvas_of siz)

-- the SIZ at 2, and where the main header goes on after it
abbrev pub siz_of : List ℕ → Siz
siz_of b = siz_at (body_at (drop 2 b))

abbrev pub after_siz : List ℕ → ℕ
after_siz b = 2 + size_at (drop 2 b)

-- rules 15 and 16, then those of SIZ
unfoldable pub front_fault : List ℕ → Option StreamFault
front_fault b = option_or (broken NO_SOC 0 (not (marker_at b 0 SOC))) (option_or (broken NO_SIZ 2 (not (marker_at b 2 SIZ))) (rule_at 2 (first_broken 1 (drop 2 b))))

-- limit 3: more than 65,535 tiles
unfoldable pub tiles_fault : Siz → Option StreamFault
tiles_fault siz = if nat_lt 65535 (tile_number siz) then Some (fault.Limit 3 (tile_number siz)) else None

-- rule 17: no COD or no QCD among these
abbrev pub lacks_default : List Segment → Bool
lacks_default main = not (has_slot cod_slot main && has_slot qcd_slot main)

-- the main header after SIZ, and where its first SOT stands
abbrev pub main_header : ℕ → List ℕ → ℕ → Header
main_header comps b start = header_at Main comps b start

unfoldable pub main_fault : ℕ → List ℕ → ℕ → Option StreamFault
main_fault comps b start =
    option_or (header_fault Main comps b start) (broken NO_DEFAULTS (main_header comps b start).end (lacks_default (main_header comps b start).segments))

-- the tile-parts after the main header
abbrev pub parts_after : ℕ → ℕ → List ℕ → ℕ → Parts
parts_after comps tiles b start = parts_from (has_packed (main_header comps b start).segments) comps tiles b (main_header comps b start).end

-- the PPM of the main header
abbrev pub packed_after : ℕ → List ℕ → ℕ → List PackedSegment
packed_after comps b start = packed_from comps start (main_header comps b start).segments

-- rule 24: a tile without a tile-part
abbrev pub lacks_part : List PlacedPart → ℕ → Bool
lacks_part parts tiles = list_any (λ (tile : ℕ). length (parts_of tile parts) == 0) (range_with_len 0 tiles)

-- what is violated up to EOC, and there: rule 24, then rule 37
unfoldable pub body_fault : ℕ → ℕ → List ℕ → ℕ → Option StreamFault
body_fault comps tiles b start =
    option_or (main_fault comps b start)
    (option_or (parts_fault (has_packed (main_header comps b start).segments) comps tiles b (main_header comps b start).end)
    (option_or (broken NO_PART (parts_after comps tiles b start).end (lacks_part (parts_after comps tiles b start).parts tiles))
    (shares_fault b (packed_after comps b start) (parts_after comps tiles b start).parts)))

-- the stream of this SIZ whose main header goes on at a place
unfoldable pub stream_from : Siz → List ℕ → ℕ → Stream
stream_from siz b start = record {
  siz = siz;
  main = (main_header (length siz.comps) b start).segments;
  tiles = tiles_of (main_header (length siz.comps) b start).segments
      (with_shares b (packed_after (length siz.comps) b start) (parts_after (length siz.comps) (tile_number siz) b start).parts) (tile_number siz);
}

-- what is violated or passed by the tiles of a stream: rule 9 for too few entries, then limit 4
abbrev pub parameters_fault : Stream → Option StreamFault
parameters_fault s = option_or (entries_fault s.main (length s.siz.comps) s.tiles) (planes_fault s.main (length s.siz.comps) s.tiles)

-- the first rule that is violated or limit that is passed after SIZ
unfoldable pub later_fault : Siz → List ℕ → ℕ → Option StreamFault
later_fault siz b start =
    option_or (tiles_fault siz) (option_or (body_fault (length siz.comps) (tile_number siz) b start) (parameters_fault (stream_from siz b start)))

-- the first rule that the file violates or limit that it passes
unfoldable pub first_fault : List ℕ → Option StreamFault
first_fault b = option_or (front_fault b) (later_fault (siz_of b) b (after_siz b))

-- the stream that stands in the file
abbrev pub stream_in : List ℕ → Stream
stream_in b = stream_from (siz_of b) b (after_siz b)
