-- The facts of a codestream in their order: those of SIZ (A.5.1), those of the main header's segments, totals, then what each tile's own
-- header says (ITU-T T.800, A.6). Of a tile or a component holds what names it, and else what names neither.
use Rattle.std.specs.Prelude.{ℕ, ◌+◌, ◌-◌, ◌/◌, ◌%◌, ◌^◌, ◌==◌, ◌&&◌, not, nat_lt, Bool, true, false, List, [], ◌∷◌, ◌++◌, length, min, sum_by, Option, None, Some, if◌then◌else◌}
use Rattle.std.specs.List.{filter, flat_map, list_all}
use Rattle.jx_base.specs.declared.pieces.Block.{Block}
use Rattle.jx_base.specs.Joined.{joined, sum_below}
use Rattle.jx_base.specs.Pieces.{bytes_in}
use Rattle.jx_marker.specs.declared.Cod.{Cod}
use Rattle.jx_marker.specs.declared.CompSize.{CompSize}
use Rattle.jx_marker.specs.declared.Progression.{Progression}
use Rattle.jx_marker.specs.declared.Quant.{Quant}
use Rattle.jx_marker.specs.declared.Segment.{Segment}
use Rattle.jx_marker.specs.declared.Segment.TheVariants as segment
use Rattle.jx_marker.specs.declared.Shape.{Shape}
use Rattle.jx_marker.specs.declared.Siz.{Siz}
use Rattle.jx_codestream.specs.declared.Body.{Body}
use Rattle.jx_codestream.specs.declared.Stream.{Stream}
use Rattle.jx_codestream.specs.First.{tile_number}
use Rattle.jx_codestream.specs.Params.{header_of}
use Rattle.jx_codestream.specs.Shapes.{size_in, tile_at}
use Rattle.jx_codestream.specs.Tiles.{entries_joined}
use Rattle.jx_tile.specs.Totals.{packet_total}
use Rattle.jx_show.specs.declared.counts.Mark.{Mark}
use Rattle.jx_show.specs.declared.counts.Mark.TheVariants as mark
use Rattle.jx_show.specs.declared.fact.About.{About}
use Rattle.jx_show.specs.declared.fact.Fact.{Fact}
use Rattle.jx_show.specs.declared.fact.Name.{Name}
use Rattle.jx_show.specs.declared.fact.Name.TheVariants as name
use Rattle.jx_show.specs.declared.fact.Value.{Value}
use Rattle.jx_show.specs.declared.fact.Value.TheVariants as value
use Rattle.jx_show.specs.declared.fact.Word.{Word}
use Rattle.jx_show.specs.declared.fact.Word.TheVariants as word
use Rattle.jx_show.specs.Orders.{own_entries}

-- what is stated: a fact, or the precincts of all resolutions by the bytes of COD or COC (Table A.21)
pub data Statement : Type 0 where
  One : Fact → Statement
  Precincts : About → List ℕ → Statement

abbrev pub fact : Name → About → Value → Statement
fact n a v = One (record { name = n; about = a; value = v })

-- of a tile, or of all tiles
abbrev pub of_tile : Option ℕ → About
of_tile t = record { number = None; comp = None; tile = t }

-- of a component there
abbrev pub of_comp : Option ℕ → ℕ → About
of_comp t c = record { number = None; comp = Some c; tile = t }

abbrev pub numbered : About → ℕ → About
numbered a n = record a { number = Some n }

abbrev pub kept : Bool → Statement → List Statement
kept holds f = if holds then f ∷ [] else []

-- ---- SIZ (A.5.1)
abbrev pub picture_facts : Siz → List Statement
picture_facts siz =
    fact name.Profile (of_tile None) (value.Count siz.rsiz)
    ∷ fact name.Size (of_tile None) (value.Size (siz.x1 - siz.x0) (siz.y1 - siz.y0))
    ∷ fact name.Offset (of_tile None) (value.Place siz.x0 siz.y0)
    ∷ fact name.TileSize (of_tile None) (value.Size siz.tw siz.th)
    ∷ fact name.TileOffset (of_tile None) (value.Place siz.tx siz.ty)
    ∷ fact name.Tiles (of_tile None) (value.Count (tile_number siz))
    ∷ fact name.Components (of_tile None) (value.Count (length siz.comps))
    ∷ []

-- Ssiz: the sign in the highest bit, the depth less 1 in the others (Table A.11)
abbrev pub depth_of : CompSize → ℕ
depth_of size = size.ssiz % 128 + 1

abbrev pub sign_word : ℕ → Word
sign_word ssiz = if ssiz / 128 == 0 then word.Unsigned else word.Signed

abbrev pub depth_fact : About → CompSize → Statement
depth_fact a size = fact name.Depth a (value.Count (depth_of size))

abbrev pub sign_fact : About → CompSize → Statement
sign_fact a size = fact name.Sign a (value.Word (sign_word size.ssiz))

abbrev pub sampling_fact : About → CompSize → Statement
sampling_fact a size = fact name.Sampling a (value.Size size.dx size.dy)

-- those of the first component, and those of another one in which it differs from the first
abbrev pub first_facts : CompSize → List Statement
first_facts size = depth_fact (of_tile None) size ∷ sign_fact (of_tile None) size ∷ sampling_fact (of_tile None) size ∷ []

unfoldable pub differing_facts : CompSize → ℕ → CompSize → List Statement
differing_facts first c size =
    kept (not (depth_of size == depth_of first)) (depth_fact (of_comp None c) size)
    ++ (kept (not (size.ssiz / 128 == first.ssiz / 128)) (sign_fact (of_comp None c) size)
    ++ kept (not (size.dx == first.dx && size.dy == first.dy)) (sampling_fact (of_comp None c) size))

abbrev pub comp_facts : Siz → ℕ → List Statement
comp_facts siz c = differing_facts (size_in siz 0) c (size_in siz c)

abbrev pub size_facts : Siz → List Statement
size_facts siz = first_facts (size_in siz 0) ++ joined (comp_facts siz) 0 (length siz.comps)

-- ---- headers (A.6)
-- the 9-7 wavelet is 0 (Table A.20)
abbrev pub wavelet_word : ℕ → Word
wavelet_word wavelet = if wavelet == 0 then word.Irreversible else word.Reversible

-- the low five bits of Sqcd (Table A.28)
abbrev pub quantization_word : ℕ → Word
quantization_word style = if style == 0 then word.Nothing else if style == 1 then word.Derived else word.Expounded

-- a side by its exponent, which is at most 15 (Tables A.18 and A.21)
abbrev pub side_of : ℕ → ℕ
side_of exponent = 2 ^ min exponent 15

-- the bytes that are stated: one where the precincts of all resolutions are alike, which are 15 and 15 where none stand (A.6.1)
unfoldable pub stated_precincts : List ℕ → List ℕ
stated_precincts [] = 255 ∷ []
stated_precincts (byte ∷ bytes) = if list_all (λ other. other == byte) bytes then byte ∷ [] else byte ∷ bytes

abbrev pub shape_facts : About → Shape → List Statement
shape_facts a shape =
    (fact name.Levels a (value.Count shape.levels)
    ∷ fact name.Wavelet a (value.Word (wavelet_word shape.wavelet))
    ∷ fact name.BlockSize a (value.Size (side_of shape.xcb) (side_of shape.ycb))
    ∷ fact name.BlockStyle a (value.Style (record { bits = shape.style }))
    ∷ [])
    ++ Precincts a (stated_precincts shape.precincts) ∷ []

-- the order is stated where no POC takes its place (A.6.6)
abbrev pub cod_facts : About → Bool → Cod → List Statement
cod_facts a ordered cod =
    kept ordered (fact name.Order a (value.Word (word.Order cod.order)))
    ++ (fact name.Layers a (value.Count cod.layers)
    ∷ fact name.Transform a (value.Holds (cod.transform == 1))
    ∷ fact name.Sop a (value.Holds cod.sop)
    ∷ fact name.Eph a (value.Holds cod.eph)
    ∷ [])

abbrev pub quant_facts : About → Quant → List Statement
quant_facts a quant =
    fact name.Quantization a (value.Word (quantization_word (quant.sqcd % 32)))
    ∷ fact name.Guard a (value.Count (quant.sqcd / 32))
    ∷ []

-- entries of POC from a number on (A.6.6)
abbrev pub entry_facts : About → ℕ → List Progression → List Statement
entry_facts a n [] = []
entry_facts a n (e ∷ entries) = fact name.Progression (numbered a n) (value.Entry e) ∷ entry_facts a (n + 1) entries

-- what a segment says of a tile, or of all
unfoldable pub segment_facts : Option ℕ → Bool → Segment → List Statement
segment_facts t ordered (segment.Cod cod) = cod_facts (of_tile t) ordered cod ++ shape_facts (of_tile t) cod.shape
segment_facts t ordered (segment.Qcd quant) = quant_facts (of_tile t) quant
segment_facts t ordered (segment.Coc c shape) = shape_facts (of_comp t c) shape
segment_facts t ordered (segment.Qcc c quant) = quant_facts (of_comp t c) quant
segment_facts t ordered (segment.Rgn c shift) = fact name.Region (of_comp t c) (value.Count shift) ∷ []
segment_facts t ordered _ = []

-- in which order the segments of a header are told
unfoldable pub topic_of : Segment → ℕ
topic_of (segment.Cod cod) = 0
topic_of (segment.Qcd quant) = 1
topic_of (segment.Coc c shape) = 2
topic_of (segment.Qcc c quant) = 3
topic_of (segment.Rgn c shift) = 4
topic_of _ = 5

abbrev pub facts_on : Option ℕ → Bool → ℕ → Segment → List Statement
facts_on t ordered topic s = if topic_of s == topic then segment_facts t ordered s else []

unfoldable pub topic_facts : Option ℕ → Bool → List Segment → ℕ → List Statement
topic_facts t ordered segments topic = flat_map (facts_on t ordered topic) segments

abbrev pub header_facts : Option ℕ → Bool → List Segment → List Statement
header_facts t ordered segments = joined (topic_facts t ordered segments) 0 5

-- ---- totals
abbrev pub is_marked : Mark → Segment → Bool
is_marked mark.Plm (segment.Plm bytes) = true
is_marked mark.Ppm (segment.Ppm index bytes) = true
is_marked mark.Tlm (segment.Tlm bytes) = true
is_marked mark.Com (segment.Com bytes) = true
is_marked _ _ = false

-- how many segments of a kind a header has
abbrev pub marked_in : Mark → List Segment → ℕ
marked_in m segments = length (filter (is_marked m) segments)

-- 1 for a tile with PLT in the header of one of its tile-parts (A.7.3)
abbrev pub lengths_of_tile : Stream → ℕ → ℕ
lengths_of_tile s t = if (tile_at s t).has_plt then 1 else 0

-- whether a tile's packet headers stand apart from its packets (A.7.4, A.7.5), and the tiles of which they do so in PPT: none where the
-- main header has as many PPM
abbrev pub packed_of_tile : Option (List Body) → ℕ
packed_of_tile None = 0
packed_of_tile (Some pieces) = 1

abbrev pub packed_at : Stream → ℕ → ℕ
packed_at s t = packed_of_tile (tile_at s t).heads

abbrev pub tiles_with_ppt : Stream → ℕ → ℕ
tiles_with_ppt s ppm = if nat_lt 0 ppm then 0 else sum_below (packed_at s) (tile_number s.siz)

abbrev pub comments_of_tile : Stream → ℕ → ℕ
comments_of_tile s t = marked_in mark.Com (tile_at s t).header + length (tile_at s t).notes

abbrev pub parts_of_tile : Stream → ℕ → ℕ
parts_of_tile s t = length (tile_at s t).bodies

-- the bytes of a block, and those that it has in a component
abbrev pub block_bytes : Block → ℕ
block_bytes b = bytes_in b.pieces

abbrev pub bytes_in_comp : ℕ → Block → ℕ
bytes_in_comp c b = if b.name.comp == c then block_bytes b else 0

abbrev pub count_fact : Name → ℕ → Statement
count_fact n count = fact n (of_tile None) (value.Count count)

abbrev pub stands_fact : Name → ℕ → Statement
stands_fact n count = fact n (of_tile None) (value.Holds (nat_lt 0 count))

abbrev pub total_facts : Stream → List Block → List Statement
total_facts s blocks =
    count_fact name.Packets (packet_total s)
    ∷ count_fact name.Blocks (length blocks)
    ∷ count_fact name.TileParts (parts_of_tile s 0)
    ∷ stands_fact name.Plt (sum_below (lengths_of_tile s) (tile_number s.siz))
    ∷ stands_fact name.Plm (marked_in mark.Plm s.main)
    ∷ stands_fact name.Ppm (marked_in mark.Ppm s.main)
    ∷ stands_fact name.Ppt (tiles_with_ppt s (marked_in mark.Ppm s.main))
    ∷ stands_fact name.Tlm (marked_in mark.Tlm s.main)
    ∷ count_fact name.Comments (marked_in mark.Com s.main + sum_below (comments_of_tile s) (tile_number s.siz))
    ∷ count_fact name.Bytes (sum_by block_bytes blocks)
    ∷ []

abbrev pub byte_facts : List Block → ℕ → List Statement
byte_facts blocks c = fact name.Bytes (of_comp None c) (value.Count (sum_by (bytes_in_comp c) blocks)) ∷ []

-- ---- what a tile says itself, its tile-parts where they aren't as many as the first tile's, and its own POC
-- POC of the main header takes the place of every COD's order, POC of a tile's own that of the tile's COD (A.6.6)
abbrev pub has_order : Stream → Bool
has_order s = length (entries_joined s.main) == 0

abbrev pub has_own_order : Stream → ℕ → Bool
has_own_order s t = has_order s && length (own_entries s.main (tile_at s t)) == 0

unfoldable pub tile_facts : Stream → ℕ → List Statement
tile_facts s t =
    kept (not (parts_of_tile s t == parts_of_tile s 0)) (fact name.TileParts (of_tile (Some t)) (value.Count (parts_of_tile s t)))
    ++ (header_facts (Some t) (has_own_order s t) (header_of s t) ++ entry_facts (of_tile (Some t)) 0 (own_entries s.main (tile_at s t)))

unfoldable pub facts_of : Stream → List Block → List Statement
facts_of s blocks =
    picture_facts s.siz ++ (size_facts s.siz ++ (header_facts None (has_order s) s.main ++ (entry_facts (of_tile None) 0 (entries_joined s.main)
    ++ (total_facts s blocks ++ (joined (byte_facts blocks) 0 (length s.siz.comps) ++ joined (tile_facts s) 0 (tile_number s.siz))))))
