-- The line of a fact: its name, of what it is told, a colon and its value.
use Rattle.std.specs.Prelude.{ℕ, ◌/◌, ◌%◌, ◌==◌, Bool, List, [], ◌∷◌, ◌++◌, Option, None, Some, codes, if◌then◌else◌, unwrap_or}
use Rattle.std.specs.List.{flat_map}
use Rattle.std.specs.Fmt.{decimal}
use Rattle.jx_base.specs.Passes.{bypasses, resets, terminates, is_causal, has_symbols}
use Rattle.jx_marker.specs.declared.Progression.{Progression}
use Rattle.jx_options.specs.Orders.{order_name}
use Rattle.jx_show.specs.declared.fact.About.{About}
use Rattle.jx_show.specs.declared.fact.Fact.{Fact}
use Rattle.jx_show.specs.declared.fact.Name.{Name}
use Rattle.jx_show.specs.declared.fact.Name.TheVariants as name
use Rattle.jx_show.specs.declared.fact.Value.{Value}
use Rattle.jx_show.specs.declared.fact.Value.TheVariants as value
use Rattle.jx_show.specs.declared.fact.Word.{Word}
use Rattle.jx_show.specs.declared.fact.Word.TheVariants as word
use Rattle.jx_show.specs.Facts.{side_of}

unfoldable pub name_text : Name → List ℕ
name_text name.Profile = codes "profile"
name_text name.Size = codes "size"
name_text name.Offset = codes "offset"
name_text name.TileSize = codes "tile size"
name_text name.TileOffset = codes "tile offset"
name_text name.Tiles = codes "tiles"
name_text name.Components = codes "components"
name_text name.Depth = codes "depth"
name_text name.Sign = codes "sign"
name_text name.Sampling = codes "sampling"
name_text name.Order = codes "order"
name_text name.Layers = codes "layers"
name_text name.Transform = codes "component transform"
name_text name.Sop = codes "SOP"
name_text name.Eph = codes "EPH"
name_text name.Levels = codes "levels"
name_text name.Wavelet = codes "wavelet"
name_text name.BlockSize = codes "code-block size"
name_text name.BlockStyle = codes "code-block style"
name_text name.Precincts = codes "precincts"
name_text name.Quantization = codes "quantization"
name_text name.Guard = codes "guard bits"
name_text name.Region = codes "region shift"
name_text name.Progression = codes "progression"
name_text name.Packets = codes "packets"
name_text name.Blocks = codes "code-blocks"
name_text name.Bytes = codes "coded bytes"
name_text name.TileParts = codes "tile-parts"
name_text name.Plt = codes "PLT"
name_text name.Plm = codes "PLM"
name_text name.Ppm = codes "PPM"
name_text name.Ppt = codes "PPT"
name_text name.Tlm = codes "TLM"
name_text name.Comments = codes "comments"

-- what the progression order of a number is called (Table A.16)
abbrev pub order_called : ℕ → List ℕ
order_called number = unwrap_or (order_name number) (codes "reserved")

unfoldable pub word_text : Word → List ℕ
word_text word.Unsigned = codes "unsigned"
word_text word.Signed = codes "signed"
word_text (word.Order number) = order_called number
word_text word.Irreversible = codes "9-7 irreversible"
word_text word.Reversible = codes "5-3 reversible"
word_text word.Nothing = codes "none"
word_text word.Derived = codes "scalar derived"
word_text word.Expounded = codes "scalar expounded"

-- of what a fact is told: words and a number for each part that is named
abbrev pub part_text : List ℕ → Option ℕ → List ℕ
part_text words None = []
part_text words (Some n) = words ++ decimal n

abbrev pub about_text : About → List ℕ
about_text a = part_text (codes " ") a.number ++ (part_text (codes " of component ") a.comp ++ part_text (codes " of tile ") a.tile)

-- bit 4 of a style: predictable termination (D.4.2)
abbrev pub is_predictable : ℕ → Bool
is_predictable style = style / 16 % 2 == 1

abbrev pub told : Bool → List ℕ → List ℕ
told holds words = if holds then words else []

-- the names of the bits of a code-block style that are set (Table A.19)
abbrev pub style_text : ℕ → List ℕ
style_text bits =
    told (bits % 64 == 0) (codes " none") ++ (told (bypasses bits) (codes " bypass") ++ (told (resets bits) (codes " reset") ++ (told (terminates bits) (codes " terminate")
    ++ (told (is_causal bits) (codes " causal") ++ (told (is_predictable bits) (codes " predictable") ++ told (has_symbols bits) (codes " segment"))))))

-- a progression's components from one on, and below an end, where it isn't 0 for all (A.6.6)
abbrev pub comps_text : ℕ → ℕ → List ℕ
comps_text from end =
    if end == 0 then codes ", components from " ++ decimal from else
    codes ", components from " ++ (decimal from ++ (codes " below " ++ decimal end))

-- its order, layers and resolutions
abbrev pub order_text : List ℕ → Progression → List ℕ
order_text order e =
    codes " " ++ (order ++ (codes ", layers below " ++ (decimal e.lye ++ (codes ", resolutions from " ++ (decimal e.rs ++ (codes " below " ++ decimal e.re))))))

abbrev pub entry_text : Progression → List ℕ
entry_text e = order_text (order_called e.order) e ++ comps_text e.cs e.ce

unfoldable pub value_text : Value → List ℕ
value_text (value.Count n) = codes " " ++ decimal n
value_text (value.Size columns rows) = codes " " ++ (decimal columns ++ (codes " x " ++ decimal rows))
value_text (value.Place column row) = codes " " ++ (decimal column ++ (codes ", " ++ decimal row))
value_text (value.Holds holds) = if holds then codes " yes" else codes " no"
value_text (value.Word w) = codes " " ++ word_text w
value_text (value.Style style) = style_text style.bits
value_text (value.Entry e) = entry_text e

unfoldable pub fact_text : Fact → List ℕ
fact_text f = name_text f.name ++ (about_text f.about ++ (codes ":" ++ (value_text f.value ++ codes "\n")))

-- columns and rows of a precinct (Table A.21)
unfoldable pub size_text : ℕ → List ℕ
size_text byte = decimal (side_of (byte % 16)) ++ (codes " x " ++ decimal (side_of (byte / 16)))

abbrev pub next_size : ℕ → List ℕ
next_size byte = codes ", " ++ size_text byte

unfoldable pub sizes_text : List ℕ → List ℕ
sizes_text [] = []
sizes_text (byte ∷ bytes) = size_text byte ++ flat_map next_size bytes

-- the line of precincts: one size of all resolutions, or that of each from resolution 0 on
unfoldable pub precincts_text : About → List ℕ → List ℕ
precincts_text a bytes = codes "precincts" ++ (about_text a ++ (codes ": " ++ (sizes_text bytes ++ codes "\n")))
