-- Facts as members of a JSON object (RFC 8259): a member's name is the text that stands before the colon of the fact's line. No name and no
-- text in a value has a quotation mark, a backslash or a control character, so that each stands for itself.
use Rattle.std.specs.Prelude.{ℕ, ◌==◌, ◌/◌, ◌%◌, [], ◌∷◌, Bool, List, ◌++◌, codes, if◌then◌else◌}
use Rattle.std.specs.List.{flat_map}
use Rattle.std.specs.Fmt.{decimal}
use Rattle.jx_base.specs.Passes.{bypasses, resets, terminates, is_causal, has_symbols}
use Rattle.jx_marker.specs.declared.Progression.{Progression}
use Rattle.jx_show.specs.declared.fact.About.{About}
use Rattle.jx_show.specs.declared.fact.Fact.{Fact}
use Rattle.jx_show.specs.declared.fact.Value.{Value}
use Rattle.jx_show.specs.declared.fact.Value.TheVariants as value
use Rattle.jx_show.specs.Facts.{side_of}
use Rattle.jx_show.specs.Text.{about_text, is_predictable, name_text, order_called, word_text}

unfoldable pub pair_json : ℕ → ℕ → List ℕ
pair_json a b = codes "[" ++ (decimal a ++ (codes ", " ++ (decimal b ++ codes "]")))

abbrev pub holds_json : Bool → List ℕ
holds_json holds = if holds then codes "true" else codes "false"

unfoldable pub word_json : List ℕ → List ℕ
word_json word = codes "\"" ++ (word ++ codes "\"")

unfoldable pub flag_json : List ℕ → Bool → List ℕ
flag_json words holds = words ++ holds_json holds

-- the bits of a code-block style (Table A.19)
abbrev pub style_json : ℕ → List ℕ
style_json bits =
    flag_json (codes "{\"bypass\": ") (bypasses bits) ++ (flag_json (codes ", \"reset\": ") (resets bits) ++ (flag_json (codes ", \"terminate\": ") (terminates bits)
    ++ (flag_json (codes ", \"causal\": ") (is_causal bits) ++ (flag_json (codes ", \"predictable\": ") (is_predictable bits)
    ++ (flag_json (codes ", \"segment\": ") (has_symbols bits) ++ codes "}")))))

-- a progression's components from one on, and below an end, where it isn't 0 for all (A.6.6)
abbrev pub comps_json : ℕ → ℕ → List ℕ
comps_json from end = if end == 0 then codes "[" ++ (decimal from ++ codes "]") else pair_json from end

unfoldable pub layers_json : ℕ → List ℕ
layers_json layers = codes ", \"layers\": " ++ (decimal layers ++ codes ", \"resolutions\": ")

-- its order, layers and resolutions
abbrev pub order_json : List ℕ → Progression → List ℕ
order_json order e = codes "{\"order\": " ++ (word_json order ++ (layers_json e.lye ++ pair_json e.rs e.re))

abbrev pub entry_json : Progression → List ℕ
entry_json e = order_json (order_called e.order) e ++ (codes ", \"components\": " ++ (comps_json e.cs e.ce ++ codes "}"))

unfoldable pub value_json : Value → List ℕ
value_json (value.Count n) = decimal n
value_json (value.Size columns rows) = pair_json columns rows
value_json (value.Place column row) = pair_json column row
value_json (value.Holds holds) = holds_json holds
value_json (value.Word w) = word_json (word_text w)
value_json (value.Style style) = style_json style.bits
value_json (value.Entry e) = entry_json e

unfoldable pub fact_json : Fact → List ℕ
fact_json f = codes ",\n  \"" ++ (name_text f.name ++ (about_text f.about ++ (codes "\": " ++ value_json f.value)))

-- columns and rows of a precinct (Table A.21)
unfoldable pub size_json : ℕ → List ℕ
size_json byte = pair_json (side_of (byte % 16)) (side_of (byte / 16))

abbrev pub next_size_json : ℕ → List ℕ
next_size_json byte = codes ", " ++ size_json byte

unfoldable pub sizes_json : List ℕ → List ℕ
sizes_json [] = []
sizes_json (byte ∷ bytes) = size_json byte ++ flat_map next_size_json bytes

-- the member of precincts: a list of one size of all resolutions, or of that of each from resolution 0 on
unfoldable pub precincts_json : About → List ℕ → List ℕ
precincts_json a bytes = codes ",\n  \"precincts" ++ (about_text a ++ (codes "\": [" ++ (sizes_json bytes ++ codes "]")))
