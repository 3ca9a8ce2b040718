-- The headers of the file that is written, as a stream without tile data: Rsiz is 0, or kept where that is asked; PLT, PLM, TLM, PPM, PPT
-- and skipped markers are left out; POC is left out, kept, or made of volumes as asked; COD announces SOP and EPH as asked and has the
-- order and the number of layers that are written; COD and COC have the precincts and the style that are asked; a tile's first header
-- takes the COM segments of its later ones; all else is kept (ITU-T T.800, A.4 to A.9).
use Rattle.std.specs.Prelude.{◌≡◌, ◌⊎◌, ◌≤◌, ◌<◌, ◌^◌, ℕ, ◌+◌, ◌-◌, min, Bool, true, false, List, [], ◌∷◌, ◌++◌, drop, length, map, take, Option, None, Some, IfSome, slice_index_or}
use Rattle.std.specs.List.{filter, range_with_len}
use Rattle.jx_base.specs.declared.style.Style.{Style}
use Rattle.jx_base.specs.OrderNumbers.{IsOrderNumber}
use Rattle.jx_geom.specs.declared.shape.CompShape.{CompShape}
use Rattle.jx_marker.specs.Ranges.{AreBytes}
use Rattle.jx_marker.specs.declared.Shape.{Shape}
use Rattle.jx_marker.specs.declared.Segment.{Segment}
use Rattle.jx_marker.specs.declared.Segment.TheVariants as segment
use Rattle.jx_marker.specs.declared.Cod.{Cod}
use Rattle.jx_marker.specs.declared.Progression.{Progression}
use Rattle.jx_options.specs.Volumes.{AreVolumes}
use Rattle.jx_options.specs.Wanted.{Wanted}
use Rattle.jx_options.specs.declared.RsizChoice.{RsizChoice}
use Rattle.jx_options.specs.declared.RsizChoice.TheVariants as rsiz
use Rattle.jx_codestream.specs.declared.Tile.{Tile}
use Rattle.jx_codestream.specs.declared.Stream.{Stream}
use Rattle.jx_codestream.specs.declared.Params.{Params}
use Rattle.jx_codestream.specs.Params.{precincts_of}
use Rattle.jx_plan.specs.Changes.{MainOrder, coding_end, entries_by, entry_kept, keeps_changes, main_order, poc_of, tile_entries, volumes_written, with_entries}

-- what is asked of the headers: what is wanted, and the number of layers that a planner makes of its words
pub record HeaderOptions : Type 0 where
  pub wanted : Wanted
  pub layers : ℕ

abbrev pub with_layers : Wanted → ℕ → HeaderOptions
with_layers w layers = record { wanted = w; layers = layers }

pub record MayBeInHeaders (a : HeaderOptions) : Type 0 where
  pub some : 1 ≤ a.layers
  pub few : a.layers < 2 ^ 16
  pub order : IfSome a.wanted.order IsOrderNumber
  pub changes : IfSome a.wanted.changes (λ entries. (entries ≡ []) ⊎ AreVolumes entries)
  pub bytes : IfSome a.wanted.precincts AreBytes
  pub style : IfSome a.wanted.style (λ (style : Style). style.bits < 64)

-- the byte of a resolution in a list, of which the last item stands for all above
abbrev pub item_at : List ℕ → ℕ → ℕ
item_at items r = slice_index_or items (min r (length items - 1)) 0

-- Table A.15: a byte for each resolution, or none where every exponent is 15
abbrev pub bytes_for : List ℕ → ℕ → List ℕ
bytes_for [] levels = []
bytes_for (item ∷ items) levels = map (item_at (item ∷ items)) (range_with_len 0 (levels + 1))

abbrev pub precincts_written : Option (List ℕ) → Shape → List ℕ
precincts_written None shape = shape.precincts
precincts_written (Some items) shape = bytes_for items shape.levels

-- the style that is asked, else the one that is there
abbrev pub style_written : Option Style → Style → Style
style_written None style = style
style_written (Some new) style = new

abbrev pub shape_written : Option (List ℕ) → Option Style → Shape → Shape
shape_written precincts style shape = record shape {
  style = (style_written style (record { bits = shape.style })).bits;
  precincts = precincts_written precincts shape;
}

-- an order that is asked, else the one that is there
abbrev pub order_written : Option ℕ → ℕ → ℕ
order_written None order = order
order_written (Some new) order = new

abbrev pub cod_written : HeaderOptions → Cod → Cod
cod_written a cod = record cod { sop = a.wanted.marks.sop; eph = a.wanted.marks.eph; order = order_written a.wanted.order cod.order; layers = a.layers; shape = shape_written a.wanted.precincts a.wanted.style cod.shape }

abbrev pub written : HeaderOptions → Segment → Segment
written a (segment.Cod cod) = segment.Cod (cod_written a cod)
written a (segment.Coc comp shape) = segment.Coc comp (shape_written a.wanted.precincts a.wanted.style shape)
written a (segment.Poc entries) = segment.Poc (map entry_kept entries)
written a s = s

abbrev pub is_written : Option (List Progression) → Segment → Bool
is_written changes (segment.Poc entries) = keeps_changes changes
is_written changes (segment.Plt bytes) = false
is_written changes (segment.Plm bytes) = false
is_written changes (segment.Tlm bytes) = false
is_written changes (segment.Ppm index bytes) = false
is_written changes (segment.Ppt index bytes) = false
is_written changes (segment.Skipped code) = false
is_written changes _ = true

-- the segments of a header in their order
abbrev pub all_written : HeaderOptions → List Segment → List Segment
all_written a segments = map (written a) (filter (is_written a.wanted.changes) segments)

-- the main header of a picture of so many components, with the volumes that are asked behind its last COD or COC
abbrev pub main_written : HeaderOptions → ℕ → List Segment → List Segment
main_written a comps main =
    all_written a (take (coding_end main) main) ++ (poc_of (volumes_written comps a.wanted.changes) ++ all_written a (drop (coding_end main) main))

-- the header of a tile's first tile-part, up to PLT, where the main header that was read says this order
abbrev pub tile_header : HeaderOptions → ℕ → MainOrder → Tile → List Segment
tile_header a comps m t = with_entries (tile_entries comps a.wanted.changes m t) (all_written a t.header) ++ t.notes

-- a tile, of which the packets stand in the order that its header and the main header say that are written
abbrev pub tile_written : HeaderOptions → ℕ → MainOrder → MainOrder → Tile → Tile
tile_written a comps m n t = record {
  place = 0;
  header = tile_header a comps m t;
  notes = [];
  has_plt = false;
  progressions = entries_by n (tile_header a comps m t);
  heads = None;
  bodies = [];
}

-- what profile is claimed (A.5.1, Table A.10): none, or the input's
abbrev pub rsiz_written : RsizChoice → ℕ → ℕ
rsiz_written rsiz.Zero profile = 0
rsiz_written rsiz.Keep profile = profile

unfoldable pub stream_written : HeaderOptions → Stream → Stream
stream_written a s = record {
  siz = record s.siz { rsiz = rsiz_written a.wanted.rsiz s.siz.rsiz };
  main = main_written a (length s.siz.comps) s.main;
  tiles = map (tile_written a (length s.siz.comps) (main_order s.main) (main_order (main_written a (length s.siz.comps) s.main))) s.tiles;
}

-- what comes of the parameters of a tile-component: order, layers, the exponents of 33 resolutions, and style
abbrev pub exponents_written : Option (List ℕ) → ℕ → List ℕ → List ℕ
exponents_written None levels exponents = exponents
exponents_written (Some items) levels exponents = precincts_of (bytes_for items levels)

abbrev pub params_written : HeaderOptions → Params → Params
params_written a p = record p { order = order_written a.wanted.order p.order; layers = a.layers; precincts = exponents_written a.wanted.precincts p.levels p.precincts; style = style_written a.wanted.style p.style }

-- and of its shape
abbrev pub comp_written : Option (List ℕ) → CompShape → CompShape
comp_written precincts shape = record shape { precincts = exponents_written precincts shape.levels shape.precincts }
