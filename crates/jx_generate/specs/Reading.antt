-- The stream that is read from a made file: its headers, and its one tile.
use Rattle.std.specs.Prelude.{ℕ, false, None, [], ◌∷◌}
use Rattle.jx_marker.specs.declared.Progression.{Progression}
use Rattle.jx_codestream.specs.declared.Stream.{Stream}
use Rattle.jx_codestream.specs.declared.Tile.{Tile}
use Rattle.jx_generate.specs.Headers.{main_made, siz_made}

-- B.12: one entry, of the order LRCP, covers all
abbrev pub entry_made : Progression
entry_made = record { rs = 0; cs = 0; lye = 12; re = 33; ce = 0; order = 0 }

-- SOT stands at 110, and the tile data, of so many bytes, at 124
abbrev pub tile_made : ℕ → Tile
tile_made size = record { place = 110; header = []; notes = []; has_plt = false; progressions = entry_made ∷ []; heads = None; bodies = record { at = 124; length = size } ∷ [] }

unfoldable pub stream_made : ℕ → ℕ → ℕ → Stream
stream_made w h size = record { siz = siz_made w h; main = main_made; tiles = tile_made size ∷ [] }
