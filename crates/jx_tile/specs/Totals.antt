-- How many code-blocks and packets a codestream has, and the limits on them.
use Rattle.std.specs.Prelude.{ℕ, ◌*◌, ◌^◌, nat_lt, Option}
use Rattle.std.specs.Option.{option_or}
use Rattle.jx_geom.specs.Rects.{tile_rect}
use Rattle.jx_geom.specs.Counts.{tile_precincts}
use Rattle.jx_geom.specs.Numbering.{blocks_of_all}
use Rattle.jx_codestream.specs.declared.Stream.{Stream}
use Rattle.jx_codestream.specs.First.{canvas_of, tile_number}
use Rattle.jx_codestream.specs.declared.faults.StreamFault.{StreamFault}
use Rattle.jx_tile.specs.Faults.{passed}
use Rattle.jx_codestream.specs.Shapes.{shapes_of, layers_of}
use Rattle.jx_base.specs.Joined.{sum_below}
use Rattle.jx_base.specs.Limits.{most_blocks}

-- B.7: every cell of a band that isn't empty is a block
unfoldable pub block_total : Stream → ℕ
block_total s = blocks_of_all (canvas_of s.siz) (shapes_of s)

-- B.9: one packet for each precinct and layer
abbrev pub tile_packets : Stream → ℕ → ℕ
tile_packets s t = tile_precincts (tile_rect (canvas_of s.siz) t) (shapes_of s t) * layers_of s t

unfoldable pub packet_total : Stream → ℕ
packet_total s = sum_below (tile_packets s) (tile_number s.siz)

-- limit 5, then limit 6
unfoldable pub totals_fault : Stream → Option StreamFault
totals_fault s = option_or (passed 5 (block_total s) (nat_lt (most_blocks) (block_total s))) (passed 6 (packet_total s) (nat_lt (2 ^ 22) (packet_total s)))
