use Rattle.std.proofs.Common.{◌≡◌, ◌++◌, string_bytes}
use Rattle.jx_base.specs.Joined.{joined}
use Rattle.jx_show.specs.Facts.{tile_facts}
use Rattle.jx_show.specs.Stated.{text_of}
use Rattle.jx_show.proofs.headers.push_tiles.Given as goal

abbrev pub invariant-loop-tile : goal.invariant-loop-tile
invariant-loop-tile l = string_bytes l.text ≡ string_bytes l.initial.text ++ text_of l.json (joined (tile_facts l.stream) 0 l.tile)
