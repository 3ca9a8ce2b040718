-- How large a code-block may be (ITU-T T.800, Table A.18).
use Rattle.std.specs.Prelude.{◌≤◌, ◌<◌}
use Rattle.jx_base.specs.declared.names.Rect.{Rect}
use Rattle.jx_base.specs.Places.{length_of, size_of}

pub record BlockFits (r : Rect) : Type 0 where
  pub some_across : r.x.low < r.x.high
  pub some_down : r.y.low < r.y.high
  pub wide : length_of r.x ≤ 1024
  pub high : length_of r.y ≤ 1024
  pub area : size_of r ≤ 4096
