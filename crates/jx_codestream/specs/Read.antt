-- What is read from a file: the stream that its bytes spell, within the limits 3 and 4.
use Rattle.std.specs.Prelude.{◌≡◌, ℕ, List, length, None}
use Rattle.jx_codestream.specs.declared.Stream.{Stream}
use Rattle.jx_codestream.specs.First.{tiles_fault}
use Rattle.jx_codestream.specs.Params.{planes_fault}
use Rattle.jx_codestream.specs.Spells.{Spells}

pub record IsRead (b : List ℕ) (s : Stream) : Type 0 where
  pub spelled : Spells b s
  -- limit 3
  pub tiles : tiles_fault s.siz ≡ None
  -- limit 4
  pub planes : planes_fault s.main (length s.siz.comps) s.tiles ≡ None
