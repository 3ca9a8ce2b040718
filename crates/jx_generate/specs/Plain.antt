-- What the code-blocks of a made file are: in style 0 (Table A.19), of 13 planes, and of at most 37 coding passes, since 3 * 13 - 2 are
-- all that 13 planes have (D.3).
use Rattle.std.specs.Prelude.{◌≡◌, ◌≤◌}
use Rattle.jx_base.specs.declared.pieces.Block.{Block}

pub record IsPlain (b : Block) : Type 0 where
  pub style : b.style.bits ≡ 0
  pub planes : b.planes ≡ 13
  pub few : b.passes ≤ 37
