-- How far a decoder of new segments looks, as it is learnt while they are written.
use Rattle.std.specs.Prelude.{◌≡◌, map, MatchOption}
use Rattle.jx_base.specs.declared.pieces.Block.{Block}
use Rattle.jx_base.specs.declared.style.Style.{Style}
use Rattle.jx_codeblock.specs.declared.lists.NewLists.{NewLists}
use Rattle.jx_codeblock.specs.Recoding.{decoded_in}

-- it is that of the segments, where it is there
abbrev pub IsLearnt : Block → Style → NewLists → Type 0
IsLearnt b style new = MatchOption new.looked (Unit {0}) (λ looked. looked.items ≡ (decoded_in b style.bits (map (λ l. l.items) new.lists.items)).looked)
