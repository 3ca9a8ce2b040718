-- Where a style that is asked can't be had: only a block that ends with a cleanup pass, or has no pass, may change its causal bit, since
-- within a plane the two forms of contexts have decided different places (ITU-T T.800, D.7).
use Rattle.std.specs.Prelude.{ℕ, ◌%◌, ◌==◌, Bool, true, false, ◌&&◌, not, List, Option, None, Some}
use Rattle.std.specs.List.{position}
use Rattle.jx_base.specs.declared.pieces.Block.{Block}
use Rattle.jx_base.specs.declared.style.Style.{Style}
use Rattle.jx_base.specs.Passes.{is_causal}

abbrev pub differ : Bool → Bool → Bool
differ true b = not b
differ false b = b

-- the block would change its causal bit within a plane
abbrev pub breaks_plane : Option Style → Block → Bool
breaks_plane None b = false
breaks_plane (Some style) b = differ (is_causal style.bits) (is_causal b.style.bits) && (not (b.passes == 0) && not (b.passes % 3 == 1))

-- choice 1: the lowest such block
abbrev pub first_broken : Option Style → List Block → Option ℕ
first_broken asked blocks = position (breaks_plane asked) blocks
