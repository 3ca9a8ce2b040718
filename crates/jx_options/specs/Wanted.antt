-- How a codestream is to be written.
use Rattle.std.specs.Prelude.{◌≡◌, ◌⊎◌, ◌<◌, ℕ, ◌/◌, ◌%◌, List, [], Option, IfSome}
use Rattle.jx_base.specs.OrderNumbers.{IsOrderNumber}
use Rattle.jx_base.specs.declared.style.Style.{Style}
use Rattle.jx_marker.specs.declared.Progression.{Progression}
use Rattle.jx_marker.specs.Ranges.{AreBytes}
use Rattle.jx_options.specs.declared.Marks.{Marks}
use Rattle.jx_options.specs.declared.RsizChoice.{RsizChoice}
use Rattle.jx_options.specs.Volumes.{AreVolumes}

pub record Wanted : Type 0 where
  -- the progression order of each tile, by its number (Table A.16); none where each tile keeps that of its COD
  pub order : Option ℕ
  -- the entries of the main header's POC (A.6.6); without entries no POC is written; none if the input's are kept
  pub changes : Option (List Progression)
  -- the precincts' exponents (Table A.21), a byte for each resolution from 0 up, of which the last stands for all above; without
  -- bytes every exponent is 15; none where precincts are kept
  pub precincts : Option (List ℕ)
  -- the style in which all code-blocks are coded (Table A.19); none where each component keeps its own
  pub style : Option Style
  -- the words for the planners of layers
  pub layers : List ℕ
  -- what stands in the tile-parts beside headers and blocks, where they begin, and whether the main header says so
  pub marks : Marks
  -- what profile is claimed (Rsiz, Table A.10)
  pub rsiz : RsizChoice

-- a style has six bits, and predictable termination isn't asked (bit 4)
pub record MayBeStyle (style : Style) : Type 0 where
  pub few : style.bits < 64
  pub free : style.bits / 16 % 2 ≡ 0

-- there is such an order and such a style, entries are volumes, and exponents have four bits
pub record MayBeWanted (w : Wanted) : Type 0 where
  pub order : IfSome w.order IsOrderNumber
  pub changes : IfSome w.changes (λ entries. (entries ≡ []) ⊎ AreVolumes entries)
  pub bytes : IfSome w.precincts AreBytes
  pub style : IfSome w.style MayBeStyle
