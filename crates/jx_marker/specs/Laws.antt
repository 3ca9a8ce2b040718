-- What ties the spelling of a segment and the reading of it.
use Rattle.std.specs.Prelude.{◌≡◌, ℕ, List, ◌++◌, None}
use Rattle.jx_marker.specs.declared.Segment.{Segment}
use Rattle.jx_marker.specs.Segments.{spelling, segment_at, size_at}
use Rattle.jx_marker.specs.Rules.{first_broken}
use Rattle.jx_marker.specs.Ranges.{InRange}

-- a segment stands at the front of these bytes: no rule is violated there, and it is what they say
pub record StandsAt (comps : ℕ) (bytes : List ℕ) (segment : Segment) (size : ℕ) : Type 0 where
  pub rules : first_broken comps bytes ≡ None
  pub value : segment_at comps bytes ≡ segment
  pub takes : size_at bytes ≡ size

-- the bytes begin with the spelling of a segment that is in range
pub record BeginsWith (comps : ℕ) (bytes : List ℕ) (segment : Segment) (rest : List ℕ) : Type 0 where
  pub spelled : bytes ≡ spelling comps segment ++ rest
  pub range : InRange comps segment
