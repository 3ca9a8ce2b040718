-- The coded bytes of a code-block (ITU-T T.800, B.10): pieces, each of one packet and one segment.
use Rattle.std.specs.Prelude.{ℕ, ◌+◌, ◌<◌, ◌≤◌, ◌≡◌, ◌==◌, nat_lt, false, if◌then◌else◌, List, [], ◌∷◌, length, sum_by}
use Rattle.jx_base.specs.declared.pieces.Piece.{Piece}
use Rattle.jx_base.specs.Passes.{end_pass}
use Rattle.jx_base.specs.Markers.{HasNoMarker}

-- a piece without where its bytes lie in memory
pub record PieceValue : Type 0 where
  pub layer : ℕ
  pub first : ℕ
  pub passes : ℕ
  pub bytes : List ℕ

abbrev pub value_of : Piece → PieceValue
value_of p = record { layer = p.layer; first = p.first; passes = p.passes; bytes = p.bytes.now }

-- no pass but the last of these ends a segment (D.4 and D.6)
abbrev pub IsInOneSegment : ℕ → ℕ → ℕ → Type 0
IsInOneSegment style first passes = (pass : ℕ) → first ≤ pass → pass + 1 < first + passes → end_pass style pass ≡ false

-- a piece that has a block's passes from one on, in a layer not below another
pub record IsPieceOf (style layer first : ℕ) (p : PieceValue) : Type 0 where
  pub layers : layer ≤ p.layer
  pub begins : p.first ≡ first
  pub some : 1 ≤ p.passes
  pub segment : IsInOneSegment style p.first p.passes
  pub markers : HasNoMarker 0 p.bytes

-- pieces in order of layers and passes, which have each pass from one on and below another once
abbrev pub ArePieces : ℕ → ℕ → ℕ → ℕ → List PieceValue → Type 0
ArePieces style layer first passes [] = first ≡ passes
ArePieces style layer first passes (p ∷ ps) = IsPieceOf style layer first p × ArePieces style p.layer (first + p.passes) passes ps

-- how many bytes they have together
abbrev pub bytes_in : List PieceValue → ℕ
bytes_in pieces = sum_by (λ (p : PieceValue). length p.bytes) pieces

-- how many passes pieces of a layer have
abbrev pub passes_at : ℕ → List PieceValue → ℕ
passes_at layer [] = 0
passes_at layer (p ∷ pieces) = if p.layer == layer then p.passes + passes_at layer pieces else passes_at layer pieces

-- and those of the layers before it
abbrev pub passes_below : ℕ → List PieceValue → ℕ
passes_below layer [] = 0
passes_below layer (p ∷ pieces) = if nat_lt p.layer layer then p.passes + passes_below layer pieces else passes_below layer pieces
