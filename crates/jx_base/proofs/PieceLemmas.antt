-- The passes of a segment, and the pieces of a code-block.
use Rattle.std.proofs.Common.{◌≡◌, ℕ, suc, ◌+◌, ◌≤◌, nat_lt, false, List, [], ◌∷◌, inl, inr, arith}
use Rattle.std.proofs.lemmas.Bool.{cases_eq, cond-false, le-ltb}
use Rattle.jx_base.specs.Passes.{end_pass}
use Rattle.jx_base.specs.Pieces.{PieceValue, ArePieces, IsInOneSegment, passes_below}

pub alone : (style first : ℕ) → IsInOneSegment style first 1
alone style first pass le lt = absurd (omega arith)

pub longer : (style first run : ℕ) → end_pass style first ≡ false → IsInOneSegment style (first + 1) run → IsInOneSegment style first (suc run)
longer style first run flat one pass le lt = elim (cases_eq pass first) [
  | inl here ↦ rw here flat
  | inr other ↦ one pass (omega arith) (omega arith)
]

pub pieces_end : (style layer first passes : ℕ) (ps : List PieceValue) → ArePieces style layer first passes ps → first ≤ passes
pieces_end style layer first passes [] are = omega (arith, are)
pieces_end style layer first passes (p ∷ ps) are = omega (arith, pieces_end style p.layer (first + p.passes) passes ps are.1)

-- a lower layer before them
pub pieces_lower : (style low layer first last : ℕ) (ps : List PieceValue) → low ≤ layer → ArePieces style layer first last ps → ArePieces style low first last ps
pieces_lower style low layer first last [] le are = are
pieces_lower style low layer first last (p ∷ ps) le are =
    let from : layer ≤ p.layer = are.0.layers in
    (record { layers = omega arith; begins = are.0.begins; some = are.0.some; segment = are.0.segment; markers = are.0.markers }, are.1)

-- a piece that isn't of a layer below another
pub below_here : (m : ℕ) (p : PieceValue) (ps : List PieceValue) → m ≤ p.layer → passes_below m (p ∷ ps) ≡ passes_below m ps
below_here m p ps le = cond-false (nat_lt p.layer m) (p.passes + passes_below m ps) (passes_below m ps) (le-ltb p.layer m le)
