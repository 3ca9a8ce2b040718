-- The coded bytes of a packet are those of the parts that its header tells of, and no piece has a marker.
use Rattle.std.proofs.Common.{◌≡◌, ◌∙◌, ℕ, ◌+◌, List, map, sym, subst, arith}
use Rattle.std.specs.List.{range_with_len}
use Rattle.jx_base.specs.Joined.{joined}
use Rattle.jx_base.specs.Pieces.{PieceValue}
use Rattle.jx_base.proofs.Joined.{joined_same}
use Rattle.jx_packet_header.specs.declared.HeaderPart.{HeaderPart}
use Rattle.jx_packet_header.specs.LeavesFit.{parts_at}
use Rattle.jx_packet_header.specs.Written.{Leafed, parts_in}
use Rattle.jx_tier2_reader.specs.BlockOf.{pieces_at}
use Rattle.jx_tier2_reader.specs.Carries.{header_part_of}
use Rattle.jx_tier2_reader.proofs.FillLemmas.{AreUnmarked, Fills, bytes_in_all, fills_joined}
use Rattle.jx_tier2_reader.proofs.PlannedLemmas.{parts_over, layer_unmarked}

-- leaves that are made of pieces
pub leaves_filled : (layer : ℕ) (leaf : ℕ → Leafed) (pieces : ℕ → List PieceValue) (n : ℕ) → ((j : ℕ) → parts_in layer (leaf j).parts ≡ map (header_part_of j) (pieces_at layer (pieces j))) → ((j : ℕ) → AreUnmarked (pieces j))
    → Fills (parts_at layer (map leaf (range_with_len 0 n))) (joined (λ j. bytes_in_all (pieces_at layer (pieces j))) 0 n)
leaves_filled layer leaf pieces n made all =
    let e : 0 + n ≡ n = omega arith in
    let same : parts_at layer (map leaf (range_with_len 0 n)) ≡ joined (λ j. map (header_part_of j) (pieces_at layer (pieces j))) 0 n =
    parts_over layer leaf n 0 n e ∙ joined_same (λ j. parts_in layer (leaf j).parts) (λ j. map (header_part_of j) (pieces_at layer (pieces j))) n (λ j lt. made j) in
    subst (λ (ps : List HeaderPart). Fills ps (joined (λ j. bytes_in_all (pieces_at layer (pieces j))) 0 n)) (sym same)
    (fills_joined (λ j. pieces_at layer (pieces j)) n (λ j. layer_unmarked layer (pieces j) (all j)))
