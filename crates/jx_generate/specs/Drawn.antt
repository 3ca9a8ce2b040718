-- A code-block with random passes: its zero planes, its passes' bytes, and in which layer each pass lies.
use Rattle.std.specs.Prelude.{ℕ, zero, suc, ◌+◌, ◌-◌, ◌*◌, ◌%◌, ◌==◌, List, [], ◌∷◌, ◌++◌, map, if◌then◌else◌}
use Rattle.jx_base.specs.Joined.{joined}
use Rattle.jx_base.specs.Numbers.{ceil_of}
use Rattle.jx_base.specs.Pieces.{PieceValue}
use Rattle.jx_generate.specs.Random.{number_at, numbers_at, state_after, state_past}

-- a byte whose predecessor is FF is taken modulo 128, so that no marker arises
abbrev pub stuffed : ℕ → ℕ → ℕ
stuffed before byte = if before == 255 then byte % 128 else byte

abbrev pub without_markers : ℕ → List ℕ → List ℕ
without_markers before [] = []
without_markers before (byte ∷ bytes) = stuffed before byte ∷ without_markers (stuffed before byte) bytes

-- a last byte FF becomes FE
abbrev pub lowered : ℕ → ℕ
lowered byte = if byte == 255 then 254 else byte

abbrev pub without_end : List ℕ → List ℕ
without_end [] = []
without_end (byte ∷ []) = lowered byte ∷ []
without_end (byte ∷ next ∷ bytes) = byte ∷ without_end (next ∷ bytes)

-- a pass: how many bytes it has, then so many bytes. No pass ends with FF, so the first byte's predecessor in the block isn't FF.
unfoldable pub pass_bytes : ℕ → List ℕ
pass_bytes x = without_end (without_markers 0 (map (λ (n : ℕ). n % 256) (numbers_at (state_after x) (number_at x % 24))))

unfoldable pub past_pass : ℕ → ℕ
past_pass x = state_past (state_after x) (number_at x % 24)

-- the bytes of n passes one after another, and the state after them
abbrev pub passes_bytes : ℕ → ℕ → List ℕ
passes_bytes x zero = []
passes_bytes x (suc n) = pass_bytes x ++ passes_bytes (past_pass x) n

abbrev pub past_passes : ℕ → ℕ → ℕ
past_passes x zero = x
past_passes x (suc n) = past_passes (past_pass x) n

-- pass i of n lies in layer 12 * i / n of 12, so the first pass of a layer, or of a later one, is the first i with 12 * i ≥ layer * n
unfoldable pub first_pass : ℕ → ℕ → ℕ
first_pass n layer = ceil_of (layer * n) 12

unfoldable pub passes_in : ℕ → ℕ → ℕ
passes_in n layer = first_pass n (layer + 1) - first_pass n layer

-- the passes of a layer, where n passes begin in a state
abbrev pub piece_in : ℕ → ℕ → ℕ → PieceValue
piece_in x n layer = record {
  layer = layer;
  first = first_pass n layer;
  passes = passes_in n layer;
  bytes = passes_bytes (past_passes x (first_pass n layer)) (passes_in n layer);
}

-- a layer without passes has no piece
unfoldable pub layer_pieces : ℕ → ℕ → ℕ → List PieceValue
layer_pieces x n layer = if passes_in n layer == 0 then [] else piece_in x n layer ∷ []

-- of 13 planes
unfoldable pub zero_planes : ℕ → ℕ
zero_planes x = number_at x % 13

-- from 1 to as many as the planes that aren't zero planes allow
unfoldable pub pass_count : ℕ → ℕ
pass_count x = 1 + number_at (state_after x) % (3 * (13 - zero_planes x) - 2)

abbrev pub first_state : ℕ → ℕ
first_state x = state_after (state_after x)

pub record Drawn : Type 0 where
  pub zero : ℕ
  pub pieces : List PieceValue

-- the block that is drawn in a state, and the state after it
unfoldable pub drawn_at : ℕ → Drawn
drawn_at x = record { zero = zero_planes x; pieces = joined (layer_pieces (first_state x) (pass_count x)) 0 12 }

unfoldable pub past_block : ℕ → ℕ
past_block x = past_passes (first_state x) (pass_count x)

-- the state before the block of a number, and the block
abbrev pub state_before : ℕ → ℕ → ℕ
state_before seed zero = seed
state_before seed (suc number) = past_block (state_before seed number)

abbrev pub block_drawn : ℕ → ℕ → Drawn
block_drawn seed number = drawn_at (state_before seed number)
