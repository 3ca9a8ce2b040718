-- Numbers for each pass, as they are listed.
use Rattle.std.specs.Prelude.{ℕ, ◌+◌, ◌-◌, ◌==◌, ◌≤◌, max, Bool, true, false, ◌||◌, not, if◌then◌else◌, List, [], ◌∷◌, ◌++◌, length, replicate, slice_index_or}
use Rattle.std.specs.List.{flat_map, list_all, list_any}
use Rattle.jx_base.specs.Pieces.{PieceValue}
use Rattle.jx_base.specs.Passes.{end_pass}
use Rattle.jx_codeblock.specs.declared.LayerEnd.{LayerEnd}
use Rattle.jx_codeblock.specs.Recoding.{layer_ends}
use Rattle.jx_codeblock.specs.Segments.{ends_below}

-- the number in a place of a list
abbrev pub at_place : List ℕ → ℕ → ℕ
at_place table n = slice_index_or table n 0

-- for each pass how many bytes were sent by its end, where some were sent before
abbrev pub rows : ℕ → List PieceValue → List ℕ
rows before [] = []
rows before (p ∷ ps) = replicate (p.passes - 1) before ++ (before + length p.bytes) ∷ rows (before + length p.bytes) ps

-- a layer of some pieces ends after so many passes
abbrev pub is_own_end : List PieceValue → ℕ → Bool
is_own_end pieces n = list_any (λ (own : LayerEnd). own.passes == n) (layer_ends pieces)

-- the first piece is the last one of its layer
abbrev pub is_last_of_layer : List PieceValue → Bool
is_last_of_layer [] = false
is_last_of_layer (p ∷ []) = true
is_last_of_layer (p ∷ q ∷ pieces) = not (p.layer == q.layer)

-- no end lies within a segment
abbrev pub is_cut : ℕ → ℕ → LayerEnd → Bool
is_cut style all e = e.passes == all || end_pass style (e.passes - 1)

abbrev pub are_cut : ℕ → ℕ → List LayerEnd → Bool
are_cut style all ends = list_all (is_cut style all) ends

-- the last end that lies within a segment; 0 where none does
abbrev pub end_within : ℕ → ℕ → LayerEnd → ℕ
end_within style all e = if is_cut style all e then 0 else e.passes

abbrev pub last_within : ℕ → ℕ → List LayerEnd → ℕ
last_within style all [] = 0
last_within style all (e ∷ ends) = max (end_within style all e) (last_within style all ends)

-- a pass was looked at no further than to the end of its segment
abbrev pub AreFew : ℕ → List (List ℕ) → List ℕ → Type 0
AreFew style segments looked = (pass : ℕ) → slice_index_or looked pass 0 ≤ length (slice_index_or segments (ends_below style pass) [])

-- the bytes of pieces, one behind another
abbrev pub bytes_joined : List PieceValue → List ℕ
bytes_joined pieces = flat_map (λ (p : PieceValue). p.bytes) pieces
