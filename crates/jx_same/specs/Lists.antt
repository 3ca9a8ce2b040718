-- Lists of bytes by their numbers.
use Rattle.std.specs.Prelude.{ℕ, List, [], slice_index_or}

-- the bytes of the list of a number; none where there is no such list
abbrev pub bytes_at : List (List ℕ) → ℕ → List ℕ
bytes_at lists i = slice_index_or lists i []
