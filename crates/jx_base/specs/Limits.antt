-- The most that a file may hold, for which places and counts have room.
use Rattle.std.specs.Prelude.{ℕ}

-- the most bytes of a file: Psot and all places have 32 bits (A.4.2)
abbrev pub most_bytes : ℕ
most_bytes = 4294967295

-- the most code-blocks of a codestream (limit 5): 2^22
abbrev pub most_blocks : ℕ
most_blocks = 4194304
