-- What is held of a block's bytes beside its parts.
use Rattle.std.specs.Prelude.{ℕ, List, []}
use Rattle.jx_codeblock.specs.declared.held.Held.{Held}
use Rattle.jx_codeblock.specs.declared.held.Held.TheVariants as held

-- the bytes of new segments
abbrev pub new_bytes : Held → List ℕ
new_bytes (held.New bytes) = bytes.items
new_bytes (held.Own starts) = []

-- where pieces begin of a block that keeps its bytes
abbrev pub own_starts : Held → List ℕ
own_starts (held.New bytes) = []
own_starts (held.Own starts) = starts.items
