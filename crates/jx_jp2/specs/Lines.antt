-- The boxes of a file in lines: two spaces for each level of depth, the type, the place, and the length with the head.
use Rattle.std.specs.Prelude.{◌≡◌, ℕ, zero, suc, ◌+◌, ◌/◌, ◌%◌, ◌&&◌, nat_lt, nat_le, Bool, List, [], ◌∷◌, ◌++◌, codes, if◌then◌else◌}
use Rattle.std.specs.List.{list_all, flat_map}
use Rattle.std.specs.Fmt.{decimal}
use Rattle.byteorder.specs.Endian.{big_bytes}
use Rattle.jx_jp2.specs.Heads.{tbox, length_at}
use Rattle.jx_jp2.specs.declared.levels.Level.{Level}
use Rattle.jx_jp2.specs.Trees.{Tree, Ended, Next, Fills, IsTree}

abbrev pub indent : ℕ → List ℕ
indent zero = []
indent (suc depth) = 32 ∷ 32 ∷ indent depth

-- a byte that is a character from the space to the tilde
abbrev pub is_shown : ℕ → Bool
is_shown byte = nat_le 32 byte && nat_le byte 126

abbrev pub hex_digit : ℕ → ℕ
hex_digit n = if nat_lt n 10 then 48 + n else 55 + n

abbrev pub hex_pair : ℕ → List ℕ
hex_pair byte = hex_digit (byte / 16) ∷ hex_digit (byte % 16) ∷ []

-- the bytes of a type: its characters where all are shown, else its hexadecimal digits in capitals
unfoldable pub type_text : List ℕ → List ℕ
type_text kind = if list_all is_shown kind then kind else flat_map hex_pair kind

unfoldable pub line_text : ℕ → ℕ → ℕ → ℕ → List ℕ
line_text depth kind place size =
    indent depth ++ (type_text (big_bytes 4 kind) ++ (codes " " ++ (decimal place ++ (codes " " ++ (decimal size ++ codes "\n")))))

-- the lines of boxes, each followed by those of what is in it
abbrev pub tree_text : List ℕ → ℕ → Tree → List ℕ
tree_text bytes depth Ended = []
tree_text bytes depth (Next place inside after) =
    line_text depth (tbox bytes place) place (length_at bytes place) ++ (tree_text bytes (depth + 1) inside ++ tree_text bytes depth after)

-- a text has the lines of a level's boxes appended
pub record AddsLines (bytes : List ℕ) (level : Level) (depth at stop : ℕ) (old new : List ℕ) : Type 0 where
  pub tree : Tree
  pub fills : Fills bytes level at stop tree
  pub added : new ≡ old ++ tree_text bytes depth tree

-- the text of a file's tree
pub record HasLines (bytes text : List ℕ) : Type 0 where
  pub tree : Tree
  pub fills : IsTree bytes tree
  pub lines : text ≡ tree_text bytes 0 tree
