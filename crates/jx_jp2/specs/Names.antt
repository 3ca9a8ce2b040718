-- The types of a file's boxes on the top level in order of place, up to the first that breaks a rule or to the file's end, as names in one
-- line: each between quotation marks, with commas between them. The file's brand as such a name.
use Rattle.std.specs.Prelude.{◌≡◌, ℕ, ◌+◌, ◌==◌, ◌||◌, ◌&&◌, not, nat_lt, nat_le, is_some, true, Bool, List, [], ◌∷◌, ◌++◌, length, map, codes, Option, Some, None, if◌then◌else◌}
use Rattle.std.specs.List.{list_all, flat_map}
use Rattle.byteorder.specs.Endian.{big_bytes, big_from}
use Rattle.jx_jp2.specs.Heads.{end_at, first_broken, from_at, tbox}
use Rattle.jx_jp2.specs.Kinds.{ftyp}
use Rattle.jx_jp2.specs.Codestream.{rule_at}
use Rattle.jx_jp2.specs.Lines.{hex_pair, is_shown}
use Rattle.jx_jp2.specs.Positions.{SoundUpTo}

-- a byte that stands for itself between quotation marks: neither one of them nor a backslash
abbrev pub is_plain : ℕ → Bool
is_plain byte = not (byte == 34 || byte == 92)

-- a type: its characters where all are shown and plain, else its hexadecimal digits in capitals
unfoldable pub name_text : List ℕ → List ℕ
name_text kind = if list_all is_shown kind && list_all is_plain kind then kind else flat_map hex_pair kind

abbrev pub quoted : ℕ → List ℕ
quoted kind = codes "\"" ++ (name_text (big_bytes 4 kind) ++ codes "\"")

abbrev pub next_name : ℕ → List ℕ
next_name kind = codes ", " ++ quoted kind

unfoldable pub names_text : List ℕ → List ℕ
names_text [] = []
names_text (kind ∷ kinds) = quoted kind ++ flat_map next_name kinds

-- the types of the sound boxes of the top level, behind which a rule is broken or the file ends
pub record AreKinds (bytes kinds : List ℕ) : Type 0 where
  pub places : List ℕ
  pub stop : ℕ
  pub number : ℕ
  pub boxes : SoundUpTo bytes 0 places stop
  pub last : rule_at bytes stop ≡ Some number
  pub is : kinds ≡ map (tbox bytes) places

-- their names
pub record HasNames (bytes text : List ℕ) : Type 0 where
  pub kinds : List ℕ
  pub are : AreKinds bytes kinds
  pub names : text ≡ names_text kinds

-- ---- the brand (I.5.2): the first four bytes of the file type box, which stands behind the 12 bytes of the signature
-- a sound box of this type and of so many bytes stands there
abbrev pub is_branded : List ℕ → Bool
is_branded bytes =
    not (is_some (first_broken bytes true (length bytes) 12)) && (tbox bytes 12 == ftyp && nat_le (from_at bytes 12 + 4) (end_at bytes 12))

unfoldable pub brand_of : List ℕ → Option ℕ
brand_of bytes = if nat_lt (length bytes) 12 then None else if is_branded bytes then Some (big_from (from_at bytes 12) 4 bytes) else None

-- as a name between quotation marks, which are empty where there is none
unfoldable pub brand_text : Option ℕ → List ℕ
brand_text None = codes "\"\""
brand_text (Some brand) = quoted brand
