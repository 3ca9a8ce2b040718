-- A file that is made, as a writer of bytes: the bytes that it has, and what else its device tells.
use Rattle.std.specs.Prelude.{ℕ, List, [], Option, None, Some}
use Rattle.std.specs.Option.{option_map}
use Rattle.jx_io.specs.Device.{Meaning, Named}

abbrev pub bytes_made : Option (Option Named) → Option (List ℕ)
bytes_made None = None
bytes_made (Some None) = None
bytes_made (Some (Some file)) = Some file.bytes

-- the bytes of the file that is made, where they are told
abbrev pub bytes_of : Meaning → Option (List ℕ)
bytes_of m = bytes_made m.written

abbrev pub emptied : Named → Named
emptied file = record { name = file.name; bytes = [] }

-- what else a device of files has, which no byte that is written changes: what it tells but for the bytes of the file that is made, and
-- the faults of reading
pub record Device : Type 0 where
  pub told : Meaning
  pub read_faults : ℕ

abbrev pub told_beside : Meaning → Meaning
told_beside m = record m { written = option_map (option_map emptied) m.written }
