-- Files that are kept in memory.
use Rattle.std.specs.Prelude.{ℕ, Bool, true, false, List, [], ◌∷◌, drop, Option, Some, None, if◌then◌else◌, string_bytes}
use Rattle.std.specs.Option.{option_map}
use Rattle.std.specs.Str.{bytes_eq}
use Rattle.jx_io.specs.declared.store.StoredFile.{StoredFile}
use Rattle.jx_io.specs.declared.store.Store.{Store}
use Rattle.jx_io.specs.Device.{Named, Meaning}

-- the bytes of the newest file of a name
abbrev pub found : List StoredFile → List ℕ → Option (List ℕ)
found [] name = None
found (file ∷ files) name = if bytes_eq name (string_bytes file.name) then Some file.bytes.items else found files name

-- a file's name and bytes
abbrev pub named : StoredFile → Named
named file = record { name = string_bytes file.name; bytes = file.bytes.items }

-- no file is there, read or made
abbrev pub empty : Meaning
empty = record { holds = λ _. Some None; reading = false; left = Some []; making = false; written = Some None }

-- the file that was finished last, where it stands in front of those that are stored
abbrev pub front_of : Bool → Option StoredFile → Option StoredFile
front_of true written = written
front_of false written = None

-- that file and others
abbrev pub behind : Option StoredFile → List StoredFile → List StoredFile
behind (Some file) files = file ∷ files
behind None files = files

-- all is told
abbrev pub meaning_of : Store → Meaning
meaning_of s = record { holds = λ name. Some (found (behind (front_of s.whole s.written) s.stored.items) name); reading = s.reading; left = Some (drop s.at s.opened.items); making = s.making; written = Some (option_map named s.written) }
