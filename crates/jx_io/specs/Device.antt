-- What a device's files are, and what each call makes of them.
use Rattle.std.specs.Prelude.{◌≡◌, ◌≢◌, ◌⊎◌, ◌≤◌, ◌++◌, ℕ, Bool, true, false, List, [], length, take, drop, Option, Some, None, if◌then◌else◌}
use Rattle.std.specs.Option.{option_map}
use Rattle.std.specs.Str.{bytes_eq}

-- a name, and the bytes under it
pub record Named : Type 0 where
  pub name : List ℕ
  pub bytes : List ℕ

-- what a device tells of its files; an outer `None` says that it isn't told
pub record Meaning : Type 0 where
  pub holds : List ℕ → Option (Option (List ℕ))  -- the bytes of the file of a name, or none there
  pub reading : Bool  -- whether a file is opened
  pub left : Option (List ℕ)  -- its bytes that weren't read yet
  pub making : Bool  -- whether a file was created and isn't finished
  pub written : Option (Option Named)  -- the file created last, or none yet

-- the bytes under a name, where they are told and there
abbrev pub joined : Option (Option (List ℕ)) → Option (List ℕ)
joined (Some file) = file
joined None = None

-- all bytes of the file are left
abbrev pub after_open : List ℕ → Meaning → Meaning
after_open name m = record m { reading = true; left = joined (m.holds name) }

-- the first n bytes of what was left are gone
abbrev pub after_read : ℕ → Meaning → Meaning
after_read n m = record m { left = option_map (drop n) m.left }

-- a file of this name with no bytes is being made
abbrev pub after_create : List ℕ → Meaning → Meaning
after_create name m = record m { making = true; written = option_map (λ _. Some (record { name = name; bytes = [] })) m.written }

-- the file with more bytes at its end
abbrev pub appended : List ℕ → Named → Named
appended more file = record { name = file.name; bytes = file.bytes ++ more }

-- the file that is made has more bytes at its end
abbrev pub after_write : List ℕ → Meaning → Meaning
after_write more m = record m { written = option_map (option_map (appended more)) m.written }

-- the files with this one among them; where no file is told all stay so
abbrev pub with_file : (List ℕ → Option (Option (List ℕ))) → Option (Option Named) → List ℕ → Option (Option (List ℕ))
with_file holds (Some (Some file)) name = if bytes_eq name file.name then Some (Some file.bytes) else holds name
with_file holds (Some None) name = holds name
with_file holds None name = holds name

-- the file that was made is found under its name
abbrev pub after_finish : Meaning → Meaning
after_finish m = record m { making = false; holds = with_file m.holds m.written }

-- a file of this name and these bytes is found, in place of any of that name
abbrev pub after_put : List ℕ → List ℕ → Meaning → Meaning
after_put name bytes m = record m { holds = with_file m.holds (Some (Some (record { name = name; bytes = bytes }))) }

-- what a read of n bytes gives, where the device tells what is left
pub record Takes (left : List ℕ) (n : ℕ) (room : ℕ) (into : List ℕ) : Type 0 where
  pub within : n ≤ length left
  pub bytes : take n into ≡ take n left
  pub end : n ≡ 0 → (room ≡ 0) ⊎ (left ≡ [])

-- what may be asked for stays so
abbrev pub Allows : (List ℕ → Type 0) → (List ℕ → Type 0) → Type 0
Allows old new = (name : List ℕ) → old name → new name

-- the device doesn't say that no file has this name
abbrev pub IsThere : Meaning → List ℕ → Type 0
IsThere m name = m.holds name ≢ Some None
