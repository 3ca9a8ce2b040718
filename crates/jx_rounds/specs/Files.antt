-- A file that is made on a device, whole or in part; and what the writing of a plan leaves under a name.
use Rattle.std.specs.Prelude.{◌≡◌, ◌⊎◌, ℕ, true, List, ◌++◌, length}
use Rattle.jx_io.specs.Device.{Meaning, after_create, after_finish, after_write}
use Rattle.jx_plan.specs.Plan.{Plan}
use Rattle.jx_rounds.specs.Heads.{IsHead}
use Rattle.jx_rounds.specs.Rounds.{IsHaltedAt, IsRoundFront, IsSpoiledTile, IsWholeFile}
use Rattle.jx_rounds.specs.declared.halt.Halt.{Halt}
use Rattle.jx_rounds.specs.declared.halt.Halt.TheVariants as halt

-- the device has taken a front of these bytes, and this is the rest
pub record HasWritten (old new : Meaning) (bytes rest : List ℕ) : Type 0 where
  pub front : List ℕ
  pub whole : bytes ≡ front ++ rest
  pub meaning : new ≡ after_write front old

-- nothing was made
pub record IsUntouched (old new : Meaning) : Type 0 where
  pub holds : (name : List ℕ) → new.holds name ≡ old.holds name
  pub making : new.making ≡ old.making
  pub written : new.written ≡ old.written

-- the whole file was made, and is found under its name
abbrev pub IsMade : List ℕ → List ℕ → Meaning → Meaning → Type 0
IsMade name bytes old new = (m : Meaning) × IsUntouched old m × (new ≡ after_finish (after_write bytes (after_create name m)))

-- a front of the file was made, and it wasn't finished
abbrev pub IsPartlyMade : List ℕ → List ℕ → Meaning → Meaning → Type 0
IsPartlyMade name bytes old new = (m : Meaning) × (rest : List ℕ) × IsUntouched old m × HasWritten (after_create name m) new bytes rest

-- just these bytes of the file were made, and it wasn't finished
abbrev pub IsStopped : List ℕ → List ℕ → Meaning → Meaning → Type 0
IsStopped name bytes old new = (m : Meaning) × IsUntouched old m × (new ≡ after_write bytes (after_create name m))

-- nothing of the file was made, or a front of it that wasn't finished
abbrev pub IsUnfinished : List ℕ → List ℕ → Meaning → Meaning → Type 0
IsUnfinished name bytes old new = IsUntouched old new ⊎ IsPartlyMade name bytes old new

-- nothing of the file, a front or all of it was made
abbrev pub IsBegun : List ℕ → List ℕ → Meaning → Meaning → Type 0
IsBegun name bytes old new = IsUntouched old new ⊎ (IsPartlyMade name bytes old new ⊎ IsMade name bytes old new)

-- the file of a plan
pub record IsFileMade (p : Plan) (name : List ℕ) (count : ℕ) (old new : Meaning) : Type 0 where
  pub head : List ℕ
  pub is : IsHead p head
  pub bytes : List ℕ
  pub whole : IsWholeFile p head bytes
  pub made : IsMade name bytes old new
  pub count_is : count ≡ length bytes

pub record IsFileCut (p : Plan) (name : List ℕ) (old new : Meaning) : Type 0 where
  pub head : List ℕ
  pub is : IsHead p head
  pub bytes : List ℕ
  pub of : IsRoundFront p head bytes ⊎ IsWholeFile p head bytes
  pub begun : IsUnfinished name bytes old new

-- nothing was created, or a front was written
abbrev pub IsFileBegun : Plan → List ℕ → Meaning → Meaning → Type 0
IsFileBegun p name old new = IsUntouched old new ⊎ IsFileCut p name old new

-- a tile isn't written: the rounds before its own were
pub record IsFileStopped (p : Plan) (name : List ℕ) (why : Halt) (tile : ℕ) (old new : Meaning) : Type 0 where
  pub head : List ℕ
  pub head_is : IsHead p head
  pub bytes : List ℕ
  pub is : IsHaltedAt p head why tile bytes
  pub stopped : IsStopped name bytes old new

-- and nothing was created where the index is asked, since the lengths of all tile-parts are found before that
pub record IsFileUnbegun (p : Plan) (why : Halt) (tile : ℕ) (old new : Meaning) : Type 0 where
  pub asked : p.wanted.marks.tlm ≡ true
  pub of : IsSpoiledTile p why tile
  pub same : IsUntouched old new

abbrev pub IsFileSpoiled : Plan → List ℕ → Halt → ℕ → Meaning → Meaning → Type 0
IsFileSpoiled p name why tile old new = IsFileStopped p name why tile old new ⊎ IsFileUnbegun p why tile old new

abbrev pub IsFileHalted : Plan → List ℕ → Halt → Meaning → Meaning → Type 0
IsFileHalted p name (halt.Bad tile number) old new = IsFileSpoiled p name (halt.Bad tile number) tile old new
IsFileHalted p name (halt.TooLong tile) old new = IsFileSpoiled p name (halt.TooLong tile) tile old new
IsFileHalted p name halt.Failed old new = IsFileBegun p name old new
IsFileHalted p name halt.NoMemory old new = IsFileBegun p name old new
