-- What is told beside choice 2 and its tile: where the asked precincts would change a code-block first, and the exponents that the input has
-- there (ITU-T T.800, Table A.21 and B.7).
use Rattle.std.specs.Prelude.{◌≡◌, ◌⊎◌, ◌<◌, ◌≤◌, ℕ, List, length, Option, IfSome}
use Rattle.jx_io.specs.Device.{Meaning, joined}
use Rattle.jx_cli.specs.Words.{Request}
use Rattle.jx_codestream.specs.declared.Stream.{Stream}
use Rattle.jx_codestream.specs.First.{tile_number}
use Rattle.jx_codestream.specs.Read.{IsRead}
use Rattle.jx_jp2.specs.declared.Boxed.{Boxed}
use Rattle.jx_jp2.specs.Codestream.{IsCodestream, IsJp2, content}
use Rattle.jx_plan.specs.declared.faults.Misfit.{Misfit}
use Rattle.jx_plan.specs.declared.faults.PlanFault.{PlanFault}
use Rattle.jx_plan.specs.declared.faults.PlanFault.TheVariants as unplanned
use Rattle.jx_plan.specs.Fits.{IsMisfitAt}
use Rattle.jx_reduce.specs.Reduction.{stream_left}
use Rattle.jx_transcode.specs.declared.status.Status.{Status}
use Rattle.jx_transcode.specs.declared.status.Status.TheVariants as status

-- of a codestream of so many bytes at most, without its d highest resolutions: its tile is that of the status
pub record IsMisfitOf (precincts : Option (List ℕ)) (d limit : ℕ) (input : List ℕ) (s : Status) (m : Misfit) : Type 0 where
  pub within : length input ≤ limit
  pub stream : Stream
  pub read : IsRead input stream
  pub tile : ℕ
  pub is : s ≡ status.Choice 2 tile
  pub first : IsMisfitAt precincts (stream_left d stream) tile m

-- of the codestream in a JP2 file
abbrev pub IsMisfitOfJp2 : Option (List ℕ) → ℕ → ℕ → List ℕ → Status → Misfit → Type 0
IsMisfitOfJp2 precincts d limit input s m = (length input ≤ limit) × (boxed : Boxed) × IsCodestream input boxed × IsMisfitOf precincts d limit (content input boxed) s m

-- of any file
abbrev pub IsMisfitOfFile : Option (List ℕ) → ℕ → ℕ → List ℕ → Status → Misfit → Type 0
IsMisfitOfFile precincts d limit input s m = ((IsJp2 input → ⊥) × IsMisfitOf precincts d limit input s m) ⊎ (IsJp2 input × IsMisfitOfJp2 precincts d limit input s m)

-- of the file named IN: the input is what it holds at the beginning, where that is told
pub record TellsMisfit (request : Request) (m : Misfit) (s : Status) (old : Meaning) : Type 0 where
  pub input : List ℕ
  pub told : IfSome (joined (old.holds request.from)) (λ bytes. input ≡ bytes)
  pub is : IsMisfitOfFile request.wanted.precincts request.reduce request.limit input s m

-- ---- inner

-- what was asked can't be had
abbrev pub IsChoice : Status → Type 0
IsChoice (status.Choice number place) = Unit {0}
IsChoice _ = ⊥

-- choice 2 is of a tile that is there
abbrev pub HasTile : Stream → PlanFault → Type 0
HasTile s (unplanned.Choice number place) = number ≡ 2 → place < tile_number s.siz
HasTile s (unplanned.Limit number found) = Unit {0}
HasTile s unplanned.NoMemory = Unit {0}

-- what is told beside a fault of a plan
abbrev pub IsMisfitBy : Option (List ℕ) → Stream → PlanFault → Misfit → Type 0
IsMisfitBy precincts s (unplanned.Choice number place) m = (number ≡ 2) × IsMisfitAt precincts s place m
IsMisfitBy precincts s (unplanned.Limit number found) m = ⊥
IsMisfitBy precincts s unplanned.NoMemory m = ⊥
