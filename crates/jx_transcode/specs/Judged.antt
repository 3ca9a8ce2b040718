-- What an input violates or passes first after limit 1: in its headers, else in its tile data (T.800, A and B).
use Rattle.std.specs.Prelude.{◌⊎◌, ℕ, List}
use Rattle.jx_codestream.specs.declared.faults.StreamFault.{StreamFault}
use Rattle.jx_codestream.specs.declared.faults.StreamFault.TheVariants as fault
use Rattle.jx_codestream.specs.declared.Stream.{Stream}
use Rattle.jx_codestream.specs.FirstViolated.{IsFirst}
use Rattle.jx_codestream.specs.Read.{IsRead}
use Rattle.jx_tier2_reader.specs.Gathered.{IsBroken}

-- the input spells a stream within the limits 3 and 4, and this is first in its tile data
pub record BreaksTiles (input : List ℕ) (f : StreamFault) : Type 0 where
  pub stream : Stream
  pub read : IsRead input stream
  pub broken : IsBroken input stream f

-- the first rule that is violated, and its place
abbrev pub Violates : List ℕ → ℕ → ℕ → Type 0
Violates input number place = IsFirst input (fault.Rule number place) ⊎ BreaksTiles input (fault.Rule number place)

-- the limit that is passed first, and what was counted
abbrev pub Passes : List ℕ → ℕ → ℕ → Type 0
Passes input number found = IsFirst input (fault.Limit number found) ⊎ BreaksTiles input (fault.Limit number found)

-- why an input is refused; want of memory is free
abbrev pub IsInputCause : List ℕ → StreamFault → Type 0
IsInputCause input (fault.Rule number place) = Violates input number place
IsInputCause input (fault.Limit number found) = Passes input number found
IsInputCause input fault.NoMemory = Unit {0}
