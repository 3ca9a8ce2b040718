-- Violated rules and passed limits of tile data, with their places and counts.
use Rattle.std.specs.Prelude.{◌≡◌, ℕ, Bool, Option, None, Some, Result, Ok, Err, if◌then◌else◌}
use Rattle.jx_codestream.specs.declared.faults.StreamFault.{StreamFault}
use Rattle.jx_codestream.specs.declared.faults.StreamFault.TheVariants as fault

-- this limit with this count, where it is passed
abbrev pub passed : ℕ → ℕ → Bool → Option StreamFault
passed number found over = if over then Some (fault.Limit number found) else None

-- the refusal has this cause; want of memory is free
abbrev pub HasCause : (StreamFault → Type 0) → StreamFault → Type 0
HasCause P (fault.Rule number place) = P (fault.Rule number place)
HasCause P (fault.Limit number found) = P (fault.Limit number found)
HasCause P fault.NoMemory = Unit {0}

-- no other refusal than this one, but for want of memory
abbrev pub IsOnly : StreamFault → StreamFault → Type 0
IsOnly f (fault.Rule number place) = f ≡ fault.Rule number place
IsOnly f (fault.Limit number found) = f ≡ fault.Limit number found
IsOnly f fault.NoMemory = Unit {0}

-- no refusal but for want of memory
abbrev pub IsMemory : StreamFault → Type 0
IsMemory (fault.Rule number place) = ⊥
IsMemory (fault.Limit number found) = ⊥
IsMemory fault.NoMemory = Unit {0}

-- a call gives such a value where nothing is violated, and else names the first violation
abbrev pub Answers : {X : Type 0} → Result X StreamFault → Option StreamFault → (X → Type 0) → Type 0
Answers (Ok x) first P = (first ≡ None) × P x
Answers (Err e) first P = HasCause (λ f. first ≡ Some f) e
