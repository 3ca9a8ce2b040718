-- Violated rules and passed limits, with their places and counts.
use Rattle.std.specs.Prelude.{◌≡◌, ℕ, Bool, Option, None, Some, Result, Ok, Err, if◌then◌else◌}
use Rattle.jx_marker.specs.declared.Rule.{Rule}
use Rattle.jx_marker.specs.declared.Rule.TheVariants as rule
use Rattle.jx_codestream.specs.declared.faults.StreamFault.{StreamFault}
use Rattle.jx_codestream.specs.declared.faults.StreamFault.TheVariants as fault

-- this rule at this place, where it is violated
abbrev pub broken : ℕ → ℕ → Bool → Option StreamFault
broken number place violated = if violated then Some (fault.Rule number place) else None

-- a rule that is the first of its place
abbrev pub rule_at : ℕ → Option ℕ → Option StreamFault
rule_at place None = None
rule_at place (Some number) = Some (fault.Rule number place)

-- why no segment is read at a place
abbrev pub fault_of : Rule → ℕ → StreamFault
fault_of (rule.Broken number) place = fault.Rule number place
fault_of rule.NoMemory place = fault.NoMemory

-- the refusal has this cause; want of memory is free
abbrev pub IsCause : StreamFault → Option StreamFault → Type 0
IsCause (fault.Rule number place) first = first ≡ Some (fault.Rule number place)
IsCause (fault.Limit number found) first = first ≡ Some (fault.Limit number found)
IsCause fault.NoMemory first = Unit {0}

-- a call gives such a value where nothing is violated, and else names the first violation
abbrev pub Answers : {X : Type 0} → Result X StreamFault → Option StreamFault → (X → Type 0) → Type 0
Answers (Ok x) first P = (first ≡ None) × P x
Answers (Err e) first P = IsCause e first
