-- Which of several violations is the first.
use Rattle.std.proofs.Common.{◌≡◌, ◌∙◌, ℕ, Bool, true, false, refl, sym, Option, Some, None}
use Rattle.std.specs.Option.{option_or}
use Rattle.jx_codestream.specs.declared.faults.StreamFault.{StreamFault}
use Rattle.jx_codestream.specs.declared.faults.StreamFault.TheVariants as fault
use Rattle.jx_codestream.specs.Faults.{broken, rule_at, IsCause}

-- a cause that is there stays the first, whatever is tested later
pub cause_first : (e : StreamFault) (first later : Option StreamFault) → IsCause e first → IsCause e (option_or first later)
cause_first (fault.Rule number place) first later h = rw h refl
cause_first (fault.Limit number found) first later h = rw h refl
cause_first fault.NoMemory first later h = tt

-- where nothing was violated before, the later cause is the first
pub cause_later : (e : StreamFault) (first later : Option StreamFault) → first ≡ None → IsCause e later → IsCause e (option_or first later)
cause_later (fault.Rule number place) first later none h = rw none h
cause_later (fault.Limit number found) first later none h = rw none h
cause_later fault.NoMemory first later none h = tt

pub cause_same : (e : StreamFault) (first other : Option StreamFault) → first ≡ other → IsCause e first → IsCause e other
cause_same (fault.Rule number place) first other same h = sym same ∙ h
cause_same (fault.Limit number found) first other same h = sym same ∙ h
cause_same fault.NoMemory first other same h = tt

pub none_of_both : (first later : Option StreamFault) → first ≡ None → later ≡ None → option_or first later ≡ None
none_of_both first later none h = rw none h

pub none_first : (first later : Option StreamFault) → option_or first later ≡ None → first ≡ None
none_first None later h = refl
none_first (Some e) later h = absurd (cc)

pub none_later : (first later : Option StreamFault) → option_or first later ≡ None → later ≡ None
none_later None later h = h
none_later (Some e) later h = absurd (cc)

pub broken_true : (number place : ℕ) (b : Bool) → b ≡ true → broken number place b ≡ Some (fault.Rule number place)
broken_true number place b h = rw h refl

pub broken_false : (number place : ℕ) (b : Bool) → b ≡ false → broken number place b ≡ None
broken_false number place b h = rw h refl

pub broken_none : (number place : ℕ) (b : Bool) → broken number place b ≡ None → b ≡ false
broken_none number place true h = absurd (cc)
broken_none number place false h = refl

pub rule_none : (place : ℕ) (rule : Option ℕ) → rule_at place rule ≡ None → rule ≡ None
rule_none place None h = refl
rule_none place (Some m) h = absurd (cc)
