-- Statuses other than Done. `cc` finds that they differ too, but beside the records of a run it takes seconds.
use Rattle.std.proofs.Common.{◌≡◌, subst}
use Rattle.jx_transcode.specs.declared.status.Status.{Status}
use Rattle.jx_transcode.specs.declared.status.Status.TheVariants as status

abbrev pub IsOther : Status → Type 0
IsOther status.Done = ⊥
IsOther status.Words = Unit {0}
IsOther (status.Unlike how) = Unit {0}
IsOther (status.Rule number place) = Unit {0}
IsOther (status.Limit number found) = Unit {0}
IsOther (status.Choice number place) = Unit {0}
IsOther (status.Block number) = Unit {0}
IsOther status.ReadFault = Unit {0}
IsOther status.WriteFault = Unit {0}
IsOther status.NoMemory = Unit {0}

pub undone : (s : Status) → IsOther s → s ≡ status.Done → ⊥
undone s other done = subst IsOther done other

pub unfailed : status.NoMemory ≡ status.WriteFault → ⊥
unfailed e = cc
