-- Which statuses are faults of a device, or speak of the words.
use Rattle.std.proofs.Common.{◌≡◌, ◌⊎◌, ◌∙◌, ℕ, Result, Ok, Err, IsErrOf, ap, sym, subst, inl, inr, refl}
use Rattle.jx_io.specs.declared.refused.Refused.{Refused}
use Rattle.jx_io.specs.declared.refused.Refused.TheVariants as refused
use Rattle.jx_transcode.specs.Filed.{IsEndOf, status_of, unread_as}
use Rattle.jx_transcode.specs.Outcome.{IsVerdict}
use Rattle.jx_rounds.specs.declared.halt.Halt.{Halt}
use Rattle.jx_rounds.specs.declared.halt.Halt.TheVariants as halt
use Rattle.jx_transcode.specs.declared.status.Status.{Status}
use Rattle.jx_transcode.specs.declared.status.Status.TheVariants as status

-- the input was read, and the words before it
abbrev pub IsPastReading : Status → Type 0
IsPastReading s = (s ≡ status.ReadFault → ⊥) × (s ≡ status.Words → ⊥)

done_unwritten : status.Done ≡ status.WriteFault → ⊥
done_unwritten e = cc

done_unread : IsPastReading status.Done
done_unread = (λ e. cc, λ e. cc)

failed_of : (h : Halt) → status_of h ≡ status.WriteFault → h ≡ halt.Failed
failed_of (halt.Bad tile number) e = absurd (cc)
failed_of (halt.TooLong tile) e = absurd (cc)
failed_of halt.Failed e = refl
failed_of halt.NoMemory e = absurd (cc)

unread_of : (h : Halt) → IsPastReading (status_of h)
unread_of (halt.Bad tile number) = (λ e. cc, λ e. cc)
unread_of (halt.TooLong tile) = (λ e. cc, λ e. cc)
unread_of halt.Failed = (λ e. cc, λ e. cc)
unread_of halt.NoMemory = (λ e. cc, λ e. cc)

-- a file that was written, or wasn't to its end
pub ended_failed : (written : Result ℕ Halt) (s : Status) (bytes : ℕ) → IsEndOf written s bytes → s ≡ status.WriteFault → IsErrOf written halt.Failed
ended_failed (Ok count) s bytes ends failed = absurd (done_unwritten (sym ends.0 ∙ failed))
ended_failed (Err h) s bytes ends failed = ap (λ (x : Halt). Err x) (failed_of h (sym ends.0 ∙ failed))

pub failed_ended : (written : Result ℕ Halt) (s : Status) (bytes : ℕ) → IsEndOf written s bytes → IsErrOf written halt.Failed → s ≡ status.WriteFault
failed_ended (Ok count) s bytes ends failed = absurd (cc)
failed_ended (Err h) s bytes ends failed = let is : h ≡ halt.Failed = cc in ends.0 ∙ ap status_of is

pub ended_unread : (written : Result ℕ Halt) (s : Status) (bytes : ℕ) → IsEndOf written s bytes → IsPastReading s
ended_unread (Ok count) s bytes ends = subst IsPastReading (sym ends.0) done_unread
ended_unread (Err h) s bytes ends = subst IsPastReading (sym ends.0) (unread_of h)

pub limit_unwritten : (number found : ℕ) (s : Status) → s ≡ status.Limit number found → s ≡ status.WriteFault → ⊥
limit_unwritten number found s is e = cc

limit_told : (number found : ℕ) → IsPastReading (status.Limit number found)
limit_told number found = (λ e. cc, λ e. cc)

pub limit_unread : (number found : ℕ) (s : Status) → s ≡ status.Limit number found → IsPastReading s
limit_unread number found s is = subst IsPastReading (sym is) (limit_told number found)

-- an input that wasn't read
pub fault_apart : (s : Status) → s ≡ status.ReadFault → (s ≡ status.WriteFault → ⊥) × (s ≡ status.Words → ⊥)
fault_apart s is = (λ e. cc, λ e. cc)

pub memory_unwritten : (s : Status) → s ≡ status.NoMemory → s ≡ status.WriteFault → ⊥
memory_unwritten s is e = cc

pub memory_unread : (s : Status) → s ≡ status.NoMemory → IsPastReading s
memory_unread s is = (λ e. cc, λ e. cc)

pub words_unread : status.Words ≡ status.ReadFault → ⊥
words_unread e = cc

pub words_unwritten : status.Words ≡ status.WriteFault → ⊥
words_unwritten e = cc

-- ---- why an input couldn't be read
pub unread_either : (e : Refused) (s : Status) → s ≡ unread_as e → (s ≡ status.ReadFault) ⊎ (s ≡ status.NoMemory)
unread_either refused.Failed s is = inl is
unread_either refused.NoMemory s is = inr is

pub unread_failed : {T : Type 0} (e : Refused) (s : Status) → s ≡ unread_as e → s ≡ status.ReadFault → IsErrOf {T = T} (Err e) refused.Failed
unread_failed refused.Failed s is failed = refl
unread_failed refused.NoMemory s is failed = absurd ((memory_unread s is).0 failed)

pub failed_unread : {T : Type 0} (e : Refused) (s : Status) → s ≡ unread_as e → IsErrOf {T = T} (Err e) refused.Failed → s ≡ status.ReadFault
failed_unread refused.Failed s is failed = is
failed_unread refused.NoMemory s is failed = absurd (cc)

pub unread_unwritten : (e : Refused) (s : Status) → s ≡ unread_as e → s ≡ status.WriteFault → ⊥
unread_unwritten refused.Failed s is failed = (fault_apart s is).0 failed
unread_unwritten refused.NoMemory s is failed = memory_unwritten s is failed

-- ---- where no count of faults rose
pub complete : {A B C : Type 0} (s : Status) → (s ≡ status.ReadFault → A) → (s ≡ status.WriteFault → B ⊎ C) → (A → ⊥) → (B → ⊥) → (C → ⊥) → IsVerdict s ⊎ (s ≡ status.NoMemory)
complete status.Done read write a b c = inl tt
complete status.Words read write a b c = inl tt
complete (status.Unlike how) read write a b c = inl tt
complete (status.Rule number place) read write a b c = inl tt
complete (status.Limit number found) read write a b c = inl tt
complete (status.Choice number place) read write a b c = inl tt
complete (status.Block number) read write a b c = inl tt
complete status.ReadFault read write a b c = absurd (a (read refl))
complete status.WriteFault read write a b c = elim (write refl) [
  | inl rose ↦ absurd (b rose)
  | inr rose ↦ absurd (c rose)
]
complete status.NoMemory read write a b c = inr refl
