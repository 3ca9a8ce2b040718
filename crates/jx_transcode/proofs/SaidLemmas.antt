-- What the status after a line was said, and a sink's count of faults, tell of the status before.
use Rattle.std.proofs.Common.{◌≡◌, ◌⊎◌, ◌∙◌, ◌<◌, ℕ, List, Option, inl, inr, refl, arith, sym}
use Rattle.jx_io.specs.Causes.{Rose}
use Rattle.jx_transcode.specs.declared.status.Status.{Status}
use Rattle.jx_transcode.specs.declared.status.Status.TheVariants as status
use Rattle.jx_transcode.specs.Outcome.{EndsAs, EndsAsReadFault, EndsUnread}
use Rattle.jx_transcode.proofs.StatusLemmas.{fault_apart, memory_unread, memory_unwritten, words_unread, words_unwritten}

-- where it rose the line wasn't said, and the run ends as a write fault
pub unsaid : (s late : Status) (line : List ℕ) (before now : Option (List ℕ)) (fault_before fault_now : ℕ)
    → EndsAs s line late before now fault_before fault_now → fault_before < fault_now → late ≡ status.WriteFault
unsaid s late line before now fault_before fault_now (inl said) rose = absurd (omega (arith, said.2, rose))
unsaid s late line before now fault_before fault_now (inr (inl fault)) rose = fault.0
unsaid s late line before now fault_before fault_now (inr (inr short)) rose = absurd (omega (arith, short.2, rose))

-- a run ends as a read fault for what came before its line
pub read_said : {A : Type 0} (s late : Status) (line : List ℕ) (before now : Option (List ℕ)) (fault_before fault_now : ℕ)
    → (s ≡ status.ReadFault → A) → EndsAs s line late before now fault_before fault_now → late ≡ status.ReadFault → A
read_said s late line before now fault_before fault_now cause (inl said) read = cause (sym said.0 ∙ read)
read_said s late line before now fault_before fault_now cause (inr (inl fault)) read = absurd ((fault_apart late read).0 fault.0)
read_said s late line before now fault_before fault_now cause (inr (inr short)) read = absurd ((memory_unread late short.0).0 read)

-- a fault of reading is told, but for a fault of its line or want of memory
pub rose_said : (s late : Status) (line : List ℕ) (before now : Option (List ℕ)) (fault_before fault_now : ℕ) → s ≡ status.ReadFault → EndsAs s line late before now fault_before fault_now
    → EndsAsReadFault late before now fault_before fault_now
rose_said s late line before now fault_before fault_now is (inl said) = inl (said.0 ∙ is)
rose_said s late line before now fault_before fault_now is (inr (inl fault)) = inr (inl (fault.0, fault.2))
rose_said s late line before now fault_before fault_now is (inr (inr short)) = inr (inr (short.0, short.1))

-- want of memory for the line is one of the causes
pub unread_at_all : (s : Status) (before now : Option (List ℕ)) (fault_before fault_now : ℕ)
    → EndsAsReadFault s before now fault_before fault_now → EndsUnread s fault_before fault_now
unread_at_all s before now fault_before fault_now (inl read) = inl read
unread_at_all s before now fault_before fault_now (inr (inl fault)) = inr (inl fault)
unread_at_all s before now fault_before fault_now (inr (inr short)) = inr (inr short.0)

memory_rose : (s late : Status) (line : List ℕ) (before now : Option (List ℕ)) (fault_before fault_now : ℕ) → s ≡ status.NoMemory → EndsAs s line late before now fault_before fault_now
    → EndsUnread late fault_before fault_now
memory_rose s late line before now fault_before fault_now is (inl said) = inr (inr (said.0 ∙ is))
memory_rose s late line before now fault_before fault_now is (inr (inl fault)) = inr (inl (fault.0, fault.2))
memory_rose s late line before now fault_before fault_now is (inr (inr short)) = inr (inr short.0)

-- so is an input that couldn't be read for whatever cause
pub unread_said : (s late : Status) (line : List ℕ) (before now : Option (List ℕ)) (fault_before fault_now : ℕ) → (s ≡ status.ReadFault) ⊎ (s ≡ status.NoMemory) → EndsAs s line late before now fault_before fault_now
    → EndsUnread late fault_before fault_now
unread_said s late line before now fault_before fault_now (inl is) said =
    unread_at_all late before now fault_before fault_now (rose_said s late line before now fault_before fault_now is said)
unread_said s late line before now fault_before fault_now (inr is) said = memory_rose s late line before now fault_before fault_now is said

-- and as a write fault for what came before, or for the line
pub write_said : {A : Type 0} (s late : Status) (line : List ℕ) (before now : Option (List ℕ)) (fault_before fault_now : ℕ)
    → (s ≡ status.WriteFault → A) → EndsAs s line late before now fault_before fault_now → late ≡ status.WriteFault → A ⊎ Rose fault_before fault_now
write_said s late line before now fault_before fault_now cause (inl said) failed = inl (cause (sym said.0 ∙ failed))
write_said s late line before now fault_before fault_now cause (inr (inl fault)) failed = inr fault.2
write_said s late line before now fault_before fault_now cause (inr (inr short)) failed = absurd (memory_unwritten late short.0 failed)

-- ---- where nothing but a line was said
pub words_read : (late : Status) (line : List ℕ) (before now : Option (List ℕ)) (fault_before fault_now : ℕ) → EndsAs status.Words line late before now fault_before fault_now → late ≡ status.ReadFault → ⊥
words_read late line before now fault_before fault_now said read = read_said status.Words late line before now fault_before fault_now words_unread said read

pub memory_read : (late : Status) (line : List ℕ) (before now : Option (List ℕ)) (fault_before fault_now : ℕ) → EndsAs status.NoMemory line late before now fault_before fault_now → late ≡ status.ReadFault → ⊥
memory_read late line before now fault_before fault_now said read = read_said status.NoMemory late line before now fault_before fault_now (λ e. (memory_unread status.NoMemory refl).0 e) said read

failed_alone : {A : Type 0} → (⊥ ⊎ A) → A
failed_alone (inl never) = absurd never
failed_alone (inr rose) = rose

pub write_alone : (s late : Status) (line : List ℕ) (before now : Option (List ℕ)) (fault_before fault_now : ℕ)
    → (s ≡ status.WriteFault → ⊥) → EndsAs s line late before now fault_before fault_now → late ≡ status.WriteFault → Rose fault_before fault_now
write_alone s late line before now fault_before fault_now never said failed = failed_alone (write_said s late line before now fault_before fault_now never said failed)

pub words_write : (late : Status) (line : List ℕ) (before now : Option (List ℕ)) (fault_before fault_now : ℕ) → EndsAs status.Words line late before now fault_before fault_now → late ≡ status.WriteFault
    → Rose fault_before fault_now
words_write late line before now fault_before fault_now said failed = failed_alone (write_said status.Words late line before now fault_before fault_now words_unwritten said failed)

pub memory_write : (late : Status) (line : List ℕ) (before now : Option (List ℕ)) (fault_before fault_now : ℕ) → EndsAs status.NoMemory line late before now fault_before fault_now → late ≡ status.WriteFault
    → Rose fault_before fault_now
memory_write late line before now fault_before fault_now said failed =
    failed_alone (write_said status.NoMemory late line before now fault_before fault_now (memory_unwritten status.NoMemory refl) said failed)
