-- A file that is there stays there.
use Rattle.std.proofs.Common.{◌≡◌, ◌≢◌, ℕ, Bool, true, false, List, Option, Some, None, if◌then◌else◌, refl}
use Rattle.std.specs.Str.{bytes_eq}
use Rattle.std.proofs.lemmas.Slice.Eq.{bytes_eq-Decides}
use Rattle.jx_io.specs.Device.{Named, Meaning, Allows, IsThere, after_open, after_read, after_create, after_write, after_finish, after_put, with_file}

pub there_same : (old new : Meaning) → new ≡ old → Allows (IsThere old) (IsThere new)
there_same old new e = rw e (λ name there. there)

pub there_opened : (old new : Meaning) (name : List ℕ) → new ≡ after_open name old → Allows (IsThere old) (IsThere new)
there_opened old new name e = rw e (λ name there. there)

pub there_read : (old new : Meaning) (n : ℕ) → new ≡ after_read n old → Allows (IsThere old) (IsThere new)
there_read old new n e = rw e (λ name there. there)

pub there_created : (old new : Meaning) (name : List ℕ) → new ≡ after_create name old → Allows (IsThere old) (IsThere new)
there_created old new name e = rw e (λ name there. there)

pub there_written : (old new : Meaning) (more : List ℕ) → new ≡ after_write more old → Allows (IsThere old) (IsThere new)
there_written old new more e = rw e (λ name there. there)

chosen_there : (b : Bool) (bytes : List ℕ) (other : Option (Option (List ℕ))) → other ≢ Some None → (if b then Some (Some bytes) else other) ≢ Some None
chosen_there true bytes other there = λ e. cc
chosen_there false bytes other there = there

with_file_there : (holds : List ℕ → Option (Option (List ℕ))) (written : Option (Option Named)) (name : List ℕ) → holds name ≢ Some None → with_file holds written name ≢ Some None
with_file_there holds None name there = there
with_file_there holds (Some None) name there = there
with_file_there holds (Some (Some file)) name there = chosen_there (bytes_eq name file.name) file.bytes (holds name) there

pub there_finished : (old new : Meaning) → new ≡ after_finish old → Allows (IsThere old) (IsThere new)
there_finished old new e = rw e (λ name there. with_file_there old.holds old.written name there)

-- what was put there is there
pub there_put : (old new : Meaning) (name bytes : List ℕ) → new ≡ after_put name bytes old → IsThere new name
there_put old new name bytes e = let same : bytes_eq name name ≡ true = (bytes_eq-Decides name name).1 refl in rw (e, same) (λ no. cc)
