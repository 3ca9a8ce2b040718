-- Files in memory whose newest stands in front of those that are stored.
use Rattle.std.proofs.Common.{◌≡◌, ◌++◌, ℕ, Bool, true, false, List, ◌∷◌, Option, Some, None, OnErr, Result, Ok, Err, refl, rules, string_bytes}
use Rattle.std.specs.Option.{option_map}
use Rattle.jx_io.specs.Device.{Meaning, after_finish, after_put, after_write}
use Rattle.jx_io.specs.declared.store.StoredFile.{StoredFile}
use Rattle.jx_io.specs.Stored.{behind, found, front_of, named}

-- what is told of files by their parts
abbrev pub shown : Bool → Option StoredFile → List StoredFile → Bool → Bool → Option (List ℕ) → Meaning
shown whole written files reading making left =
    record { holds = λ name. Some (found (behind (front_of whole written) files) name); reading = reading; left = left; making = making; written = Some (option_map named written) }

-- what holds anyhow holds of an error
pub on_error : {T E : Type 0} (P : Type 0) (r : Result T E) → P → OnErr r P
on_error P (Ok x) p = tt
on_error P (Err e) p = p

pub finished : (whole : Bool) (written : Option StoredFile) (files : List StoredFile) (reading making : Bool) (left : Option (List ℕ)) → whole ≡ false
    → shown true written files reading false left ≡ after_finish (shown whole written files reading making left)
finished whole None files reading making left is = rw is refl
finished whole (Some file) files reading making left is = rw is (search rules)

pub put_in_front : (whole : Bool) (written : Option StoredFile) (files more : List StoredFile) (file : StoredFile) (name bytes : List ℕ) (reading making : Bool) (left : Option (List ℕ)) → whole ≡ false → more ≡ file ∷ files
    → string_bytes file.name ≡ name → file.bytes.items ≡ bytes → shown whole written more reading making left ≡ after_put name bytes (shown whole written files reading making left)
put_in_front whole written files more file name bytes reading making left is all called has = rw (is, all, ← called, ← has) (search rules)

pub written_on : (whole : Bool) (written : Option StoredFile) (file longer : StoredFile) (files : List StoredFile) (from : List ℕ) (reading making : Bool) (left : Option (List ℕ)) → whole ≡ false → written ≡ Some file
    → string_bytes longer.name ≡ string_bytes file.name → longer.bytes.items ≡ file.bytes.items ++ from
    → shown whole (Some longer) files reading making left ≡ after_write from (shown whole written files reading making left)
written_on whole written file longer files from reading making left is there called has = rw (is, there, called, has) refl

pub nowhere : (whole : Bool) (written : Option StoredFile) (files : List StoredFile) (from : List ℕ) (reading making : Bool) (left : Option (List ℕ)) → whole ≡ false → ((file : StoredFile) → written ≡ Some file → ⊥)
    → shown whole written files reading making left ≡ after_write from (shown whole written files reading making left)
nowhere whole None files from reading making left is none = rw is refl
nowhere whole (Some file) files from reading making left is none = absurd (none file refl)

pub unchanged : (whole : Bool) (written : Option StoredFile) (file same : StoredFile) (files : List StoredFile) (reading making : Bool) (left : Option (List ℕ)) → whole ≡ false → written ≡ Some file
    → string_bytes same.name ≡ string_bytes file.name → same.bytes.items ≡ file.bytes.items → shown whole (Some same) files reading making left ≡ shown whole written files reading making left
unchanged whole written file same files reading making left is there called has = rw (is, there, called, has) refl
