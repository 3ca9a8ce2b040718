-- Where a new file is made: a draft beside the name that it is to take.
use Rattle.std.specs.Prelude.{◌≡◌, ◌++◌, ◌==◌, ℕ, List, [], ◌∷◌, Some, take, length, codes, if◌then◌else◌}
use Rattle.std.specs.Fmt.{decimal}
use Rattle.std.specs.Path.{path_buf_bytes, path_file_name, path_with_file_name}
use Rattle.jx_io.specs.declared.draft.Draft.{Draft}

-- where links lead, each from the place of the one before
abbrev pub led : List ℕ → List (List ℕ) → List ℕ
led path [] = path
led path (link ∷ links) = led (path_with_file_name path link) links

-- a name stands for another by links, or for itself
pub record IsLed (name target : List ℕ) : Type 0 where
  pub links : List (List ℕ)
  pub target_is : target ≡ led name links

-- what a draft of a process is called, where so many of its names are taken
abbrev pub draft_name : List ℕ → ℕ → ℕ → List ℕ
draft_name front process number =
    if number == 0 then codes "." ++ (front ++ (codes ".jx-" ++ decimal process))
    else codes "." ++ (front ++ (codes ".jx-" ++ (decimal process ++ (codes "." ++ decimal number))))

-- a draft is another file of the same folder, called after the front of the file's name
pub record IsBeside (draft target : List ℕ) : Type 0 where
  pub name : List ℕ
  pub named : path_file_name target ≡ Some name
  pub front : List ℕ
  pub front_is : front ≡ take (length front) name
  pub process : ℕ
  pub number : ℕ
  pub draft_is : draft ≡ path_with_file_name target (draft_name front process number)

-- a draft of this file stands beside it
pub record IsDraft (target : List ℕ) (draft : Draft) : Type 0 where
  pub its : path_buf_bytes draft.target ≡ target
  pub beside : IsBeside (path_buf_bytes draft.name) target

-- a draft for a name: beside the file that the name stands for
pub record IsDraftFor (name draft target : List ℕ) : Type 0 where
  pub leads : IsLed name target
  pub beside : IsBeside draft target
