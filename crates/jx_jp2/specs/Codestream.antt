-- The codestream of a JP2 file, which is the content of the first box of type jp2c on the top level (ITU-T T.800, I.5.1, I.5.4), or
-- the first of the rules 32 to 35 that is broken before it.
use Rattle.std.specs.Prelude.{◌≡◌, ◌≢◌, ℕ, ◌-◌, ◌==◌, true, List, [], ◌∷◌, length, take, drop, Option, Some, None, if◌then◌else◌}
use Rattle.jx_jp2.specs.declared.Boxed.{Boxed}
use Rattle.jx_jp2.specs.declared.faults.BoxFault.{BoxFault}
use Rattle.jx_jp2.specs.declared.faults.BoxFault.TheVariants as fault
use Rattle.jx_jp2.specs.Heads.{tbox, end_at, boxed_at, first_broken}
use Rattle.jx_jp2.specs.Kinds.{jp2c}

-- the signature box: its length 12, its type "jP  ", and CR LF 87 LF
abbrev pub signature : List ℕ
signature = 0 ∷ 0 ∷ 0 ∷ 12 ∷ 106 ∷ 80 ∷ 32 ∷ 32 ∷ 13 ∷ 10 ∷ 135 ∷ 10 ∷ []

abbrev pub IsJp2 : List ℕ → Type 0
IsJp2 bytes = take 12 bytes ≡ signature

-- the rule that is broken where a box of the top level would begin: 35 where the file ends
unfoldable pub rule_at : List ℕ → ℕ → Option ℕ
rule_at bytes at = if at == length bytes then Some 35 else first_broken bytes true (length bytes) at

-- from a place on, boxes of the top level that are no codestream stand one after the other at these places, and the last ends at `stop`
abbrev pub OthersUpTo : List ℕ → ℕ → List ℕ → ℕ → Type 0
OthersUpTo bytes at [] stop = at ≡ stop
OthersUpTo bytes at (place ∷ more) stop = (place ≡ at) × (rule_at bytes at ≡ None) × (tbox bytes at ≢ jp2c) × OthersUpTo bytes (end_at bytes at) more stop

-- from a place on, the first codestream is this one
pub record IsNextCodestream (bytes : List ℕ) (at : ℕ) (boxed : Boxed) : Type 0 where
  pub before : List ℕ
  pub others : OthersUpTo bytes at before boxed.head
  pub sound : rule_at bytes boxed.head ≡ None
  pub kind : tbox bytes boxed.head ≡ jp2c
  pub is : boxed ≡ boxed_at bytes boxed.head

-- from a place on, no codestream comes before the first rule that is broken
pub record IsNextFault (bytes : List ℕ) (at number place : ℕ) : Type 0 where
  pub before : List ℕ
  pub others : OthersUpTo bytes at before place
  pub broken : rule_at bytes place ≡ Some number

abbrev pub IsCodestream : List ℕ → Boxed → Type 0
IsCodestream bytes boxed = IsNextCodestream bytes 0 boxed

abbrev pub IsFault : List ℕ → BoxFault → Type 0
IsFault bytes (fault.Rule number place) = IsNextFault bytes 0 number place
IsFault bytes fault.NoMemory = ⊥

-- the content of a box
abbrev pub content : List ℕ → Boxed → List ℕ
content bytes boxed = take (boxed.to - boxed.from) (drop boxed.from bytes)
