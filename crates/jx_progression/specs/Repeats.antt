-- Entries that cover the same packets as an entry before them (ITU-T T.800, A.6.6), and so send nothing (B.12.2).
use Rattle.std.specs.Prelude.{ℕ, ◌<◌, ◌≡◌, Bool, true, false, List, slice_index_or}
use Rattle.jx_marker.specs.declared.Progression.{Progression}
use Rattle.jx_progression.specs.Packets.{entry_at}

-- the entries cover the same packets, be it in different orders
pub record CoverSame (e f : Progression) : Type 0 where
  pub res_from : e.rs ≡ f.rs
  pub comp_from : e.cs ≡ f.cs
  pub layer : e.lye ≡ f.lye
  pub res_below : e.re ≡ f.re
  pub comp_below : e.ce ≡ f.ce

-- an entry before it covers the same packets
abbrev pub IsRepeat : List Progression → ℕ → Type 0
IsRepeat entries i = (j : ℕ) × (j < i) × CoverSame (entry_at entries j) (entry_at entries i)

-- each entry that is marked is such an entry
abbrev pub AreRepeats : List Progression → List Bool → Type 0
AreRepeats entries repeats = (i : ℕ) → slice_index_or repeats i false ≡ true → IsRepeat entries i
