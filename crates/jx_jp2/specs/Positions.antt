-- Whether a file has a box that holds positions in the file, on the top level and before the first box that breaks a rule: fragments,
-- a cross-reference or a signature (ITU-T T.801, Annex M), a table of pages (T.805), or an index (T.808, Annex I).
use Rattle.std.specs.Prelude.{◌≡◌, ℕ, ◌==◌, ◌||◌, Bool, true, List, [], ◌∷◌, None}
use Rattle.jx_jp2.specs.Heads.{tbox, end_at}
use Rattle.jx_jp2.specs.Kinds.{chck, cidx, cref, fidx, flst, ftbl, iptr, pagt}
use Rattle.jx_jp2.specs.Codestream.{rule_at}

-- whether boxes of a type are indexes
abbrev pub is_index : ℕ → Bool
is_index kind = (kind == fidx) || (kind == cidx) || (kind == iptr)

-- whether boxes of a type hold positions
abbrev pub has_positions : ℕ → Bool
has_positions kind = (kind == ftbl) || (kind == flst) || (kind == cref) || (kind == chck) || (kind == pagt) || is_index kind

-- from a place on, sound boxes of the top level stand one after the other at these places, and the last ends at `stop`
abbrev pub SoundUpTo : List ℕ → ℕ → List ℕ → ℕ → Type 0
SoundUpTo bytes at [] stop = at ≡ stop
SoundUpTo bytes at (place ∷ more) stop = (place ≡ at) × (rule_at bytes at ≡ None) × SoundUpTo bytes (end_at bytes at) more stop

-- from a place on, one of the sound boxes of the top level holds positions
pub record HoldsPositionsFrom (bytes : List ℕ) (at : ℕ) : Type 0 where
  pub before : List ℕ
  pub place : ℕ
  pub boxes : SoundUpTo bytes at before place
  pub sound : rule_at bytes place ≡ None
  pub kind : has_positions (tbox bytes place) ≡ true

abbrev pub HoldsPositions : List ℕ → Type 0
HoldsPositions bytes = HoldsPositionsFrom bytes 0
