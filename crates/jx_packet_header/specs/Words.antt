-- The code words of packet headers that no tag tree has (ITU-T T.800, B.10.6 and B.10.7).
use Rattle.std.specs.Prelude.{◌≡◌, ℕ, zero, suc, ◌+◌, ◌-◌, ◌^◌, ◌≤◌, ◌==◌, nat_le, Bool, true, false, List, [], ◌∷◌, ◌++◌, replicate, if◌then◌else◌}
use Rattle.jx_tagtree.specs.Header.{low_bits}

-- the number of passes that one packet may have of a block
pub record IsCount (n : ℕ) : Type 0 where
  pub some : 1 ≤ n
  pub few : n ≤ 164

-- the code word of a number of passes (table B.4)
unfoldable pub pass_word : ℕ → List Bool
pass_word n =
    if n == 1 then false ∷ []
    else if n == 2 then true ∷ false ∷ []
    else if nat_le n 5 then true ∷ true ∷ low_bits 2 (n - 3)
    else if nat_le n 36 then true ∷ true ∷ true ∷ true ∷ low_bits 5 (n - 6)
    else true ∷ true ∷ true ∷ true ∷ true ∷ true ∷ true ∷ true ∷ true ∷ low_bits 7 (n - 37)

-- no code word begins another, so a number and what stands behind its word are one
pub record OneWord (n m : ℕ) (rest behind : List Bool) : Type 0 where
  pub number : n ≡ m
  pub rests : rest ≡ behind

-- by how much Lblock is raised
abbrev pub raise_word : ℕ → List Bool
raise_word k = replicate k true ++ false ∷ []

-- how many of the first n powers of 2 a number reaches
abbrev pub powers : ℕ → ℕ → ℕ
powers zero m = 0
powers (suc n) m = powers n m + (if nat_le (2 ^ n) m then 1 else 0)

-- how many binary digits a number of 32 bits has
unfoldable pub size : ℕ → ℕ
size m = powers 32 m

-- the logarithm of a number to the base 2, rounded down
abbrev pub log2 : ℕ → ℕ
log2 m = size m - 1
