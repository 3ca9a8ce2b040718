-- The words by which a planner is chosen and told its rule: decimal numbers, in digits without a sign or a leading zero.
use Rattle.std.specs.Prelude.{◌<◌, ◌≤◌, ℕ, zero, suc, nat_lt, eqb, List, [], ◌∷◌, ◌++◌, length, map, Option, None, Some, if◌then◌else◌, codes}
use Rattle.std.specs.List.{join_with_byte, slice_split}
use Rattle.std.specs.Option.{option_map, option_and_then}
use Rattle.std.specs.Fmt.{decimal}
use Rattle.jx_base.specs.Texts.{after, number_in}

-- numbers that rise from above one, each at most 220
abbrev pub AreRising : ℕ → List ℕ → Type 0
AreRising last [] = Unit {0}
AreRising last (n ∷ list) = (last < n) × (n ≤ 220) × AreRising n list

-- 1 to 32 passes of a block at which layers are cut, each from 1 to 220
pub record AreCuts (list : List ℕ) : Type 0 where
  pub some : 1 ≤ length list
  pub few : length list ≤ 32
  pub rising : AreRising 0 list

-- how they are spelled, with commas; and a number of planes
abbrev pub cuts_text : List ℕ → List ℕ
cuts_text list = codes "cuts:" ++ join_with_byte 44 (map decimal list)

abbrev pub planes_text : ℕ → List ℕ
planes_text q = codes "planes:" ++ decimal q

-- a number from 1 to 220 that is above another
abbrev pub if_above : ℕ → Option ℕ → Option ℕ
if_above last None = None
if_above last (Some n) = if nat_lt last n then Some n else None

abbrev pub cut_in : ℕ → List ℕ → Option ℕ
cut_in last text = if_above last (number_in 220 text)

-- a number in front of others, where it and they are there
abbrev pub in_front : Option ℕ → (ℕ → Option (List ℕ)) → Option (List ℕ)
in_front None more = None
in_front (Some n) more = option_map (λ list. n ∷ list) (more n)

-- the numbers of which the digits are these texts, where they rise from above one and are so many at most
abbrev pub rising_in : ℕ → ℕ → List (List ℕ) → Option (List ℕ)
rising_in last room [] = Some []
rising_in last zero (text ∷ texts) = None
rising_in last (suc room) (text ∷ texts) = in_front (cut_in last text) (λ n. rising_in n room texts)

-- what stands between the commas of a text
unfoldable pub parts_of : List ℕ → List (List ℕ)
parts_of text = slice_split (λ b. eqb b 44) text

-- the numbers between them
unfoldable pub cuts_after : List ℕ → Option (List ℕ)
cuts_after text = rising_in 0 32 (parts_of text)

-- the passes at which a text says to cut, and the number of planes that one names
abbrev pub cuts_in : List ℕ → Option (List ℕ)
cuts_in text = option_and_then cuts_after (after (codes "cuts:") text)

abbrev pub planes_in : List ℕ → Option ℕ
planes_in text = option_and_then (number_in 74) (after (codes "planes:") text)
