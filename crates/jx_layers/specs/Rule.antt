-- The rules by which coding passes are put into quality layers.
use Rattle.std.specs.Prelude.{ℕ, ◌+◌, ◌/◌, List, [], ◌∷◌, length, slice_index_or, count_by, nat_le, max}
use Rattle.jx_base.specs.Numbers.{ceil_of}
use Rattle.jx_layers.specs.declared.PassFacts.{PassFacts}
use Rattle.jx_layers.specs.declared.StreamFacts.{StreamFacts}

pub data Rule : Type 0 where
  -- the layers of the input
  Keep : Rule
  -- all in one
  One : Rule
  -- a new layer at each of these passes of a block
  Cuts : List ℕ → Rule
  -- a new layer after so many planes of the band
  Planes : ℕ → Rule
  -- the layer of each question, as a list has it
  Table : List ℕ → Rule

abbrev pub greatest : List ℕ → ℕ
greatest [] = 0
greatest (n ∷ list) = max n (greatest list)

-- how many layers a rule makes
abbrev pub layers_by : Rule → StreamFacts → ℕ
layers_by Keep facts = facts.layers
layers_by One facts = 1
layers_by (Cuts list) facts = length list + 1
layers_by (Planes q) facts = max 1 (ceil_of facts.planes q)
layers_by (Table list) facts = 1 + greatest list

-- the layer that a rule answers for a pass, after so many questions
abbrev pub answer : Rule → ℕ → PassFacts → ℕ
answer Keep asked pass = pass.layer
answer One asked pass = 0
answer (Cuts list) asked pass = count_by (λ cut. nat_le cut pass.pass) list
answer (Planes q) asked pass = (pass.zero + pass.plane) / q
answer (Table list) asked pass = slice_index_or list asked 0
