-- One number for the row and the more probable symbol of a label.
use Rattle.std.specs.Prelude.{◌≡◌, ◌<◌, ℕ, ◌+◌, ◌-◌, ◌*◌, ◌/◌, ◌%◌, ◌==◌, nat_le, Bool, true, false, not, List, map, if◌then◌else◌}
use Rattle.jx_coder_specs.specs.MqTable.{MqContexts, mq_row_at}

abbrev pub state_of : ℕ → Bool → ℕ
state_of row symbol = 2 * row + (if symbol then 1 else 0)

abbrev pub row_in : ℕ → ℕ
row_in state = state / 2

abbrev pub symbol_in : ℕ → Bool
symbol_in state = state % 2 == 1

-- the contexts that states stand for
abbrev pub contexts_of : List ℕ → MqContexts
contexts_of states = record { rows = map (λ s. row_in s) states; symbols = map (λ s. symbol_in s) states }

-- the state after a decision that is the more probable symbol, or isn't, and left A in some width: nothing moves where A keeps bit 15
abbrev pub next_state : ℕ → ℕ → Bool → ℕ
next_state state a is_mps =
    let row = mq_row_at (row_in state) in
    let symbol = symbol_in state in
    if nat_le 32768 a then state
    else if is_mps then state_of row.nmps symbol
    else state_of row.nlps (if row.switches then not symbol else symbol)

-- what a decision leaves of A: the more probable symbol's part keeps bit 15 where A without Qe has it, the other one never does
pub record IsNarrowed (before qe after : ℕ) (is_mps : Bool) : Type 0 where
  pub mps : is_mps ≡ true → nat_le 32768 after ≡ nat_le 32768 (before - qe)
  pub lps : is_mps ≡ false → after < 32768
