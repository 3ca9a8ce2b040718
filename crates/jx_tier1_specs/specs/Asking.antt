-- Procedures that ask for decisions: which one is asked for next depends on what the earlier ones were. Whoever answers, a
-- decoder that reads them or a grid that calls for them, is a state with a function that answers a question.
use Rattle.std.specs.Prelude.{Bool}
use Rattle.jx_tier1_specs.specs.declared.question.Question.{Question}

-- a value that is told, or a question with what follows either answer
pub data Asking (A : Type 0) : Type 0 where
  Told : A → Asking A
  Ask : Question → (Bool → Asking A) → Asking A

module _ {A B : Type 0} where
  -- one after the other
  abbrev pub and_then : Asking A → (A → Asking B) → Asking B
  and_then (Told a) more = more a
  and_then (Ask question more_of) more = Ask question (λ answer. and_then (more_of answer) more)

module _ {S A : Type 0} where
  -- what is told in the end, and the state of whoever answered
  abbrev pub told : (S → Question → Bool × S) → Asking A → S → A × S
  told ask (Told a) s = (a, s)
  told ask (Ask question more) s = told ask (more (ask s question).0) (ask s question).1
