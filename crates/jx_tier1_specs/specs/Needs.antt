-- The decisions that coded passes need for a grid (ITU-T T.800, D.3), and their segments (D.4, D.6, C.2).
use Rattle.std.specs.Prelude.{ℕ, zero, suc, ◌≡◌, ◌+◌, ◌/◌, ◌%◌, ◌^◌, ◌==◌, nat_lt, nat_le, Bool, true, false, ◌||◌, List, [], ◌∷◌, ◌++◌, if◌then◌else◌}
use Rattle.jx_coder_specs.specs.MqTable.{MqContexts, mq_fresh}
use Rattle.jx_coder_specs.specs.MqWriting.{MqGiven, Decided, Renewed, mq_write, mq_contexts_after, mq_bits}
use Rattle.jx_coder_specs.specs.RawBits.{raw_write}
use Rattle.jx_base.specs.Passes.{raw_pass, end_pass, resets, is_causal}
use Rattle.jx_tier1_specs.specs.declared.question.Question.{Question}
use Rattle.jx_tier1_specs.specs.declared.question.About.{About}
use Rattle.jx_tier1_specs.specs.declared.question.About.TheVariants.{Bit, Sign, Run, High, Low, Symbol}
use Rattle.jx_tier1_specs.specs.Cells.{Cells, coef_at}
use Rattle.jx_tier1_specs.specs.Asking.{Asking, Told, Ask}
use Rattle.jx_tier1_specs.specs.Pass.{pass_of}
use Rattle.jx_tier1_specs.specs.Symbol.{symbol_asked}
use Rattle.jx_tier1_specs.specs.Reading.{Coding, turned_over, ends_by_symbol, zeros}

-- the bit of weight 2 to a power at a place
abbrev pub bit_at_place : Cells → ℕ → ℕ → ℕ → Bool
bit_at_place g shift x y = (coef_at g x y).bits / 2 ^ shift % 2 == 1

-- the first of four places from one downwards that has the bit; 4 where none has
abbrev pub first_of_four : Cells → ℕ → ℕ → ℕ → ℕ
first_of_four g shift x y =
    if bit_at_place g shift x y then 0
    else if bit_at_place g shift x (y + 1) then 1
    else if bit_at_place g shift x (y + 2) then 2
    else if bit_at_place g shift x (y + 3) then 3
    else 4

-- what a grid answers to a question
abbrev pub answer_about : Cells → ℕ → About → Bool
answer_about g shift (Bit x y) = bit_at_place g shift x y
answer_about g shift (Sign x y) = (coef_at g x y).negative
answer_about g shift (Run x y) = nat_lt (first_of_four g shift x y) 4
answer_about g shift (High x y) = nat_le 2 (first_of_four g shift x y)
answer_about g shift (Low x y) = first_of_four g shift x y % 2 == 1
answer_about g shift (Symbol bit) = bit

abbrev pub answer_of : Cells → Question → Bool
answer_of g question = answer_about g question.shift question.about

module _ {A : Type 0} where
  -- what is told in the end where a grid answers
  abbrev pub followed : Cells → Asking A → A
  followed g (Told a) = a
  followed g (Ask question more) = followed g (more (answer_of g question))

  -- the decisions that it is asked for, as they are coded
  abbrev pub called_for : Bool → Cells → Asking A → List MqGiven
  called_for raw g (Told a) = []
  called_for raw g (Ask question more) =
      Decided question.label (turned_over raw question (answer_of g question)) ∷ called_for raw g (more (answer_of g question))

-- a pass over the coefficients so far, where the grid answers
abbrev pub followed_pass : Coding → Cells → ℕ → Cells → Cells
followed_pass c g pass now = followed g (pass_of c.band (is_causal c.style) c.planes pass now)

-- its decisions, with a reset before them and a segmentation symbol after them where the style has these
abbrev pub renewal : Coding → List MqGiven
renewal c = if resets c.style then Renewed ∷ [] else []

abbrev pub symbol_needs : Coding → Cells → ℕ → List MqGiven
symbol_needs c g pass = if ends_by_symbol c.style pass then called_for (raw_pass c.style pass) g symbol_asked else []

abbrev pub pass_needs : Coding → Cells → ℕ → Cells → List MqGiven
pass_needs c g pass now =
    renewal c ++ (called_for (raw_pass c.style pass) g (pass_of c.band (is_causal c.style) c.planes pass now) ++ symbol_needs c g pass)

-- so many passes, from one on: the coefficients in the end, and the decisions of each pass
unfoldable pub followed_from : Coding → Cells → ℕ → ℕ → Cells → Cells
followed_from c g zero pass now = now
followed_from c g (suc count) pass now = followed_from c g count (pass + 1) (followed_pass c g pass now)

unfoldable pub needs_from : Coding → Cells → ℕ → ℕ → Cells → List (List MqGiven)
needs_from c g zero pass now = []
needs_from c g (suc count) pass now = pass_needs c g pass now ∷ needs_from c g count (pass + 1) (followed_pass c g pass now)

-- the decisions of each of the first passes of a block that is to become the grid
abbrev pub needs : Coding → Cells → ℕ → List (List MqGiven)
needs c g passes = needs_from c g passes 0 (zeros g.width g.height)

-- the passes make the grid
pub record Fits (c : Coding) (g : Cells) (passes : ℕ) : Type 0 where
  pub is : followed_from c g passes 0 (zeros g.width g.height) ≡ g

-- a segment, and the contexts after it
abbrev pub segment_of : Bool → MqContexts → List MqGiven → List ℕ
segment_of raw x given = if raw then raw_write (mq_bits given) else mq_write x given

abbrev pub renewed_by : MqContexts → List MqGiven → MqContexts
renewed_by x [] = x
renewed_by x (Decided label bit ∷ given) = renewed_by x given
renewed_by x (Renewed ∷ given) = renewed_by mq_fresh given

abbrev pub contexts_after : Bool → MqContexts → List MqGiven → MqContexts
contexts_after raw x given = if raw then renewed_by x given else mq_contexts_after x given

abbrev pub is_last : List (List MqGiven) → Bool
is_last [] = true
is_last (given ∷ more) = false

-- the segments of passes, from one on: each ends at a pass that ends one, and at the last; so far its decisions are these
unfoldable pub segments_from : ℕ → ℕ → MqContexts → List MqGiven → List (List MqGiven) → List (List ℕ)
segments_from style pass x begun [] = []
segments_from style pass x begun (given ∷ more) =
    if end_pass style pass || is_last more
    then segment_of (raw_pass style pass) x (begun ++ given)
    ∷ segments_from style (pass + 1) (contexts_after (raw_pass style pass) x (begun ++ given)) [] more
    else segments_from style (pass + 1) x (begun ++ given) more

-- the segments of the first passes of a block that is to become the grid
abbrev pub written : Coding → Cells → ℕ → List (List ℕ)
written c g passes = segments_from c.style 0 mq_fresh [] (needs c g passes)
