-- Coded passes as an encoder writes them, one decision after the other.
use Rattle.std.specs.Prelude.{ℕ, ◌+◌, Bool, ◌||◌, List, [], ◌∷◌, ◌++◌, if◌then◌else◌}
use Rattle.jx_coder_specs.specs.MqTable.{MqContexts, mq_fresh}
use Rattle.jx_coder_specs.specs.MqWriting.{MqWriter, MqGiven, Decided, Renewed, mq_writer, mq_wrote, mq_after_bit, mq_segment}
use Rattle.jx_coder_specs.specs.RawBits.{raw_write}
use Rattle.jx_base.specs.Passes.{raw_pass, end_pass}
use Rattle.jx_tier1_specs.specs.declared.question.Question.{Question}
use Rattle.jx_tier1_specs.specs.Cells.{Cells}
use Rattle.jx_tier1_specs.specs.Reading.{turned_over}
use Rattle.jx_tier1_specs.specs.Needs.{answer_of, is_last}

-- the grid that answers, and a coder within a segment: whether it is raw, the encoder's registers or the raw bits, the contexts
pub record Writing : Type 0 where
  pub target : Cells
  pub raw : Bool
  pub mq : MqWriter
  pub bits : List Bool
  pub contexts : MqContexts

abbrev pub fresh_writing : Cells → Bool → MqContexts → Writing
fresh_writing g raw x = record { target = g; raw = raw; mq = mq_writer; bits = []; contexts = x }

abbrev pub after_coded : Writing → ℕ → Bool → Writing
after_coded w label bit =
    if w.raw then record w { bits = w.bits ++ bit ∷ [] }
    else record w { mq = mq_wrote w.mq w.contexts label bit; contexts = mq_after_bit w.mq w.contexts label bit }

-- a question is answered by the grid, and the answer is written
abbrev pub write_answer : Writing → Question → Bool × Writing
write_answer w question =
    let answer = answer_of w.target question in
    (answer, after_coded w question.label (turned_over w.raw question answer))

-- after a list of decisions and resets
abbrev pub wrote : Writing → List MqGiven → Writing
wrote w [] = w
wrote w (Decided label bit ∷ given) = wrote (after_coded w label bit) given
wrote w (Renewed ∷ given) = wrote (record w { contexts = mq_fresh }) given

-- the segment of all decisions
abbrev pub segment_by : Writing → List ℕ
segment_by w = if w.raw then raw_write w.bits else mq_segment w.mq

-- the segments of passes from one on, of which the first one goes on with a coder
unfoldable pub finished_from : ℕ → ℕ → Writing → List (List MqGiven) → List (List ℕ)
finished_from style pass w [] = []
finished_from style pass w (given ∷ more) =
    let after = wrote w given in
    if end_pass style pass || is_last more
    then segment_by after ∷ finished_from style (pass + 1) (fresh_writing after.target (raw_pass style (pass + 1)) after.contexts) more
    else finished_from style (pass + 1) after more
