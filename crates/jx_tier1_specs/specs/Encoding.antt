-- Passes as an encoder codes them.
use Rattle.std.specs.Prelude.{ℕ, ◌+◌, Bool, List, [], ◌∷◌, ◌++◌, if◌then◌else◌, ◌||◌}
use Rattle.jx_coder_specs.specs.MqTable.{mq_fresh}
use Rattle.jx_base.specs.Passes.{raw_pass, end_pass, resets, is_causal}
use Rattle.jx_tier1_specs.specs.Cells.{Cells}
use Rattle.jx_tier1_specs.specs.Asking.{told}
use Rattle.jx_tier1_specs.specs.Pass.{pass_of}
use Rattle.jx_tier1_specs.specs.Symbol.{symbol_asked}
use Rattle.jx_tier1_specs.specs.Reading.{Coding, ends_by_symbol}
use Rattle.jx_tier1_specs.specs.Writing.{Writing, fresh_writing, write_answer, wrote, segment_by}
use Rattle.jx_tier1_specs.specs.Needs.{followed_pass, pass_needs}

-- the coefficients so far, the coder, and the segments that are done
pub record Encoding : Type 0 where
  pub cells : Cells
  pub writing : Writing
  pub done : List (List ℕ)

abbrev pub renewed_writing : ℕ → Writing → Writing
renewed_writing style w = if resets style then record w { contexts = mq_fresh } else w

-- after a pass's own decisions
abbrev pub after_bits : Coding → ℕ → Encoding → Encoding
after_bits c pass e =
    let bits = told write_answer (pass_of c.band (is_causal c.style) c.planes pass e.cells) (renewed_writing c.style e.writing) in
    record e { cells = bits.0; writing = bits.1 }

-- after the segmentation symbol, where there is one
abbrev pub after_symbol : ℕ → ℕ → Encoding → Encoding
after_symbol style pass e =
    if ends_by_symbol style pass then record e { writing = (told write_answer symbol_asked e.writing).1 } else e

-- the segment is done, and another one begins
abbrev pub closed : ℕ → ℕ → Encoding → Encoding
closed style pass e = record e {
  writing = fresh_writing e.writing.target (raw_pass style (pass + 1)) e.writing.contexts;
  done = e.done ++ segment_by e.writing ∷ [];
}

-- a pass: the coefficients so far and the decisions are those that the grid calls for
abbrev pub after_pass : Coding → ℕ → Encoding → Encoding
after_pass c pass e = record e {
  cells = followed_pass c e.writing.target pass e.cells;
  writing = wrote e.writing (pass_needs c e.writing.target pass e.cells);
}

-- the segment is done where the pass ends one or is the last
abbrev pub after_step : Coding → Bool → ℕ → Encoding → Encoding
after_step c last pass e =
    if end_pass c.style pass || last then closed c.style pass (after_pass c pass e) else after_pass c pass e
