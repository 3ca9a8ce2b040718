-- Passes that are decoded and coded in step: each decision that is read is written, under the label that it was read under
-- (ITU-T T.800, D.3, D.4).
use Rattle.std.specs.Prelude.{ℕ, zero, suc, ◌+◌, ◌==◌, Bool, false, ◌||◌, List, [], ◌∷◌, ◌++◌, drop, map, if◌then◌else◌, Option, None}
use Rattle.jx_coder_specs.specs.MqTable.{mq_fresh}
use Rattle.jx_base.specs.Passes.{raw_pass, end_pass, is_causal}
use Rattle.jx_tier1_specs.specs.declared.question.Question.{Question}
use Rattle.jx_tier1_specs.specs.Cells.{Cells}
use Rattle.jx_tier1_specs.specs.Asking.{told}
use Rattle.jx_tier1_specs.specs.Pass.{pass_of}
use Rattle.jx_tier1_specs.specs.Segments.{begins}
use Rattle.jx_tier1_specs.specs.Symbol.{symbol_asked}
use Rattle.jx_tier1_specs.specs.Reading.{Reading, Coding, fresh_reading, first_segment, renewed, read_answer, read_symbol, turned_over, ends_by_symbol, first_wrong, zeros}
use Rattle.jx_tier1_specs.specs.Writing.{Writing, fresh_writing, after_coded, write_answer, segment_by}
use Rattle.jx_tier1_specs.specs.Encoding.{renewed_writing}
use Rattle.jx_tier1_specs.specs.declared.stand.Stand.{Stand}
use Rattle.jx_tier1_specs.specs.Ends.{stand_of, end_in}

-- the grid of a writing that asks none
abbrev pub no_grid : Cells
no_grid = zeros 0 0

-- a coder that reads, and one that writes
pub record Copying : Type 0 where
  pub reading : Reading
  pub writing : Writing

-- a question is answered by the next decision, and the answer is written
abbrev pub copy_answer : Copying → Question → Bool × Copying
copy_answer s question =
    let answer = (read_answer s.reading question).0 in (
      answer,
      record {
        reading = (read_answer s.reading question).1;
        writing = after_coded s.writing question.label (turned_over s.writing.raw question answer);
      },
    )

-- after some passes: the coefficients, the coders, the segments that weren't begun, the first pass whose segmentation symbol is
-- wrong, the segments that are done, where the pen stood at the ends of passes within the one that isn't, and how many bytes of those
-- that are done a decoder has looked at by the end of each pass
pub record Recoding : Type 0 where
  pub cells : Cells
  pub copying : Copying
  pub rest : List (List ℕ)
  pub wrong : Option ℕ
  pub done : List (List ℕ)
  pub stands : List Stand
  pub looked : List ℕ

-- a segment of the old style begins where a pass does
unfoldable pub begun : ℕ → ℕ → Recoding → Recoding
begun style pass r = record r {
  copying = record r.copying {
    reading =
        if begins style pass
        then fresh_reading (raw_pass style pass) (first_segment r.rest) r.copying.reading.contexts
        else r.copying.reading;
  };
  rest = if begins style pass then drop 1 r.rest else r.rest;
}

-- each coder's contexts start anew as its own style has it
abbrev pub renewed_both : ℕ → ℕ → Copying → Copying
renewed_both old new s = record { reading = renewed old s.reading; writing = renewed_writing new s.writing }

-- the pass's own decisions, from one coding into another
abbrev pub copied_bits : Coding → Coding → ℕ → Recoding → Cells × Copying
copied_bits c d pass r = told copy_answer (pass_of c.band (is_causal c.style) c.planes pass r.cells) (renewed_both c.style d.style r.copying)

unfoldable pub copied : Coding → Coding → ℕ → Recoding → Recoding
copied c d pass r = record r { cells = (copied_bits c d pass r).0; copying = (copied_bits c d pass r).1 }

-- the symbol after the pass as the old style has it
unfoldable pub checked : ℕ → ℕ → Recoding → Recoding
checked style pass r = record r {
  copying = record r.copying { reading = (read_symbol style pass r.copying.reading).1 };
  wrong = first_wrong r.wrong pass (read_symbol style pass r.copying.reading).0;
}

-- and as the new one has it
unfoldable pub marked : ℕ → ℕ → Recoding → Recoding
marked style pass r = record r {
  copying = record r.copying {
    writing = if ends_by_symbol style pass then (told write_answer symbol_asked r.copying.writing).1 else r.copying.writing;
  };
}

-- a segment of the new style is done where the pass ends one or is the last
unfoldable pub ended : ℕ → Bool → ℕ → Recoding → Recoding
ended style last pass r = record r {
  copying = record r.copying {
    writing =
        if end_pass style pass || last
        then fresh_writing r.copying.writing.target (raw_pass style (pass + 1)) r.copying.writing.contexts
        else r.copying.writing;
  };
  done = if end_pass style pass || last then r.done ++ segment_by r.copying.writing ∷ [] else r.done;
  stands = if end_pass style pass || last then [] else r.stands ++ stand_of r.copying.writing ∷ [];
  looked =
      if end_pass style pass || last
      then r.looked ++ map (λ s. end_in (segment_by r.copying.writing) s) (r.stands ++ stand_of r.copying.writing ∷ [])
      else r.looked;
}

-- a pass
abbrev pub recoded_pass : Coding → Coding → Bool → ℕ → Recoding → Recoding
recoded_pass c d last pass r = ended d.style last pass (marked d.style pass (checked c.style pass (copied c d pass (begun c.style pass r))))

-- so many passes, from one on
unfoldable pub recoded_from : Coding → Coding → ℕ → ℕ → Recoding → Recoding
recoded_from c d zero pass r = r
recoded_from c d (suc count) pass r = recoded_from c d count (pass + 1) (recoded_pass c d (count == 0) pass r)

abbrev pub to_recode : ℕ → ℕ → ℕ → List (List ℕ) → Recoding
to_recode width height new segments = record {
  cells = zeros width height;
  copying = record { reading = fresh_reading false [] mq_fresh; writing = fresh_writing no_grid (raw_pass new 0) mq_fresh };
  rest = segments;
  wrong = None;
  done = [];
  stands = [];
  looked = [];
}
