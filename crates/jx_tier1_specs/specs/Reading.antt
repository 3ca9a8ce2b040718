-- The coefficients that coded passes give: each pass reads its decisions from its segment (ITU-T T.800, D.3, D.4, D.6).
use Rattle.std.specs.Prelude.{ℕ, zero, suc, ◌+◌, ◌-◌, ◌*◌, ◌%◌, min, ◌==◌, Bool, true, false, ◌&&◌, not, List, [], ◌∷◌, ◌++◌, length, drop, slice_index_or, replicate, if◌then◌else◌, Option, Some, None}
use Rattle.jx_base.specs.declared.names.Band.{Band}
use Rattle.jx_coder_specs.specs.MqTable.{MqContexts, mq_fresh, mq_row_of}
use Rattle.jx_coder_specs.specs.MqReading.{MqReader, mq_reader, mq_bit, mq_after, mq_read}
use Rattle.jx_coder_specs.specs.RawBits.{raw_bits, raw_looked}
use Rattle.jx_base.specs.Passes.{raw_pass, resets, is_causal, has_symbols}
use Rattle.jx_tier1_specs.specs.declared.question.Question.{Question}
use Rattle.jx_tier1_specs.specs.Cells.{Cells, zero_coef}
use Rattle.jx_tier1_specs.specs.Asking.{told}
use Rattle.jx_tier1_specs.specs.Pass.{pass_of}
use Rattle.jx_tier1_specs.specs.Symbol.{symbol_asked}
use Rattle.jx_tier1_specs.specs.Segments.{begins}

-- A coder within a segment: its bytes, whether it is raw, the arithmetic decoder's registers, the raw bits that weren't read,
-- and the contexts
pub record Reading : Type 0 where
  pub segment : List ℕ
  pub raw : Bool
  pub mq : MqReader
  pub left : List Bool
  pub contexts : MqContexts

abbrev pub fresh_reading : Bool → List ℕ → MqContexts → Reading
fresh_reading raw segment x = record { segment = segment; raw = raw; mq = mq_reader segment; left = raw_bits segment; contexts = x }

-- a decision as it is coded: raw bits are 1 past the end
abbrev pub coded_bit : Reading → ℕ → Bool
coded_bit r label = if r.raw then slice_index_or r.left 0 true else mq_bit r.mq r.contexts label

abbrev pub after_bit : Reading → ℕ → Reading
after_bit r label =
    if r.raw then record r { left = drop 1 r.left }
    else record r { mq = mq_read r.segment r.mq (mq_row_of r.contexts label).qe; contexts = mq_after r.mq r.contexts label }

-- decisions of an arithmetically coded pass may be turned over
abbrev pub turned_over : Bool → Question → Bool → Bool
turned_over raw question bit = if not raw && question.turned then not bit else bit

-- a question is answered by the next decision
abbrev pub read_answer : Reading → Question → Bool × Reading
read_answer r question = (turned_over r.raw question (coded_bit r question.label), after_bit r question.label)

-- how many bytes of the segment were read or compared
abbrev pub looked_of : Reading → ℕ
looked_of r = if r.raw then raw_looked r.segment (length (raw_bits r.segment) - length r.left) else min r.mq.looked (length r.segment)

-- how a block's passes are coded
pub record Coding : Type 0 where
  pub band : Band
  pub style : ℕ
  pub planes : ℕ

abbrev pub coding_of : Band → ℕ → ℕ → Coding
coding_of band style planes = record { band = band; style = style; planes = planes }

-- after some passes: the coefficients, the coder, the segments that weren't begun, how many bytes of its segment were looked at
-- by the end of each pass, and the first pass whose segmentation symbol is wrong
pub record Decoding : Type 0 where
  pub cells : Cells
  pub reading : Reading
  pub rest : List (List ℕ)
  pub looked : List ℕ
  pub wrong : Option ℕ

-- a segment that isn't there is one of no bytes
abbrev pub first_segment : List (List ℕ) → List ℕ
first_segment [] = []
first_segment (segment ∷ rest) = segment

-- a segment's first pass has a fresh coder, and keeps the contexts
abbrev pub opened : ℕ → ℕ → Decoding → Decoding
opened style pass d =
    if begins style pass
    then record d { reading = fresh_reading (raw_pass style pass) (first_segment d.rest) d.reading.contexts; rest = drop 1 d.rest }
    else d

abbrev pub renewed : ℕ → Reading → Reading
renewed style r = if resets style then record r { contexts = mq_fresh } else r

-- the pass's own decisions
abbrev pub read_bits : Coding → ℕ → Decoding → Cells × Reading
read_bits c pass d = told read_answer (pass_of c.band (is_causal c.style) c.planes pass d.cells) (renewed c.style d.reading)

-- whether a segmentation symbol follows a pass
abbrev pub ends_by_symbol : ℕ → ℕ → Bool
ends_by_symbol style pass = has_symbols style && pass % 3 == 0

-- whether it is right, where there is one
abbrev pub read_symbol : ℕ → ℕ → Reading → Bool × Reading
read_symbol style pass r = if ends_by_symbol style pass then told read_answer symbol_asked r else (true, r)

abbrev pub first_wrong : Option ℕ → ℕ → Bool → Option ℕ
first_wrong (Some earlier) pass right = Some earlier
first_wrong None pass right = if right then None else Some pass

-- a pass within its segment
abbrev pub read_within : Coding → ℕ → Decoding → Decoding
read_within c pass d =
    let bits = read_bits c pass d in
    let symbol = read_symbol c.style pass bits.1 in
    record {
      cells = bits.0;
      reading = symbol.1;
      rest = d.rest;
      looked = d.looked ++ looked_of symbol.1 ∷ [];
      wrong = first_wrong d.wrong pass symbol.0;
    }

abbrev pub read_pass : Coding → ℕ → Decoding → Decoding
read_pass c pass d = read_within c pass (opened c.style pass d)

-- so many passes, from one on
unfoldable pub read_from : Coding → ℕ → ℕ → Decoding → Decoding
read_from c zero pass d = d
read_from c (suc count) pass d = read_from c count (pass + 1) (read_pass c pass d)

abbrev pub zeros : ℕ → ℕ → Cells
zeros width height = record { width = width; height = height; coefs = replicate (height * width) zero_coef }

abbrev pub at_start : ℕ → ℕ → List (List ℕ) → Decoding
at_start width height segments =
    record { cells = zeros width height; reading = fresh_reading false [] mq_fresh; rest = segments; looked = []; wrong = None }

-- what the first passes of a block make of its segments
unfoldable pub decoded : ℕ → ℕ → Coding → List (List ℕ) → ℕ → Decoding
decoded width height c segments passes = read_from c passes 0 (at_start width height segments)
