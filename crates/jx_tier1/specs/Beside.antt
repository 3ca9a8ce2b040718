-- Two codings of a block that are read beside each other: each question is put to both, under the label that the first one's
-- coefficients give it (ITU-T T.800, D.3, D.4).
use Rattle.std.specs.Prelude.{ℕ, ◌≡◌, ◌+◌, Bool, true, false, ◌&&◌, List, drop, if◌then◌else◌}
use Rattle.std.specs.Bool.{beq}
use Rattle.jx_base.specs.Passes.{raw_pass}
use Rattle.jx_tier1_specs.specs.declared.question.Question.{Question}
use Rattle.jx_tier1_specs.specs.Cells.{Cells}
use Rattle.jx_tier1_specs.specs.Segments.{begins}
use Rattle.jx_tier1_specs.specs.Reading.{Reading, Coding, Decoding, fresh_reading, first_segment, renewed, read_answer, read_symbol, read_pass}
use Rattle.jx_tier1_specs.proofs.GridLemmas.{IsFront}
use Rattle.jx_tier1.specs.Blocks.{BlockWords}
use Rattle.jx_tier1.specs.BlockPasses.{Shows}

-- of one coding the coder, and the segments that weren't begun
pub record HalfValue : Type 0 where
  pub reading : Reading
  pub rest : List (List ℕ)

-- both, and whether all questions so far were answered alike
pub record Pair : Type 0 where
  pub one : HalfValue
  pub two : HalfValue
  pub alike : Bool

abbrev pub half_read : HalfValue → Reading → HalfValue
half_read h r = record h { reading = r }

-- a question is put to both, and the first one's answer is given
abbrev pub both_answer : Pair → Question → Bool × Pair
both_answer p question =
    let first = read_answer p.one.reading question in
    let second = read_answer p.two.reading question in (
      first.0,
      record {
        one = half_read p.one first.1;
        two = half_read p.two second.1;
        alike = p.alike && beq first.0 second.0;
      },
    )

-- a segment begins where a pass does
abbrev pub half_opened : ℕ → ℕ → HalfValue → HalfValue
half_opened style pass h =
    if begins style pass
    then record { reading = fresh_reading (raw_pass style pass) (first_segment h.rest) h.reading.contexts; rest = drop 1 h.rest }
    else h

-- before a pass's own decisions, in each one's style
abbrev pub half_begun : ℕ → ℕ → HalfValue → HalfValue
half_begun style pass h = half_read (half_opened style pass h) (renewed style (half_opened style pass h).reading)

abbrev pub pair_begun : ℕ → ℕ → ℕ → Pair → Pair
pair_begun one two pass p = record p { one = half_begun one pass p.one; two = half_begun two pass p.two }

-- after them a segmentation symbol is read where there is one, and may be wrong
abbrev pub half_ended : ℕ → ℕ → HalfValue → HalfValue
half_ended style pass h = half_read h (read_symbol style pass h.reading).1

abbrev pub pair_ended : ℕ → ℕ → ℕ → Pair → Pair
pair_ended one two pass p = record p { one = half_ended one pass p.one; two = half_ended two pass p.two }

-- what of two decodings is read on
abbrev pub half_of : Decoding → HalfValue
half_of d = record { reading = d.reading; rest = d.rest }

abbrev pub pair_of : Decoding → Decoding → Pair
pair_of a b = record { one = half_of a; two = half_of b; alike = true }

-- two decodings that made the same coefficients, which the words of a block show
pub record Agree (planes pass : ℕ) (a b : Decoding) (m : BlockWords) (now : Pair) : Type 0 where
  pub pair : now ≡ pair_of a b
  pub cells : b.cells ≡ a.cells
  pub block : Shows planes pass a.cells m

-- after a further pass of both they agree where both answered alike; else there is no grid that both may become
pub record AreBeside (c d : Coding) (pass : ℕ) (a b : Decoding) (m : BlockWords) (now : Pair) : Type 0 where
  pub alike : now.alike ≡ true → Agree c.planes (pass + 1) (read_pass c pass a) (read_pass d pass b) m now
  pub unlike : now.alike ≡ false → (g : Cells) → IsFront c.planes (read_pass c pass a).cells g → IsFront c.planes (read_pass d pass b).cells g → ⊥
