-- What a decoder makes of the decisions that it reads: each is noted in the coefficients as it is read (ITU-T T.800, D.3).
use Rattle.std.specs.Prelude.{ℕ, ◌+◌, ◌-◌, ◌%◌, ◌^◌, Bool, false, if◌then◌else◌}
use Rattle.jx_tier1_specs.specs.declared.coef.Coef.{Coef}
use Rattle.jx_tier1_specs.specs.declared.question.Plane.{Plane}
use Rattle.jx_tier1_specs.specs.declared.question.Question.{Question}
use Rattle.jx_tier1_specs.specs.declared.question.About.{About}
use Rattle.jx_tier1_specs.specs.declared.question.About.TheVariants.{Bit, Sign, Run, High, Low, Symbol}
use Rattle.jx_tier1_specs.specs.Cells.{Cells}
use Rattle.jx_tier1_specs.specs.Pass.{changed, zeroed, number_in_run}
use Rattle.jx_tier1_specs.specs.Reading.{Reading, read_answer}

-- the plane that is scanned, the coefficients so far, the two bits that name a place of a run until its sign is read, and the coder
pub record Noting : Type 0 where
  pub plane : Plane
  pub cells : Cells
  pub high : Bool
  pub low : Bool
  pub reading : Reading

-- the start of a pass
abbrev pub noting : Plane → Cells → Reading → Noting
noting k g r = record { plane = k; cells = g; high = false; low = false; reading = r }

-- the coefficient with its bit of the plane, as 128 bits hold it
abbrev pub with_more : Plane → ℕ → Bool → Coef → Coef
with_more k shift bit c = record c { bits = (if bit then (c.bits + 2 ^ shift) % 2 ^ 128 else c.bits); planes = k.number + 1 }

-- the coefficient that becomes significant
abbrev pub first_bit : Plane → ℕ → Bool → Coef → Coef
first_bit k shift negative c = record { negative = negative; bits = 2 ^ shift; planes = k.number + 1 }

-- an answer, as the coefficients show it: with a sign the places of its run above it are decided to be 0
abbrev pub noted_about : Noting → ℕ → About → Bool → Noting
noted_about s shift (Bit x y) bit = record s { cells = changed s.cells x y (with_more s.plane shift bit) }
noted_about s shift (Sign x y) negative =
    let n = number_in_run s.high s.low in
    record s { cells = zeroed s.plane n (changed s.cells x y (first_bit s.plane shift negative)) x (y - n); high = false; low = false }
noted_about s shift (Run x y) any = if any then s else record s { cells = zeroed s.plane 4 s.cells x y }
noted_about s shift (High x y) high = record s { high = high }
noted_about s shift (Low x y) low = record s { low = low }
noted_about s shift (Symbol right) bit = s

-- a question is answered by the next decision
abbrev pub note_answer : Noting → Question → Bool × Noting
note_answer s question =
    let answer = (read_answer s.reading question).0 in (
      answer,
      noted_about (record s { reading = (read_answer s.reading question).1 }) question.shift question.about answer,
    )
