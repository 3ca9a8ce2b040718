-- The three coding passes of a plane (ITU-T T.800, D.3), as procedures over a block's coefficients that ask for decisions.
use Rattle.std.specs.Prelude.{ℕ, zero, suc, ◌+◌, ◌-◌, ◌*◌, ◌/◌, ◌%◌, ◌^◌, ◌<◌, ◌≤◌, min, ◌==◌, nat_lt, nat_le, Bool, false, ◌&&◌, ◌||◌, not, if◌then◌else◌}
use Rattle.jx_base.specs.declared.names.Band.{Band}
use Rattle.jx_tier1_specs.specs.declared.coef.Coef.{Coef}
use Rattle.jx_tier1_specs.specs.declared.question.Plane.{Plane}
use Rattle.jx_tier1_specs.specs.declared.question.Question.{Question}
use Rattle.jx_tier1_specs.specs.declared.question.About.{About}
use Rattle.jx_tier1_specs.specs.declared.question.About.TheVariants.{Bit, Sign, Run, High, Low}
use Rattle.jx_tier1_specs.specs.Asking.{Asking, Told, Ask, and_then}
use Rattle.jx_tier1_specs.specs.Cells.{Cells, coef_at, with_coef, significant}
use Rattle.jx_tier1_specs.specs.Labels.{significance_row, sign_row, refinement_row}
use Rattle.jx_tier1_specs.specs.Near.{sides_of, upright_of, diagonals_of, has_near, across_of, down_of}

-- the place of number n in scan order (D.1): stripes of four rows, the last one of those that are left, column by column
abbrev pub stripe_rows : ℕ → ℕ → ℕ → ℕ
stripe_rows width height n = min 4 (height - n / (4 * width) * 4)

unfoldable pub scan_column : ℕ → ℕ → ℕ → ℕ
scan_column width height n = n % (4 * width) / stripe_rows width height n

unfoldable pub scan_row : ℕ → ℕ → ℕ → ℕ
scan_row width height n = n / (4 * width) * 4 + n % (4 * width) % stripe_rows width height n

-- the weight of a bit of the plane is 2 to this power
abbrev pub shift_of : Plane → ℕ
shift_of k = k.planes - 1 - k.number

abbrev pub is_decided : Plane → Coef → Bool
is_decided k c = nat_lt k.number c.planes

-- the plane is one of at most 74
pub record IsScan (k : Plane) : Type 0 where
  pub number : k.number < k.planes
  pub most : k.planes ≤ 74

-- the decided bits show more than the first 1
abbrev pub is_refined : Plane → Coef → Bool
is_refined k c = nat_le 2 (c.bits / 2 ^ (k.planes - k.number))

-- the coefficient with its bit of this plane
abbrev pub with_bit : Plane → Bool → Coef → Coef
with_bit k bit c = record c { bits = (if bit then c.bits + 2 ^ shift_of k else c.bits); planes = k.number + 1 }

abbrev pub with_sign : Plane → Bool → Coef → Coef
with_sign k negative c = record { negative = negative; bits = c.bits + 2 ^ shift_of k; planes = k.number + 1 }

abbrev pub changed : Cells → ℕ → ℕ → (Coef → Coef) → Cells
changed g x y change = with_coef g x y (change (coef_at g x y))

abbrev pub label_at : Plane → Cells → ℕ → ℕ → ℕ
label_at k g x y = significance_row k.band (sides_of g k.causal x y) (upright_of g k.causal x y) (diagonals_of g k.causal x y)

abbrev pub question : Plane → ℕ → Bool → About → Question
question k label turned about = record { label = label; turned = turned; shift = shift_of k; about = about }

abbrev pub sign_question : Plane → Cells → ℕ → ℕ → Question
sign_question k g x y =
    let row = sign_row (across_of g k.causal x y) (down_of g k.causal x y) in question k row.0 row.1 (Sign x y)

-- D.3.2: a coefficient becomes significant
abbrev pub sign_of : Plane → Cells → ℕ → ℕ → Asking Cells
sign_of k g x y = Ask (sign_question k g x y) (λ negative. Told (changed g x y (with_sign k negative)))

-- D.3.1: the bit of an insignificant coefficient, and at 1 its sign
abbrev pub bit_of : Plane → Cells → ℕ → ℕ → Asking Cells
bit_of k g x y =
    Ask (question k (label_at k g x y) false (Bit x y)) (λ bit. if bit then sign_of k g x y else Told (changed g x y (with_bit k false)))

abbrev pub significance_at : Plane → Cells → ℕ → ℕ → Asking Cells
significance_at k g x y =
    if significant (coef_at g x y) || is_decided k (coef_at g x y) || label_at k g x y == 0 then Told g else bit_of k g x y

-- D.3.3
abbrev pub refinement_label_at : Plane → Cells → ℕ → ℕ → ℕ
refinement_label_at k g x y = refinement_row (is_refined k (coef_at g x y)) (has_near g k.causal x y)

abbrev pub refinement_at : Plane → Cells → ℕ → ℕ → Asking Cells
refinement_at k g x y =
    if significant (coef_at g x y) && not (is_decided k (coef_at g x y))
    then Ask (question k (refinement_label_at k g x y) false (Bit x y)) (λ bit. Told (changed g x y (with_bit k bit)))
    else Told g

-- D.3.4: the coefficients that are left
abbrev pub usual_at : Plane → Cells → ℕ → ℕ → Asking Cells
usual_at k g x y = if significant (coef_at g x y) || is_decided k (coef_at g x y) then Told g else bit_of k g x y

abbrev pub is_quiet : Plane → Cells → ℕ → ℕ → Bool
is_quiet k g x y = not (significant (coef_at g x y)) && not (is_decided k (coef_at g x y)) && label_at k g x y == 0

-- the run mode: a column of a whole stripe in which all four are left and have label 0
abbrev pub is_run : Plane → Cells → ℕ → ℕ → Bool
is_run k g x y =
    y % 4 == 0 && nat_le (y + 4) g.height &&
    is_quiet k g x y && is_quiet k g x (y + 1) && is_quiet k g x (y + 2) && is_quiet k g x (y + 3)

-- so many places of a column from one downwards are decided to be 0
abbrev pub zeroed : Plane → ℕ → Cells → ℕ → ℕ → Cells
zeroed k zero g x y = g
zeroed k (suc n) g x y = zeroed k n (changed g x y (with_bit k false)) x (y + 1)

abbrev pub number_in_run : Bool → Bool → ℕ
number_in_run high low = (if high then 2 else 0) + (if low then 1 else 0)

-- the first of the four that is 1 is named, and those above it are 0
abbrev pub named_at : Plane → Cells → ℕ → ℕ → ℕ → Asking Cells
named_at k g x y n =
    Ask (sign_question k g x (y + n)) (λ negative. Told (zeroed k n (changed g x (y + n) (with_sign k negative)) x y))

abbrev pub place_at : Plane → Cells → ℕ → ℕ → Asking Cells
place_at k g x y =
    Ask (question k 18 false (High x y)) (λ high. Ask (question k 18 false (Low x y)) (λ low. named_at k g x y (number_in_run high low)))

abbrev pub run_at : Plane → Cells → ℕ → ℕ → Asking Cells
run_at k g x y = Ask (question k 17 false (Run x y)) (λ any. if any then place_at k g x y else Told (zeroed k 4 g x y))

abbrev pub cleanup_at : Plane → Cells → ℕ → ℕ → Asking Cells
cleanup_at k g x y = if is_run k g x y then run_at k g x y else usual_at k g x y

-- a pass at one place: its kind is that of its number (D.3)
abbrev pub pass_at : ℕ → Plane → Cells → ℕ → ℕ → Asking Cells
pass_at pass k g x y =
    if pass % 3 == 1 then significance_at k g x y else if pass % 3 == 2 then refinement_at k g x y else cleanup_at k g x y

abbrev pub pass_at_nth : ℕ → Plane → Cells → ℕ → Asking Cells
pass_at_nth pass k g n = pass_at pass k g (scan_column g.width g.height n) (scan_row g.width g.height n)

-- the pass at so many places, from the place of number n on
abbrev pub scanned : ℕ → Plane → ℕ → ℕ → Cells → Asking Cells
scanned pass k zero n g = Told g
scanned pass k (suc count) n g = and_then (pass_at_nth pass k g n) (λ h. scanned pass k count (n + 1) h)

-- the plane of a pass: pass 0 is the cleanup pass of plane 0, and each further plane has three passes
abbrev pub plane_of : Band → Bool → ℕ → ℕ → Plane
plane_of band causal planes pass = record { band = band; causal = causal; planes = planes; number = (pass + 2) / 3 }

-- a whole pass
unfoldable pub pass_of : Band → Bool → ℕ → ℕ → Cells → Asking Cells
pass_of band causal planes pass g = scanned pass (plane_of band causal planes pass) (g.width * g.height) 0 g
