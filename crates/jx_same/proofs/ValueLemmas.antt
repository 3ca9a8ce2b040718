-- What is said at a spot.
use Rattle.std.proofs.Common.{◌≡◌, ◌⊎◌, ℕ, ap, arith, inl, inr, List, None, Option, refl, Some, sym}
use Rattle.std.specs.List.{find}
use Rattle.std.specs.Option.{option_map}
use Rattle.jx_base.specs.declared.names.Band.{Band}
use Rattle.jx_base.specs.declared.names.Band.TheVariants.{LL, HL, LH, HH}
use Rattle.jx_base.specs.declared.pieces.Block.{Block}
use Rattle.jx_base.specs.Places.{InRect}
use Rattle.jx_base.specs.Sound.{IsSound}
use Rattle.jx_base.proofs.Lists.{all_at}
use Rattle.jx_marker.specs.declared.Quant.{Quant}
use Rattle.jx_codestream.specs.declared.Stream.{Stream}
use Rattle.jx_codestream.specs.Params.{exponent_of, header_of, mantissa_of, number_of, quant_of, quant_or, shape_of, shape_or, step_of}
use Rattle.jx_plan.specs.Meaning.{Place, lies_in, meaning_of, sample_in}
use Rattle.jx_plan.specs.Plan.{MayBePlanned}
use Rattle.jx_tier1_specs.specs.Cells.{zero_coef}
use Rattle.jx_same.specs.declared.answer.Spot.{Spot}
use Rattle.jx_same.specs.Items.{coef_at_spot, coef_or, place_of}
use Rattle.jx_same.proofs.FindLemmas.{find_there}
use Rattle.jx_same.proofs.SampleLemmas.{lies_to}

-- ---- steps: the lowest band and those that resolution 0 lacks have its number
abbrev IsLowest : ℕ → Band → Type 0
IsLowest r b = (r ≡ 0) ⊎ (b ≡ LL)

lowest_number : (r : ℕ) (b : Band) → IsLowest r b → number_of r b ≡ 0
lowest_number r b (inr is) = ap (number_of r) is
lowest_number r LL (inl is) = refl
lowest_number r HL (inl is) = omega (arith, is)
lowest_number r LH (inl is) = omega (arith, is)
lowest_number r HH (inl is) = omega (arith, is)

pub lowest_step : (s : Stream) (t c r : ℕ) (b : Band) → IsLowest r b → step_of s t c 0 LL ≡ step_of s t c r b
lowest_step s t c r b is =
    let quant : Quant = quant_or (quant_of (header_of s t) s.main c) in
    let levels : ℕ = (shape_or (shape_of (header_of s t) s.main c)).levels in
    ap (λ (n : ℕ). (exponent_of quant levels n, mantissa_of quant n)) (sym (lowest_number r b is))

-- ---- coefficients: the first code-block that has the place, or none
pub block_sound : (s : Stream) (blocks : List Block) (p : Place) (b : Block) → MayBePlanned s blocks → find (lies_in p) blocks ≡ Some b → IsSound b
block_sound s blocks p b may is =
    let there = find_there (lies_in p) blocks b is in
    all_at IsSound blocks there.0 b may.sound there.1

pub block_has : (blocks : List Block) (p : Place) (b : Block) → find (lies_in p) blocks ≡ Some b → InRect b.rect p.x p.y
block_has blocks p b is = (lies_to p b (find_there (lies_in p) blocks b is).2).place

pub coef_is : (s : Stream) (blocks : List Block) (x : Spot) (b : Block) → find (lies_in (place_of x)) blocks ≡ Some b → coef_at_spot (meaning_of s blocks) x ≡ sample_in (place_of x) b
unfolding meaning_of
coef_is s blocks x b is = ap (λ (o : Option Block). coef_or (option_map (sample_in (place_of x)) o)) is

pub no_coef : (s : Stream) (blocks : List Block) (x : Spot) → find (lies_in (place_of x)) blocks ≡ None → coef_at_spot (meaning_of s blocks) x ≡ zero_coef
unfolding meaning_of
no_coef s blocks x is = ap (λ (o : Option Block). coef_or (option_map (sample_in (place_of x)) o)) is
