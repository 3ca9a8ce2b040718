-- What is known of the coefficient at a place.
use Rattle.std.proofs.Common.{◌≡◌, ◌<◌, ◌≤◌, ◌+◌, ◌-◌, ◌*◌, ◌^◌, ℕ, zero, suc, refl, arith, Bool, true, false, List, [], ◌∷◌, get_or, IsTrue}
use Rattle.std.specs.List.{All}
use Rattle.std.proofs.lemmas.List.Elements.{All-set, All-replicate}
use Rattle.jx_tier1_specs.specs.declared.coef.Coef.{Coef}
use Rattle.jx_tier1_specs.specs.Cells.{Cells, IsWithin, AreWithin, zero_coef, coef_at, with_coef, IsKept}
use Rattle.jx_tier1_specs.specs.declared.question.Plane.{Plane}
use Rattle.jx_tier1_specs.specs.Reading.{zeros}
use Rattle.jx_tier1_specs.specs.Pass.{IsScan, shift_of, with_bit, with_sign, changed}
use Rattle.jx_tier1_specs.proofs.Weights.{zero_within, more_within, sign_within, fits_in}
use Rattle.std.proofs.Math.Pow.{pow_mono}

zero_fits : (planes most : ℕ) → IsWithin planes most zero_coef
zero_fits planes most = let b : 2 ^ (planes - 0) ≤ 2 ^ planes = pow_mono (omega arith) in record { decided = omega arith; bits = omega arith }

all_at : (planes most : ℕ) (xs : List Coef) (i : ℕ) → All (IsWithin planes most) xs → IsWithin planes most (get_or xs i zero_coef)
all_at planes most [] i h = zero_fits planes most
all_at planes most (x ∷ xs) zero h = h zero x (omega arith)
all_at planes most (x ∷ xs) (suc i) h = all_at planes most xs i (λ k d l. h (suc k) d (omega arith))

pub within_at : (planes most : ℕ) (g : Cells) (x y : ℕ) → AreWithin planes most g → IsWithin planes most (coef_at g x y)
within_at planes most g x y h = all_at planes most g.coefs (y * g.width + x) h

pub kept_with : (planes most : ℕ) (g : Cells) (x y : ℕ) (c : Coef) → AreWithin planes most g → IsWithin planes most c → IsKept planes most g (with_coef g x y c)
kept_with planes most g x y c h w =
    record { width = refl; height = refl; within = All-set (IsWithin planes most) g.coefs (y * g.width + x) c w h }

pub bit_kept : (k : Plane) (g : Cells) (x y : ℕ) (bit : Bool) → IsScan k → AreWithin k.planes (k.number + 1) g
    → (IsTrue bit → (coef_at g x y).planes ≤ k.number) → IsKept k.planes (k.number + 1) g (changed g x y (with_bit k bit))
bit_kept k g x y false s h u =
    kept_with k.planes (k.number + 1) g x y (with_bit k false (coef_at g x y)) h (zero_within k (coef_at g x y) s (within_at k.planes (k.number + 1) g x y h))
bit_kept k g x y true s h u =
    kept_with k.planes (k.number + 1) g x y (with_bit k true (coef_at g x y)) h (more_within k (coef_at g x y) true s (u refl) (within_at k.planes (k.number + 1) g x y h))

pub sign_kept : (k : Plane) (g : Cells) (x y : ℕ) (negative : Bool) → IsScan k → AreWithin k.planes (k.number + 1) g
    → (coef_at g x y).bits ≡ 0 → IsKept k.planes (k.number + 1) g (changed g x y (with_sign k negative))
sign_kept k g x y negative s h z =
    kept_with k.planes (k.number + 1) g x y (with_sign k negative (coef_at g x y)) h (sign_within k (coef_at g x y) negative s z)

pub bit_fits : (k : Plane) (g : Cells) (x y : ℕ) → IsScan k → AreWithin k.planes (k.number + 1) g → (coef_at g x y).bits + 2 ^ shift_of k < 2 ^ 128
bit_fits k g x y s h = fits_in k (k.number + 1) (coef_at g x y) s (within_at k.planes (k.number + 1) g x y h)

-- zeros are within any bounds, and what is within bounds is within wider ones
pub zeros_within : (planes most width height : ℕ) → AreWithin planes most (zeros width height)
zeros_within planes most width height = All-replicate (IsWithin planes most) (height * width) zero_coef (zero_fits planes most)

wider : (planes fewer more : ℕ) (c : Coef) → fewer ≤ more → IsWithin planes fewer c → IsWithin planes more c
wider planes fewer more c l w = let d = w.decided in record { decided = omega arith; bits = w.bits }

pub within_more : (planes fewer more : ℕ) (g : Cells) → fewer ≤ more → AreWithin planes fewer g → AreWithin planes more g
within_more planes fewer more g l h = λ k d m. wider planes fewer more (get_or g.coefs k d) l (h k d m)
